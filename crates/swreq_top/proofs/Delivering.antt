-- What a run answers, and how it ends.
use Rattle.std.proofs.Common.{◌≡◌, ◌⊎◌, ◌∙◌, ◌<◌, ◌≤◌, ℕ, List, [], ◌++◌, length, Option, Some, None, IfSome, Result, Ok, Err, refl, sym, ap, inl, inr, subst, arith, length-append, append-nil}
use Rattle.std.proofs.lemmas.Option.{IfSome_then}
use Rattle.std.specs.Io.KnownBytes.{Consumes, IsAtEnd}
use Rattle.swreq_text.specs.Given.{GivesCount}
use Rattle.swreq_text.specs.declared.whole.ReadErr.{ReadErr}
use Rattle.swreq_text.specs.declared.whole.ReadErr.TheVariants.{Fault, Memory, TooLarge}
use Rattle.swreq_print.specs.Names.{Text}
use Rattle.swreq_print.specs.Refusals.{refusal_line}
use Rattle.swreq_print.specs.declared.refusal.RefusalKind.TheVariants as refusals
use Rattle.swreq_watch.specs.declared.events.Event.{Event}
use Rattle.swreq_watch.specs.Told.{GrewBy}
use Rattle.swreq_words.specs.Form.{Says}
use Rattle.swreq_words.specs.declared.command.CommandLine.{CommandLine}
use Rattle.swreq_words.specs.declared.command.Input.{Input}
use Rattle.swreq_words.specs.declared.command.Input.TheVariants.{Nothing}
use Rattle.swreq_words.specs.Commands.{input as reads}
use Rattle.swreq_words.proofs.Lines.{one_line}
use Rattle.swreq_reply.specs.declared.outcome.Outcome.{Outcome}
use Rattle.swreq_reply.specs.Replies.{IsOnlyRefusal, IsToldVerdict, WasToldPart}
use Rattle.swreq_reply.specs.Verdict.{IsVerdict, answered_text, refused_with, text_for}
use Rattle.swreq_reply.specs.Verdict.IsRefused.{too_long}
use Rattle.swreq_reply.specs.Verdict.IsVerdict.{answered as is_answered, cut_short as is_cut_short, judged as is_judged, refused as is_refused}
use Rattle.swreq_reply.proofs.OneOutput.{refused_status}
use Rattle.swreq_reply.proofs.OneRefusal.{long_refused}
use Rattle.swreq_top.specs.Run.{AreWrong, HasToPrint, HasToldPart, HoldsOfText, IsEnd, ReadsNothing, IsOfVerdict, IsRead, Leaves, NoReadFailed, ReadFailed, Run, ReadNothing, Tells, known_for, known_text}
use Rattle.swreq_top.specs.Run.HasToPrint.{no_memory, read_fault, verdict}
use Rattle.swreq_top.specs.Run.IsEnd.{cut_off, printed}
use Rattle.swreq_top.specs.Steps.{Answers, AnswersText, IsFinished}

-- ---- what a text is answered

-- the status of a verdict is 0, 1 or 3
verdict_status : (line : CommandLine) (text : Text) (o : Outcome) (told : List Event) → IsVerdict line text o told → IsOfVerdict o.status
verdict_status line text o told (is_refused r) = inr (refused_status line text o told r)
verdict_status line text o told (is_cut_short c) = inr (inr (ap (λ (p : Outcome). p.status) c.outcome))
verdict_status line text o told (is_answered a) = inl a.status
verdict_status line text o told (is_judged j) = inl j.status

-- nothing is told of a text before it is read
pub told_nothing : (line : CommandLine) (known : Option Text) (old new : Option (List Event)) → GrewBy old new []
    → IfSome known (λ text. WasToldPart line text old new)
told_nothing line None old new grew = tt
told_nothing line (Some text) old new grew = ([], inl refl, grew)

-- ---- what a source has left

-- a source that was read to its end had the text that was read
pub read_whole : (left rest : Option Text) (text : Text) → Consumes left rest text → IsAtEnd rest → length text ≤ 1048576
    → IsRead left rest × IfSome left (λ all. all ≡ text)
read_whole None rest text came end within = (tt, tt)
read_whole (Some all) None text came end within = absurd came
read_whole (Some all) (Some rest) text came end within =
    let same : all ≡ text = came ∙ ap (λ (l : Text). text ++ l) end ∙ append-nil text in
    (inl (omega (arith, ap length same, within), end), same)

-- and one of which more was read than a text may have had a text that is too long
read_long : (left rest : Option Text) → GivesCount left rest 1048577 → IfSome left (λ all. 1048576 < length all)
read_long None rest came = tt
read_long (Some all) None came = absurd came.1
read_long (Some all) (Some rest) came = omega (arith, ap length came.1, length-append came.0 rest, came.2)

-- a command that reads a source knows its text where the source tells it, and leaves what is left of what was read
reads_source : (i : Input) (n : ℕ) (left rest : Option Text) (P : Text → Type 0) → (i ≡ Nothing → ⊥) → IsRead left rest → IfSome left P
    → Leaves i left rest × IfSome (known_for i n left) P
reads_source Nothing n left rest P some read h = absurd (some refl)
reads_source _ n left rest P some read h = (read, h)

-- what holds of the text that a command answers holds of the text that it knows: one that reads nothing knows its own, and the others that
-- of the source
knows_answered : (i : Input) (n : ℕ) (left rest : Option Text) (text : Text) (P : Text → Type 0) → (i ≡ Nothing → rest ≡ left)
    → ((i ≡ Nothing → ⊥) → IsRead left rest × IfSome left (λ all. all ≡ text)) → P (text_for i n text)
    → Leaves i left rest × IfSome (known_for i n left) P
knows_answered Nothing n left rest text P unread read h = (unread refl, h)
knows_answered _ n left rest text P unread read h =
    let had = read (λ nothing. cc) in (had.0, IfSome_then left had.1 (λ all e. subst P (sym e) h))

-- what is answered of a text
pub answers_text : (line : CommandLine) (left rest : Option Text) (old new : Option (List Event)) (text : Text)
    → (ReadsNothing line.command → rest ≡ left) → ((ReadsNothing line.command → ⊥) → IsRead left rest × IfSome left (λ all. all ≡ text))
    → (result : Result Outcome ReadErr) → AnswersText line (answered_text line text) old new result
    → Answers line left rest old new result
answers_text line left rest old new text unread read (Ok o) h =
    let said = knows_answered (reads line.command) line.count left rest text
    (λ t. IsToldVerdict line t old new o × IsOnlyRefusal line t o) unread read h in
    (said.0, said.1, verdict_status line (answered_text line text) o h.0.0 h.0.1)
answers_text line left rest old new text unread read (Err Memory) h =
    (knows_answered (reads line.command) line.count left rest text (λ t. WasToldPart line t old new) unread read h).1
answers_text line left rest old new text unread read _ h = absurd h

-- ---- what there is to print

module _ (r : Run) where
  -- where nothing was told, a part was told
  pub nothing_told : Tells r [] → HasToldPart r
  nothing_told untold = record {
    part = λ line says. told_nothing line (known_text line r.before.left) r.before.told r.after.told untold;
    untold = λ wrong. untold;
  }

  -- what has to be printed where this is answered
  abbrev PrintsAnswer : Result Outcome ReadErr → Type 0
  PrintsAnswer (Ok o) = HasToPrint r o.status o.output
  PrintsAnswer (Err TooLarge) = HasToPrint r 1 (refusal_line refusals.TooLarge)
  PrintsAnswer (Err Fault) = HasToPrint r 4 (refusal_line refusals.ReadFault)
  PrintsAnswer (Err Memory) = HasToPrint r 6 (refusal_line refusals.OutOfMemory)

  module _ (line : CommandLine) (says : Says r.words line) where
    for_verdict : (o : Outcome) → Answers line r.before.left r.after.left r.before.told r.after.told (Ok o) → NoReadFailed r
        → HasToPrint r o.status o.output
    for_verdict o (leaves, answers, status) unread = verdict line says (record {
      status = status;
      source = leaves;
      verdict = IfSome_then (known_text line r.before.left) answers (λ text k. k.0);
      refusal = IfSome_then (known_text line r.before.left) answers (λ text k. k.1);
    }) unread

    pub to_print : (result : Result Outcome ReadErr) → Answers line r.before.left r.after.left r.before.told r.after.told result
        → (result ≡ Err Fault → ReadFailed r) → (result ≡ Err Fault) ⊎ NoReadFailed r → PrintsAnswer result
    to_print (Err Fault) (some, grew) failed unread = read_fault line says some grew (failed refl)
    to_print (Ok o) answers failed (inr unread) = for_verdict o answers unread
    to_print (Err TooLarge) (came, some, grew) failed (inr unread) =
        let o : Outcome = refused_with refusals.TooLarge in
        let long = read_long r.before.left r.after.left came in
        let said = reads_source (reads line.command) line.count r.before.left r.after.left
        (λ text. IsToldVerdict line text r.before.told r.after.told o × IsOnlyRefusal line text o) some
        (IfSome_then r.before.left long (λ all l. inr (l, came)))
        (IfSome_then r.before.left long
        (λ all l. (([], is_refused (too_long l refl refl), grew), λ p told refused. sym (long_refused line all l refused)))) in
        for_verdict o (said.0, said.1, inr (inl refl)) unread
    to_print (Err Memory) told failed (inr unread) = no_memory (record {
      part = λ other also.
          subst (λ (l : CommandLine). HoldsOfText r l (λ text. WasToldPart l text r.before.told r.after.told))
          (one_line r.words line other says also) told;
      untold = λ wrong. absurd (wrong line says);
    }) unread
    to_print _ answers failed (inl fault) = absurd (cc)

  -- what there is to print was written, or a part of it
  pub ended : {status : ℕ} {bytes : Text} → HasToPrint r status bytes
      → IsFinished r.before.taken r.after.taken r.before.write_faults r.after.write_faults bytes status r.status → IsEnd r
  ended {bytes = bytes} to_print (inl (is, taken, same)) =
      printed bytes (subst (λ (s : ℕ). HasToPrint r s bytes) (sym is) to_print) taken same
  ended {status} {bytes} to_print (inr (is, part, risen)) = cut_off status bytes to_print part risen is

-- ---- words

-- what follows where a line says to read nothing follows where the words are wrong or say so
pub nothing_said : {A : Type 0} (words : List Text) (line : CommandLine) → Says words line → (ReadsNothing line.command → A)
    → AreWrong words ⊎ ReadNothing words → A
nothing_said words line says by (inl wrong) = absurd (wrong line says)
nothing_said words line says by (inr (other, also, none)) =
    by (subst (λ (l : CommandLine). ReadsNothing l.command) (one_line words other line also says) none)

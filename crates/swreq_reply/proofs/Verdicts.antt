-- What a text is answered with is a verdict on it.
use Rattle.std.proofs.Common.{false, ◌≡◌, ◌≢◌, ◌⊎◌, ℕ, suc, ◌≤◌, List, [], ◌∷◌, ◌++◌, append-nil, ap, length, Option, Some, None, IfOk, OnErr, Result, Ok, Err, refl, true, sym, ◌∙◌, inl, inr, subst}
use Rattle.std.specs.declared.alloc.AllocError.{AllocError}
use Rattle.std.proofs.lemmas.Result.{IfOk-weaker}
use Rattle.swreq_print.specs.swreq_lex.declared.refusal.LexErr.{LexErr}
use Rattle.swreq_print.specs.swreq_lex.declared.refusal.LexErr.TheVariants as lexical
use Rattle.swreq_print.specs.swreq_lex.Refusals.{HasRefusal}
use Rattle.swreq_print.specs.swreq_decl.declared.kind.Kind.{Kind}
use Rattle.swreq_print.specs.swreq_decl.declared.skeleton.Skeleton.{Skeleton}
use Rattle.swreq_print.specs.swreq_decl.declared.refusal.ParseErr.{ParseErr}
use Rattle.swreq_print.specs.swreq_decl.declared.refusal.ParseErr.TheVariants as grammar
use Rattle.swreq_print.specs.swreq_decl.Skeletons.{StandsFor, RefusedFor, Exactly}
use Rattle.swreq_print.specs.swreq_decl.declared.skeleton.CallDecl.{CallDecl}
use Rattle.swreq_print.specs.swreq_decl.Calls as calls
use Rattle.swreq_valid.specs.swreq_resolve.declared.refusal.NameErr.{NameErr}
use Rattle.swreq_valid.specs.swreq_resolve.declared.refusal.NameErr.TheVariants as names
use Rattle.swreq_valid.specs.swreq_resolve.Resolving.{RefusesSkeleton}
use Rattle.swreq_print.specs.declared.refusal.RefusalKind.{RefusalKind}
use Rattle.swreq_print.specs.declared.refusal.RefusalKind.TheVariants as refusals
use Rattle.swreq_valid.specs.swreq_complete.declared.limit.Failed.{Failed}
use Rattle.swreq_valid.specs.swreq_complete.declared.limit.Failed.TheVariants as failed
use Rattle.swreq_valid.specs.swreq_complete.declared.limit.Limits.{Limits}
use Rattle.swreq_print.specs.swreq_rule.declared.rules.Rule.{Rule}
use Rattle.swreq_valid.specs.swreq_watch.declared.events.Event.{Event}
use Rattle.swreq_valid.specs.swreq_watch.Told.{GrewBy}
use Rattle.swreq_valid.proofs.swreq_watch.Told.{grew_none, grew_on}
use Rattle.swreq_words.specs.declared.command.Command.{Command}
use Rattle.swreq_words.specs.declared.command.Command.TheVariants as command
use Rattle.swreq_words.specs.declared.command.CommandLine.{CommandLine}
use Rattle.swreq_words.specs.declared.command.Input.{Input}
use Rattle.swreq_words.specs.declared.command.Input.TheVariants as inputs
use Rattle.swreq_words.specs.Commands.{input as reads}
use Rattle.swreq_valid.specs.swreq_world.Closed.{IsClosed}
use Rattle.swreq_valid.specs.swreq_world.Worlds.{TextWorld}
use Rattle.swreq_valid.specs.Rounds.{last_rules}
use Rattle.swreq_valid.specs.declared.refused.Refused.{Refused}
use Rattle.swreq_valid.specs.declared.refused.Refused.TheVariants.{Memory}
use Rattle.swreq_reply.specs.declared.outcome.Outcome.{Outcome}
use Rattle.swreq_check.specs.declared.checking.Checked.{Checked}
use Rattle.swreq_query.specs.Ended.{IsWorldOfText}
use Rattle.swreq_text.specs.Lines.{lines}
use Rattle.swreq_verify.specs.Outputs as verified
use Rattle.swreq_verify.specs.SecondParts.{IsFirstMisfit}
use Rattle.swreq_reqsig.specs.declared.family.Family.{Family}
use Rattle.swreq_reqsig.specs.Families.{IsGivenFamily}
use Rattle.swreq_reqsig.specs.Texts.{family_text}
use Rattle.swreq_reqsig.specs.Told.{AnswersFamily, ComesSoFar}
use Rattle.swreq_subst.specs.Calls.{TermCall}
use Rattle.swreq_subst.specs.Refusals.{refusals as refusals_of}
use Rattle.swreq_subst.specs.Saying.{SayCalls}
use Rattle.swreq_check.specs.declared.content.Content.{Content}
use Rattle.swreq_check.specs.declared.content.Content.TheVariants.{Calls, Families, Judgements}
use Rattle.swreq_check.specs.Contents.{AreCalls, AreJudgements, PrintsPieces}
use Rattle.swreq_reply.specs.Commands.{content_by, content_of}
use Rattle.swreq_reply.specs.Inputs.{second_at}
use Rattle.swreq_check.specs.Machines.{IsBuiltOver}
use Rattle.swreq_reply.specs.Outputs.{IsOutput}
use Rattle.swreq_check.specs.CallLines.{AnswersCalls}
use Rattle.swreq_check.specs.Checks.{Checks, HavePassed}
use Rattle.swreq_reply.specs.Replies.{Finishes, IsToldVerdict, IsVerdictAlone, Replies, TellsPart, WasToldPart}
use Rattle.swreq_reply.specs.Reports.{name_refusal, refusal_of}
use Rattle.swreq_reply.specs.Requests.{IsRequest, RequestView, limits_in, printed_of}
use Rattle.swreq_check.specs.Told.{MinimisingAllTells, MinimisingEndsIn}
use Rattle.swreq_reply.specs.Told.{TellsBehind}
use Rattle.swreq_check.specs.Told.MinimisingAllTells.{nothing}
use Rattle.swreq_reply.specs.Verdict.{ChecksMachines, HasNoWorld, HasWorld, IsStopOf, IsVerdict, PassesCheck, RefusesSecond, limits_of, machine_outcome, refused_with, text_for}
use Rattle.swreq_reply.specs.Verdict.IsRefused.{bad_calls, misfit, past_a_limit_of_families, unchecked, without_world}
use Rattle.swreq_reply.specs.Verdict.IsVerdict.{answered as is_answered, cut_short as is_cut_short, judged as is_judged, refused as is_refused}
use Rattle.swreq_valid.proofs.swreq_rounds.Turning.{stopped_comes}
use Rattle.swreq_check.proofs.OfChecks.{check_tells, is_formed}
use Rattle.swreq_reply.proofs.ByBook.{by_book}

-- ---- what is refused and what is printed

-- a text that was not read is refused for that
pub unread : (text : List ℕ) (parsed : Result Skeleton ParseErr) → length text ≤ 1048576
    → ((fault : LexErr) → Exactly (HasRefusal text fault) (Err (grammar.Lex fault)) parsed)
    → ((at : ℕ) → Exactly (RefusedFor text at None) (Err (grammar.Syntax at)) parsed)
    → ((at : ℕ) (kind : Kind) → Exactly (RefusedFor text at (Some kind)) (Err (grammar.Unsupported at kind)) parsed)
    → (e : ParseErr) → parsed ≡ Err e → e ≢ grammar.Memory → HasNoWorld text (refusal_of e)
unread text parsed within lex syntax unsupported (grammar.Lex lexical.Memory) is real = absurd ((lex lexical.Memory).0 is)
unread text parsed within lex syntax unsupported (grammar.Lex fault) is real = (within, (lex fault).0 is)
unread text parsed within lex syntax unsupported (grammar.Syntax at) is real = (within, (syntax at).0 is)
unread text parsed within lex syntax unsupported (grammar.Unsupported at kind) is real = (within, (unsupported at kind).0 is)
unread text parsed within lex syntax unsupported grammar.Memory is real = absurd (real refl)

-- a text whose names are refused has no world, and this refusal
pub unresolved : (text : List ℕ) (skeleton : Skeleton) (e : NameErr) → length text ≤ 1048576 → StandsFor text skeleton
    → RefusesSkeleton text skeleton e ⊎ (e ≡ names.Memory) → e ≢ names.Memory → HasNoWorld text (name_refusal e)
unresolved text skeleton e within stands (inr none) real = absurd (real none)
unresolved text skeleton names.Memory within stands (inl refuses) real = absurd (real refl)
unresolved text skeleton e within stands (inl refuses) real = (within, (skeleton, stands, refuses))

-- the input of a command that reads one is that of the source
pub source_text : (i : Input) (n : ℕ) (text : List ℕ) → i ≢ inputs.Nothing → text_for i n text ≡ text
source_text inputs.Nothing n text some = absurd (some refl)
source_text i n text some = refl

-- where a command reads one part, its answers are neither judgements nor lines of calls
of_one_part : (c : Command) (n : ℕ) → reads c ≡ inputs.OnePart → (content_by c n ≢ Judgements) × (content_by c n ≢ Calls)
of_one_part command.Answer n one = (λ e. (cc), λ e. (cc))
of_one_part _ n one = (λ e. (cc), λ e. (cc))

pub prints_of_one : (line : CommandLine) → reads line.command ≡ inputs.OnePart
    → (AreJudgements (content_of line) → ⊥) × (AreCalls (content_of line) → ⊥)
prints_of_one line one = of_one_part line.command line.count one

-- what is made of machines or minimised lists is printed in pieces
pub prints_pieces : (c : Content) → c ≢ Judgements → c ≢ Families → c ≢ Calls → PrintsPieces c
prints_pieces Families j f k = absurd (f refl)
prints_pieces Judgements j f k = absurd (j refl)
prints_pieces Calls j f k = absurd (k refl)
prints_pieces c j f k = tt

-- and minimising tells all that is told after the check
minimising_tells : (limits : Limits) (w : TextWorld) (c : Content) (rules : List Rule) (told : List Event) → PrintsPieces c
    → MinimisingAllTells limits w c rules told → TellsBehind limits w c rules told
minimising_tells limits w Families rules told prints tells = absurd prints
minimising_tells limits w Calls rules told prints tells = absurd prints
minimising_tells limits w c rules told prints tells = tells

-- ---- commands that check machines

checks_of : (line : CommandLine) (k : Content) → content_of line ≡ k → k ≢ Judgements → ChecksMachines line
checks_of line k asked other e = other (sym asked ∙ e)

pub checks_for_pieces : (line : CommandLine) → PrintsPieces (content_of line) → ChecksMachines line
checks_for_pieces line prints e = subst PrintsPieces e prints

-- ---- replies

module _ (line : CommandLine) (input : List ℕ) where
  -- what is told is a part of what the input tells, and an outcome is the verdict with which it is told
  replies : (old new : Option (List Event)) (told : List Event) → GrewBy old new told → TellsPart line input told
      → {P : Outcome → Type 0} (result : Result Outcome AllocError) → IfOk result P → ((o : Outcome) → P o → IsVerdict line input o told)
      → Replies line input old new result
  replies old new told grew part (Ok o) h verdict = (told, verdict o h, grew)
  replies old new told grew part (Err e) h verdict = (told, part, grew)

  -- nothing is told
  pub replies_alone : (old : Option (List Event)) {P : Outcome → Type 0} (result : Result Outcome AllocError) → IfOk result P
      → ((o : Outcome) → P o → IsVerdictAlone line input o) → Replies line input old old result
  replies_alone old result h verdict = replies old old [] (grew_none old) (inl refl) result h verdict

  -- what a reply says where there is an outcome, and where there is none
  pub replied : (old new : Option (List Event)) (result : Result Outcome AllocError) → Replies line input old new result
      → IfOk result (IsToldVerdict line input old new) × OnErr result (WasToldPart line input old new)
  replied old new (Ok o) h = (h, tt)
  replied old new (Err e) h = (tt, h)

  -- a text that is not refused tells what its check tells, and then more
  pub replies_checked : (w : TextWorld) (c : Checked) (old mid new : Option (List Event)) (result : Result Outcome AllocError)
      → Checks (limits_of line) w old mid (Ok c) → Finishes line input w (last_rules c.protocols.rounds) mid new result
      → Replies line input old new result
  replies_checked w c old mid new (Ok o) (told, built, grew) (more, verdict, then) =
      (told ++ more, verdict told built, grew_on old mid new told more grew then)
  replies_checked w c old mid new (Err e) (told, built, grew) (more, tells, then) =
      (told ++ more, tells told built, grew_on old mid new told more grew then)

module _ {r : RequestView} (request : IsRequest r) where
  -- an input that is refused before its world is
  pub refused_early : (old : Option (List Event)) (refusal : RefusalKind) {real : Type 0} (result : Result Outcome AllocError)
      → IfOk result (λ o. real × (o ≡ refused_with refusal)) → (real → HasNoWorld r.parts.source refusal)
      → Replies r.line r.parts.input old old result
  refused_early old refusal result h refused =
      replies_alone r.line r.parts.input old result h
      (λ o (real, is). is_refused (without_world r.parts request.parts refusal (refused real) is refl))

  module _ {w : TextWorld} (of_text : IsWorldOfText r.parts.source w) where
    abbrev has : HasWorld r.line r.parts.input w
    has = record { parts = r.parts; are = request.parts; of_text = of_text }

    -- ---- by the checker of derivations alone

    pub misfits : printed_of r ≡ Judgements → (n : ℕ) → IsFirstMisfit w.lexicon (length w.queries) (lines r.parts.second) n
        → (result : Result Outcome AllocError) → IfOk result (λ o. o ≡ refused_with (refusals.DerivationSyntax n))
        → IfOk result (IsVerdictAlone r.line r.parts.input)
    misfits judges n first result = IfOk-weaker result _ _ (λ o is. is_refused (misfit w n judges has first is refl))

    pub fits : printed_of r ≡ Judgements → (o : Outcome) → o.status ≡ 0 → verified.IsOutput w r.parts.second o.output
        → IsVerdictAlone r.line r.parts.input o
    fits judges o status said = is_judged (record {
      judges = judges;
      world = w;
      has_world = has;
      status = status;
      output = subst (λ (c : Content). IsOutput w false c r.parts o.output) (sym judges)
          (o.output ∷ [], (o.output, said, refl), sym (append-nil o.output));
      told_nothing = refl;
    })

    -- ---- by machines

    -- where they are refused
    pub replies_refused : ChecksMachines r.line → (old new : Option (List Event)) (refused : Refused)
        (result : Result Outcome AllocError) → Checks (limits_in r) w old new (Err refused)
        → IfOk result (λ o. (refused ≢ Memory) × (o ≡ machine_outcome r.line w.lexicon refused))
        → Replies r.line r.parts.input old new result
    replies_refused checks old new Memory result (told, tells, grew) h =
        replies r.line r.parts.input old new told grew (inr (checks, (w, has, inl tells))) result h
        (λ o (real, is). absurd (real refl))
    replies_refused checks old new refused result (told, checked, grew) h =
        replies r.line r.parts.input old new told grew
        (inr (checks, (w, has, inl (check_tells (limits_in r) w checked)))) result h
        (λ o (real, is). is_refused (unchecked w refused checks has checked is))

    -- ---- after the check, which comes to these rules of the protocols

    module _ {rules : List Rule} (passed : HavePassed (limits_in r) w rules) where
      -- Whatever the check tells, P holds of that with these events after it.
      abbrev After : List Event → (List Event → Type 0) → Type 0
      After more P = (first : List Event) → IsBuiltOver (limits_in r) w rules first → P (first ++ more)

      -- what is told after the check is a part of what the input tells, and an outcome is the verdict with which it is told
      finishes : (old new : Option (List Event)) (more : List Event) → GrewBy old new more
          → After more (TellsPart r.line r.parts.input)
          → {P : Outcome → Type 0} (result : Result Outcome AllocError) → IfOk result P
          → ((o : Outcome) → P o → After more (IsVerdict r.line r.parts.input o))
          → Finishes r.line r.parts.input w rules old new result
      finishes old new more grew part (Ok o) h verdict = (more, verdict o h, grew)
      finishes old new more grew part (Err e) h verdict = (more, part, grew)

      -- minimising ends because memory runs out
      part_of : ChecksMachines r.line → (cause : Failed) (more : List Event)
          → MinimisingEndsIn (limits_in r) w (printed_of r) rules cause more → After more (TellsPart r.line r.parts.input)
      part_of checks cause more part first built =
          inr (
            checks,
            (
              w,
              has,
              inr (inl (record {
                rules = rules;
                first = first;
                more = more;
                built = built;
                failed = cause;
                part = part;
                told_is = refl;
              })),
            ),
          )

      -- nothing is told after the check
      pub finishes_alone : ChecksMachines r.line
          → (old : Option (List Event)) {P : Outcome → Type 0} (result : Result Outcome AllocError)
          → IfOk result P → ((o : Outcome) → P o → After [] (IsVerdict r.line r.parts.input o))
          → Finishes r.line r.parts.input w rules old old result
      finishes_alone checks old result h verdict =
          finishes old old [] (grew_none old) (part_of checks failed.Memory [] (inl nothing)) result h verdict

      -- the check, and what is told after it
      abbrev passes : ChecksMachines r.line → (more : List Event) → After more (PassesCheck r.line r.parts.input)
      passes checks more first built = record {
        checks = checks;
        world = w;
        has_world = has;
        rules = rules;
        first = first;
        more = more;
        built = built;
        told_is = refl;
      }

      answers : (k : Content) → printed_of r ≡ k → k ≢ Judgements → (more : List Event)
          → TellsBehind (limits_in r) w k rules more → (o : Outcome)
          → o.status ≡ 0 → IsOutput w false k r.parts o.output → After more (IsVerdict r.line r.parts.input o)
      answers k asked other more behind o status output first built = is_answered (record {
        check = passes (checks_of r.line k asked other) more first built;
        behind = subst (λ (c : Content). TellsBehind (limits_in r) w c rules more) (sym asked) behind;
        status = status;
        output = subst (λ (c : Content). IsOutput w false c r.parts o.output) (sym asked) output;
      })

      -- ---- by pieces and minimised lists

      module _ (prints : PrintsPieces (printed_of r)) where
        pieces_check : ChecksMachines r.line
        pieces_check = checks_for_pieces r.line prints

        pub finishes_answered : IsClosed w → (old new : Option (List Event)) (result : Result Outcome AllocError)
            → (told : List Event) × MinimisingAllTells (limits_in r) w (printed_of r) rules told × GrewBy old new told
            → IfOk result (λ o. (o.status ≡ 0) × IsOutput w true (printed_of r) r.parts o.output)
            → Finishes r.line r.parts.input w rules old new result
        finishes_answered closed old new result (told, tells, grew) h =
            finishes old new told grew (part_of pieces_check failed.Memory told (inl tells)) result h
            (λ o (status, output). answers (printed_of r) refl pieces_check told
            (minimising_tells (limits_in r) w (printed_of r) rules told prints tells) o status
            (by_book w (is_formed (limits_in r) w closed passed.built) closed (printed_of r) r.parts o.output output))

        -- where minimising fails
        pub finishes_failed : (old new : Option (List Event)) (cause : Failed) (result : Result Outcome AllocError)
            → (told : List Event) × MinimisingEndsIn (limits_in r) w (printed_of r) rules cause told × GrewBy old new told
            → IfOk result (IsStopOf r.line w.lexicon cause) → Finishes r.line r.parts.input w rules old new result
        finishes_failed old new failed.Memory result (told, part, grew) h =
            finishes old new told grew (part_of pieces_check failed.Memory told part) result h (λ o none. absurd none)
        finishes_failed old new (failed.Limit which trace) result (told, fails, grew) h =
            finishes old new told grew (part_of pieces_check (failed.Limit which trace) told fails) result h
            (λ o is first built. is_cut_short (record {
              check = passes pieces_check told first built;
              which = which;
              trace = trace;
              fails = fails;
              outcome = is;
            }))

      -- ---- by families of requirement signatures

      module _ (asked : printed_of r ≡ Families) where
        families_check : ChecksMachines r.line
        families_check = checks_of r.line Families asked (λ e. cc)

        families_part : (more : List Event) → ComesSoFar (limits_in r) w more → After more (TellsPart r.line r.parts.input)
        families_part more part first built =
            inr (
              families_check,
              (
                w,
                has,
                inr (inr (
                  asked,
                  record {
                    rules = rules;
                    first = first;
                    more = more;
                    built = built;
                    part = part;
                    told_is = refl;
                  },
                )),
              ),
            )

        pub families_given : (old new : Option (List Event)) (family : Family) (result : Result Outcome AllocError)
            → AnswersFamily (limits_in r) w old new (Ok family) → IsGivenFamily w family.kept
            → IfOk result (λ o. (o.status ≡ 0) × (o.output ≡ family_text w family.kept))
            → Finishes r.line r.parts.input w rules old new result
        families_given old new family result (told, (flags, gone, is), grew) given h =
            finishes old new told grew
            (families_part told (record { place = 0; flags = flags; before = told; gone = gone; part = inl refl })) result h
            (λ o (status, output). answers Families asked (λ e. cc) told (flags, gone) o status
            (o.output ∷ [], (family.kept, given, ap (λ (t : List ℕ). t ∷ []) output), sym (append-nil o.output)))

        pub families_failed : (old new : Option (List Event)) (cause : Failed) (result : Result Outcome AllocError)
            → AnswersFamily (limits_in r) w old new (Err cause) → IfOk result (IsStopOf r.line w.lexicon cause)
            → Finishes r.line r.parts.input w rules old new result
        families_failed old new failed.Memory result (told, part, grew) h =
            finishes old new told grew (families_part told part) result h (λ o none. absurd none)
        families_failed old new (failed.Limit which trace) result (told, s, grew) h =
            finishes old new told grew (families_part told (record {
              place = suc s.place;
              flags = s.flags;
              before = s.before;
              gone = s.gone;
              part = inr (
                s.place,
                s.part,
                refl,
                record {
                  asked = s.stops.asked;
                  are = s.stops.are;
                  comes = stopped_comes which trace s.part s.stops.stops;
                },
                s.told_is,
              );
            })) result h
            (λ o is first built. is_refused (past_a_limit_of_families which trace (passes families_check told first built) asked s is))

      -- ---- by the lines of calls

      module _ (asked : printed_of r ≡ Calls) where
        calls_check : ChecksMachines r.line
        calls_check = checks_of r.line Calls asked (λ e. cc)

        pub calls_refused : (old : Option (List Event)) (refusal : RefusalKind) {real : Type 0} (result : Result Outcome AllocError)
            → IfOk result (λ o. real × (o ≡ refused_with refusal)) → (real → RefusesSecond w r.parts refusal)
            → Finishes r.line r.parts.input w rules old old result
        calls_refused old refusal result h refuses =
            finishes_alone calls_check old result h
            (λ o (real, is) first built. is_refused (bad_calls refusal (passes calls_check [] first built) asked (refuses real) refl is))

        pub calls_answered : (old : Option (List Event)) (ds : List CallDecl)
            → calls.StandsFor r.parts.input (second_at r.parts) ds
            → refusals_of w r.parts.input ds ≡ [] → (cs : List TermCall) → SayCalls w r.parts.input cs ds
            → (result : Result Outcome AllocError) → IfOk result (λ o. (o.status ≡ 0) × AnswersCalls w cs o.output)
            → Finishes r.line r.parts.input w rules old old result
        calls_answered old ds stands none cs say result h =
            finishes_alone calls_check old result h (λ o (status, text). answers Calls asked (λ e. cc) [] refl o status
            (text.0, (ds, stands, none, (cs, say, text.1)), text.2))

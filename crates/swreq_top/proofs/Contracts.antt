-- How a run ends says all of its contract.
use Rattle.std.proofs.Common.{◌≡◌, ◌≢◌, ◌⊎◌, ℕ, List, Some, refl, ap, subst, inl, inr, arith}
use Rattle.swreq_print.specs.Names.{Text}
use Rattle.swreq_text.specs.Faults.{HasRisen}
use Rattle.swreq_watch.specs.declared.events.Event.{Event}
use Rattle.swreq_words.specs.Form.{Says}
use Rattle.swreq_words.specs.declared.command.CommandLine.{CommandLine}
use Rattle.swreq_words.proofs.Lines.{one_line}
use Rattle.swreq_reply.specs.declared.outcome.Outcome.{Outcome}
use Rattle.swreq_reply.specs.Replies.{IsOnlyRefusal, IsToldVerdict}
use Rattle.swreq_reply.specs.Inputs.{Parts}
use Rattle.swreq_reply.specs.Verdict.{IsCutShort, IsRefused, IsVerdict}
use Rattle.swreq_reply.specs.swreq_check.declared.content.Content.{Content}
use Rattle.swreq_world.specs.Worlds.{TextWorld}
use Rattle.swreq_reply.specs.Verdict.IsVerdict.{answered as is_answered, cut_short as is_cut_short, judged as is_judged, refused as is_refused}
use Rattle.swreq_top.specs.Contract.{IsRun}
use Rattle.swreq_top.specs.Headline.{Prints, SayAlike, SayDerivations, SayEqualLists, SayFailing, SayFamily, SayPaths, SayTheLeast, SayYesWhereImplied}
use Rattle.swreq_top.specs.Run.{HasToPrint, HasVerdict, IsEnd, NoWriteFailed, NothingFailed, ReadFailed, Run, WriteFailed, known_text}
use Rattle.swreq_top.specs.Run.HasToPrint.{no_memory, read_fault, verdict, wrong_words}
use Rattle.swreq_top.specs.Run.IsEnd.{cut_off, printed}
use Rattle.swreq_top.proofs.Headlines.{Holds, IsAnsweredRun, say_alike, say_derivations, say_equal_lists, say_failing, say_family, say_least, say_paths, say_yes, taken_say}

module _ (r : Run) where
  -- ---- status 0

  -- with status 0 there is a verdict
  answer_of : {status : ℕ} {bytes : Text} → HasToPrint r status bytes → status ≡ 0
      → (line : CommandLine) × Says r.words line × HasVerdict r line (record { status = 0; output = bytes })
  answer_of {bytes = bytes} (verdict line says has unread) zero =
      (line, says, subst (λ (s : ℕ). HasVerdict r line (record { status = s; output = bytes })) zero has)
  answer_of _ zero = absurd (omega (arith, zero))

  -- and its output was printed
  answered_with : IsEnd r → r.status ≡ 0 → IsAnsweredRun r
  answered_with (printed bytes to_print taken same) zero = (bytes, taken, answer_of to_print zero)
  answered_with (cut_off status bytes to_print part failed is) zero = absurd (omega (arith, is, zero))

  -- so what is printed with status 0 says each sentence of what is printed
  prints : IsEnd r → (Sentence : TextWorld → Content → Parts → List Text → Type 0) → Holds Sentence → Prints r Sentence
  prints end Sentence holds zero = taken_say Sentence holds r (answered_with end zero)

  -- ---- faults

  -- what there is to print has status 4 only where a read has failed, and never status 5
  statuses : {status : ℕ} {bytes : Text} → HasToPrint r status bytes → (status ≡ 4 → ReadFailed r) × (status ≢ 5)
  statuses (read_fault line says reads untold failed) = (λ four. failed, λ five. omega (arith, five))
  statuses (verdict line says has unread) = (λ four. absurd (omega (arith, four, has.status)), λ five. omega (arith, five, has.status))
  statuses _ = (λ four. absurd (omega (arith, four)), λ five. omega (arith, five))

  -- with status 4 a read has failed
  pub four_read_failed : IsEnd r → r.status ≡ 4 → ReadFailed r
  four_read_failed (printed bytes to_print taken same) four = (statuses to_print).0 four
  four_read_failed (cut_off status bytes to_print part failed is) four = absurd (omega (arith, is, four))

  -- with status 5 a write has failed
  pub five_write_failed : IsEnd r → r.status ≡ 5 → WriteFailed r
  five_write_failed (printed bytes to_print taken same) five = absurd ((statuses to_print).1 five)
  five_write_failed (cut_off status bytes to_print part failed is) five = failed

  -- and with no other
  pub others_wrote : IsEnd r → r.status ≢ 5 → NoWriteFailed r
  others_wrote (printed bytes to_print taken same) other = same
  others_wrote (cut_off status bytes to_print part failed is) other = absurd (other is)

  -- ---- runs in which nothing fails

  -- where each verdict on the text has this status, the run has it, unless memory ran out
  module _ (sound : NothingFailed r) (n : ℕ) (line : CommandLine) (text : Text) (says : Says r.words line)
      (known : known_text line r.before.left ≡ Some text)
      (of_verdict : (o : Outcome) → IsToldVerdict line text r.before.told r.after.told o → IsOnlyRefusal line text o → o.status ≡ n) where
    status_printed : {status : ℕ} {bytes : Text} → HasToPrint r status bytes → (status ≡ n) ⊎ (status ≡ 6)
    status_printed {status} {bytes} (verdict other also has unread) =
        let o : Outcome = record { status = status; output = bytes } in
        let mine = subst (λ (l : CommandLine). HasVerdict r l o) (one_line r.words other line also says) has in
        inl (of_verdict o (rw known at mine.verdict) (rw known at mine.refusal))
    status_printed (wrong_words wrong untold unread) = absurd (wrong line says)
    status_printed (read_fault other also reads untold failed) = absurd (sound.0 failed)
    status_printed (no_memory told unread) = inr refl

    status_ended : IsEnd r → (r.status ≡ n) ⊎ (r.status ≡ 6)
    status_ended (printed bytes to_print taken same) = status_printed to_print
    status_ended (cut_off status bytes to_print part failed is) = absurd (sound.1 failed)

  -- a text that nothing refuses has a verdict with status 0 alone
  is_zero : (line : CommandLine) (text : Text)
      → ((o : Outcome) (told : List Event) → IsRefused line text o told ⊎ IsCutShort line text o told → ⊥)
      → (o : Outcome) (told : List Event) → IsVerdict line text o told → o.status ≡ 0
  is_zero line text never o told (is_refused refused) = absurd (never o told (inl refused))
  is_zero line text never o told (is_cut_short cut) = absurd (never o told (inr cut))
  is_zero line text never o told (is_answered a) = a.status
  is_zero line text never o told (is_judged j) = j.status

  -- ---- the contract

  pub is_run : IsEnd r → IsRun r
  is_run end = record {
    end = end;
    yes = prints end SayYesWhereImplied say_yes;
    least = prints end SayTheLeast say_least;
    equal = prints end SayEqualLists say_equal_lists;
    alike = prints end SayAlike say_alike;
    derivations = prints end SayDerivations say_derivations;
    paths = prints end SayPaths say_paths;
    failing = prints end SayFailing say_failing;
    family = prints end SayFamily say_family;
    refused = λ o (line, says, (text, known, (told, refused))) sound.
        status_ended sound o.status line text says known (λ p verdict only. ap (λ (q : Outcome). q.status) (only o told refused)) end;
    answered = λ (line, says, (text, known, never)) sound.
        status_ended sound 0 line text says known (λ o told only. is_zero line text never o told.0 told.1) end;
  }

-- a count of faults that is 0 has not risen
pub never_risen : (before after : ℕ) → before ≡ 0 → after ≡ 0 → HasRisen before after → ⊥
never_risen before after a b risen = omega (arith, a, b, risen)

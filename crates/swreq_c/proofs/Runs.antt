-- Runs in memory.
use Rattle.std.proofs.Common.{◌≡◌, ◌≢◌, ◌∙◌, refl, sym, subst, ℕ, List, [], Option, Some, None, inl, inr, arith}
use Rattle.swreq_print.specs.Names.{Text}
use Rattle.swreq_print.specs.Refusals.{refusal_line}
use Rattle.swreq_print.specs.declared.refusal.RefusalKind.TheVariants as refusals
use Rattle.swreq_top.specs.Contract.{IsRun}
use Rattle.swreq_top.specs.Run.{Run, known_text}
use Rattle.swreq_top.specs.Run.HasToPrint.{no_memory as memory_ran_out}
use Rattle.swreq_top.specs.Run.IsEnd.{printed}
use Rattle.swreq_top.proofs.Contracts.{four_read_failed, is_run, never_risen, others_wrote}
use Rattle.swreq_top.proofs.Delivering.{told_nothing}
use Rattle.swreq_c.specs.Calls.{AreWords, HasRun, run_in_memory}

-- bytes say one list of words
pub same_words : (bytes : Text) (one other : List Text) → AreWords bytes one → AreWords bytes other → one ≡ other
same_words bytes one other (inl a) (inl b) = a.1 ∙ sym b.1
same_words bytes one other (inl a) (inr b) = absurd (b.0 a.0)
same_words bytes one other (inr a) (inl b) = absurd (a.0 b.0)
same_words bytes one other (inr a) (inr b) = a.1 ∙ sym b.1

-- the run that finds no memory
pub no_memory : (words : List Text) (text : Text) → HasRun words text 6 (refusal_line refusals.OutOfMemory)
no_memory words text =
    let r : Run = run_in_memory words text (Some text) (refusal_line refusals.OutOfMemory) 6 in record {
      rest = Some text;
      run = is_run r (printed (refusal_line refusals.OutOfMemory) (memory_ran_out (record {
        part = λ line says. told_nothing line (known_text line (Some text)) None None refl;
        untold = λ wrong. refl;
      }) refl) refl refl);
      no_fault = (λ e. omega (arith, e), λ e. omega (arith, e));
    }

-- a run over streams in memory
abbrev run_between : (words : List Text) (text : Text) (rest : Option Text) (before bytes : Text) (was faults status : ℕ) → Run
run_between words text rest before bytes was faults status = record {
  words = words;
  before = record { left = Some text; read_faults = 0; taken = Some before; write_faults = was; told = None };
  after = record { left = rest; read_faults = 0; taken = Some bytes; write_faults = faults; told = None };
  status = status;
}

-- one over a sink that has taken nothing and has not failed, which does not end for a fault
pub in_memory : (words : List Text) (text : Text) (rest : Option Text) (before bytes : Text) (was faults status : ℕ) → before ≡ [] → was ≡ 0
    → IsRun (run_between words text rest before bytes was faults status) → status ≢ 5 → HasRun words text status bytes
in_memory words text rest before bytes was faults status nothing never ran wrote =
    let none : faults ≡ 0 = others_wrote (run_between words text rest before bytes was faults status) ran.end wrote ∙ never in record {
      rest = rest;
      run = subst (λ n. IsRun (run_between words text rest [] bytes 0 n status)) none
          (subst (λ n. IsRun (run_between words text rest [] bytes n faults status)) never
          (subst (λ t. IsRun (run_between words text rest t bytes was faults status)) nothing ran));
      no_fault = (
        λ four. never_risen 0 0 refl refl (four_read_failed (run_between words text rest before bytes was faults status) ran.end four),
        wrote,
      );
    }

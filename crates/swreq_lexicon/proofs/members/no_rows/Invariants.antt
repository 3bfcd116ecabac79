use Rattle.std.proofs.Common.{◌≡◌, ℕ, false, length}
use Rattle.swreq_closure.specs.Bits.{has}
use Rattle.swreq_derive.specs.swreq_param.declared.ids.NameId.{NameId}
use Rattle.swreq_lexicon.specs.Symbols.{row_of}
use Rattle.swreq_lexicon.proofs.members.no_rows.Given as goal

abbrev pub invariant-loop : goal.invariant-loop
invariant-loop l = record {
  len : length l.rows.items ≡ l.counter;
  none : (a : NameId) (k : ℕ) → has (row_of l.rows.items a) k ≡ false;
}

use Rattle.std.proofs.Common.{◌≡◌, ◌≤◌, ◌+◌, ℕ, Some, length, slice_get, take}
use Rattle.swreq_derivation.specs.Marks.{marked, new_number}
use Rattle.swreq_derivation.proofs.keeping.numbers_of.Given as goal

abbrev pub invariant-loop-k : goal.invariant-loop-k
invariant-loop-k l = record {
  length_is : length l.numbers.items ≡ l.k + 1;
  so_far : l.count ≡ marked (take l.k l.marks);
  small : l.count ≤ l.k;
  each : (n : ℕ) → n ≤ l.k → slice_get l.numbers.items n ≡ Some (new_number l.marks n);
}

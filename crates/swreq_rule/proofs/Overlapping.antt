-- Overlaps and containments by the parts that the code cuts.
use Rattle.std.proofs.Common.{◌≡◌, ℕ, ◌+◌, ◌-◌, ◌<◌, ◌≤◌, sym, ◌∙◌, ap, arith, List, ◌++◌, length, length-append, length-drop, length-take, take, drop, take-append-drop}
use Rattle.swreq_word.specs.declared.symbols.Symbol.{Symbol}
use Rattle.swreq_word.specs.Overlap.{Overlap, Containment}
use Rattle.swreq_word.proofs.Cuts.{cut_rest}

-- an overlap stands within the first word, past its start
pub overlap_within : (l m : List Symbol) (at : ℕ) → Overlap l m at → (0 < at) × (at < length l) × (length l < at + length m)
overlap_within l m at o =
    let first = simp length-append at (ap length o.first_is) in
    let second = simp length-append at (ap length o.second_is) in
    let at_is = o.at_is in let before = o.before_some in let common = o.common_some in let after = o.after_some in
    (omega (arith, at_is, before), omega (arith, first, at_is, common), omega (arith, first, second, at_is, after))

pub containment_within : (l m : List Symbol) (at : ℕ) → Containment l m at → at + length m ≤ length l
containment_within l m at o =
    let first = simp length-append at (ap length o.first_is) in
    let at_is = o.at_is in
    omega (arith, first, at_is)

-- an overlap, from the rest of the first word
pub overlapping : (l m rest : List Symbol) (at : ℕ) → 0 < at → at < length l → length l - at < length m
    → m ≡ drop at l ++ rest → Overlap l m at
overlapping l m rest at a b c e = record {
  before = take at l;
  common = drop at l;
  after = rest;
  before_some = rw length-take (omega arith);
  common_some = rw length-drop (omega arith);
  after_some = (let h = ap length e in let k = simp (length-append, length-drop) at h in omega (arith, k));
  first_is = sym (take-append-drop at l);
  second_is = e;
  at_is = rw length-take (omega arith);
}

-- what the two words have in common
pub common_is : (l m : List Symbol) (at : ℕ) → (o : Overlap l m at) → drop at l ≡ o.common
common_is l m at o = rw (← o.at_is) (cut_rest l o.before o.common o.first_is)

-- a containment, from the rest of the first word, and back
pub containing : (l m rest : List Symbol) (at : ℕ) → at ≤ length l → drop at l ≡ m ++ rest → Containment l m at
containing l m rest at a e = record {
  before = take at l;
  after = rest;
  first_is = sym (take-append-drop at l) ∙ ap (λ x. take at l ++ x) e;
  at_is = rw length-take (omega arith);
}

pub containing_rest : (l m : List Symbol) (at : ℕ) → (o : Containment l m at) → drop at l ≡ m ++ o.after
containing_rest l m at o = rw (← o.at_is) (cut_rest l o.before (m ++ o.after) o.first_is)

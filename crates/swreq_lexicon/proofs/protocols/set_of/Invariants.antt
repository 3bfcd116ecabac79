use Rattle.std.proofs.Common.{◌≡◌, ◌<◌, ◌≤◌, ◌+◌, ◌*◌, ◌/◌, ◌&&◌, ℕ, Bool, false, length, get_or}
use Rattle.swreq_closure.specs.Bits.{count_below, has, room}
use Rattle.swreq_lexicon.proofs.protocols.set_of.Given as goal

abbrev pub invariant-loop-place : goal.invariant-loop-place
invariant-loop-place l = record {
  size : room l.set ≡ 64 * (l.bound / 64 + 1);
  counted : (test : ℕ → Bool)
      → count_below (λ k. test k && has l.set k) (room l.set) ≡ count_below (λ r. test (get_or l.places r 0)) l.place-index;
  fresh : (r : ℕ) → l.place-index ≤ r → r < length l.places → has l.set (get_or l.places r 0) ≡ false;
}

-- What the systems of rounds are made from.
use Rattle.std.proofs.Common.{◌≡◌, ◌∙◌, ℕ, ◌+◌, ◌<◌, ◌^◌, Bool, false, true, List, Some, arith, get_or, length, slice_get, subst, sym}
use Rattle.std.proofs.lemmas.Option.{same_Some, slice_get-get_or, slice_get_within}
use Rattle.swreq_machine.proofs.swreq_lemmas.Stable.{both_stable, less_stable, same_number_stable, truncated_map}
use Rattle.swreq_machine.proofs.swreq_world.TextStable.{ids_stable, requirement_stable}
use Rattle.swreq_machine.specs.{swreq_derive.Facts.{requirement_of}, swreq_valid.Rounds.{RoundView}}
use Rattle.swreq_explain.specs.{declared.numbered.Makings.{Makings}, Numbering.{AreMadeOf}, Uses.{Uses}}

-- The requirements are of the text, each round has a flag for each of them, and each system has a place of 64 bits.
pub made : (m : Makings) → AreMadeOf m.text m.all.now m.rounds.now m.first
made m = record {
  of_text = λ n c. both_stable (ids_stable m.text.table.now n.requirement)
      (requirement_stable m.text.world.now.lexicon (requirement_of m.text.table.now n.requirement))
      (truncated_map (λ h. h.of_text n c) m.made);
  flags = λ k r e. same_number_stable (length r.used) (length m.all.now) (truncated_map (λ h. h.flags k r e) m.made);
  room = less_stable (m.first + length m.rounds.now) (2 ^ 64) (truncated_map (λ h. h.room) m.made);
}

module _ (m : Makings) (k place : ℕ) (u : Uses m.rounds.now k place) where
  pub used_round : k < length m.rounds.now
  used_round = slice_get_within m.rounds.now k u.0 u.1

  pub used_place : place < length m.all.now
  used_place =
      let within = slice_get_within u.0.used place true u.2 in
      let flags = (made m).flags k u.0 u.1 in
      omega (arith, within, flags)

module _ (m : Makings) (k place : ℕ) (r : RoundView) (at : slice_get m.rounds.now k ≡ Some r) where
  pub used_flag : Uses m.rounds.now k place → slice_get r.used place ≡ Some true
  used_flag (s, at_s, set) =
      let same : s ≡ r = same_Some _ _ (sym at_s ∙ at) in subst (λ (z : RoundView). slice_get z.used place ≡ Some true) same set

  pub unused_flag : place < length m.all.now → (Uses m.rounds.now k place → ⊥) → slice_get r.used place ≡ Some false
  unused_flag l none = by (get_or r.used place false)
      (slice_get-get_or r.used place false (let flags = (made m).flags k r at in omega (arith, l, flags)))
    where
      by : (b : Bool) → slice_get r.used place ≡ Some b → slice_get r.used place ≡ Some false
      by true e = absurd (none (r, at, e))
      by false e = e

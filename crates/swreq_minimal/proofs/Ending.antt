-- The last of a span that is derivable from the requirements outside the span is dropped.
use Rattle.std.proofs.Common.{true, ◌≡◌, ◌∙◌, sym, ap, ap₂, subst, ◌<◌, ◌≤◌, ◌+◌, ◌-◌, arith, ℕ, suc, List, [], ◌++◌, take, drop, get_or, length, Contains, length-take-le, length-append}
use Rattle.std.specs.Prelude.{remove}
use Rattle.std.proofs.lemmas.List.{length-drop}
use Rattle.std.proofs.lemmas.List.Elements.{Contains-append_left}
use Rattle.swreq_machine.specs.swreq_derive.declared.requirements.Requirement.{Requirement}
use Rattle.swreq_machine.specs.swreq_derive.Derivation.{TermRequirement}
use Rattle.swreq_machine.specs.swreq_derive.Derivation.TermStatement.{Requires}
use Rattle.swreq_machine.proofs.swreq_derive.Monotone.{grows}
use Rattle.swreq_list_rules.specs.declared.setting.Setting.{Setting}
use Rattle.swreq_list_rules.specs.Settings.{AreKnownIn, facts_in, params_in, said_in, says_in}
use Rattle.swreq_minimal.specs.Lists.{IsDerivableFrom}
use Rattle.swreq_minimal.specs.Passed.{IsLeftFrom}
use Rattle.swreq_minimal.proofs.Halving.{behind_is, for_second, front_stays}
use Rattle.swreq_minimal.proofs.Inserting.{any}
use Rattle.swreq_minimal.proofs.Passing.{one_dropped, passed_on, there_before, without}

-- ---- a span that ends earlier

module _ {X : Type 0} (old now : List X) (from to end_of : ℕ) (a : from ≤ to) (b : to ≤ end_of) (c : end_of ≤ length old)
    (is : now ≡ take to old ++ drop end_of old) where
  -- the same stand outside it
  pub outside_stays : take from now ++ drop to now ≡ take from old ++ drop end_of old
  outside_stays = ap₂ ◌++◌ (front_stays old from to end_of a b c now [] is) (behind_is old from to end_of a b c now [] is)

  pub shorter : length now ≡ to + (length old - end_of)
  shorter =
      let e = ap length is in
      let n = length-append (take to old) (drop end_of old) in
      let t = length-take-le to old (omega (arith, b, c)) in
      let d = length-drop end_of old in
      omega (arith, e, n, t, d)

-- ---- one less

module _ (s : Setting) (old now : List Requirement) (from place end_of : ℕ)
    (a : from ≤ place) (b : suc place ≤ end_of) (c : end_of ≤ length old) (is : now ≡ take (suc place) old ++ drop end_of old) where
  pub place_within : place < length now
  place_within = let n = shorter old now from (suc place) end_of (omega (arith, a)) b c is in omega (arith, n)

  pub remove_is : remove now place ≡ take place old ++ drop end_of old
  remove_is =
      without s.checked.text.table.now now place any place_within
      ∙ ap₂ ◌++◌ (front_stays old place (suc place) end_of (omega arith) b c now [] is)
      (behind_is old place (suc place) end_of (omega arith) b c now [] is)

  pub known_on : AreKnownIn s now → AreKnownIn s (remove now place)
  known_on known r h = known r (there_before s.checked.text.table.now now place any place_within r h)

  -- those outside the span are among the others that are left
  outside_within : (q : TermRequirement) → Contains (said_in s (take from old ++ drop end_of old)) q
      → Contains (said_in s (remove now place)) q
  outside_within q h =
      subst (λ z. Contains (said_in s z) q) (sym remove_is)
      ((for_second s old from place end_of a (omega (arith, b)) c q).0
      (Contains-append_left (said_in s (take from old ++ drop end_of old)) (said_in s (take (place - from) (drop from old))) q h))

  pub dropped_last : IsDerivableFrom s (take from old ++ drop end_of old) (get_or now place any)
      → (all : List TermRequirement) → suc place ≤ length all → IsLeftFrom (facts_in s) (params_in s) (suc place) all (said_in s now)
      → IsLeftFrom (facts_in s) (params_in s) place all (said_in s (remove now place))
  dropped_last h all within left =
      passed_on (facts_in s) (params_in s) s.checked.text.table.now all now place any within left (remove now place)
      (one_dropped (facts_in s) (params_in s) s.checked.text.table.now now place any place_within
      (grows (facts_in s) true (params_in s) (said_in s (take from old ++ drop end_of old)) (said_in s (remove now place)) outside_within
      (Requires (says_in s (get_or now place any))) h))

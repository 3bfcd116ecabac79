use Rattle.std.proofs.Common.{◌≡◌, ◌∙◌, ◌-◌, ◌++◌, ◌≤◌, arith, refl, sym, subst, suc, Contains, Some, take, drop, length, slice_get}
use Rattle.std.proofs.lemmas.List.{take-append-drop}
use Rattle.std.proofs.lemmas.List.Elements.{Contains-get_or}
use Rattle.std.proofs.lemmas.Option.{get_or_from_slice_get, slice_get_read}
use Rattle.swreq_machine.specs.swreq_derive.Derivation.{Derivable}
use Rattle.swreq_machine.specs.swreq_derive.Derivation.TermStatement.{Requires}
use Rattle.swreq_list_rules.specs.Settings.{AreKnownIn, facts_in, params_in, said_in, says_in, source_in}
use Rattle.swreq_minimal.specs.Halves.{outside_span}
use Rattle.swreq_minimal.specs.Passed.{IsLeftFrom}
use Rattle.swreq_minimal.proofs.Ending.{dropped_last, known_on, place_within, remove_is}
use Rattle.swreq_minimal.proofs.Inserting.{any}
use Rattle.swreq_minimal.proofs.dropping.drop_end.Goals as goal

pub loop-to-init : goal.loop-to-init
loop-to-init c = record {
  after = c.requires.left.within.0;
  within = omega arith;
  stays = sym (take-append-drop c.args.span.to c.args.left.now.items);
  leaves = λ all within left. left;
  known = c.requires.left.known;
}

pub derives-requires : goal.derives-requires
derives-requires c =
    let old = c.args.left.now.items in
    let now = c.loop-to.left.items in
    let place = c.loop-to.to - 1 in
    let one : c.loop-to.to ≡ suc place = omega (arith, c.loop-to.invariant.after) in
    let is : now ≡ take (suc place) old ++ drop c.args.span.to old =
    subst (λ n. now ≡ take n old ++ drop c.args.span.to old) one c.loop-to.invariant.stays in
    let there = place_within c.args.setting.now old now c.args.span.from place c.args.span.to (omega (arith, c.loop-to.invariant.after))
    (omega (arith, one, c.loop-to.invariant.within)) c.requires.left.within.1 is in
    c.loop-to.invariant.known c.index.result.now
    (subst (Contains now) (sym c.index.ensures) (Contains-get_or now place c.index.result.now there))

pub loop-to-preserved : goal.loop-to-preserved
loop-to-preserved c =
    let s = c.args.setting.now in
    let old = c.args.left.now.items in
    let now = c.loop-to.left.items in
    let from = c.args.span.from in
    let end_of = c.args.span.to in
    let place = c.loop-to.to - 1 in
    let one : c.loop-to.to ≡ suc place = omega (arith, c.loop-to.invariant.after) in
    let is : now ≡ take (suc place) old ++ drop end_of old =
    subst (λ n. now ≡ take n old ++ drop end_of old) one c.loop-to.invariant.stays in
    let a : from ≤ place = omega (arith, c.loop-to.invariant.after) in
    let b : suc place ≤ end_of = omega (arith, one, c.loop-to.invariant.within) in
    let there = place_within s old now from place end_of a b c.requires.left.within.1 is in
    let at : slice_get now place ≡ Some c.index.result.now =
    slice_get_read now (length now) place c.index.result.now refl there c.index.ensures in
    let derivable =
    subst (λ r. Derivable (facts_in s) (source_in s (said_in s (outside_span old c.args.span))) (Requires (says_in s r)))
    (sym (get_or_from_slice_get now place c.index.result.now any at))
    ((c.in_ok-derivable.ensures (said_in s (outside_span old c.args.span)) c.requires.rules).0 c.if-not-derivable.false) in
    record {
      after = omega (arith, c.loop-to-test.true);
      within = omega (arith, b);
      stays = c.remove.ensures.items ∙ remove_is s old now from place end_of a b c.requires.left.within.1 is;
      leaves = λ all within left. subst (λ z. IsLeftFrom (facts_in s) (params_in s) place all (said_in s z)) (sym c.remove.ensures.items)
          (dropped_last s old now from place end_of a b c.requires.left.within.1 is derivable all (omega (arith, b, within))
          (subst (λ n. IsLeftFrom (facts_in s) (params_in s) n all (said_in s now)) one (c.loop-to.invariant.leaves all within left)));
      known = subst (AreKnownIn s) (sym c.remove.ensures.items)
          (known_on s old now from place end_of a b c.requires.left.within.1 is c.loop-to.invariant.known);
    }

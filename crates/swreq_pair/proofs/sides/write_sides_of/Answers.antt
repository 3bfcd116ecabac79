use Rattle.std.proofs.Common.{◌+◌, ap, arith, length, subst, sym}
use Rattle.std.proofs.lemmas.Result.{on_ok_weaker}
use Rattle.swreq_rule.specs.swreq_word.Overlap.{Containment, Overlap}
use Rattle.swreq_pair.specs.Pairs.{ContainmentPair, OverlapPair}
use Rattle.swreq_pair.proofs.Located.{begins_within, contains_there, overlaps_there, by_overlap, by_containment}
use Rattle.swreq_pair.proofs.sides.write_sides_of.Goals as goal

pub write_containment-requires : goal.write_containment-requires
write_containment-requires c =
    let first = c.args.first.now in let second = c.args.second.now in
    let rules = c.requires.0 in let place = c.requires.1 in let is = c.requires.2 in
    let within = begins_within rules place first second is.first_at is.second_at c.requires.3 in
    let m_is = ap length c.symbols.ensures in let l_is = ap length c.symbols-2.ensures in
    let t = c.if-symbols-at.true in let at_is = is.at_is in
    subst (Containment first.left second.left) is.at_is
    (contains_there rules place first second is.first_at is.second_at c.requires.3 (omega (arith, t, within, m_is, l_is, at_is))).1

pub write_overlap-requires : goal.write_overlap-requires
write_overlap-requires c =
    let first = c.args.first.now in let second = c.args.second.now in
    let rules = c.requires.0 in let place = c.requires.1 in let is = c.requires.2 in
    let within = begins_within rules place first second is.first_at is.second_at c.requires.3 in
    let m_is = ap length c.symbols.ensures in let l_is = ap length c.symbols-2.ensures in
    let f = c.if-symbols-at.false in let at_is = is.at_is in
    subst (Overlap first.left second.left) is.at_is
    (overlaps_there rules place first second is.first_at is.second_at c.requires.3 (omega (arith, f, within, m_is, l_is, at_is)))

pub returns-then-symbols-at : goal.returns-then-symbols-at
returns-then-symbols-at c =
    let first = c.args.first.now in let second = c.args.second.now in
    let m_is = ap length c.symbols.ensures in let l_is = ap length c.symbols-2.ensures in
    let t = c.if-symbols-at.true in
    let left = c.write_containment.new.left.items in let right = c.write_containment.new.right.items in
    on_ok_weaker c.write_containment.result
    (λ pair rules place is has.
    let within = begins_within rules place first second is.first_at is.second_at has in
    let at_is = is.at_is in
    let there = contains_there rules place first second is.first_at is.second_at has (omega (arith, t, within, m_is, l_is, at_is)) in
    by_containment rules place first second is.first_at is.second_at there.0 left right
    (subst (λ at. ContainmentPair first second at left right) (sym is.at_is) pair))
    c.write_containment.ensures

pub returns-else-symbols-at : goal.returns-else-symbols-at
returns-else-symbols-at c =
    let first = c.args.first.now in let second = c.args.second.now in
    let left = c.write_overlap.new.left.items in let right = c.write_overlap.new.right.items in
    on_ok_weaker c.write_overlap.result
    (λ pair rules place is has.
    by_overlap rules place first second is.first_at is.second_at left right
    (subst (λ at. OverlapPair first second at left right) (sym is.at_is) pair))
    c.write_overlap.ensures

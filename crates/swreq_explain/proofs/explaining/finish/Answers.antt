use Rattle.std.proofs.Common.{List, subst, sym, take}
use Rattle.swreq_machine.specs.{swreq_param.Tables.{AreDistinct}, swreq_derive.declared.lines.Line.{Line}}
use Rattle.swreq_machine.specs.swreq_derive.{declared.requirements.Statement.TheVariants.{Holds}, Lines.{AreDerived}}
use Rattle.swreq_derivation.specs.Needed.{AreSomeOf, EndIn}
use Rattle.swreq_explain.proofs.Fronts.{front_derived, front_ends, front_ids, line_said}
use Rattle.swreq_explain.proofs.explaining.finish.Goals as goal

pub returns-clause-derived : goal.returns-clause-derived
returns-clause-derived c = λ m d.
    c.in_ok-lines-in-Some.ensures.derived c.args.derivation.now.table m
    (subst (λ (z : List Line). AreDerived c.args.derivation.now.table m (take c.in-Some.n z)) (sym c.lines.ensures.lines)
    (front_derived c.args.derivation.now.table m c.args.derivation.now.lines c.in-Some.n d))

pub returns-clause-last : goal.returns-clause-last
returns-clause-last c =
    let s = c.args.derivation.now in
    let n = c.in-Some.n in
    let distinct = subst AreDistinct c.table.ensures c.len-count.ensures.distinct in
    let (l, number, same) = line_said s (Holds c.args.r) n c.lines.ensures.ids distinct c.requires.ids c.in-Some.ensures in
    c.in_ok-lines-in-Some.ensures.last (Holds c.args.r)
    (subst (λ (z : List Line). EndIn (take n z) (Holds c.args.r)) (sym c.lines.ensures.lines)
    (subst (EndIn (take n s.lines)) same (front_ends s.lines n l number)))

pub returns-clause-ids : goal.returns-clause-ids
returns-clause-ids c =
    let ls = c.in_ok-lines-in-Some.lines.items in
    front_ids c.args.derivation.now.table ls c.args.derivation.now.lines c.in-Some.n c.lines.ensures.ids
    (subst (λ (z : List Line). AreSomeOf ls (take c.in-Some.n z)) c.lines.ensures.lines c.in_ok-lines-in-Some.ensures.some)

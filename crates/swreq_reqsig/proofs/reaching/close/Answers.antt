use Rattle.std.proofs.Common.{Bool, List, subst, sym}
use Rattle.swreq_reqsig.specs.Marks.{IsMarked}
use Rattle.swreq_reqsig.proofs.Passing.{all_found, found_first}
use Rattle.swreq_reqsig.proofs.reaching.close.Goals as goal

pub loop-grows-init : goal.loop-grows-init
loop-grows-init c =
    found_first c.args.selection.now.setting.places.now c.args.selection.now.flags.now c.args.marks.now.items c.is_any_marked-grows.result
    (λ e q m. c.is_any_marked-grows.ensures e q (subst (λ (z : List Bool). IsMarked z q) (sym c.deref.ensures.value) m))

pub returns : goal.returns
returns c =
    all_found c.args.selection.now.setting.places.now c.args.selection.now.flags.now c.args.marks.now.items c.loop-grows.grows
    c.loop-grows.marks.items c.loop-grows.invariant
    c.loop-grows-test.false

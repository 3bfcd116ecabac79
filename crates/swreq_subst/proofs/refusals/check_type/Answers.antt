use Rattle.std.proofs.Common.{◌∙◌, sym, ap}
use Rattle.swreq_resolve.specs.First.{least}
use Rattle.swreq_resolve.specs.RefusedTypes.{of_type_on}
use Rattle.swreq_subst.proofs.Refusing.{first_after}
use Rattle.swreq_subst.proofs.refusals.check_type.Goals as goal

pub returns-in-Ok : goal.returns-in-Ok
returns-in-Ok c = sym (ap (least c.args.best) c.in-Ok.ensures.answer)

pub returns-in-Err : goal.returns-in-Err
returns-in-Err c =
    c.earlier.ensures
    ∙ first_after c.args.best (of_type_on c.args.d.now c.args.signature c.args.text.now c.args.t.now) c.in-Err.r c.in-Err.ensures.answer

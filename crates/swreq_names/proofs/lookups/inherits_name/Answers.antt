use Rattle.std.proofs.Common.{◌∙◌}
use Rattle.swreq_closure.specs.Chains.{leads}
use Rattle.swreq_names.proofs.Beginnings.{declared_by_any}
use Rattle.swreq_names.proofs.lookups.inherits_name.Goals as goal

pub returns : goal.returns
returns c =
    c.inherits_any.ensures
    ∙ declared_by_any (leads c.args.inherits.now c.args.i) c.args.d.now.members c.args.name.now c.declarers.result.now c.declarers.ensures

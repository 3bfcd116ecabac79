use Rattle.swreq_machine.specs.swreq_symbols.Vanishing.{Links}
use Rattle.swreq_minimal.proofs.ByParams.{none_yet}
use Rattle.swreq_minimal.proofs.of_params.of_params.Goals as goal

pub loop-k-init : goal.loop-k-init
loop-k-init c = none_yet (Links c.args.rules.now) c.args.rules.now c.new-system.result.items c.new-system.ensures.items

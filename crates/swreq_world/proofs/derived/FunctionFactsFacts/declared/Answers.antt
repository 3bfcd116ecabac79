use Rattle.swreq_world.proofs.Associated.{declared_by}
use Rattle.swreq_world.proofs.derived.FunctionFactsFacts.declared.Goals as goal

pub returns : goal.returns
returns c = declared_by c.args.self.now.world.now.lexicon.associated c.args.p c.args.a c.declares.result c.declares.ensures

use Rattle.std.proofs.Common.{subst, sym, refl}
use Rattle.std.specs.Bool.{Decides}
use Rattle.swreq_valid.specs.swreq_param.Tables.{term_at}
use Rattle.swreq_map.specs.Follows.{IsMapOf}
use Rattle.swreq_map.specs.Properties.{Vanishes}
use Rattle.swreq_valid.specs.swreq_world.ByTable.{world_by}
use Rattle.swreq_machine.proofs.Answering.{behind_answer}
use Rattle.swreq_machine.proofs.machine.Machine.vanishing.Goals as goal

pub has-requires-clause-map : goal.has-requires-clause-map
has-requires-clause-map c = subst (λ r. IsMapOf r c.args.map.now) (sym c.rules.ensures) c.requires.map

pub returns-then-walk-clause-answer : goal.returns-then-walk-clause-answer
returns-then-walk-clause-answer c = (
  c.if-walk.ensures.valid.0 refl,
  behind_answer (world_by c.args.text.now.table.now c.args.text.now.world.now) c.args.self.now
      (term_at c.args.text.now.table.now c.args.t) c.args.x c.walk.new.word.items c.deref.result.now
      c.has.result (c.if-walk.ensures.valid.0 refl) c.if-walk.ensures.least.1 c.deref.ensures.value
      (subst (λ r. Decides c.has.result (Vanishes r c.deref.result.now c.args.x)) c.rules.ensures c.has.ensures.answer),
)

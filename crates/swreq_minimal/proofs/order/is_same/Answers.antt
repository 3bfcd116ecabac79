use Rattle.std.proofs.Common.{ap}
use Rattle.std.proofs.lemmas.Bool.Decides.{Decides-at}
use Rattle.swreq_machine.specs.swreq_derive.contracts.requirements.RequirementPartialEq.TheImpl.{eq-value}
use Rattle.swreq_machine.specs.swreq_derive.Facts.{requirement_of}
use Rattle.swreq_minimal.proofs.Equal.{requirements_decide}
use Rattle.swreq_minimal.proofs.Inserting.{one_requirement}
use Rattle.swreq_minimal.proofs.order.is_same.Goals as goal

pub returns : goal.returns
returns c =
    let d = Decides-at c.eq.result (eq-value.it c.args.r c.args.q) c.eq.ensures (requirements_decide c.args.r c.args.q) in (
      (λ h. ap (requirement_of c.args.table.now) (d.0 h)),
      λ e. d.1 (one_requirement c.args.table.now c.len-count.ensures.distinct c.args.r c.args.q c.requires.0 c.requires.1 e),
    )

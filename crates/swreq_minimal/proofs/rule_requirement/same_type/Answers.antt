use Rattle.std.proofs.Common.{◌≡◌, refl}
use Rattle.std.proofs.lemmas.Bool.Decides.{Decides-at}
use Rattle.swreq_minimal.proofs.Equal.{ids_decide}
use Rattle.swreq_machine.specs.swreq_param.contracts.ids.TermIdPartialEq.TheImpl.{eq-value}
use Rattle.swreq_minimal.proofs.rule_requirement.same_type.Goals as goal

pub returns-else-eq : goal.returns-else-eq
returns-else-eq c = (
  refl,
  λ e.
      let same : c.args.t ≡ c.args.v = c.len-count.ensures.distinct c.args.t c.args.v c.requires.t c.requires.v e in
      let a = (Decides-at c.eq.result (eq-value.it c.args.t c.args.v) c.eq.ensures (ids_decide c.args.t c.args.v)).1 same in
      let b = c.if-eq.false in
      cc,
)

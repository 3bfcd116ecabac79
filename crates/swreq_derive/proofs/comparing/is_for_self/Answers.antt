use Rattle.std.proofs.Common.{◌≡◌, ◌∙◌, sym, ap}
use Rattle.swreq_param.specs.Tables.{term_at}
use Rattle.swreq_derive.specs.Derivation.{for_self}
use Rattle.swreq_derive.proofs.InstanceLemmas.{same_id, id_same}
use Rattle.swreq_derive.proofs.comparing.is_for_self.Goals as goal

pub returns-in-None : goal.returns-in-None
returns-in-None c =
    let terms = c.args.table.now in
    let e : for_self (term_at terms c.args.t) (term_at terms c.loop-to.from) ≡ term_at terms c.args.t =
    ap (for_self (term_at terms c.args.t)) c.in-None.ensures in (
      (λ r. c.loop-to.invariant.same.0 (ap (term_at terms) (same_id _ _ (sym c.eq.ensures ∙ r)) ∙ sym e)),
      λ g. c.eq.ensures ∙ id_same _ _
          (c.requires.distinct c.loop-to.to c.args.t c.loop-to.invariant.to c.requires.for_self (c.loop-to.invariant.same.1 g ∙ e)),
    )

use Rattle.std.proofs.Common.{◌≡◌, ◌∙◌, sym, true≢false}
use Rattle.swreq_param.specs.Terms.{Term}
use Rattle.swreq_param.specs.Terms.Term.{Member}
use Rattle.swreq_derive.proofs.InstanceLemmas.{id_same}
use Rattle.swreq_derive.proofs.comparing.is_member.Goals as goal

base_of : {t u : Term} {x y : _} → Member t x ≡ Member u y → t ≡ u
base_of e = cc

pub returns-else-eq : goal.returns-else-eq
returns-else-eq c = (
  (λ e. absurd (true≢false (sym e ∙ c.if-eq.false))),
  λ e. absurd (true≢false
      (sym (id_same _ _ (c.requires.distinct c.in-Some.base c.args.t c.in-Some.ensures.0 c.requires.base
      (base_of (sym c.in-Some.ensures.1 ∙ e)))) ∙ sym c.eq.ensures ∙ c.if-eq.false)),
)

use Rattle.std.proofs.Common.{◌∷◌, [], sym, subst, IfOk}
use Rattle.swreq_candidates.proofs.swreq_param.Growing.{unchanged}
use Rattle.swreq_minimal.specs.Typed.{Identifies, IsTypeBy}
use Rattle.swreq_minimal.proofs.Typing.{not_param}
use Rattle.swreq_minimal.proofs.typed.symbol_type.Goals as goal

pub returns-in-Param-clause-typed : goal.returns-in-Param-clause-typed
returns-in-Param-clause-typed c x rules =
    subst (λ z. IfOk c.generic.result (Identifies (IsTypeBy x rules c.args.params (z ∷ [])) c.generic.new.table)) (sym c.in-Param.is)
    (c.generic.ensures.typed x rules)

pub returns-in_default : goal.returns-in_default
returns-in_default c = record {
  typed = λ x rules. not_param x rules c.args.params c.args.symbol (λ d i e. c.in_default.not-Param d i e);
  extends = unchanged c.args.table.now;
}

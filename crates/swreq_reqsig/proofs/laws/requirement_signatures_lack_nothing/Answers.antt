use Rattle.std.proofs.Common.{◌∷◌, Contains, List, subst, sym}
use Rattle.std.proofs.lemmas.List.Elements.{Contains-append_right}
use Rattle.swreq_print.proofs.swreq_lemmas.Members.{first_member}
use Rattle.swreq_valid.specs.swreq_derive.Derivation.TermStatement.{Requires}
use Rattle.swreq_valid.specs.swreq_derive.Kept.{Owned}
use Rattle.swreq_reqsig.proofs.laws.requirement_signatures_lack_nothing.Goals as goal

pub returns : goal.returns
returns c w family before after o are is same =
    let member : Contains family o = subst (λ (z : List Owned). Contains z o) (sym is)
    (Contains-append_right before (o ∷ after) o (first_member o after)) in
    are.lost before after o is ((same o.proto (Requires o.requirement)).1 (are.derived o member))

use Rattle.std.proofs.Common.{◌≡◌, ℕ, ◌+◌, Some, refl, subst, sym}
use Rattle.swreq_derive.specs.{swreq_param.{Terms.{Term, self}, declared.ids.ProtoId.{ProtoId}}, Derivation.{TermRequirement}}
use Rattle.swreq_derive.specs.{Derivation.TermRequirement.{Conforms}, Instances.{HasNumber}}
use Rattle.swreq_derivation.{specs.{Origins.{placed_in}, UnderWay.{Assumptions}}, proofs.DerivationLemmas.{continues_if}}
use Rattle.swreq_readings.specs.{declared.alphabet.Alphabet.{Alphabet}, Alphabets.{Fits, IsParentAt}}
use Rattle.swreq_readings.proofs.inheriting.step_up.Goals as goal

-- The requirement by which P inherits Q is written, and with T for `Self` it is one of T.
written : (g : Alphabet) (p q : ProtoId) (k n : ℕ) (t : Term) → IsParentAt g p k q → n ≡ k + 1 → (b : Assumptions) → Fits g b
    → (r : TermRequirement) × HasNumber n (b.facts.of_protocol p) r × (Conforms t q ≡ placed_in (Some p) t r)
written g p q k n t at number b f =
    (Conforms self q, subst (λ m. HasNumber m (b.facts.of_protocol p) (Conforms self q)) (sym number) (f.parents p q k at), refl)

pub returns-clause-continues : goal.returns-clause-continues
returns-clause-continues c =
    let (k, number, at) = c.parent_for-parent.ensures in
    continues_if (written c.args.alphabet.now c.args.protocol _ k _ _ at.0 number) c.in_ok-add_requirement.ensures.continues

pub returns-in_err-add_requirement-clause-continues : goal.returns-in_err-add_requirement-clause-continues
returns-in_err-add_requirement-clause-continues c =
    let (k, number, at) = c.parent_for-parent.ensures in
    continues_if (written c.args.alphabet.now c.args.protocol _ k _ _ at.0 number) c.in_err-add_requirement.ensures.continues

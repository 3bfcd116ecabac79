use Rattle.std.proofs.Common.{◌≡◌, ◌∙◌, refl, sym, ap₂, subst, List}
use Rattle.std.proofs.lemmas.Bool.{false≢true}
use Rattle.swreq_world.specs.swreq_derive.declared.lines.Line.{Line}
use Rattle.swreq_world.specs.swreq_derive.Facts.{AreFactsOf, IdFacts}
use Rattle.swreq_world.specs.swreq_derive.Lines.{AreDerived, AreLinesOf, IsFirstNotDerived}
use Rattle.swreq_symbols.proofs.OfText.{are_facts}
use Rattle.swreq_world.specs.FactsAt.{facts_at}
use Rattle.swreq_verify.specs.Claims.{ClaimView}
use Rattle.swreq_verify.specs.Judgements.{IsDerivationFrom, IsFirstBadFrom}
use Rattle.swreq_verify.specs.Laying.{section_of}
use Rattle.swreq_verify.proofs.Judged.{derivation_from, first_bad_from, lines_over}
use Rattle.swreq_symbols.specs.Texts.{world_of}
use Rattle.swreq_symbols.proofs.OfTexts.{text_over}
use Rattle.swreq_verify.proofs.judging.judge.Goals as goal
use Rattle.swreq_verify.proofs.judging.judge.Goals.{After-deref, In-Ok}

-- the facts that are made are those of the signature
facts_same : (c : After-deref)
    → facts_at c.of-facts.result.world.now c.of-facts.result.f ≡ facts_at c.claim.inside.text.world.now c.claim.inside.f
facts_same c = ap₂ facts_at c.of-facts.ensures.world c.of-facts.ensures.f

pub check-requires-clause-lines : goal.check-requires-clause-lines
check-requires-clause-lines c =
    let claim = c.claim.inside in
    let terms = claim.text.table.now in
    subst (λ (m : IdFacts). AreLinesOf terms m c.deref.result.now) (sym (facts_same c))
    (subst (AreLinesOf terms (facts_at claim.text.world.now claim.f)) (sym c.deref.ensures.value)
    (lines_over claim.text.world.now claim.f terms claim.section.now c.claim.invariant.section))

pub check-requires-clause-facts : goal.check-requires-clause-facts
check-requires-clause-facts c =
    let claim = c.claim.inside in
    subst (AreFactsOf claim.text.table.now) (sym (facts_same c))
    (are_facts claim.text.world.now claim.text.table.now (text_over claim.text) claim.f c.claim.invariant.f)

pub returns-in-Err : goal.returns-in-Err
returns-in-Err c =
    let known = (goal.at.returns-in-Err c).After-deref in
    let claim = c.claim.inside in
    let terms = claim.text.table.now in
    let n = c.in-Err.bad.line in
    subst (λ (v : ClaimView). IsFirstBadFrom (world_of v.text) v.f (section_of v.text.table.now v.section).derivation n) c.claim.view_is
    (first_bad_from claim.text.world.now claim.f terms claim.section.now.derivation.items n
    (subst (λ (ls : List Line). IsFirstNotDerived terms (facts_at claim.text.world.now claim.f) ls n) c.deref.ensures.value
    (subst (λ (m : IdFacts). IsFirstNotDerived terms m c.deref.result.now n) (facts_same known) c.in-Err.ensures.bad)))

-- Where no line is bad, the lines are a derivation.
derived : (c : In-Ok) → IsDerivationFrom (world_of c.args.claim.now.text) c.args.claim.now.f
    (section_of c.args.claim.now.text.table.now c.args.claim.now.section).derivation
derived c =
    let claim = c.claim.inside in
    let terms = claim.text.table.now in
    subst (λ (v : ClaimView). IsDerivationFrom (world_of v.text) v.f (section_of v.text.table.now v.section).derivation) c.claim.view_is
    (derivation_from claim.text.world.now claim.f terms claim.section.now.derivation.items
    (subst (AreDerived terms (facts_at claim.text.world.now claim.f)) c.deref.ensures.value
    (subst (λ (m : IdFacts). AreDerived terms m c.deref.result.now) (facts_same (goal.at.In-Ok c).After-deref)
    (c.in-Ok.ensures.ok.0 refl))))

pub returns-then-ends_in : goal.returns-then-ends_in
returns-then-ends_in c = (derived (goal.at.returns-then-ends_in c).In-Ok, c.ends_in.ensures.0 c.if-ends_in.true)

pub returns-else-ends_in : goal.returns-else-ends_in
returns-else-ends_in c = (
  derived (goal.at.returns-else-ends_in c).In-Ok,
  λ last. false≢true (sym c.if-ends_in.false ∙ c.ends_in.ensures.1 last),
)

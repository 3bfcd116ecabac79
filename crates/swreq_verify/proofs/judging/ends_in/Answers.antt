use Rattle.std.proofs.Common.{◌≡◌, ◌↔◌, ◌∙◌, IsTrue, sym, ap, subst, [], ◌∷◌, ◌++◌, length}
use Rattle.swreq_world.specs.swreq_derive.declared.requirements.Statement.TheVariants.{Holds}
use Rattle.swreq_world.specs.swreq_derive.Derivation.TermStatement.{Requires}
use Rattle.swreq_world.specs.swreq_derive.Facts.{requirement_of, statement_of}
use Rattle.swreq_world.proofs.swreq_derive.InstanceLemmas.{same_statement}
use Rattle.swreq_world.specs.swreq_lowering.declared.ids.FuncId.{FuncId}
use Rattle.swreq_symbols.proofs.OfText.{of_facts}
use Rattle.swreq_world.specs.FactsAt.{facts_at}
use Rattle.swreq_verify.specs.Claims.{ClaimView}
use Rattle.swreq_verify.specs.Judgements.{EndsIn}
use Rattle.swreq_verify.specs.Laying.{section_of}
use Rattle.swreq_verify.proofs.Judged.{ends, ends_so, last_at, lines_over}
use Rattle.swreq_symbols.proofs.OfTexts.{text_over}
use Rattle.swreq_verify.proofs.judging.ends_in.Goals as goal

-- What has ids of the table is over the facts of each signature.
any : FuncId
any = record { place = 0 }

pub returns-in-Some : goal.returns-in-Some
returns-in-Some c =
    let claim = c.claim.inside in
    let terms = claim.text.table.now in
    let items = claim.section.now.derivation.items in
    let asked = Requires (requirement_of terms claim.r) in
    let w = c.in-Some.ensures in
    let e : items ≡ w.0 ++ (w.1 ∷ []) = sym c.deref.ensures.value ∙ w.2 in
    let over = lines_over claim.text.world.now any terms claim.section.now c.claim.invariant.section (length w.0) w.1
    (last_at items w.0 w.1 e) in
    subst (λ (v : ClaimView). IsTrue c.is_same.result
    ↔ EndsIn (section_of v.text.table.now v.section).derivation (Requires (requirement_of v.text.table.now v.r))) c.claim.view_is (
      λ same. ends terms items w.0 w.1 e asked (ap (statement_of terms) (w.3 ∙ c.is_same.ensures.0 same)),
      λ last. c.is_same.ensures.1 (sym w.3
          ∙ same_statement terms (facts_at claim.text.world.now any) c.len-count.ensures.distinct w.1.statement
          (Holds claim.r) over.1 (of_facts claim.text.world.now terms (text_over claim.text) any claim.r c.claim.invariant.r)
          (ends_so terms items w.0 w.1 e asked last)),
    )

use Rattle.std.proofs.Common.{subst}
use Rattle.std.proofs.lemmas.Result.{IfOk-weaker}
use Rattle.swreq_machine.specs.swreq_derive.Facts.{generic_params, requirement_of}
use Rattle.swreq_candidates.specs.Evidence.{HasPlainTypes, IsPlain}
use Rattle.swreq_machine.specs.swreq_symbols.Meaning.{facts_of, symbols_of}
use Rattle.swreq_machine.specs.swreq_symbols.Texts.{world_of}
use Rattle.swreq_machine.specs.swreq_valid.Checked.{CheckedView}
use Rattle.swreq_machine.specs.swreq_valid.Plans.{listed}
use Rattle.swreq_machine.proofs.swreq_symbols.OfTexts.{ids_over, text_over}
use Rattle.swreq_machine.proofs.Listing.{list_in_text}
use Rattle.swreq_minimal.specs.Evident.{IsOfEquation}
use Rattle.swreq_minimal.proofs.Showing.{evident}
use Rattle.swreq_minimal.proofs.evidence.is_evident.Goals as goal

pub invariant_of-among : goal.invariant_of-among
invariant_of-among c = record { known = ∣ (rw (← c.checked.view_is) at c.requires).known ∣₁ }

pub returns-in-Some : goal.returns-in-Some
returns-in-Some c =
    let text = c.args.setting.now.checked.text in
    let params = c.args.setting.now.params in
    let r = c.args.r in
    let list = c.args.list.now in
    let at = c.checked.view_is in
    let of_rule = rw c.in-Some.is at c.in_ok-found.ensures in
    IfOk-weaker c.is_shown.result _ _ (λ b law h.
    evident (world_of text) (text_over text).closed (generic_params params) (listed text.table.now list)
    (list_in_text text.table.now text.world.now.lexicon (ids_over text) params list c.requires.known)
    (requirement_of text.table.now r)
    (subst (λ (z : CheckedView). IsPlain (facts_of (world_of z.text)) (generic_params params) (listed z.text.table.now list)) at
    (c.are_plain.ensures c.if-not-are_plain.false))
    (subst (λ (z : CheckedView). HasPlainTypes (facts_of (world_of z.text)) (generic_params params) (listed z.text.table.now list)
    (requirement_of z.text.table.now r)) at (c.has_plain_types.ensures c.if-not-has_plain_types.false))
    c.in_ok-rules.rules.items c.in-Some.rule c.in_ok-rules.ensures
    (subst (λ (z : CheckedView). IsOfEquation (symbols_of z.text.world.now.lexicon) (requirement_of z.text.table.now r) c.in-Some.rule) at
    of_rule) (law h)) c.is_shown.ensures

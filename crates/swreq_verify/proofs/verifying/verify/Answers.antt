use Rattle.std.proofs.Common.{◌≡◌, ◌∙◌, refl, sym, ap, subst, ℕ, List, length, map}
use Rattle.std.proofs.lemmas.List.{length-map}
use Rattle.swreq_world.specs.swreq_lowering.ByTable.{query_by}
use Rattle.swreq_text.specs.Lines.{lines}
use Rattle.swreq_symbols.proofs.Growing.{text_stays, world_stays}
use Rattle.swreq_world.specs.ByTable.{world_by}
use Rattle.swreq_world.specs.Worlds.{TextWorld}
use Rattle.swreq_verify.specs.declared.reading.Section.{Section}
use Rattle.swreq_verify.specs.Laying.{section_of}
use Rattle.swreq_verify.specs.Outputs.{AreJudged, judgement_lines}
use Rattle.swreq_verify.specs.SecondParts.{AreSections}
use Rattle.swreq_verify.proofs.verifying.verify.Goals as goal

pub invariant_of-text : goal.invariant_of-text
invariant_of-text c = record {
  belong = ∣ text_stays c.args.table.now c.read_sections.new.table c.in_ok-sections.ensures.extends c.args.world.now c.requires.text ∣₁;
}

pub returns-clause-output : goal.returns-clause-output
returns-clause-output c =
    let old = c.args.table.now in
    let new = c.read_sections.new.table in
    let world = c.args.world.now in
    let items = c.in_ok-sections.sections.items in
    let said = c.in_ok-append_judgements.ensures.ok in
    let judged =
    subst (λ (ss : List Section). AreJudged (world_by new world) (map (section_of new) ss) said.0) c.deref.ensures.value said.1 in
    let count : length c.queries-count.result.now ≡ length (map (query_by old) world.queries) = ap length c.queries-count.ensures
    ∙ sym (length-map world.queries (query_by old)) in (
      judgement_lines said.0,
      record {
        sections = map (section_of new) items;
        judgements = said.0;
        fits = subst (λ (n : ℕ). AreSections world.lexicon n (lines c.args.text.now) (map (section_of new) items)) count
            (subst (λ x.
            AreSections x (length c.queries-count.result.now) (lines c.args.text.now) (map (section_of new) items)) c.lexicon.ensures
            c.in_ok-sections.ensures.sections);
        judged = subst (λ (w : TextWorld). AreJudged w (map (section_of new) items) said.0)
            (world_stays old new c.in_ok-sections.ensures.extends world c.requires.text.table) judged;
        printed = refl;
      },
      said.2,
    )

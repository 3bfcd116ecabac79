use Rattle.std.proofs.Common.{◌≡◌, ◌∙◌, ◌⊎◌, ◌++◌, ◌∷◌, [], get_or, subst, sym}
use Rattle.std.proofs.lemmas.List.Elements.{Contains-get_or}
use Rattle.swreq_candidates.specs.Evidence.{AreRulesOfRest}
use Rattle.swreq_machine.specs.swreq_derive.Facts.{requirement_of}
use Rattle.swreq_machine.specs.swreq_symbols.Meaning.{facts_of, symbols_of}
use Rattle.swreq_machine.specs.swreq_symbols.Texts.{world_of}
use Rattle.swreq_machine.specs.swreq_valid.Plans.{listed}
use Rattle.swreq_machine.specs.swreq_valid.Rounds.{last_rules}
use Rattle.swreq_machine.specs.swreq_rule.declared.rules.Rule.{Rule}
use Rattle.swreq_machine.specs.swreq_valid.Checked.{CheckedView}
use Rattle.swreq_minimal.specs.Evident.{IsOfEquation}
use Rattle.swreq_minimal.proofs.Inserting.{any, in_listed}
use Rattle.swreq_minimal.proofs.Showing.{of_protocols, one_more}
use Rattle.swreq_minimal.proofs.evidence.rules_of.Goals as goal

pub add_rule-requires : goal.add_rule-requires
add_rule-requires c =
    (rw (← c.checked.view_is) at c.requires) (get_or c.args.list.now c.loop-k.k any)
    (Contains-get_or c.args.list.now c.loop-k.k any c.loop-k-test.true)

pub loop-k-init : goal.loop-k-init
loop-k-init c =
    let text = c.checked.inside.text in
    let m = symbols_of text.world.now.lexicon in
    let f = facts_of (world_of text) in
    let list = listed text.table.now c.args.list.now in
    rw (← c.checked.view_is)
    (subst (AreRulesOfRest m f [] list) (sym (c.in_ok-rules.ensures ∙ c.rules.ensures))
    (of_protocols m f list (last_rules c.checked.inside.protocols.now.rounds) c.checked.invariant))

pub loop-k-preserved : goal.loop-k-preserved
loop-k-preserved c =
    let text = c.args.checked.now.text in
    let r = get_or c.args.list.now c.loop-k.k any in
    let old = c.loop-k.rules.items in
    let new = c.add_rule.new.rules.items in
    one_more (symbols_of text.world.now.lexicon) (facts_of (world_of text)) (listed text.table.now c.args.list.now)
    old new (requirement_of text.table.now r)
    (in_listed text.table.now r c.args.list.now (Contains-get_or c.args.list.now c.loop-k.k any c.loop-k-test.true))
    c.loop-k.invariant
    (subst (λ (z : CheckedView). (new ≡ old) ⊎ ((rule : Rule) × (new ≡ old ++ rule ∷ [])
    × IsOfEquation (symbols_of z.text.world.now.lexicon) (requirement_of z.text.table.now r) rule))
    c.checked.view_is c.in_ok-add_rule.ensures)

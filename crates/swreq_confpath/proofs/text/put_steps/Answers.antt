use Rattle.std.proofs.Common.{◌++◌, ◌+◌, ◌-◌, ◌∙◌, List, map, get_or, drop, sym, ap, subst}
use Rattle.swreq_machine.specs.swreq_derive.declared.requirements.Requirement.{Requirement}
use Rattle.swreq_machine.specs.swreq_derive.declared.requirements.Requirement.TheVariants.{Conf}
use Rattle.swreq_machine.specs.swreq_derive.Facts.{requirement_of}
use Rattle.swreq_print.specs.Signatures.{self_text}
use Rattle.swreq_machine.specs.swreq_lexicon.Views.{LexiconView}
use Rattle.swreq_machine.proofs.swreq_symbols.OfText.{own_requirements}
use Rattle.swreq_machine.specs.swreq_world.ByTable.{world_by}
use Rattle.swreq_machine.specs.swreq_world.FactsAt.{facts_of}
use Rattle.swreq_confpath.specs.Numbers.{AreNumbersBehind, in_brackets, steps_text}
use Rattle.swreq_confpath.proofs.Requirements.{protocol_in_list}
use Rattle.swreq_confpath.proofs.Texting.{is_member, names, names_protocol, next_left, number_is, number_within, requirement_is, step_written}
use Rattle.swreq_machine.proofs.swreq_symbols.OfTexts.{text_over}
use Rattle.swreq_confpath.proofs.text.put_steps.Goals as goal

pub bounds-bare_requirements-number : goal.bounds-bare_requirements-number
bounds-bare_requirements-number c =
    let terms = c.args.text.now.table.now in
    let w = c.args.text.now.world.now in
    let f = facts_of (world_by terms w) in
    let at = c.loop-k.at in
    let k = c.loop-k.k in
    let h = subst (AreNumbersBehind f at) (next_left c.args.steps.now k c.loop-k-test.true) c.loop-k.invariant.left in
    let list = c.bare_requirements.result.now in
    let same =
    own_requirements w terms at ∙ ap (λ (z : List Requirement). map (requirement_of terms) z) (sym c.bare_requirements.ensures) in
    number_within terms (f.of_protocol at) list same (get_or c.args.steps.now k 0) h.0 h.1 h.2

pub put_step-requires : goal.put_step-requires
put_step-requires c =
    let terms = c.args.text.now.table.now in
    let w = c.args.text.now.world.now in
    let f = facts_of (world_by terms w) in
    let at = c.loop-k.at in
    let k = c.loop-k.k in
    let n = get_or c.args.steps.now k 0 in
    let first : Requirement = Conf (record { place = 0 }) (record { rank = 0 }) in
    let h = subst (AreNumbersBehind f at) (next_left c.args.steps.now k c.loop-k-test.true) c.loop-k.invariant.left in
    let list = c.bare_requirements.result.now in
    let same =
    own_requirements w terms at ∙ ap (λ (z : List Requirement). map (requirement_of terms) z) (sym c.bare_requirements.ensures) in
    let all = protocol_in_list terms w (text_over c.args.text.now) at list c.bare_requirements.ensures in
    (all (get_or list (n - 1) first) (is_member terms (f.of_protocol at) list same n h.0 h.1 h.2 first)).0

pub loop-k-preserved : goal.loop-k-preserved
loop-k-preserved c =
    let terms = c.args.text.now.table.now in
    let w = c.args.text.now.world.now in
    let x = w.lexicon in
    let facts = facts_of (world_by terms w) in
    let at = c.loop-k.at in
    let k = c.loop-k.k in
    let n = get_or c.args.steps.now k 0 in
    let first : Requirement = Conf (record { place = 0 }) (record { rank = 0 }) in
    let left = next_left c.args.steps.now k c.loop-k-test.true in
    let h = subst (AreNumbersBehind facts at) left c.loop-k.invariant.left in
    let list = c.bare_requirements.result.now in
    let same =
    own_requirements w terms at ∙ ap (λ (z : List Requirement). map (requirement_of terms) z) (sym c.bare_requirements.ensures) in
    let rs = facts.of_protocol at in
    let all = protocol_in_list terms w (text_over c.args.text.now) at list c.bare_requirements.ensures in
    let known = all (get_or list (n - 1) first) (is_member terms rs list same n h.0 h.1 h.2 first) in
    let named = names terms rs list same n h.0 h.1 h.2 first c.protocol_named-at.result (c.protocol_named-at.ensures terms) in
    record {
      proto = names_protocol terms rs list same n h.0 h.1 h.2 x first c.protocol_named-at.result known (c.protocol_named-at.ensures terms);
      left = subst (λ q. AreNumbersBehind facts q (drop (k + 1) c.args.steps.now)) (sym named) h.3;
      text = step_written x facts at c.protocol_named-at.result n
          (drop (k + 1) c.args.steps.now) h.0 h.1 c.loop-k.out.items c.put_step.new.out.items
          (requirement_of terms (get_or list (n - 1) first)) (requirement_is terms rs list same n h.0 h.1 h.2)
          (number_is terms rs list same n h.0 h.1 h.2 first) named
          (c.in_ok-put_step.ensures ∙ ap (λ (z : LexiconView).
          c.loop-k.out.items ++ in_brackets (self_text z (requirement_of terms (get_or list (n - 1) first)))) c.lexicon.ensures)
          ∙ (sym (ap (λ z. c.loop-k.out.items ++ steps_text x facts at z) left) ∙ c.loop-k.invariant.text);
    }

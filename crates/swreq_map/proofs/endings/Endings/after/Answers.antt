use Rattle.std.proofs.Common.{◌≡◌, ◌∙◌, ◌+◌, inl, inr, ap, sym, subst, arith, length-drop, Some, slice_get}
use Rattle.std.proofs.lemmas.Bool.{cases_eq}
use Rattle.std.proofs.lemmas.List.{get_or-drop}
use Rattle.std.proofs.lemmas.Option.{slice_get-get_or}
use Rattle.swreq_complete.specs.swreq_rule.declared.rules.Rule.{Rule}
use Rattle.swreq_map.proofs.endings.Endings.after.Goals as goal

pub loop-k-preserved : goal.loop-k-preserved
loop-k-preserved c = record {
  kept = λ n rule v x from l e f p. elim (cases_eq n c.loop-k.k) [
    | inl i ↦ (let here = c.rule.ensures in
        let there = subst (λ m. slice_get c.args.rules.now m ≡ Some rule) i e in
        let same : c.rule.result.now ≡ rule = cc in
        c.in_ok-add_end.ensures.added v x (c.symbols-left.ensures ∙ ap (λ (r : Rule). r.left) same ∙ f) p)
    | inr i ↦ c.add_end.ensures.kept v x (c.loop-k.invariant.kept n rule v x from (omega (arith, l, i)) e f p)
  ];
  distinct = c.add_end.ensures.distinct;
}

pub returns : goal.returns
returns c rule v x (k, within, is) f p =
    let rules = c.args.rules.now in
    let from = c.args.from in
    let size = simp length-drop at within in
    let there = slice_get-get_or rules (from + k) rule (omega (arith, size)) ∙ ap Some (sym (get_or-drop from rules k rule) ∙ is) in
    c.loop-k.invariant.kept (from + k) rule v x (omega arith)
    (omega (arith, c.loop-k-test.false, c.count-k-end.ensures.count, size)) there f p

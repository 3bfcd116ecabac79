use Rattle.std.proofs.Common.{◌≡◌, sym, ap, ◌∙◌}
use Rattle.std.specs.Ordering.{ordering_then}
use Rattle.std.specs.declared.cmp.Ordering.TheVariants.{Less, Greater}
use Rattle.swreq_param.specs.Tables.{term_at}
use Rattle.swreq_param.specs.Comparison.{alike_cmp}
use Rattle.swreq_param.proofs.Comparing.{walked_compares, equal_ids, same_id, alike_reflexive}
use Rattle.swreq_param.proofs.table.ParamTable.compare.Goals as goal

pub returns-in-Param-Param-clause-order : goal.returns-in-Param-Param-clause-order
returns-in-Param-Param-clause-order c =
    walked_compares (term_at c.args.self.now c.args.a) (term_at c.args.self.now c.args.b) (term_at c.args.self.now c.loop-left.left)
    (term_at c.args.self.now c.loop-left.right) c.loop-left.after c.then.result c.loop-left.invariant.2
    (c.then.ensures ∙ ap (λ o. ordering_then o c.loop-left.after) c.cmp.ensures
    ∙ (λ i. ordering_then (alike_cmp (sym c.in-Param-Param.ensures.0 i) (sym c.in-Param-Param.ensures'.0 i)) c.loop-left.after))

pub returns-in-Param-Param-clause-equal : goal.returns-in-Param-Param-clause-equal
returns-in-Param-Param-clause-equal c = equal_ids c.args.self.now c.args.a c.args.b c.then.result c.len-count.ensures.distinct
    c.requires.left c.requires.right (returns-in-Param-Param-clause-order c)

pub returns-in-Param-Member-clause-order : goal.returns-in-Param-Member-clause-order
returns-in-Param-Member-clause-order c =
    walked_compares (term_at c.args.self.now c.args.a) (term_at c.args.self.now c.args.b) (term_at c.args.self.now c.loop-left.left)
    (term_at c.args.self.now c.loop-left.right) c.loop-left.after Less c.loop-left.invariant.2
    (λ i. ordering_then (alike_cmp (sym c.in-Param-Member.ensures.0 i) (sym c.in-Param-Member.ensures'.0 i)) c.loop-left.after)

pub returns-in-Param-Member-clause-equal : goal.returns-in-Param-Member-clause-equal
returns-in-Param-Member-clause-equal c = equal_ids c.args.self.now c.args.a c.args.b Less c.len-count.ensures.distinct c.requires.left
    c.requires.right (returns-in-Param-Member-clause-order c)

pub returns-in-Member-Param-clause-order : goal.returns-in-Member-Param-clause-order
returns-in-Member-Param-clause-order c =
    walked_compares (term_at c.args.self.now c.args.a) (term_at c.args.self.now c.args.b) (term_at c.args.self.now c.loop-left.left)
    (term_at c.args.self.now c.loop-left.right) c.loop-left.after Greater c.loop-left.invariant.2
    (λ i. ordering_then (alike_cmp (sym c.in-Member-Param.ensures.0 i) (sym c.in-Member-Param.ensures'.0 i)) c.loop-left.after)

pub returns-in-Member-Param-clause-equal : goal.returns-in-Member-Param-clause-equal
returns-in-Member-Param-clause-equal c = equal_ids c.args.self.now c.args.a c.args.b Greater c.len-count.ensures.distinct c.requires.left
    c.requires.right (returns-in-Member-Param-clause-order c)

pub returns-clause-order : goal.returns-clause-order
returns-clause-order c =
    let e : c.loop-left.left ≡ c.loop-left.right = same_id c.loop-left.left c.loop-left.right (sym c.ne.ensures ∙ c.loop-left-test.false) in
    walked_compares (term_at c.args.self.now c.args.a) (term_at c.args.self.now c.args.b) (term_at c.args.self.now c.loop-left.left)
    (term_at c.args.self.now c.loop-left.right) c.loop-left.after c.loop-left.after c.loop-left.invariant.2
    (ap (λ o. ordering_then o c.loop-left.after) (sym (ap (λ x. alike_cmp (term_at c.args.self.now c.loop-left.left)
    (term_at c.args.self.now x)) (sym e) ∙ alike_reflexive (term_at c.args.self.now c.loop-left.left))))

pub returns-clause-equal : goal.returns-clause-equal
returns-clause-equal c = equal_ids c.args.self.now c.args.a c.args.b c.loop-left.after c.len-count.ensures.distinct c.requires.left
    c.requires.right (returns-clause-order c)

-- Words that reduce to one word are linked, and by complete rules linked words reduce to one.
use Rattle.std.proofs.Common.{◌≡◌, inl, inr, sym, subst, List}
use Rattle.swreq_rule.specs.swreq_word.declared.symbols.Symbol.{Symbol}
use Rattle.swreq_rule.specs.swreq_word.Relations.{Linked}
use Rattle.swreq_rule.specs.swreq_word.Relations.Chain.{done, more}
use Rattle.swreq_rule.proofs.swreq_word.Chains.{linked_back, linked_chain, linked_on}
use Rattle.swreq_rule.proofs.swreq_word.LeastWords.{one_least}
use Rattle.swreq_rule.proofs.swreq_word.WordsFounded.{words_founded}
use Rattle.swreq_rule.proofs.swreq_lemmas.Induction.{by_below}
use Rattle.swreq_rule.specs.declared.rules.Rule.{Rule}
use Rattle.swreq_rule.specs.Reduction.{Reduces}
use Rattle.swreq_rule.specs.Steps.{Step}
use Rattle.swreq_rule.proofs.Downward.{step_down}
use Rattle.swreq_rule.proofs.Search.{a_step, all_steps, reduction_step}
use Rattle.swreq_complete.specs.Complete.{IsComplete}
use Rattle.swreq_complete.specs.Laws.{AlikeAreLinked, LinkedAreAlike}
use Rattle.swreq_complete.proofs.Answering.{reduces_least}

-- each word reduces to one
pub each_reduces : (rules : List Rule) (u : List Symbol) → (v : List Symbol) × Reduces rules u v
each_reduces rules u = by_below (λ u. (v : List Symbol) × Reduces rules u v)
    (λ u ih. elim (reduction_step rules u) [
      | inl s ↦ (let r = ih s.0 (step_down rules u s.0 (a_step rules u s.0 s.1)) in
          (r.0, record { steps = more s.1 r.1.steps; irreducible = r.1.irreducible }))
      | inr i ↦ (u, record { steps = done; irreducible = i })
    ])
    (words_founded u)

-- reduction links
pub reduct_linked : (rules : List Rule) (u v : List Symbol) → Reduces rules u v → Linked (Step rules) u v
reduct_linked rules u v r = linked_chain (all_steps rules r.steps)

pub alike_are_linked : (rules : List Rule) → AlikeAreLinked rules
alike_are_linked rules u v a = linked_on (reduct_linked rules u a.0 a.1) (linked_back (reduct_linked rules v a.0 a.2))

-- by complete rules linked words reduce to one
pub one_reduct : (rules : List Rule) → IsComplete rules → (u v m n : List Symbol) → Linked (Step rules) u v → Reduces rules u m
    → Reduces rules v n → m ≡ n
one_reduct rules c u v m n h p q =
    let a = reduces_least rules c u m p in
    let b = reduces_least rules c v n q in
    one_least (Linked (Step rules)) m n (linked_on (linked_back a.0) (linked_on h b.0))
    (linked_on (linked_back b.0) (linked_on (linked_back h) a.0)) a.1 b.1

pub linked_are_alike : (rules : List Rule) → LinkedAreAlike rules
linked_are_alike rules c u v h =
    let p = each_reduces rules u in
    let q = each_reduces rules v in
    (p.0, p.1, subst (Reduces rules v) (sym (one_reduct rules c u v p.0 q.0 h p.1 q.1)) q.1)

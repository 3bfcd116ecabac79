-- Evidence links the two sides of its rule without the rule.
use Rattle.std.proofs.Common.{◌≢◌, ℕ, ◌+◌, subst, Bool, List}
use Rattle.swreq_rule.specs.swreq_word.declared.symbols.Symbol.{Symbol}
use Rattle.swreq_rule.specs.swreq_word.Relations.{Linked}
use Rattle.swreq_rule.specs.swreq_word.Relations.Linked.{here, forth}
use Rattle.swreq_rule.specs.swreq_word.Replacement.{Replaced}
use Rattle.swreq_rule.proofs.swreq_word.Congruence.{Replaced-whole, congruent_in_place}
use Rattle.swreq_rule.specs.declared.rules.Rule.{Rule}
use Rattle.swreq_rule.specs.Steps.{RuleAt}
use Rattle.swreq_rule.proofs.Context.{Linked-in-place}
use Rattle.swreq_rule.proofs.Numbers.{one_rule, rule_at}
use Rattle.swreq_path.proofs.Links.{steps_link}
use Rattle.swreq_homotopy.specs.declared.around.Evidence.{Evidence}
use Rattle.swreq_homotopy.specs.Evidence.{IsMarked, DoesWithout}
use Rattle.swreq_homotopy.specs.Laws.{EvidenceLinks, EvidenceIsCongruent}

-- in any relation that goes on into longer words and links the sides of the other kept rules
pub without : (rules : List Rule) (keep : List Bool) (evidence : Evidence) (rule : Rule) {R : List Symbol → List Symbol → Type 0}
    → DoesWithout rules keep evidence → RuleAt rules evidence.rule rule
    → ((u v l r : List Symbol) → Replaced u v l r → Linked R l r → Linked R u v)
    → ((k : ℕ) (other : Rule) → RuleAt rules k other → IsMarked keep k → k ≢ evidence.rule → Linked R other.left other.right)
    → Linked R rule.left rule.right
without rules keep evidence rule {R} d is place each =
    let same = one_rule rules evidence.rule d.rule rule d.is_rule is in
    let path = evidence.path in
    subst (λ (x : Rule). Linked R x.left x.right) same
    (subst (λ u. Linked R u d.rule.right) d.start
    (steps_link rules (λ step. (step.rule ≢ evidence.rule) × IsMarked keep step.rule) place
    (λ step other o at. each step.rule other at o.1 o.0)
    path.steps path.start d.rule.right d.others d.target))

pub evidence_links : (rules : List Rule) (keep : List Bool) → EvidenceLinks rules keep
evidence_links rules keep evidence others rule d is has =
    without rules keep evidence rule d is (λ u v l r s k. Linked-in-place s k)
    (λ k other at m ne. let h = has k other at m ne in
    forth (record { rule = other; number = h.0 + 1; is_rule = rule_at others h.0 other h.1; at = Replaced-whole }) here)

pub evidence_is_congruent : (rules : List Rule) (keep : List Bool) → EvidenceIsCongruent rules keep
evidence_is_congruent rules keep evidence equations rule d is each =
    without rules keep evidence rule d is (λ u v l r s k. congruent_in_place equations s k) each

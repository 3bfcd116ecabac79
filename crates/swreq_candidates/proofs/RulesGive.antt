-- Complete rules give the least word of each class, and their reduced system is that of the congruence for which they stand.
use Rattle.std.proofs.Common.{◌⊎◌, List, inl, inr}
use Rattle.swreq_canonical.specs.swreq_word.Relations.{IsIrreducible, Linked}
use Rattle.swreq_canonical.proofs.swreq_word.Chains.{linked_chain}
use Rattle.swreq_canonical.proofs.swreq_word.LeastWords.{least_along, minimal_along}
use Rattle.swreq_canonical.proofs.swreq_word.Newman.{normal}
use Rattle.swreq_canonical.proofs.swreq_word.WordsFounded.{words_founded}
use Rattle.swreq_rounds.specs.swreq_rule.declared.rules.Rule.{Rule}
use Rattle.swreq_rounds.specs.swreq_rule.Steps.{Step}
use Rattle.swreq_rounds.proofs.swreq_rule.Downward.{step_down}
use Rattle.swreq_rounds.proofs.swreq_rule.Search.{a_step, reduction_step}
use Rattle.swreq_rounds.specs.swreq_pair.CriticalPairs.{PairsMeet}
use Rattle.swreq_rounds.proofs.swreq_pair.CriticalPairs.{locally}
use Rattle.swreq_rounds.specs.swreq_complete.Reduced.{IsReducedSystem}
use Rattle.swreq_rounds.proofs.swreq_complete.ReducedSystem.{irreducible_least}
use Rattle.swreq_canonical.specs.swreq_correspondence.Equations.{Linking}
use Rattle.swreq_canonical.specs.swreq_correspondence.Symbols.{Word}
use Rattle.swreq_rounds.specs.Presents.{Presents}
use Rattle.swreq_candidates.specs.Completed.{HasLeastWords}

-- a step leads on from a word, or none does
some_step : (rules : List Rule) (w : Word) → ((v : Word) × Step rules w v) ⊎ IsIrreducible (Step rules) w
some_step rules w = elim (reduction_step rules w) [ inl s ↦ inl (s.0, a_step rules w s.0 s.1) | inr i ↦ inr i ]

module _ (rules : List Rule) (E : Word → Word → Type 0) (present : Presents rules E) where
  there : (u v : Word) → Linked (Step rules) u v → Linking E u v
  there u v = (present u v).0

  back : (u v : Word) → Linking E u v → Linked (Step rules) u v
  back u v = (present u v).1

  pub least_words : PairsMeet rules → HasLeastWords E
  least_words meet w =
      let (n, c, i) = normal (step_down rules) words_founded (some_step rules) w in (
        n,
        there w n (linked_chain c),
        least_along (Linked (Step rules)) (Linking E) there back n (irreducible_least rules (locally rules meet) n i),
      )

  pub reduced_system : (system : List Rule) → IsReducedSystem (Linked (Step rules)) system → IsReducedSystem (Linking E) system
  reduced_system system h = record {
    each = λ k rule e. let (m, c, l) = h.each k rule e in (
      minimal_along (Linked (Step rules)) (Linking E) there back rule.left m,
      there rule.left rule.right c,
      least_along (Linked (Step rules)) (Linking E) there back rule.right l,
    );
    all = λ w m. h.all w (minimal_along (Linking E) (Linked (Step rules)) back there w m);
    sorted = h.sorted;
  }

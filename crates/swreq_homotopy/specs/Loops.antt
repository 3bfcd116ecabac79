-- The loop of a pair of rules.
use Rattle.std.specs.Prelude.{◌≡◌, ℕ, List, ◌∷◌, ◌++◌}
use Rattle.swreq_rule.specs.swreq_word.declared.symbols.Symbol.{Symbol}
use Rattle.swreq_rule.specs.swreq_word.Relations.{IsIrreducible}
use Rattle.swreq_rule.specs.declared.rules.Rule.{Rule}
use Rattle.swreq_rule.specs.declared.rules.Place.{Place}
use Rattle.swreq_rule.specs.Steps.{Step}
use Rattle.swreq_rule.specs.Reduction.{Reduces}
use Rattle.swreq_pair.specs.Pairs.{IsPair}
use Rattle.swreq_pair.specs.PairWords.{IsPairWord}
use Rattle.swreq_path.specs.declared.steps.RewriteStep.{RewriteStep}
use Rattle.swreq_path.specs.declared.paths.Loop.{Loop}
use Rattle.swreq_path.specs.Inverse.{inverse}
use Rattle.swreq_path.specs.Reductions.{StepsAt, StepsReduce}

-- the two sides of the pair at this place reduce to one word
abbrev pub SidesReduceToOne : List Rule → Place → Type 0
SidesReduceToOne rules place = (left : List Symbol) × (right : List Symbol) × (end : List Symbol)
    × IsPair rules place left right × Reduces rules left end × Reduces rules right end

-- the steps: the first by the rule with this number at this place of w, which leads to this side, and then those of the reduction of the
-- side, which end here
pub record ReducesThrough (rules : List Rule) (steps : List RewriteStep) (at number : ℕ) (w side end : List Symbol) : Type 0 where
  pub first : RewriteStep
  pub others : List RewriteStep
  pub steps_are : steps ≡ first ∷ others
  pub goes_to_side : StepsAt rules first at number w side
  pub reduces : StepsReduce rules others side end
  pub irreducible : IsIrreducible (Step rules) end

-- From the word of the pair by its first rule through its left side to the word to which both sides reduce, and from there through the
-- right side back to the word of the pair, by the inverse of the steps that its second rule begins.
pub record IsLoopOfPair (rules : List Rule) (place : Place) (round : Loop) : Type 0 where
  pub left : List Symbol
  pub right : List Symbol
  pub end : List Symbol
  pub out : List RewriteStep
  pub back : List RewriteStep
  pub sides : IsPair rules place left right
  pub word_is : IsPairWord rules place round.path.start
  pub through_left : ReducesThrough rules out 0 place.i round.path.start left end
  pub through_right : ReducesThrough rules back place.at place.j round.path.start right end
  pub steps_are : round.path.steps ≡ out ++ inverse back

-- What paths have to do with links.
use Rattle.std.specs.Prelude.{◌≡◌, ◌↔◌, List}
use Rattle.swreq_rule.specs.swreq_word.declared.symbols.Symbol.{Symbol}
use Rattle.swreq_rule.specs.swreq_word.Relations.{Linked}
use Rattle.swreq_rule.specs.declared.rules.Rule.{Rule}
use Rattle.swreq_rule.specs.Steps.{Step}
use Rattle.swreq_rule.specs.Reduction.{Reduces}
use Rattle.swreq_path.specs.declared.paths.Path.{Path}
use Rattle.swreq_path.specs.Paths.{HasTarget}
use Rattle.swreq_path.specs.Reductions.{IsReductionPath}

-- A path over the rules has one target.
abbrev pub PathsHaveOneTarget : List Rule → Type 0
PathsHaveOneTarget rules = (path : Path) (v w : List Symbol) → HasTarget rules path v → HasTarget rules path w → v ≡ w

-- A path over the rules leads from one word to another if and only if steps, each forth or back, do.
abbrev pub PathsAreLinks : List Rule → Type 0
PathsAreLinks rules =
    (u v : List Symbol) → Linked (Step rules) u v ↔ ((path : Path) × (path.start ≡ u) × HasTarget rules path v)

-- The path of a word's reduction is a path over the rules from the word to that to which it reduces.
abbrev pub ReductionPathsReduce : List Rule → Type 0
ReductionPathsReduce rules =
    (path : Path) (w v : List Symbol) → IsReductionPath rules path w v → HasTarget rules path v × Reduces rules w v

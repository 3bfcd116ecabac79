-- What a derivation states before and after a rule, an equation or a requirement of the history is read after a type parameter.
use Rattle.std.specs.Prelude.{ℕ, List, ◌++◌, take}
use Rattle.swreq_param.specs.{declared.ids.TermId.{TermId}, Tables.{IsOf, term_at}}
use Rattle.swreq_correspondence.specs.swreq_word.declared.symbols.Symbol.{Symbol}
use Rattle.swreq_complete.specs.{swreq_rule.declared.rules.Rule.{Rule}, swreq_path.Paths.{HasTarget, replaced_side}}
use Rattle.swreq_complete.specs.swreq_path.declared.{paths.Path.{Path}, steps.RewriteStep.{RewriteStep}}
use Rattle.swreq_derivation.specs.{declared.derivation.Derivation.{Derivation}, Origins.{ConformsIfAny}}
use Rattle.swreq_readings.specs.{declared.alphabet.Alphabet.{Alphabet}, Readable.{AllowsWord, AreReadEqual, read_word}}
use Rattle.swreq_births.specs.declared.history.{Equation.{Equation}, History.{History}, RulePlace.{RulePlace}}
use Rattle.swreq_births.specs.{declared.types.ReadingPlace.{ReadingPlace}, Heads.{IsHeadStated}}
use Rattle.swreq_births.specs.Systems.{HasEquation, HasRule, HasRules, HasSystem, rules_at}

-- The rule stands at this place of the history, and the lines of a derivation under way state what it asks of the type parameter of the id.
pub record AllowsRule (b : History) (s : Derivation) (at : RulePlace) (r : Rule) (t : TermId) : Type 0 where
  pub rule : HasRule b at r
  pub subject : IsOf s.table t
  pub head : IsHeadStated b.alphabet s (term_at s.table t) r.left

-- The system has the equation, and the lines of a derivation under way state what its left side asks of the type parameter of the id.
pub record AllowsEquation (b : History) (s : Derivation) (system : ℕ) (e : Equation) (t : TermId) : Type 0 where
  pub equation : HasEquation b system e
  pub subject : IsOf s.table t
  pub head : IsHeadStated b.alphabet s (term_at s.table t) e.left

-- The history has the system, and a line of a derivation under way states that what stands for `Self` conforms to the owner, if any.
pub record AllowsScope (b : History) (s : Derivation) (scope : ReadingPlace) : Type 0 where
  pub system : HasSystem b scope.system
  pub for_self : IsOf s.table scope.for_self
  pub owner : ConformsIfAny s (term_at s.table scope.for_self) scope.owner

-- The grown derivation states that the two sides of the rule are read alike after what the id stood for.
abbrev pub IsSaid : History → Derivation → Derivation → TermId → Rule → Type 0
IsSaid b old new subject rule = AreReadEqual b.alphabet new (term_at old.table subject) rule.left rule.right

-- The path leads to the word, over the rules of the system before this place.
abbrev pub LeadsTo : History → RulePlace → Path → List Symbol → Type 0
LeadsTo b at path w = HasTarget (take at.rule (rules_at b at.system)) path w

-- It is a history, and the path leads to a word over the rules of the system before this place.
pub record IsPathAt (b : History) (at : RulePlace) (path : Path) : Type 0 where
  pub rules : HasRules b at
  pub end : List Symbol
  pub leads : LeadsTo b at path end

-- The step puts one side of the rule in place of the other. Lines allow the word before the step after T. The two sides are read alike
-- after what stands before them in it.
pub record IsStepAllowed (g : Alphabet) (s : Derivation) (t : TermId) (rule : Rule) (step : RewriteStep) : Type 0 where
  pub subject : IsOf s.table t
  pub both : AreReadEqual g s (read_word g (term_at s.table t) step.before) rule.left rule.right
  pub word : AllowsWord g s (term_at s.table t) (step.before ++ (replaced_side step.forward rule ++ step.after))

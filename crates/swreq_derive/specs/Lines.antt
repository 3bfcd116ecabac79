-- Lines of derivations over the ids of a table of type parameters.
use Rattle.std.specs.Prelude.{◌≡◌, ◌<◌, ℕ, List, [], ◌∷◌, Some, length, map, slice_get}
use Rattle.swreq_param.specs.Terms.{Term}
use Rattle.swreq_derive.specs.declared.lines.DerivRule.{DerivRule}
use Rattle.swreq_derive.specs.declared.lines.DerivRule.TheVariants as Rule
use Rattle.swreq_derive.specs.declared.lines.Line.{Line}
use Rattle.swreq_derive.specs.declared.premises.Premises.{Premises}
use Rattle.swreq_derive.specs.declared.premises.Premises.TheVariants.{Zero, One, Two, Other}
use Rattle.swreq_derive.specs.declared.requirements.Statement.{Statement}
use Rattle.swreq_derive.specs.Facts.{requirement_of, statement_of, IdFacts, generic_params, term_facts, IsStatementOver}
use Rattle.swreq_derive.specs.Instances.{TermLine, IsInstance, AreStated, Follows, IsDerivation, IsFirstBad}

-- From these premises the rule gives this conclusion, over the facts.
abbrev pub IsGiven : List Term → IdFacts → DerivRule → List Statement → Statement → Type 0
IsGiven terms m rule from gives =
    IsInstance (term_facts terms m) (generic_params m.params) (map (requirement_of terms) m.written) rule (map (statement_of terms) from)
    (statement_of terms gives)

-- a line over type parameters
abbrev pub line_of : List Term → Line → TermLine
line_of terms l = record { rule = l.rule; premises = l.premises; statement = statement_of terms l.statement }

-- A line follows from these earlier statements.
abbrev pub IsNext : List Term → IdFacts → List Statement → Line → Type 0
IsNext terms m earlier l = Follows (term_facts terms m) (generic_params m.params) (map (requirement_of terms) m.written)
    (map (statement_of terms) earlier) (line_of terms l)

-- The lines are a derivation.
abbrev pub AreDerived : List Term → IdFacts → List Line → Type 0
AreDerived terms m ls =
    IsDerivation (term_facts terms m) (generic_params m.params) (map (requirement_of terms) m.written) (map (line_of terms) ls)

abbrev pub IsFirstNotDerived : List Term → IdFacts → List Line → ℕ → Type 0
IsFirstNotDerived terms m ls n =
    IsFirstBad (term_facts terms m) (generic_params m.params) (map (requirement_of terms) m.written) (map (line_of terms) ls) n

abbrev pub stated_by : List Line → List Statement
stated_by ls = map (λ l. l.statement) ls

-- ---- ids of the table and of the facts

abbrev pub IsRuleOf : IdFacts → DerivRule → Type 0
IsRuleOf m Rule.Generic = Unit {0}
IsRuleOf m (Rule.Conf n) = Unit {0}
IsRuleOf m (Rule.Same n) = Unit {0}
IsRuleOf m (Rule.Layout n) = Unit {0}
IsRuleOf m (Rule.AssocName p a) = (p.rank < m.protocols) × (a.rank < m.names)
IsRuleOf m (Rule.AssocDecl p a) = (p.rank < m.protocols) × (a.rank < m.names)
IsRuleOf m (Rule.AssocBind p a) = (p.rank < m.protocols) × (a.rank < m.names)
IsRuleOf m (Rule.AssocConf p n) = p.rank < m.protocols
IsRuleOf m (Rule.AssocSame p n) = p.rank < m.protocols
IsRuleOf m (Rule.AssocLayout p n) = p.rank < m.protocols
IsRuleOf m Rule.Reflex = Unit {0}
IsRuleOf m Rule.Symm = Unit {0}
IsRuleOf m Rule.Trans = Unit {0}
IsRuleOf m (Rule.SameConf p) = p.rank < m.protocols
IsRuleOf m Rule.SameLayout = Unit {0}
IsRuleOf m (Rule.SameName p a) = (p.rank < m.protocols) × (a.rank < m.names)
IsRuleOf m (Rule.SameDecl p a) = (p.rank < m.protocols) × (a.rank < m.names)

-- The ids of the line are of the table and of the facts.
abbrev pub IsLineOf : List Term → IdFacts → Line → Type 0
IsLineOf terms m l = IsRuleOf m l.rule × IsStatementOver terms m l.statement

abbrev pub AreLinesOf : List Term → IdFacts → List Line → Type 0
AreLinesOf terms m ls = (k : ℕ) (l : Line) → slice_get ls k ≡ Some l → IsLineOf terms m l

-- ---- the premises of a line, as they are read

-- The statements that are read are those with these numbers; where none are read, they are not one or two or none.
abbrev pub IsReadAs : List Statement → List ℕ → Premises → Type 0
IsReadAs earlier ns Zero = AreStated earlier ns []
IsReadAs earlier ns (One a) = AreStated earlier ns (a ∷ [])
IsReadAs earlier ns (Two a b) = AreStated earlier ns (a ∷ b ∷ [])
IsReadAs earlier ns Other = (sts : List Statement) → AreStated earlier ns sts → length sts < 3 → ⊥

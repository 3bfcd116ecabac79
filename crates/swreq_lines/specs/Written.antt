-- What the parts that are read of a line stand for.
use Rattle.std.specs.Prelude.{◌≡◌, ℕ, List, [], ◌∷◌, Option, Some, None, codes}
use Rattle.std.specs.Bool.{if◌then◌else◌}
use Rattle.std.specs.Str.{bytes_eq}
use Rattle.swreq_print.specs.swreq_param.declared.ids.NameId.{NameId}
use Rattle.swreq_print.specs.swreq_param.declared.ids.ProtoId.{ProtoId}
use Rattle.swreq_print.specs.swreq_param.Owned.{as_term}
use Rattle.swreq_print.specs.swreq_param.Terms.{Term}
use Rattle.swreq_print.specs.swreq_derive.declared.lines.DerivRule.{DerivRule}
use Rattle.swreq_print.specs.swreq_derive.declared.lines.DerivRule.TheVariants as Rule
use Rattle.swreq_print.specs.swreq_derive.Derivation.{TermStatement}
use Rattle.swreq_print.specs.swreq_derive.Derivation.TermRequirement.{Conforms, IsAnyObject, Equals}
use Rattle.swreq_print.specs.swreq_derive.Derivation.TermStatement.{IsValid, Requires}
use Rattle.swreq_print.specs.swreq_derive.Instances.{TermLine}
use Rattle.swreq_print.specs.swreq_lexicon.Views.{LexiconView}
use Rattle.swreq_print.specs.Names.{Text, protocol_name}
use Rattle.swreq_lines.specs.declared.lines.LinesErr.{LinesErr}
use Rattle.swreq_lines.specs.declared.lines.LinesErr.TheVariants.{Memory, Syntax}
use Rattle.swreq_lines.specs.declared.reading.WrittenLine.{WrittenLine}
use Rattle.swreq_lines.specs.declared.rules.Fields.{Fields}
use Rattle.swreq_lines.specs.declared.statements.WrittenStatement.{WrittenStatement}
use Rattle.swreq_lines.specs.declared.statements.WrittenStatement.TheVariants as written
use Rattle.swreq_lines.specs.GoodLines.{IsGood}
use Rattle.swreq_lines.specs.LineTexts.{rule_name}

-- the statement over type parameters
abbrev pub statement_meant : WrittenStatement → TermStatement
statement_meant (written.Valid t) = IsValid (as_term t)
statement_meant (written.Conforms t p) = Requires (Conforms (as_term t) p)
statement_meant (written.IsAnyObject t) = Requires (IsAnyObject (as_term t))
statement_meant (written.Equals t u) = Requires (Equals (as_term t) (as_term u))

-- the line over type parameters
abbrev pub line_meant : WrittenLine → TermLine
line_meant l = record { rule = l.rule; premises = l.premises.items; statement = statement_meant l.statement }

-- the rules that have these fields, or some of them
abbrev pub rules_with : ProtoId → NameId → ℕ → ℕ → List DerivRule
rules_with p a first second =
    Rule.Generic
    ∷ Rule.Conf first
    ∷ Rule.Same first
    ∷ Rule.Layout first
    ∷ Rule.AssocName p a
    ∷ Rule.AssocDecl p a
    ∷ Rule.AssocBind p a
    ∷ Rule.AssocConf p second
    ∷ Rule.AssocSame p second
    ∷ Rule.AssocLayout p second
    ∷ Rule.Reflex
    ∷ Rule.Symm
    ∷ Rule.Trans
    ∷ Rule.SameConf p
    ∷ Rule.SameLayout
    ∷ Rule.SameName p a
    ∷ Rule.SameDecl p a
    ∷ []

-- the first of the rules that has the name, or GENERIC
abbrev pub rule_named : List DerivRule → Text → DerivRule
rule_named [] name = Rule.Generic
rule_named (r ∷ rules) name = if bytes_eq (rule_name r) name then r else rule_named rules name

-- of the texts after no, one and two words, the one after these fields
abbrev pub by_count : Option ProtoId → Option NameId → Option ℕ → Text → Text → Text → Text
by_count None None None none one two = none
by_count None None (Some n) none one two = one
by_count (Some p) None None none one two = one
by_count None (Some a) n none one two = two
by_count (Some p) (Some a) n none one two = two
by_count (Some p) None (Some n) none one two = two

abbrev pub behind_fields : Fields → Text → Text → Text → Text
behind_fields f none one two = by_count f.protocol f.name f.number none one two

-- ---- statements

-- the word after `:` of a requirement of this form
abbrev pub property_text : LexiconView → Option ProtoId → Text
property_text x None = codes "AnyObject"
property_text x (Some p) = protocol_name x p

-- what it requires of a type parameter
abbrev pub property_of : Term → Option ProtoId → TermStatement
property_of t None = Requires (IsAnyObject t)
property_of t (Some p) = Requires (Conforms t p)

-- ---- lines

-- Syntax names the line with this number, which is not good.
abbrev pub IsRefusedAt : LexiconView → ℕ → Text → LinesErr → Type 0
IsRefusedAt x n bytes (Syntax m) = (m ≡ n) × (IsGood x n bytes → ⊥)
IsRefusedAt x n bytes Memory = Unit {0}

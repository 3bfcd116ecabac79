-- The texts of lines of derivations.
use Rattle.std.specs.Prelude.{ℕ, suc, List, [], ◌∷◌, ◌++◌, Option, Some, None, codes, decimal, map, IfSome}
use Rattle.swreq_text.specs.Joined.{joined}
use Rattle.swreq_print.specs.swreq_param.declared.ids.NameId.{NameId}
use Rattle.swreq_print.specs.swreq_param.declared.ids.ProtoId.{ProtoId}
use Rattle.swreq_print.specs.swreq_param.Tables.{IsOf}
use Rattle.swreq_print.specs.swreq_param.Terms.{Term}
use Rattle.swreq_print.specs.swreq_derive.declared.lines.DerivRule.{DerivRule}
use Rattle.swreq_print.specs.swreq_derive.declared.lines.DerivRule.TheVariants as Rule
use Rattle.swreq_print.specs.swreq_derive.declared.lines.Line.{Line}
use Rattle.swreq_print.specs.swreq_derive.declared.requirements.Statement.{Statement}
use Rattle.swreq_print.specs.swreq_derive.declared.requirements.Statement.TheVariants.{Holds, Valid}
use Rattle.swreq_print.specs.swreq_derive.Derivation.{TermStatement}
use Rattle.swreq_print.specs.swreq_derive.Derivation.TermStatement.{IsValid, Requires}
use Rattle.swreq_print.specs.swreq_derive.Instances.{TermLine}
use Rattle.swreq_print.specs.swreq_lexicon.Views.{IsName, IsProtocol, LexiconView}
use Rattle.swreq_print.specs.swreq_lowering.ByTable.{HasIdsOf}
use Rattle.swreq_print.specs.Names.{Text, name_text, protocol_name}
use Rattle.swreq_print.specs.Signatures.{requirement_text}
use Rattle.swreq_print.specs.Types.{type_text}
use Rattle.swreq_lines.specs.declared.rules.Fields.{Fields}

-- ---- rules

-- the name of a rule, in capitals
abbrev pub rule_name : DerivRule → Text
rule_name Rule.Generic = codes "GENERIC"
rule_name (Rule.Conf n) = codes "CONF"
rule_name (Rule.Same n) = codes "SAME"
rule_name (Rule.Layout n) = codes "LAYOUT"
rule_name (Rule.AssocName p a) = codes "ASSOCNAME"
rule_name (Rule.AssocDecl p a) = codes "ASSOCDECL"
rule_name (Rule.AssocBind p a) = codes "ASSOCBIND"
rule_name (Rule.AssocConf p n) = codes "ASSOCCONF"
rule_name (Rule.AssocSame p n) = codes "ASSOCSAME"
rule_name (Rule.AssocLayout p n) = codes "ASSOCLAYOUT"
rule_name Rule.Reflex = codes "REFLEX"
rule_name Rule.Symm = codes "SYMM"
rule_name Rule.Trans = codes "TRANS"
rule_name (Rule.SameConf p) = codes "SAMECONF"
rule_name Rule.SameLayout = codes "SAMELAYOUT"
rule_name (Rule.SameName p a) = codes "SAMENAME"
rule_name (Rule.SameDecl p a) = codes "SAMEDECL"

abbrev pub no_fields : Fields
no_fields = record { protocol = None; name = None; number = None }

abbrev pub with_number : ℕ → Fields
with_number n = record { protocol = None; name = None; number = Some n }

abbrev pub with_protocol : ProtoId → Fields
with_protocol p = record { protocol = Some p; name = None; number = None }

abbrev pub with_member : ProtoId → NameId → Fields
with_member p a = record { protocol = Some p; name = Some a; number = None }

abbrev pub with_requirement : ProtoId → ℕ → Fields
with_requirement p n = record { protocol = Some p; name = None; number = Some n }

-- the protocol, the name and the number of a rule
abbrev pub fields_of : DerivRule → Fields
fields_of Rule.Generic = no_fields
fields_of (Rule.Conf n) = with_number n
fields_of (Rule.Same n) = with_number n
fields_of (Rule.Layout n) = with_number n
fields_of (Rule.AssocName p a) = with_member p a
fields_of (Rule.AssocDecl p a) = with_member p a
fields_of (Rule.AssocBind p a) = with_member p a
fields_of (Rule.AssocConf p n) = with_requirement p n
fields_of (Rule.AssocSame p n) = with_requirement p n
fields_of (Rule.AssocLayout p n) = with_requirement p n
fields_of Rule.Reflex = no_fields
fields_of Rule.Symm = no_fields
fields_of Rule.Trans = no_fields
fields_of (Rule.SameConf p) = with_protocol p
fields_of Rule.SameLayout = no_fields
fields_of (Rule.SameName p a) = with_member p a
fields_of (Rule.SameDecl p a) = with_member p a

-- a space and the text, where there is one
abbrev pub field_text : {A : Type 0} → (A → Text) → Option A → Text
field_text text None = []
field_text text (Some v) = codes " " ++ text v

abbrev pub fields_text : LexiconView → Fields → Text
fields_text x f = field_text (protocol_name x) f.protocol ++ (field_text (name_text x) f.name ++ field_text decimal f.number)

-- `ASSOCCONF N 1`
abbrev pub rule_text : LexiconView → DerivRule → Text
rule_text x r = rule_name r ++ fields_text x (fields_of r)

-- ---- lines

-- That T is valid is the text of T.
abbrev pub statement_text : LexiconView → TermStatement → Text
statement_text x (IsValid t) = type_text x t
statement_text x (Requires r) = requirement_text x r

-- ` from ` and the numbers, where there are any
abbrev pub premises_text : List ℕ → Text
premises_text [] = []
premises_text (n ∷ ns) = codes " from " ++ joined (codes ", ") (map decimal (n ∷ ns))

-- the line with this number: `  2. τ_0_0.Next : N by ASSOCCONF N 1 from 1`
abbrev pub line_text : LexiconView → ℕ → TermLine → Text
line_text x n l =
    codes "  "
    ++ (decimal n ++ (codes ". " ++ (statement_text x l.statement ++ (codes " by " ++ (rule_text x l.rule ++ premises_text l.premises)))))

-- the texts of lines that are numbered from n on
abbrev pub texts_from : LexiconView → ℕ → List TermLine → List Text
texts_from x n [] = []
texts_from x n (l ∷ ls) = line_text x n l ∷ texts_from x (suc n) ls

-- the texts of lines that are numbered from n on, each with its line feed
abbrev pub lines_from : LexiconView → ℕ → List TermLine → Text
lines_from x n [] = []
lines_from x n (l ∷ ls) = line_text x n l ++ (codes "\n" ++ lines_from x (suc n) ls)

abbrev pub lines_text : LexiconView → List TermLine → Text
lines_text x ls = lines_from x 1 ls

-- ---- ids of the text and of the table

-- The protocol and the name of the rule are of the text.
abbrev pub HasRuleIds : LexiconView → Fields → Type 0
HasRuleIds x f = IfSome f.protocol (IsProtocol x) × IfSome f.name (IsName x)

abbrev pub HasStatementIds : List Term → Statement → Type 0
HasStatementIds terms (Valid t) = IsOf terms t
HasStatementIds terms (Holds r) = HasIdsOf terms r

abbrev pub HasLineIds : LexiconView → List Term → Line → Type 0
HasLineIds x terms l = HasRuleIds x (fields_of l.rule) × HasStatementIds terms l.statement

-- Texts of lines have no line feed.
use Rattle.std.proofs.Common.{◌++◌, ◌∷◌, [], refl, ℕ, List, Option, Some, None, codes, map}
use Rattle.std.specs.Prelude.{IfSome}
use Rattle.std.specs.Fmt.{decimal}
use Rattle.std.specs.List.{AllByRecursion}
use Rattle.swreq_text.specs.Joined.{followed}
use Rattle.swreq_print.specs.swreq_derive.declared.lines.DerivRule.{DerivRule}
use Rattle.swreq_print.specs.swreq_derive.declared.lines.DerivRule.TheVariants as Rule
use Rattle.swreq_print.specs.swreq_derive.Derivation.{TermStatement}
use Rattle.swreq_print.specs.swreq_derive.Derivation.TermRequirement.{Conforms, Equals, IsAnyObject}
use Rattle.swreq_print.specs.swreq_derive.Derivation.TermStatement.{IsValid, Requires}
use Rattle.swreq_print.specs.swreq_derive.Instances.{TermLine}
use Rattle.swreq_print.specs.swreq_lexicon.Views.{LexiconView}
use Rattle.swreq_print.specs.swreq_lowering.OfText.{IsStepOf}
use Rattle.swreq_print.specs.swreq_param.declared.ids.ParamId.{ParamId}
use Rattle.swreq_print.specs.swreq_param.declared.ids.Step.{Step}
use Rattle.swreq_print.specs.swreq_param.declared.ids.Step.TheVariants.{Bound, Name}
use Rattle.swreq_print.specs.swreq_param.Terms.{Term}
use Rattle.swreq_print.specs.swreq_param.Terms.Term.{Generic, Member}
use Rattle.swreq_print.specs.Names.{Text, name_text, pair_at, protocol_name}
use Rattle.swreq_print.specs.Reading.{HasNumbers, IsReadableType, TellsApart}
use Rattle.swreq_print.specs.Types.{param_text, step_text, type_text}
use Rattle.swreq_lines.specs.declared.rules.Fields.{Fields}
use Rattle.swreq_lines.specs.GoodLines.{HasReadableFields, IsReadableLine, IsReadableStatement, IsShort}
use Rattle.swreq_lines.specs.LineTexts.{field_text, fields_of, fields_text, line_text, premises_text, rule_name, rule_text, statement_text}
use Rattle.swreq_lines.specs.Pieces.{IsWithout}
use Rattle.swreq_lines.specs.Writing.{AreNamesOfOneLine}
use Rattle.swreq_lines.proofs.Cuts.{without_append}
use Rattle.swreq_lines.proofs.Digits.{number_without}

abbrev IsOneLine : Text → Type 0
IsOneLine t = IsWithout 10 t

two : (a b : Text) → IsOneLine a → IsOneLine b → IsOneLine (a ++ b)
two a b h k = without_append 10 a b h k

number : (n : ℕ) → IsShort n → IsOneLine (decimal n)
number n short = number_without 10 refl n short

module _ (x : LexiconView) (tells : TellsApart x) (names : AreNamesOfOneLine x) where
  -- ---- type parameters

  param : (g : ParamId) → HasNumbers g → IsOneLine (param_text g)
  param g h =
      two (207 ∷ 132 ∷ 95 ∷ []) (decimal g.depth ++ (codes "_" ++ decimal g.index)) refl
      (two (decimal g.depth) (codes "_" ++ decimal g.index) (number g.depth h.0)
      (two (codes "_") (decimal g.index) refl (number g.index h.1)))

  step : (s : Step) → IsStepOf x s → IsOneLine (step_text x s)
  step (Name a) h = two (codes ".") (name_text x a) refl (names.names a h)
  step (Bound d) h =
      let p = tells.pairs d h in
      let name = two (codes "]") (name_text x (pair_at x d).name) refl (names.names (pair_at x d).name p.1) in
      two (codes ".[") (protocol_name x (pair_at x d).proto ++ (codes "]" ++ name_text x (pair_at x d).name)) refl
      (two (protocol_name x (pair_at x d).proto) (codes "]" ++ name_text x (pair_at x d).name)
      (names.protocols (pair_at x d).proto p.0) name)

  type : (t : Term) → IsReadableType x t → IsOneLine (type_text x t)
  type (Generic g) h = param g h.0
  type (Member t s) h = two (type_text x t) (step_text x s) (type t (h.0, h.1.0)) (step s h.1.1)

  -- ---- statements

  statement : (st : TermStatement) → IsReadableStatement x st → IsOneLine (statement_text x st)
  statement (IsValid t) h = type t h
  statement (Requires (Conforms t p)) h =
      two (type_text x t) (codes " : " ++ protocol_name x p) (type t h.0)
      (two (codes " : ") (protocol_name x p) refl (names.protocols p h.1))
  statement (Requires (IsAnyObject t)) h = two (type_text x t) (codes " : AnyObject") (type t h) refl
  statement (Requires (Equals t u)) h =
      two (type_text x t) (codes " == " ++ type_text x u) (type t h.0) (two (codes " == ") (type_text x u) refl (type u h.1))

  -- ---- rules

  name_of_rule : (r : DerivRule) → IsOneLine (rule_name r)
  name_of_rule Rule.Generic = refl
  name_of_rule (Rule.Conf n) = refl
  name_of_rule (Rule.Same n) = refl
  name_of_rule (Rule.Layout n) = refl
  name_of_rule (Rule.AssocName p a) = refl
  name_of_rule (Rule.AssocDecl p a) = refl
  name_of_rule (Rule.AssocBind p a) = refl
  name_of_rule (Rule.AssocConf p n) = refl
  name_of_rule (Rule.AssocSame p n) = refl
  name_of_rule (Rule.AssocLayout p n) = refl
  name_of_rule Rule.Reflex = refl
  name_of_rule Rule.Symm = refl
  name_of_rule Rule.Trans = refl
  name_of_rule (Rule.SameConf p) = refl
  name_of_rule Rule.SameLayout = refl
  name_of_rule (Rule.SameName p a) = refl
  name_of_rule (Rule.SameDecl p a) = refl

  field : {A : Type 0} (text : A → Text) (P : A → Type 0) → ((v : A) → P v → IsOneLine (text v)) → (o : Option A) → IfSome o P
      → IsOneLine (field_text text o)
  field text P each None h = refl
  field text P each (Some v) h = two (codes " ") (text v) refl (each v h)

  fields : (f : Fields) → HasReadableFields x f → IsOneLine (fields_text x f)
  fields f h =
      let protocol = field (protocol_name x) _ names.protocols f.protocol h.0.0 in
      let name = field (name_text x) _ names.names f.name h.0.1 in
      let count = field decimal IsShort number f.number h.1 in
      two (field_text (protocol_name x) f.protocol) (field_text (name_text x) f.name ++ field_text decimal f.number) protocol
      (two (field_text (name_text x) f.name) (field_text decimal f.number) name count)

  -- ---- premises

  more_premises : (ns : List ℕ) → AllByRecursion IsShort ns → IsOneLine (followed (codes ", ") (map decimal ns))
  more_premises [] h = refl
  more_premises (n ∷ ns) h =
      two (codes ", ") (decimal n ++ followed (codes ", ") (map decimal ns)) refl
      (two (decimal n) (followed (codes ", ") (map decimal ns)) (number n h.0) (more_premises ns h.1))

  premises : (ns : List ℕ) → AllByRecursion IsShort ns → IsOneLine (premises_text ns)
  premises [] h = refl
  premises (n ∷ ns) h =
      two (codes " from ") (decimal n ++ followed (codes ", ") (map decimal ns)) refl
      (two (decimal n) (followed (codes ", ") (map decimal ns)) (number n h.0) (more_premises ns h.1))

  -- ---- lines

  pub one_line : (n : ℕ) (l : TermLine) → IsShort n → IsReadableLine x l → IsOneLine (line_text x n l)
  one_line n l short h =
      let rule = two (rule_name l.rule) (fields_text x (fields_of l.rule)) (name_of_rule l.rule) (fields (fields_of l.rule) h.rule) in
      let end = two (rule_text x l.rule) (premises_text l.premises) rule (premises l.premises h.premises) in
      let by = two (codes " by ") (rule_text x l.rule ++ premises_text l.premises) refl end in
      let stated = two (statement_text x l.statement) (codes " by " ++ (rule_text x l.rule ++ premises_text l.premises))
      (statement l.statement h.statement) by in
      let dot =
      two (codes ". ") (statement_text x l.statement ++ (codes " by " ++ (rule_text x l.rule ++ premises_text l.premises))) refl stated in
      let numbered =
      two (decimal n) (codes ". " ++ (statement_text x l.statement ++ (codes " by " ++ (rule_text x l.rule ++ premises_text l.premises))))
      (number n short) dot in
      two (codes "  ") (decimal n
      ++ (codes ". " ++ (statement_text x l.statement ++ (codes " by " ++ (rule_text x l.rule ++ premises_text l.premises))))) refl numbered

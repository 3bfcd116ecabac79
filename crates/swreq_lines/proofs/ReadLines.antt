-- The text of a line says which one it is.
use Rattle.std.proofs.Common.{◌≡◌, ◌∙◌, ◌++◌, ◌∷◌, [], refl, sym, ap, ap₂, subst, codes, true, false, ℕ, Bool, List, Option, Some, None, arith, append_assoc}
use Rattle.std.specs.Prelude.{IfSome}
use Rattle.std.specs.Fmt.{decimal}
use Rattle.std.specs.List.{AllByRecursion, list_all}
use Rattle.std.specs.Option.{is_some, unwrap_or}
use Rattle.std.proofs.lemmas.List.{append_cancel_left}
use Rattle.swreq_print.specs.swreq_derive.declared.lines.DerivRule.{DerivRule}
use Rattle.swreq_print.specs.swreq_derive.declared.lines.DerivRule.TheVariants as Rule
use Rattle.swreq_print.specs.swreq_derive.Derivation.{TermRequirement, TermStatement}
use Rattle.swreq_print.specs.swreq_derive.Derivation.TermRequirement.{Conforms, Equals, IsAnyObject}
use Rattle.swreq_print.specs.swreq_derive.Derivation.TermStatement.{IsValid, Requires}
use Rattle.swreq_print.specs.swreq_derive.Instances.{TermLine}
use Rattle.swreq_print.specs.swreq_lexicon.Views.{IsName, IsProtocol, LexiconView}
use Rattle.swreq_print.specs.swreq_param.Terms.{Term}
use Rattle.swreq_print.specs.Names.{Text, name_text, protocol_name}
use Rattle.swreq_print.specs.Reading.{IsReadableRequirement, IsReadableType, TellsApart, in_name}
use Rattle.swreq_print.specs.Signatures.{requirement_text}
use Rattle.swreq_print.specs.Types.{type_text}
use Rattle.swreq_print.proofs.Cutting.{IsRead, Stops, cut, empty_not, numbers_apart, rest_of, some_read}
use Rattle.swreq_print.proofs.Digits.{in_number}
use Rattle.swreq_print.proofs.ReadSignatures.{requirement_read}
use Rattle.swreq_print.proofs.ReadTypes.{decimal_read, name_read, protocol_read, type_read}
use Rattle.swreq_lines.specs.declared.rules.Fields.{Fields}
use Rattle.swreq_lines.specs.GoodLines.{HasReadableFields, IsReadableLine, IsReadableStatement, IsShort}
use Rattle.swreq_lines.specs.LineTexts.{field_text, fields_of, fields_text, line_text, no_fields, premises_text, rule_name, rule_text, statement_text}
use Rattle.swreq_lines.specs.Pieces.{Ends}
use Rattle.swreq_lines.specs.Written.{rule_named, rules_with}
use Rattle.swreq_lines.proofs.LineWords.{premises_end}
use Rattle.swreq_lines.proofs.StatementWords.{by_text}

-- ---- numbers and premises

number_read : IsRead decimal IsShort (Stops in_number)
number_read a b v w o k sv sw e = decimal_read a b v w (omega (arith, o)) (omega (arith, k)) sv sw e

premises_read : (ns ms : List ℕ) → AllByRecursion IsShort ns → AllByRecursion IsShort ms
    → premises_text ns ≡ premises_text ms → ns ≡ ms
unfolding rest_of
premises_read [] [] o k e = refl
premises_read [] (m ∷ ms) o k e = absurd (empty_not _ _ e)
premises_read (n ∷ ns) [] o k e = absurd (empty_not _ _ (sym e))
premises_read (n ∷ ns) (m ∷ ms) o k e =
    (some_read decimal IsShort (Stops in_number) number_read (λ t. refl) n m ns ms [] [] o k tt tt tt tt
    (ap (λ z. rest_of (rest_of (rest_of (rest_of (rest_of (rest_of z))))) ++ []) e)).0

-- ---- fields

-- A space, or the end, stops a text that has no space.
stops : (inside : ℕ → Bool) → inside 32 ≡ false → (v : Text) → Ends 32 v → Stops inside v
stops inside n [] h = tt
stops inside n (c ∷ v) h = ap inside h ∙ n

module _ {A : Type 0} (text : A → Text) where
  field_ends : (o : Option A) (v : Text) → Ends 32 v → Ends 32 (field_text text o ++ v)
  field_ends None v h = h
  field_ends (Some a) v h = refl

  module _ (Is : A → Type 0) (inside : ℕ → Bool) (n : inside 32 ≡ false) (read : IsRead text Is (Stops inside)) where
    field_read : (o u : Option A) (v w : Text) → is_some o ≡ is_some u → IfSome o Is → IfSome u Is → Ends 32 v → Ends 32 w
        → field_text text o ++ v ≡ field_text text u ++ w → (o ≡ u) × (v ≡ w)
    unfolding rest_of
    field_read None None v w same o k ev ew e = (refl, e)
    field_read None (Some b) v w same o k ev ew e = absurd cc
    field_read (Some a) None v w same o k ev ew e = absurd cc
    field_read (Some a) (Some b) v w same o k ev ew e =
        let one = read a b v w o k (stops inside n v ev) (stops inside n w ew) (ap rest_of e) in
        (ap (λ z. Some z) one.0, one.1)

-- ---- names of rules

-- the rule of this name that has these fields, or some of them
abbrev with_fields : Fields → Text → DerivRule
with_fields f name =
    let n = unwrap_or f.number 0 in
    rule_named (rules_with (unwrap_or f.protocol (record { rank = 0 })) (unwrap_or f.name (record { rank = 0 })) n n) name

-- which fields there are
abbrev which : Fields → Bool × Bool × Bool
which f = (is_some f.protocol, is_some f.name, is_some f.number)

-- The name of a rule says which fields it has, and with the fields which rule it is.
abbrev IsNamed : DerivRule → Type 0
IsNamed r =
    (with_fields (fields_of r) (rule_name r) ≡ r)
    × (which (fields_of (with_fields no_fields (rule_name r))) ≡ which (fields_of r))
    × (list_all in_name (rule_name r) ≡ true)

named : (r : DerivRule) → IsNamed r
named Rule.Generic = (refl, refl, refl)
named (Rule.Conf n) = (refl, refl, refl)
named (Rule.Same n) = (refl, refl, refl)
named (Rule.Layout n) = (refl, refl, refl)
named (Rule.AssocName p a) = (refl, refl, refl)
named (Rule.AssocDecl p a) = (refl, refl, refl)
named (Rule.AssocBind p a) = (refl, refl, refl)
named (Rule.AssocConf p n) = (refl, refl, refl)
named (Rule.AssocSame p n) = (refl, refl, refl)
named (Rule.AssocLayout p n) = (refl, refl, refl)
named Rule.Reflex = (refl, refl, refl)
named Rule.Symm = (refl, refl, refl)
named Rule.Trans = (refl, refl, refl)
named (Rule.SameConf p) = (refl, refl, refl)
named Rule.SameLayout = (refl, refl, refl)
named (Rule.SameName p a) = (refl, refl, refl)
named (Rule.SameDecl p a) = (refl, refl, refl)

module _ (x : LexiconView) (names : TellsApart x) where
  -- ---- rules

  abbrev protocol_of : Fields → Text
  protocol_of f = field_text (protocol_name x) f.protocol

  abbrev name_of : Fields → Text
  name_of f = field_text (name_text x) f.name

  abbrev number_of : Fields → Text
  number_of f = field_text decimal f.number

  -- the fields one by one
  fields_apart : (f : Fields) (v : Text) → fields_text x f ++ v ≡ protocol_of f ++ (name_of f ++ (number_of f ++ v))
  fields_apart f v =
      append_assoc (protocol_of f) (name_of f ++ number_of f) v
      ∙ ap (λ z. protocol_of f ++ z) (append_assoc (name_of f) (number_of f) v)

  fields_end : (f : Fields) (v : Text) → Ends 32 v → Ends 32 (fields_text x f ++ v)
  fields_end f v h =
      subst (Ends 32) (sym (fields_apart f v))
      (field_ends (protocol_name x) f.protocol _ (field_ends (name_text x) f.name _ (field_ends decimal f.number v h)))

  fields_read : (f g : Fields) (v w : Text) → which f ≡ which g → HasReadableFields x f → HasReadableFields x g
      → Ends 32 v → Ends 32 w → fields_text x f ++ v ≡ fields_text x g ++ w → (f ≡ g) × (v ≡ w)
  fields_read f g v w same o k ev ew e =
      let fv = field_ends decimal f.number v ev in
      let gw = field_ends decimal g.number w ew in
      let p = field_read (protocol_name x) (IsProtocol x) in_name refl (protocol_read x names) f.protocol g.protocol _ _
      (ap (λ z. z.0) same) o.0.0 k.0.0 (field_ends (name_text x) f.name _ fv) (field_ends (name_text x) g.name _ gw)
      (sym (fields_apart f v) ∙ e ∙ fields_apart g w) in
      let a = field_read (name_text x) (IsName x) in_name refl (name_read x names) f.name g.name _ _
      (ap (λ z. z.1) same) o.0.1 k.0.1 fv gw p.1 in
      let n = field_read decimal IsShort in_number refl number_read f.number g.number v w
      (ap (λ z. z.2) same) o.1 k.1 ev ew a.1 in
      ((λ i. record { protocol = p.0 i; name = a.0 i; number = n.0 i }), n.1)

  rule_read : (r s : DerivRule) (v w : Text) → HasReadableFields x (fields_of r) → HasReadableFields x (fields_of s)
      → Ends 32 v → Ends 32 w → rule_text x r ++ v ≡ rule_text x s ++ w → (r ≡ s) × (v ≡ w)
  rule_read r s v w o k ev ew e =
      let f = fields_of r in
      let g = fields_of s in
      let name = cut in_name (rule_name r) (rule_name s) (fields_text x f ++ v) (fields_text x g ++ w)
      (named r).2 (named s).2 (stops in_name refl _ (fields_end f v ev)) (stops in_name refl _ (fields_end g w ew))
      (sym (append_assoc (rule_name r) (fields_text x f) v) ∙ e ∙ append_assoc (rule_name s) (fields_text x g) w) in
      let same = sym (named r).1 ∙ ap (λ z. which (fields_of (with_fields no_fields z))) name.0 ∙ (named s).1 in
      let fields = fields_read f g v w same o k ev ew name.1 in
      (sym (named r).0 ∙ ap₂ with_fields fields.0 name.0 ∙ (named s).0, fields.1)

  -- ---- statements

  -- That T is valid is no requirement.
  not_valid : (t : Term) (r : TermRequirement) (v w : Text) → IsReadableType x t → IsReadableRequirement x r
      → type_text x t ++ by_text v ≡ requirement_text x r ++ w → ⊥
  unfolding rest_of
  not_valid t r v w o k e = by r k e
    where
      behind : (u : Term) (c : ℕ) (rest : Text) → IsReadableType x u → (98 ≡ c → ⊥)
          → type_text x t ++ by_text v ≡ (type_text x u ++ (32 ∷ c ∷ rest)) ++ w → ⊥
      behind u c rest k n e =
          let one = type_read x names t u (by_text v) (32 ∷ c ∷ (rest ++ w)) o k (refl, refl) (refl, refl)
          (e ∙ append_assoc (type_text x u) (32 ∷ c ∷ rest) w) in
          numbers_apart 98 c n _ _ (ap rest_of one.1)

      by : (r : TermRequirement) → IsReadableRequirement x r → type_text x t ++ by_text v ≡ requirement_text x r ++ w → ⊥
      by (Conforms u p) k e = behind u 58 (32 ∷ protocol_name x p) k.0 (λ i. omega arith) e
      by (IsAnyObject u) k e = behind u 58 (32 ∷ codes "AnyObject") k (λ i. omega arith) e
      by (Equals u q) k e = behind u 61 (61 ∷ 32 ∷ type_text x q) k.0 (λ i. omega arith) e

  statement_read : (s u : TermStatement) (v w : Text) → IsReadableStatement x s → IsReadableStatement x u
      → statement_text x s ++ by_text v ≡ statement_text x u ++ by_text w → (s ≡ u) × (v ≡ w)
  unfolding rest_of
  statement_read (IsValid t) (IsValid u) v w o k e =
      let one = type_read x names t u (by_text v) (by_text w) o k (refl, refl) (refl, refl) e in
      (ap IsValid one.0, ap (λ z. rest_of (rest_of (rest_of (rest_of z)))) one.1)
  statement_read (IsValid t) (Requires q) v w o k e = absurd (not_valid t q v (by_text w) o k e)
  statement_read (Requires r) (IsValid u) v w o k e = absurd (not_valid u r w (by_text v) k o (sym e))
  statement_read (Requires r) (Requires q) v w o k e =
      let one = requirement_read x names r q (by_text v) (by_text w) o k (refl, refl) (refl, refl) e in
      (ap Requires one.0, ap (λ z. rest_of (rest_of (rest_of (rest_of z)))) one.1)

  -- ---- lines

  pub line_read : (n : ℕ) (l k : TermLine) → IsReadableLine x l → IsReadableLine x k → line_text x n l ≡ line_text x n k
      → l ≡ k
  unfolding rest_of
  line_read n l k h j e =
      let behind = append_cancel_left (decimal n) _ _ (ap (λ z. rest_of (rest_of z)) e) in
      let s = statement_read l.statement k.statement _ _ h.statement j.statement (ap (λ z. rest_of (rest_of z)) behind) in
      let r = rule_read l.rule k.rule _ _ h.rule j.rule (premises_end l.premises) (premises_end k.premises) s.1 in
      let p = premises_read l.premises k.premises h.premises j.premises r.1 in
      λ i. record { rule = r.0 i; premises = p i; statement = s.0 i }

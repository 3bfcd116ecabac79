-- Rules as they are read: their words are their name and their fields.
use Rattle.std.proofs.Common.{◌≡◌, ◌∙◌, ◌++◌, ◌∷◌, [], refl, ap, ap₂, ℕ, codes, append_assoc}
use Rattle.std.specs.Fmt.{decimal}
use Rattle.std.proofs.lemmas.List.{append-nil}
use Rattle.swreq_print.specs.swreq_derive.declared.lines.DerivRule.{DerivRule}
use Rattle.swreq_print.specs.swreq_derive.declared.lines.DerivRule.TheVariants as Rule
use Rattle.swreq_print.specs.swreq_lexicon.Views.{IsName, IsProtocol, LexiconView}
use Rattle.swreq_print.specs.swreq_param.declared.ids.NameId.{NameId}
use Rattle.swreq_print.specs.swreq_param.declared.ids.ProtoId.{ProtoId}
use Rattle.swreq_print.specs.Names.{Text, name_text, protocol_name}
use Rattle.swreq_print.specs.Reading.{TellsApart}
use Rattle.swreq_lines.specs.GoodLines.{HasReadableFields, IsShort}
use Rattle.swreq_lines.specs.LineTexts.{fields_of, rule_name, rule_text}
use Rattle.swreq_lines.specs.Pieces.{Ends, IsWithout, behind}
use Rattle.swreq_lines.specs.Written.{behind_fields, rule_named, rules_with}
use Rattle.swreq_lines.proofs.Digits.{number_without}
use Rattle.swreq_lines.proofs.Names.{name_without, protocol_without}
use Rattle.swreq_lines.proofs.ReadNumbers.{ReadsTo}

-- The first three words of a text, and what follows each.
pub record Words (text name behind_name first behind_first second behind_second : Text) : Type 0 where
  pub one : ReadsTo 32 text name behind_name
  pub two : ReadsTo 32 behind_name first behind_first
  pub three : ReadsTo 32 behind_first second behind_second

module _ {x : LexiconView} (names : TellsApart x) (text name behind_name first behind_first second behind_second : Text)
    (words : Words text name behind_name first behind_first second behind_second) (p : ProtoId) (a : NameId) (n m : ℕ)
    (as_protocol : (q : ProtoId) → IsProtocol x q → first ≡ protocol_name x q → p ≡ q)
    (as_name : (b : NameId) → IsName x b → second ≡ name_text x b → a ≡ b)
    (as_number : (k : ℕ) → IsShort k → first ≡ decimal k → n ≡ k)
    (as_second : (k : ℕ) → IsShort k → second ≡ decimal k → m ≡ k) (tail : Text) (ends : Ends 32 tail) where
  abbrev found : DerivRule
  found = rule_named (rules_with p a n m) name

  -- It is this rule, and the text goes on after it.
  pub record IsRead (r : DerivRule) : Type 0 where
    pub rule : found ≡ r
    pub rest : behind_fields (fields_of found) behind_name behind_first behind_second ≡ behind tail

  read : (r : DerivRule) → rule_named (rules_with p a n m) (rule_name r) ≡ r → name ≡ rule_name r
      → behind_fields (fields_of r) behind_name behind_first behind_second ≡ behind tail → IsRead r
  read r known named rest =
      let rule : found ≡ r = ap (rule_named (rules_with p a n m)) named ∙ known in
      record { rule = rule; rest = ap (λ q. behind_fields (fields_of q) behind_name behind_first behind_second) rule ∙ rest }

  -- ---- by the number of words

  one_word : (w v : Text) → IsWithout 32 w → IsWithout 32 v → text ≡ w ++ (32 ∷ (v ++ tail))
      → (name ≡ w) × (first ≡ v) × (behind_first ≡ behind tail)
  one_word w v iw iv e =
      let k = words.one w (32 ∷ (v ++ tail)) iw refl e in
      let j = words.two v tail iv ends k.1 in
      (k.0, j.0, j.1)

  two_words : (w v u : Text) → IsWithout 32 w → IsWithout 32 v → IsWithout 32 u → text ≡ w ++ (32 ∷ (v ++ (32 ∷ (u ++ tail))))
      → (name ≡ w) × (first ≡ v) × (second ≡ u) × (behind_second ≡ behind tail)
  two_words w v u iw iv iu e =
      let k = words.one w (32 ∷ (v ++ (32 ∷ (u ++ tail)))) iw refl e in
      let j = words.two v (32 ∷ (u ++ tail)) iv refl k.1 in
      let i = words.three u tail iu ends j.1 in
      (k.0, j.0, i.0, i.1)

  -- ---- by the kinds of fields

  module _ (w : Text) (iw : IsWithout 32 w) where
    with_number : (k : ℕ) → IsShort k → text ≡ w ++ (32 ∷ (decimal k ++ tail)) → (name ≡ w) × (n ≡ k) × (behind_first ≡ behind tail)
    with_number k short e =
        let z = one_word w (decimal k) iw (number_without 32 refl k short) e in
        (z.0, as_number k short z.1, z.2)

    with_protocol : (q : ProtoId) → IsProtocol x q → text ≡ w ++ (32 ∷ ((protocol_name x q ++ []) ++ tail))
        → (name ≡ w) × (p ≡ q) × (behind_first ≡ behind tail)
    with_protocol q h e =
        let z = one_word w (protocol_name x q) iw (protocol_without names 32 refl q h)
        (e ∙ ap (λ t. w ++ (32 ∷ (t ++ tail))) (append-nil (protocol_name x q))) in
        (z.0, as_protocol q h z.1, z.2)

    with_member : (q : ProtoId) (b : NameId) → IsProtocol x q → IsName x b
        → text ≡ w ++ (32 ∷ ((protocol_name x q ++ (32 ∷ (name_text x b ++ []))) ++ tail))
        → (name ≡ w) × (p ≡ q) × (a ≡ b) × (behind_second ≡ behind tail)
    with_member q b h i e =
        let t = append_assoc (protocol_name x q) (32 ∷ (name_text x b ++ [])) tail
        ∙ ap (λ t. protocol_name x q ++ (32 ∷ (t ++ tail))) (append-nil (name_text x b)) in
        let z = two_words w (protocol_name x q) (name_text x b) iw (protocol_without names 32 refl q h) (name_without names 32 refl b i)
        (e ∙ ap (λ t. w ++ (32 ∷ t)) t) in
        (z.0, as_protocol q h z.1, as_name b i z.2, z.3)

    with_requirement : (q : ProtoId) (k : ℕ) → IsProtocol x q → IsShort k
        → text ≡ w ++ (32 ∷ ((protocol_name x q ++ (32 ∷ decimal k)) ++ tail))
        → (name ≡ w) × (p ≡ q) × (m ≡ k) × (behind_second ≡ behind tail)
    with_requirement q k h short e =
        let z = two_words w (protocol_name x q) (decimal k) iw (protocol_without names 32 refl q h) (number_without 32 refl k short)
        (e ∙ ap (λ t. w ++ (32 ∷ t)) (append_assoc (protocol_name x q) (32 ∷ decimal k) tail)) in
        (z.0, as_protocol q h z.1, as_second k short z.2, z.3)

  -- ---- each rule

  pub rule_is : (r : DerivRule) → HasReadableFields x (fields_of r) → text ≡ rule_text x r ++ tail → IsRead r
  rule_is Rule.Generic o e = let z = words.one (codes "GENERIC") tail refl ends e in read Rule.Generic refl z.0 z.1
  rule_is (Rule.Conf k) o e = let z = with_number (codes "CONF") refl k o.1 e in read (Rule.Conf k) (ap Rule.Conf z.1) z.0 z.2
  rule_is (Rule.Same k) o e = let z = with_number (codes "SAME") refl k o.1 e in read (Rule.Same k) (ap Rule.Same z.1) z.0 z.2
  rule_is (Rule.Layout k) o e = let z = with_number (codes "LAYOUT") refl k o.1 e in read (Rule.Layout k) (ap Rule.Layout z.1) z.0 z.2
  rule_is (Rule.AssocName q b) o e =
      let z = with_member (codes "ASSOCNAME") refl q b o.0.0 o.0.1 e in read (Rule.AssocName q b) (ap₂ Rule.AssocName z.1 z.2) z.0 z.3
  rule_is (Rule.AssocDecl q b) o e =
      let z = with_member (codes "ASSOCDECL") refl q b o.0.0 o.0.1 e in read (Rule.AssocDecl q b) (ap₂ Rule.AssocDecl z.1 z.2) z.0 z.3
  rule_is (Rule.AssocBind q b) o e =
      let z = with_member (codes "ASSOCBIND") refl q b o.0.0 o.0.1 e in read (Rule.AssocBind q b) (ap₂ Rule.AssocBind z.1 z.2) z.0 z.3
  rule_is (Rule.AssocConf q k) o e =
      let z = with_requirement (codes "ASSOCCONF") refl q k o.0.0 o.1 e in read (Rule.AssocConf q k) (ap₂ Rule.AssocConf z.1 z.2) z.0 z.3
  rule_is (Rule.AssocSame q k) o e =
      let z = with_requirement (codes "ASSOCSAME") refl q k o.0.0 o.1 e in read (Rule.AssocSame q k) (ap₂ Rule.AssocSame z.1 z.2) z.0 z.3
  rule_is (Rule.AssocLayout q k) o e =
      let z = with_requirement (codes "ASSOCLAYOUT") refl q k o.0.0 o.1 e in
      read (Rule.AssocLayout q k) (ap₂ Rule.AssocLayout z.1 z.2) z.0 z.3
  rule_is Rule.Reflex o e = let z = words.one (codes "REFLEX") tail refl ends e in read Rule.Reflex refl z.0 z.1
  rule_is Rule.Symm o e = let z = words.one (codes "SYMM") tail refl ends e in read Rule.Symm refl z.0 z.1
  rule_is Rule.Trans o e = let z = words.one (codes "TRANS") tail refl ends e in read Rule.Trans refl z.0 z.1
  rule_is (Rule.SameConf q) o e =
      let z = with_protocol (codes "SAMECONF") refl q o.0.0 e in read (Rule.SameConf q) (ap Rule.SameConf z.1) z.0 z.2
  rule_is Rule.SameLayout o e = let z = words.one (codes "SAMELAYOUT") tail refl ends e in read Rule.SameLayout refl z.0 z.1
  rule_is (Rule.SameName q b) o e =
      let z = with_member (codes "SAMENAME") refl q b o.0.0 o.0.1 e in read (Rule.SameName q b) (ap₂ Rule.SameName z.1 z.2) z.0 z.3
  rule_is (Rule.SameDecl q b) o e =
      let z = with_member (codes "SAMEDECL") refl q b o.0.0 o.0.1 e in read (Rule.SameDecl q b) (ap₂ Rule.SameDecl z.1 z.2) z.0 z.3

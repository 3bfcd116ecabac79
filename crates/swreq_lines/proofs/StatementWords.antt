-- Statements as they are read: a type parameter, a mark, and what follows the mark.
use Rattle.std.proofs.Common.{◌≡◌, ◌∙◌, ◌++◌, ◌∷◌, refl, sym, arith, codes, append_assoc, Option, Some, None}
use Rattle.std.specs.Prelude.{IfSome}
use Rattle.swreq_print.specs.swreq_derive.Derivation.{TermStatement}
use Rattle.swreq_print.specs.swreq_derive.Derivation.TermRequirement.{Conforms, Equals, IsAnyObject}
use Rattle.swreq_print.specs.swreq_derive.Derivation.TermStatement.{IsValid, Requires}
use Rattle.swreq_print.specs.swreq_lexicon.Views.{IsProtocol, LexiconView}
use Rattle.swreq_print.specs.swreq_param.declared.ids.ProtoId.{ProtoId}
use Rattle.swreq_print.specs.swreq_param.Terms.{Term}
use Rattle.swreq_print.specs.Names.{Text, protocol_name}
use Rattle.swreq_print.specs.Reading.{IsReadableType, TellsApart}
use Rattle.swreq_print.specs.Types.{type_text}
use Rattle.swreq_lines.specs.GoodLines.{IsReadableStatement}
use Rattle.swreq_lines.specs.LineTexts.{statement_text}
use Rattle.swreq_lines.specs.Pieces.{IsWithout}
use Rattle.swreq_lines.specs.Written.{property_of, property_text}
use Rattle.swreq_lines.proofs.Cuts.{heads_apart}
use Rattle.swreq_lines.proofs.Names.{protocol_without}
use Rattle.swreq_lines.proofs.ReadNumbers.{ReadsTo}
use Rattle.swreq_lines.proofs.TypeWords.{type_without}

-- ` by ` and what follows
abbrev pub by_text : Text → Text
by_text rest = codes " by " ++ rest

-- The word before ` by `, and what follows that.
pub before_by : (word text piece behind_piece by rest tail : Text) → IsWithout 32 word → ReadsTo 32 text piece behind_piece
    → ReadsTo 32 behind_piece by rest
    → text ≡ word ++ by_text tail → (piece ≡ word) × (rest ≡ tail)
before_by word text piece behind_piece by rest tail w first second e =
    let k = first word (by_text tail) w refl e in
    let j = second (codes "by") (32 ∷ tail) refl refl k.1 in
    (k.0, j.1)

module _ {x : LexiconView} (names : TellsApart x) where
  pub property_without : (p : Option ProtoId) → IfSome p (IsProtocol x) → IsWithout 32 (property_text x p)
  property_without None h = refl
  property_without (Some p) h = protocol_without names 32 refl p h

  -- ---- the mark

  -- the type parameter with which a statement begins
  abbrev pub subject : TermStatement → Term
  subject (IsValid t) = t
  subject (Requires (Conforms t p)) = t
  subject (Requires (IsAnyObject t)) = t
  subject (Requires (Equals t u)) = t

  -- The word after it, and what follows that word.
  abbrev pub IsMarked : Text → Text → Text → TermStatement → Type 0
  IsMarked mark rest tail (IsValid t) = (mark ≡ codes "by") × (rest ≡ tail)
  IsMarked mark rest tail (Requires (Conforms t p)) = (mark ≡ codes ":") × IsProtocol x p × (rest ≡ protocol_name x p ++ by_text tail)
  IsMarked mark rest tail (Requires (IsAnyObject t)) = (mark ≡ codes ":") × (rest ≡ codes "AnyObject" ++ by_text tail)
  IsMarked mark rest tail (Requires (Equals t u)) = (mark ≡ codes "==") × IsReadableType x u × (rest ≡ type_text x u ++ by_text tail)

  pub record IsStated (piece mark rest tail : Text) (st : TermStatement) : Type 0 where
    pub readable : IsReadableType x (subject st)
    pub piece_is : piece ≡ type_text x (subject st)
    pub marked : IsMarked mark rest tail st

  module _ (text piece behind_piece mark rest tail : Text) (first : ReadsTo 32 text piece behind_piece)
      (second : ReadsTo 32 behind_piece mark rest) where
    -- the subject, a mark without a space, and what follows it
    parts : (t : Term) (m after : Text) → IsReadableType x t → IsWithout 32 m → text ≡ type_text x t ++ (32 ∷ (m ++ (32 ∷ after)))
        → (piece ≡ type_text x t) × (mark ≡ m) × (rest ≡ after)
    parts t m after h w e =
        let k = first (type_text x t) (32 ∷ (m ++ (32 ∷ after))) (type_without names t h) refl e in
        let j = second m (32 ∷ after) w refl k.1 in
        (k.0, j.0, j.1)

    pub stated : (st : TermStatement) → IsReadableStatement x st → text ≡ statement_text x st ++ by_text tail
        → IsStated piece mark rest tail st
    stated (IsValid t) h e = let z = parts t (codes "by") tail h refl e in record { readable = h; piece_is = z.0; marked = (z.1, z.2) }
    stated (Requires (Conforms t p)) h e =
        let z = parts t (codes ":") (protocol_name x p ++ by_text tail) h.0 refl
        (e ∙ append_assoc (type_text x t) (codes " : " ++ protocol_name x p) (by_text tail)) in
        record { readable = h.0; piece_is = z.0; marked = (z.1, h.1, z.2) }
    stated (Requires (IsAnyObject t)) h e =
        let z = parts t (codes ":") (codes "AnyObject" ++ by_text tail) h refl
        (e ∙ append_assoc (type_text x t) (codes " : AnyObject") (by_text tail)) in
        record { readable = h; piece_is = z.0; marked = (z.1, z.2) }
    stated (Requires (Equals t u)) h e =
        let z = parts t (codes "==") (type_text x u ++ by_text tail) h.0 refl
        (e ∙ append_assoc (type_text x t) (codes " == " ++ type_text x u) (by_text tail)) in
        record { readable = h.0; piece_is = z.0; marked = (z.1, h.1, z.2) }

  -- ---- by the mark

  pub colon : (mark rest tail : Text) (st : TermStatement) → IsMarked mark rest tail st → mark ≡ codes ":"
      → (p : Option ProtoId) × IfSome p (IsProtocol x) × (st ≡ property_of (subject st) p) × (rest ≡ property_text x p ++ by_text tail)
  colon mark rest tail (IsValid t) m e = absurd (heads_apart 98 58 _ _ (λ i. omega arith) (sym m.0 ∙ e))
  colon mark rest tail (Requires (Conforms t p)) m e = (Some p, m.1, refl, m.2)
  colon mark rest tail (Requires (IsAnyObject t)) m e = (None, tt, refl, m.1)
  colon mark rest tail (Requires (Equals t u)) m e = absurd (heads_apart 61 58 _ _ (λ i. omega arith) (sym m.0 ∙ e))

  pub equals : (mark rest tail : Text) (st : TermStatement) → IsMarked mark rest tail st → mark ≡ codes "=="
      → (u : Term) × IsReadableType x u × (st ≡ Requires (Equals (subject st) u)) × (rest ≡ type_text x u ++ by_text tail)
  equals mark rest tail (IsValid t) m e = absurd (heads_apart 98 61 _ _ (λ i. omega arith) (sym m.0 ∙ e))
  equals mark rest tail (Requires (Conforms t p)) m e = absurd (heads_apart 58 61 _ _ (λ i. omega arith) (sym m.0 ∙ e))
  equals mark rest tail (Requires (IsAnyObject t)) m e = absurd (heads_apart 58 61 _ _ (λ i. omega arith) (sym m.0 ∙ e))
  equals mark rest tail (Requires (Equals t u)) m e = (u, m.1, refl, m.2)

  pub neither : (mark rest tail : Text) (st : TermStatement) → IsMarked mark rest tail st → (mark ≡ codes ":" → ⊥) → (mark ≡ codes "==" → ⊥)
      → (st ≡ IsValid (subject st)) × (rest ≡ tail)
  neither mark rest tail (IsValid t) m c e = (refl, m.1)
  neither mark rest tail (Requires (Conforms t p)) m c e = absurd (c m.0)
  neither mark rest tail (Requires (IsAnyObject t)) m c e = absurd (c m.0)
  neither mark rest tail (Requires (Equals t u)) m c e = absurd (e m.0)

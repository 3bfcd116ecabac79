-- A word has one type.
use Rattle.std.proofs.Common.{◌≡◌, ◌+◌, ◌≤◌, [], ◌∷◌, length, ap, ap₂, subst, sym, ◌∙◌, arith}
use Rattle.swreq_derive.specs.swreq_param.Terms.{Term, member_count}
use Rattle.swreq_derive.specs.swreq_param.Terms.Term.{Generic, Member}
use Rattle.swreq_derive.specs.swreq_param.declared.ids.AssocId.{AssocId}
use Rattle.swreq_derive.specs.swreq_param.declared.ids.NameId.{NameId}
use Rattle.swreq_derive.specs.swreq_param.declared.ids.ParamId.{ParamId}
use Rattle.swreq_derive.specs.swreq_param.declared.ids.Step.TheVariants.{Bound, Name}
use Rattle.swreq_derive.specs.Derivation.{Source, TermFacts}
use Rattle.swreq_word.specs.declared.symbols.Symbol.TheVariants.{Member as MemberSymbol, Param as ParamSymbol}
use Rattle.swreq_word.proofs.swreq_lemmas.Elements.{same_heads, same_tails}
use Rattle.swreq_word.proofs.SameSymbols.{same_members, same_params}
use Rattle.swreq_correspondence.specs.Symbols.{Symbols, Word, name_of}
use Rattle.swreq_correspondence.specs.Types.{BeginsAs, IsFirstFor, IsTypeOf}

pub one_param : {g h : ParamId} → ParamSymbol g.depth g.index ≡ ParamSymbol h.depth h.index → g ≡ h
one_param e = let (d, i) = same_params e in λ j. record { depth = d j; index = i j }

pub one_assoc : {d e : AssocId} → d.rank ≡ e.rank → d ≡ e
one_assoc e = λ j. record { rank = e j }

module _ (m : Symbols) (f : TermFacts) (s : Source) where
  pub one_first : (t : Term) (a : NameId) (d e : AssocId) → IsFirstFor f s t a d → IsFirstFor f s t a e → d ≡ e
  one_first t a d e i j =
      let x : d.rank ≤ e.rank = i.first j.proto e j.declares j.conforms in
      let y : e.rank ≤ d.rank = j.first i.proto d i.declares i.conforms in
      one_assoc (omega arith)

  -- a type has as many members as its word has symbols past the first
  pub typed_length : (t : Term) (rest u : Word) → BeginsAs m f s t rest u → length u ≡ (member_count t + 1) + length rest
  typed_length (Generic i) rest u h = ap length h ∙ omega arith
  typed_length (Member t (Name a)) rest u h = absurd h
  typed_length (Member t (Bound d)) rest u (k, c, i, h) = let x = typed_length t (MemberSymbol k ∷ rest) u h in omega arith

  both_typed : (t z : Term) (rest after u : Word) → member_count t ≡ member_count z → BeginsAs m f s t rest u → BeginsAs m f s z after u
      → (t ≡ z) × (rest ≡ after)
  both_typed (Generic i) (Generic j) rest after u n h k = (ap Generic (one_param (same_heads (sym h ∙ k))), same_tails (sym h ∙ k))
  both_typed (Generic i) (Member z y) rest after u n h k = absurd (omega arith)
  both_typed (Member t x) (Generic j) rest after u n h k = absurd (omega arith)
  both_typed (Member t (Name a)) (Member z y) rest after u n h k = absurd h
  both_typed (Member t (Bound d)) (Member z (Name a)) rest after u n h k = absurd k
  both_typed (Member t (Bound d)) (Member z (Bound e)) rest after u n (p, c, i, h) (q, c', i', k) =
      let r = both_typed t z (MemberSymbol p ∷ rest) (MemberSymbol q ∷ after) u (omega arith) h k in
      let o : p ≡ q = same_members (same_heads r.1) in
      let j : IsFirstFor f s t (name_of m p) e =
      subst (λ x. IsFirstFor f s t x e) (ap (name_of m) (sym o)) (subst (λ x. IsFirstFor f s x (name_of m q) e) (sym r.0) i') in
      (ap₂ Member r.0 (ap Bound (one_first t (name_of m p) d e i j)), same_tails r.1)

  pub one_type : (t z : Term) (u : Word) → IsTypeOf m f s u t → IsTypeOf m f s u z → t ≡ z
  one_type t z u h k =
      let a = typed_length t [] u h in
      let b = typed_length z [] u k in
      (both_typed t z [] [] u (omega arith) h k).0

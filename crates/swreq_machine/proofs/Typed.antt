-- The steps of the type of a least word.
use Rattle.std.proofs.Common.{◌≡◌, ◌∙◌, inl, inr, refl, sym, ap, subst, subst₂, ℕ, suc, ◌<◌, ◌≤◌, ◌+◌, arith, List, [], ◌∷◌, ◌++◌, length, take, drop, slice_get, Some, length-append, take-append-drop}
use Rattle.std.proofs.Math.Seq.{take-append_seam}
use Rattle.std.proofs.lemmas.Bool.{cases_eq}
use Rattle.swreq_map.proofs.swreq_lemmas.Elements.{drop_from, same_heads}
use Rattle.swreq_valid.specs.swreq_param.declared.ids.AssocId.{AssocId}
use Rattle.swreq_valid.specs.swreq_param.declared.ids.Step.{Step}
use Rattle.swreq_valid.specs.swreq_param.declared.ids.Step.TheVariants.{Bound, Name}
use Rattle.swreq_valid.specs.swreq_param.Terms.{Term, head, with_steps}
use Rattle.swreq_valid.specs.swreq_param.Terms.Term.{Generic, Member}
use Rattle.swreq_valid.specs.swreq_param.ComparisonLaws.{with_more}
use Rattle.swreq_map.specs.swreq_word.declared.symbols.Symbol.{Symbol}
use Rattle.swreq_map.specs.swreq_word.declared.symbols.Symbol.TheVariants.{Member as MemberSymbol, Param}
use Rattle.swreq_map.proofs.swreq_word.Cuts.{same_cut}
use Rattle.swreq_map.proofs.swreq_word.SameSymbols.{same_members}
use Rattle.swreq_map.specs.swreq_rule.declared.rules.Rule.{Rule}
use Rattle.swreq_valid.specs.swreq_lexicon.Views.{LexiconView}
use Rattle.swreq_valid.specs.swreq_correspondence.Symbols.{IsRank, Symbols, Word, name_of}
use Rattle.swreq_valid.proofs.swreq_correspondence.OneType.{one_param}
use Rattle.swreq_valid.specs.swreq_symbols.Meaning.{symbols_of}
use Rattle.swreq_valid.specs.swreq_symbols.Vanishing.{IsFirstBehind}
use Rattle.swreq_valid.proofs.swreq_symbols.LeastWords.{one_first}
use Rattle.swreq_machine.specs.LeastTypes.{BeginsBy}

-- ---- lists

pub at_front : (front : Word) (s : Symbol) (rest : Word) → slice_get (front ++ (s ∷ rest)) (length front) ≡ Some s
at_front [] s rest = refl
at_front (x ∷ front) s rest = at_front front s rest

-- ---- the type of a word

module _ (x : LexiconView) (rules : List Rule) where
  abbrev m : Symbols
  m = symbols_of x

  pub begins_head : (t : Term) (rest u : Word) → BeginsBy x rules t rest u → u ≡ Param (head t).depth (head t).index ∷ drop 1 u
  begins_head (Generic g) rest u e = e ∙ ap (λ z. Param g.depth g.index ∷ drop 1 z) (sym e)
  begins_head (Member t (Bound d)) rest u (k, front, e, r, i, b) = begins_head t (MemberSymbol k ∷ rest) u b
  begins_head (Member t (Name a)) rest u b = absurd b

  -- the member symbol at a place, and the associated type that stands there in the type
  pub at_place : (t : Term) (rest u : Word) → BeginsBy x rules t rest u → (k : ℕ) → 1 ≤ k → k + length rest < length u
      → (j : ℕ) × (d : AssocId) × (slice_get u k ≡ Some (MemberSymbol j)) × IsRank m j × IsFirstBehind x rules (take k u) (name_of m j) d
  at_place (Generic g) rest u e k a b = let n : length u ≡ suc (length rest) = ap length e in absurd (omega (arith, a, b, n))
  at_place (Member t (Name c)) rest u h k a b = absurd h
  at_place (Member t (Bound d)) rest u (j, front, e, r, i, h) k a b = elim (cases_eq k (length front)) [
    | inl s ↦ (
      j,
      d,
      ap (λ z. slice_get z k) e ∙ ap (slice_get (front ++ (MemberSymbol j ∷ rest))) s ∙ at_front front (MemberSymbol j) rest,
      r,
      subst (λ z. IsFirstBehind x rules z (name_of m j) d)
          (sym (ap (take k) e ∙ ap (λ n. take n (front ++ (MemberSymbol j ∷ rest))) s ∙ take-append_seam front (MemberSymbol j ∷ rest))) i,
    )
    | inr n ↦ (let l : length u ≡ length front + suc (length rest) = ap length e ∙ length-append front (MemberSymbol j ∷ rest) in
        at_place t (MemberSymbol j ∷ rest) u h k a (omega (arith, l, n, b)))
  ]

  -- ---- one type

  long : (t : Term) (rest u : Word) → BeginsBy x rules t rest u → length rest < length u
  long (Generic g) rest u e = let n : length u ≡ suc (length rest) = ap length e in omega (arith, n)
  long (Member t (Bound d)) rest u (k, front, e, r, i, b) = let n = long t (MemberSymbol k ∷ rest) u b in omega (arith, n)
  long (Member t (Name a)) rest u b = absurd b

  pub one_type : (t s : Term) (rest u : Word) → BeginsBy x rules t rest u → BeginsBy x rules s rest u → t ≡ s
  one_type (Generic g) (Generic h) rest u e k = ap Generic (one_param {g = g} {h = h} (same_heads (sym e ∙ k)))
  one_type (Generic g) (Member s (Bound d)) rest u e (k, front, q, r, i, b) =
      let n : length u ≡ suc (length rest) = ap length e in
      let l = long s (MemberSymbol k ∷ rest) u b in
      absurd (omega (arith, n, l))
  one_type (Generic g) (Member s (Name a)) rest u e k = absurd k
  one_type (Member t (Name a)) s rest u h k = absurd h
  one_type (Member t (Bound d)) (Generic g) rest u (k, front, q, r, i, b) e =
      let n : length u ≡ suc (length rest) = ap length e in
      let l = long t (MemberSymbol k ∷ rest) u b in
      absurd (omega (arith, n, l))
  one_type (Member t (Bound d)) (Member s (Name a)) rest u h k = absurd k
  one_type (Member t (Bound d)) (Member s (Bound c)) rest u (k, front, e, r, i, b) (k', front', e', r', i', b') =
      let l : length u ≡ length front + suc (length rest) = ap length e ∙ length-append front (MemberSymbol k ∷ rest) in
      let l' : length u ≡ length front' + suc (length rest) = ap length e' ∙ length-append front' (MemberSymbol k' ∷ rest) in
      let (p, q) = same_cut front (MemberSymbol k ∷ rest) front' (MemberSymbol k' ∷ rest) (sym e ∙ e') (omega (arith, l, l')) in
      let one : k ≡ k' = same_members (same_heads q) in
      let base : t ≡ s =
      one_type t s (MemberSymbol k ∷ rest) u b (subst (λ z. BeginsBy x rules s (MemberSymbol z ∷ rest) u) (sym one) b') in
      let last : d ≡ c =
      one_first x rules front (name_of m k) d c i (subst₂ (λ y z. IsFirstBehind x rules y (name_of m z) c) (sym p) (sym one) i') in
      λ j. Member (base j) (Bound (last j))

  -- ---- the steps so far

  -- they make the type of the word up to a place, where the word has a type
  abbrev pub Made : Word → ℕ → List Step → Type 0
  Made u k steps = (r : Term) → BeginsBy x rules r [] u → BeginsBy x rules (with_steps (Generic (head r)) steps) (drop k u) u

  pub none_made : (u : Word) (steps : List Step) → steps ≡ [] → Made u 1 steps
  none_made u steps e r b = subst (λ z. BeginsBy x rules (with_steps (Generic (head r)) z) (drop 1 u) u) (sym e) (begins_head r [] u b)

  pub one_made : (u : Word) (k : ℕ) (old new : List Step) → 1 ≤ k → k < length u → Made u k old
      → ((s : Symbol) (j : ℕ) (d : AssocId) → slice_get u k ≡ Some s → s ≡ MemberSymbol j → IsRank m j
      → IsFirstBehind x rules (take k u) (name_of m j) d → new ≡ old ++ Bound d ∷ [])
      → Made u (k + 1) new
  one_made u k old new a b made adds r h =
      let (j, d, at, is, first) = at_place r [] u h k a (omega (arith, b)) in
      let cut : drop k u ≡ MemberSymbol j ∷ drop (k + 1) u = drop_from u k (MemberSymbol j) at in
      let whole : u ≡ take k u ++ (MemberSymbol j ∷ drop (k + 1) u) = sym (take-append-drop k u) ∙ ap (λ z. take k u ++ z) cut in
      let type : new ≡ old ++ Bound d ∷ [] = adds (MemberSymbol j) j d at refl is first in
      subst (λ z. BeginsBy x rules z (drop (k + 1) u) u)
      (sym (ap (with_steps (Generic (head r))) type ∙ with_more (Generic (head r)) old (Bound d)))
      (j, take k u, whole, is, first, subst (λ z. BeginsBy x rules (with_steps (Generic (head r)) old) z u) cut (made r h))

  pub all_made : (u : Word) (k : ℕ) (steps : List Step) → drop k u ≡ [] → Made u k steps → (r : Term) → BeginsBy x rules r [] u
      → with_steps (Generic (head r)) steps ≡ r
  all_made u k steps e made r h = one_type (with_steps (Generic (head r)) steps) r [] u
      (subst (λ z. BeginsBy x rules (with_steps (Generic (head r)) steps) z u) e (made r h)) h

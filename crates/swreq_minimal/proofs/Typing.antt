-- The type of a word, symbol by symbol.
use Rattle.std.proofs.Common.{◌≡◌, ◌∙◌, refl, sym, ap, subst, ◌<◌, arith, ℕ, List, [], ◌∷◌, ◌++◌, Option, Some, None, MatchOption, Contains, length, take, drop, get_or}
use Rattle.std.proofs.lemmas.List.{same_from_push, take-append-drop}
use Rattle.std.proofs.lemmas.Option.{slice_get_within}
use Rattle.swreq_machine.specs.swreq_param.declared.ids.AssocId.{AssocId}
use Rattle.swreq_machine.specs.swreq_param.declared.ids.NameId.{NameId}
use Rattle.swreq_machine.specs.swreq_param.declared.ids.ParamId.{ParamId}
use Rattle.swreq_machine.specs.swreq_param.declared.ids.Step.TheVariants.{Bound, Name}
use Rattle.swreq_machine.specs.swreq_param.declared.ids.TermId.{TermId}
use Rattle.swreq_machine.specs.swreq_param.Tables.{IsOf, term_at}
use Rattle.swreq_machine.specs.swreq_param.Terms.{Term}
use Rattle.swreq_machine.specs.swreq_param.Terms.Term.{Generic, Member}
use Rattle.swreq_machine.specs.swreq_derive.declared.known.Params.{Params}
use Rattle.swreq_machine.specs.swreq_derive.Facts.{generic_params}
use Rattle.swreq_homotopy.specs.swreq_word.declared.symbols.Symbol.{Symbol}
use Rattle.swreq_homotopy.specs.swreq_word.declared.symbols.Symbol.TheVariants.{Param}
use Rattle.swreq_homotopy.proofs.swreq_word.SameSymbols.{same_members}
use Rattle.swreq_machine.specs.swreq_rule.declared.rules.Rule.{Rule}
use Rattle.swreq_machine.proofs.swreq_lemmas.Elements.{same_heads}
use Rattle.swreq_candidates.proofs.swreq_correspondence.OneType.{one_param}
use Rattle.swreq_machine.specs.swreq_symbols.Vanishing.{IsFirstBehind, IsLeastBy}
use Rattle.swreq_machine.specs.swreq_lexicon.Lexicons.{pair}
use Rattle.swreq_machine.specs.swreq_lexicon.Views.{LexiconView}
use Rattle.swreq_machine.specs.swreq_correspondence.Symbols.{Word, name_of}
use Rattle.swreq_candidates.proofs.ReadOff.{not_empty}
use Rattle.swreq_machine.specs.swreq_symbols.Meaning.{symbols_of}
use Rattle.swreq_machine.proofs.swreq_symbols.Declared.{at_rank}
use Rattle.swreq_machine.proofs.swreq_symbols.LeastWords.{one_first, prefix_least}
use Rattle.swreq_machine.specs.swreq_world.Closed.{IsTermOf}
use Rattle.swreq_minimal.specs.Typed.{Identifies, IsMemberBehind, IsTypeBy}

-- ---- words

-- the part of a least word before a place is least
pub part_least : (rules : List Rule) (w : Word) (k : ℕ) → IsLeastBy rules w → IsLeastBy rules (take k w)
part_least rules w k least = prefix_least rules (take k w) (drop k w) (subst (IsLeastBy rules) (sym (take-append-drop k w)) least)

pub one_taken : (w : Word) (d : Symbol) → 0 < length w → take 1 w ≡ get_or w 0 d ∷ []
one_taken [] d l = absurd (omega arith)
one_taken (y ∷ w) d l = refl

-- a word of one symbol has nothing before it
pub nothing_before : (z y : Symbol) (front : Word) → z ∷ [] ≡ front ++ y ∷ [] → (front ≡ []) × (z ≡ y)
nothing_before z y front e = let (f, s) = same_from_push [] front z y e in (sym f, s)

module _ (x : LexiconView) (rules : List Rule) where
  -- ---- the member after a word is one

  pub one_member : (w : Word) (y : Symbol) (d e : AssocId) → IsMemberBehind x rules w y d → IsMemberBehind x rules w y e → d ≡ e
  one_member w y d e (k, p, r, v, f) (j, q, s, u, g) =
      one_first x rules w (name_of (symbols_of x) k) d e f
      (subst (λ n. IsFirstBehind x rules w (name_of (symbols_of x) n) e) (same_members (sym q ∙ p)) g)

  module _ (params : Params) where
    -- ---- words of no symbol, and of one

    pub none_of_nothing : (t : Term) → IsTypeBy x rules params [] t → ⊥
    none_of_nothing (Generic g) (c, e) = cc
    none_of_nothing (Member t (Bound d)) (front, y, e, h, m) = not_empty front y e
    none_of_nothing (Member t (Name a)) h = absurd h

    pub of_one : (z : Symbol) (t : Term) → IsTypeBy x rules params (z ∷ []) t
        → (g : ParamId) × (t ≡ Generic g) × (z ≡ Param g.depth g.index) × Contains (generic_params params) g
    of_one z (Generic g) (c, e) = (g, refl, same_heads e, c)
    of_one z (Member t (Bound d)) (front, y, e, h, m) =
        absurd (none_of_nothing t (subst (λ u. IsTypeBy x rules params u t) (nothing_before z y front e).0 h))
    of_one z (Member t (Name a)) h = absurd h

    pub not_param : (z : Symbol) → ((depth index : ℕ) → z ≡ Param depth index → ⊥) → (t : Term) → IsTypeBy x rules params (z ∷ []) t → ⊥
    not_param z n t h = let (g, e, i, c) = of_one z t h in n g.depth g.index i

    pub not_of_these : (g : ParamId) → (Contains (generic_params params) g → ⊥) → (t : Term)
        → IsTypeBy x rules params (Param g.depth g.index ∷ []) t → ⊥
    not_of_these g n t h =
        let (k, e, i, c) = of_one (Param g.depth g.index) t h in
        n (subst (Contains (generic_params params)) (sym (one_param {g = g} {h = k} i)) c)

    pub is_generic : (terms : List Term) (g : ParamId) (id : TermId) → Contains (generic_params params) g → IsOf terms id
        → term_at terms id ≡ Generic g
        → Identifies (IsTypeBy x rules params (Param g.depth g.index ∷ [])) terms (Some id)
    is_generic terms g id c of is = (of, subst (IsTypeBy x rules params (Param g.depth g.index ∷ [])) (sym is) (c, refl))

    pub begin_empty : (w : Word) → length w ≡ 0 → (t : Term) → IsTypeBy x rules params (take 1 w) t → ⊥
    begin_empty [] e = none_of_nothing
    begin_empty (y ∷ w) e = absurd (omega arith)

    -- ---- a word has one type

    generic_or_longer : (g : ParamId) (front : Word) (y : Symbol) (t : Term) → Param g.depth g.index ∷ [] ≡ front ++ y ∷ []
        → IsTypeBy x rules params front t → ⊥
    generic_or_longer g front y t e h =
        none_of_nothing t (subst (λ u. IsTypeBy x rules params u t) (nothing_before (Param g.depth g.index) y front e).0 h)

    pub one_type : (t z : Term) (u : Word) → IsTypeBy x rules params u t → IsTypeBy x rules params u z → t ≡ z
    one_type (Generic g) (Generic h) u (c, e) (d, k) = ap Generic (one_param {g = g} {h = h} (same_heads (sym e ∙ k)))
    one_type (Generic g) (Member z (Bound d)) u (c, e) (front, y, k, h, m) = absurd (generic_or_longer g front y z (sym e ∙ k) h)
    one_type (Member t (Bound d)) (Generic g) u (front, y, k, h, m) (c, e) = absurd (generic_or_longer g front y t (sym e ∙ k) h)
    one_type (Member t (Bound d)) (Member z (Bound b)) u (front, y, e, h, m) (other, s, k, j, n) =
        let (f, q) = same_from_push front other y s (sym e ∙ k) in
        let j' : IsTypeBy x rules params front z = subst (λ v. IsTypeBy x rules params v z) (sym f) j in
        let n' : IsMemberBehind x rules front y b = subst (λ v. IsMemberBehind x rules v y b) (sym f)
        (subst (λ v. IsMemberBehind x rules other v b) (sym q) n) in
        λ i. Member (one_type t z front h j' i) (Bound (one_member front y d b m n' i))
    one_type (Member t (Name a)) z u h k = absurd h
    one_type (Generic g) (Member z (Name a)) u h k = absurd k
    one_type (Member t (Bound d)) (Member z (Name a)) u h k = absurd k

    -- ---- one symbol more

    -- what has a word of at least two symbols as its word is a bound member
    behind_some : (front : Word) (y : Symbol) (t : Term) → 0 < length front → IsTypeBy x rules params (front ++ y ∷ []) t
        → (z : Term) × (d : AssocId) × (t ≡ Member z (Bound d)) × IsTypeBy x rules params front z × IsMemberBehind x rules front y d
    behind_some front y (Generic g) l (c, e) =
        let (f, s) = nothing_before (Param g.depth g.index) y front (sym e) in
        absurd (let n : length front ≡ 0 = ap length f in omega (arith, l, n))
    behind_some front y (Member z (Bound d)) l (other, s, e, h, m) =
        let (f, q) = same_from_push front other y s e in (
          z,
          d,
          refl,
          subst (λ v. IsTypeBy x rules params v z) (sym f) h,
          subst (λ v. IsMemberBehind x rules v y d) (sym f) (subst (λ v. IsMemberBehind x rules other v d) (sym q) m),
        )
    behind_some front y (Member z (Name a)) l h = absurd h

    pub none_more : (front : Word) (y : Symbol) → 0 < length front → ((t : Term) → IsTypeBy x rules params front t → ⊥)
        → (t : Term) → IsTypeBy x rules params (front ++ y ∷ []) t → ⊥
    none_more front y l n t h = let (z, d, e, k, m) = behind_some front y t l h in n z k

    pub one_more : (front : Word) (y : Symbol) → 0 < length front → (old new : List Term) (id : TermId)
        → IsTypeBy x rules params front (term_at old id) → (o : Option TermId)
        → MatchOption o ((d : AssocId) → IsMemberBehind x rules front y d → ⊥)
        (λ u. (d : AssocId) × IsMemberBehind x rules front y d × IsOf new u × (term_at new u ≡ Member (term_at old id) (Bound d)))
        → Identifies (IsTypeBy x rules params (front ++ y ∷ [])) new o
    one_more front y l old new id h None n = λ t k. let (z, d, e, j, m) = behind_some front y t l k in n d m
    one_more front y l old new id h (Some u) (d, m, of, is) =
        (of, subst (IsTypeBy x rules params (front ++ y ∷ [])) (sym is) (front, y, refl, h, m))

    -- ---- its members are of the text

    pub given_of_text : (w : Word) (a : NameId) (d : AssocId) → IsFirstBehind x rules w a d → d.rank < length x.associated
    given_of_text w a d h = let (p, c, v) = h.given in slice_get_within x.associated d.rank (pair p a) (at_rank x p a d c)

    pub type_of_text : (t : Term) (u : Word) → IsTypeBy x rules params u t → IsTermOf x t
    type_of_text (Generic g) u h = tt
    type_of_text (Member t (Bound d)) u (front, y, e, h, (k, s, r, v, f)) =
        (type_of_text t front h, given_of_text front (name_of (symbols_of x) k) d f)
    type_of_text (Member t (Name a)) u h = absurd h

pub id_there : (P : Term → Type 0) (terms : List Term) (o : Option TermId) → Identifies P terms o → MatchOption o (Unit {0}) (IsOf terms)
id_there P terms None n = tt
id_there P terms (Some id) h = h.0

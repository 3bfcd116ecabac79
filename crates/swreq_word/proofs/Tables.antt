-- What an indexed set says of the table whose words its keys stand for.
use Rattle.std.proofs.Common.{◌≡◌, inl, inr, ℕ, zero, suc, ◌+◌, Bool, false, cond, not, if◌then◌else◌, List, [], ◌∷◌, ◌++◌, length, length-append, map, get_or, slice_get, Some, Contains, position, Vec, refl, sym, ap, subst, ◌∙◌, arith, true≢false}
use Rattle.std.specs.Bool.{Decides}
use Rattle.std.specs.List.{IsDistinct, AllByRecursion, list_any, position_or_len}
use Rattle.std.proofs.Math.Numerals.{one-add}
use Rattle.std.specs.Cmp.Lexicographic.{pointwise}
use Rattle.std.proofs.lemmas.Bool.{or_parts}
use Rattle.std.proofs.lemmas.List.{length-map, map_push}
use Rattle.std.proofs.lemmas.List.Quantifiers.{position-Some}
use Rattle.std.proofs.lemmas.Option.{slice_get-map, slice_get-get_or, slice_get_within}
use Rattle.swreq_word.specs.declared.symbols.Symbol.{Symbol}
use Rattle.swreq_word.specs.declared.table.WordId.{WordId}
use Rattle.swreq_word.specs.contracts.symbols.SymbolPartialEq.TheImpl as eq-impl
use Rattle.swreq_word.specs.Interned.{StandsFor, AreDistinct, Interned}
use Rattle.swreq_word.proofs.Comparing.{symbols_decide}
use Rattle.swreq_lemmas.proofs.Elements.{get_left, get_last}

module _ {K : Type 0} (word_of : K → List Symbol) where
  key_at : (keys : List K) (i : ℕ) (w : List Symbol) → slice_get (map word_of keys) i ≡ Some w
      → (k : K) × (slice_get keys i ≡ Some k) × (word_of k ≡ w)
  key_at [] i w h = cc
  key_at (k ∷ keys) zero w h = (k, refl, cc)
  key_at (k ∷ keys) (suc i) w h = key_at keys i w h

  module _ (test : K → Bool) (w : List Symbol) (is : (k : K) → Decides (test k) (w ≡ word_of k)) where
    -- a key that passes the test stands for the word
    pub found_at : (keys : List K) (i : ℕ) → position test keys ≡ Some i → slice_get (map word_of keys) i ≡ Some w
    found_at [] i h = cc
    found_at (k ∷ keys) i h =
        let p = position-Some test (k ∷ keys) i k h in
        let g = slice_get-get_or (k ∷ keys) i k p.0 in
        let e : w ≡ word_of (get_or (k ∷ keys) i k) = (is (get_or (k ∷ keys) i k)).0 p.1 in
        slice_get-map word_of (k ∷ keys) i ∙ rw (g, ← e) refl

    -- where none passes it, no key stands for the word
    pub none_at : (keys : List K) → list_any test keys ≡ false → (i : ℕ) → slice_get (map word_of keys) i ≡ Some w → ⊥
    none_at [] h i s = cc
    none_at (k ∷ keys) h zero s =
        let e : w ≡ word_of k = cc in
        true≢false (sym ((is k).1 e) ∙ (or_parts (test k) (list_any test keys) h).0)
    none_at (k ∷ keys) h (suc i) s = none_at keys (or_parts (test k) (list_any test keys) h).1 i s

    pub is_absent : (keys : List K) → list_any test keys ≡ false → Contains (map word_of keys) w → ⊥
    is_absent keys h c = none_at keys h c.0 (slice_get-get_or (map word_of keys) c.0 w c.1 ∙ ap Some c.2)

    pub first_of_none : (keys : List K) → list_any test keys ≡ false → position_or_len test keys ≡ length keys
    first_of_none [] h = refl
    first_of_none (k ∷ keys) h =
        let p = or_parts (test k) (list_any test keys) h in
        ap (λ c. cond (not c) (1 + position_or_len test keys) 0) p.0 ∙ rw one-add (ap suc (first_of_none keys p.1))

  -- keys of which no two are equal stand for different words
  module _ (eq : K → K → Bool) (is : (j k : K) → Decides (eq j k) (word_of j ≡ word_of k)) where
    differs : (k : K) (keys : List K) (w : List Symbol) (j : ℕ) → AllByRecursion (λ y. eq k y ≡ false) keys → word_of k ≡ w
        → slice_get (map word_of keys) j ≡ Some w → ⊥
    differs k [] w j d e h = cc
    differs k (x ∷ keys) w zero d e h = let f : word_of k ≡ word_of x = cc in true≢false (sym ((is k x).1 f) ∙ d.0)
    differs k (x ∷ keys) w (suc j) d e h = differs k keys w j d.1 e h

    one_place : (keys : List K) (w : List Symbol) (i j : ℕ) → IsDistinct eq keys → slice_get (map word_of keys) i ≡ Some w
        → slice_get (map word_of keys) j ≡ Some w → i ≡ j
    unfolding IsDistinct
    one_place [] w i j d p q = cc
    one_place (k ∷ keys) w zero zero d p q = refl
    one_place (k ∷ keys) w zero (suc j) d p q = absurd (differs k keys w j d.0 (cc) q)
    one_place (k ∷ keys) w (suc i) zero d p q = absurd (differs k keys w i d.0 (cc) p)
    one_place (k ∷ keys) w (suc i) (suc j) d p q = ap suc (one_place keys w i j d.1 p q)

    pub are_distinct : (keys : List K) (words : List (List Symbol)) → map word_of keys ≡ words → IsDistinct eq keys → AreDistinct words
    are_distinct keys words e d a b w p q =
        let same : a.place ≡ b.place = one_place keys w a.place b.place d (rw e p) (rw e q) in
        λ i. record { place = same i }

-- a word of the table keeps its id
pub known : (words : List (List Symbol)) (w : List Symbol) (id : WordId) → StandsFor words id w → Interned words words w id
known words w id h = record { is_of = slice_get_within words id.place w h; stands = h; earlier = λ other v s. s; grown = inl refl }

-- a new word comes last
pub added : (old new : List (List Symbol)) (w : List Symbol) (id : WordId) → (Contains old w → ⊥) → new ≡ old ++ w ∷ []
    → id.place ≡ length old → Interned old new w id
added old new w id none e at = record {
  is_of = let l = length-append old (w ∷ []) in rw e (omega arith);
  stands = rw (e, at) (get_last old w);
  earlier = λ other v s. rw e (get_left old (w ∷ []) other.place v s);
  grown = inr (none, e);
}

-- two keys are equal by their symbols
abbrev pub key_eq : {Z : Type 0} → Vec Symbol Z → Vec Symbol Z → Bool
key_eq j k = pointwise eq-impl.eq-value.it j.items k.items

-- a key has these symbols
abbrev pub has_symbols : {Z : Type 0} → List Symbol → Vec Symbol Z → Bool
has_symbols w k = pointwise eq-impl.eq-value.it w k.items

module _ {Z : Type 0} (keys : List (Vec Symbol Z)) (words : List (List Symbol)) (stand : map (λ k. k.items) keys ≡ words) where
  pub stands_at : (w : List Symbol) (i : ℕ) → position (has_symbols w) keys ≡ Some i → slice_get words i ≡ Some w
  stands_at w i h = rw (← stand) (found_at (λ k. k.items) (has_symbols w) w (λ k. symbols_decide w k.items) keys i h)

  pub lacks : (w : List Symbol) → list_any (has_symbols w) keys ≡ false → Contains words w → ⊥
  lacks w h = rw (← stand) (is_absent (λ k. k.items) (has_symbols w) w (λ k. symbols_decide w k.items) keys h)

  pub words_differ : IsDistinct key_eq keys → AreDistinct words
  words_differ d = are_distinct (λ k. k.items) key_eq (λ j k. symbols_decide j.items k.items) keys words stand d

  -- the table after a word that it lacks was inserted by its key
  pub inserted : (w : List Symbol) (key : Vec Symbol Z) (new : List (Vec Symbol Z)) (id : WordId) → key.items ≡ w
      → list_any (has_symbols w) keys ≡ false
      → new ≡ (if list_any (key_eq key) keys then keys else keys ++ key ∷ []) → id.place ≡ position_or_len (key_eq key) keys
      → Interned words (map (λ k. k.items) new) w id
  inserted w key new id e none n at =
      let none' : list_any (key_eq key) keys ≡ false = subst (λ x. list_any (has_symbols x) keys ≡ false) (sym e) none in
      let n' : new ≡ keys ++ key ∷ [] = n ∙ ap (λ b. if b then keys else keys ++ key ∷ []) none' in
      let place : id.place ≡ length words =
      at ∙ first_of_none (λ k. k.items) (key_eq key) key.items (λ k. symbols_decide key.items k.items) keys none'
      ∙ sym (length-map keys (λ k. k.items)) ∙ ap length stand in
      added words (map (λ k. k.items) new) w id (lacks w none)
      (ap (map (λ k. k.items)) n' ∙ map_push (λ k. k.items) keys key ∙ (λ i. stand i ++ e i ∷ [])) place

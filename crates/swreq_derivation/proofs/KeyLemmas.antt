-- Keys of statements, by their places.
use Rattle.std.proofs.Common.{◌≡◌, ℕ, zero, suc, ◌+◌, Bool, true, false, ◌||◌, if◌then◌else◌, List, [], ◌∷◌, ◌++◌, map, get_or, slice_get}
use Rattle.std.proofs.{Common.{Some, position, refl, sym, ap, subst, ◌∙◌, arith, true≢false, rules}, Math.Bool.{or-true}}
use Rattle.std.{proofs.lemmas.{List.{map-append, Quantifiers.{position-Some}}, Option.{slice_get-get_or}}, specs.List.{list_any}}
use Rattle.swreq_derive.{proofs.swreq_lemmas.Elements.{get_map, get_of_map}, specs.declared.requirements.Statement.{Statement}}
use Rattle.swreq_derive.specs.Instances.{HasNumber}
use Rattle.swreq_derive.specs.declared.requirements.Requirement.TheVariants as required
use Rattle.swreq_derive.specs.declared.requirements.Statement.TheVariants as stated
use Rattle.swreq_derivation.specs.declared.stated.Key.{Key, TheVariants.{Valid, Conf, Layout, Same}}
use Rattle.swreq_derivation.specs.{contracts.stated.{KeyPartialEq.TheImpl.{eq-value}, KeyEq.TheImpl.Laws.{laws-law}}, Keys.{statement_by}}

-- keys that are equal by the derived `==` are identical
key_same : (x y : Key) → eq-value.it x y ≡ true → x ≡ y
key_same (Valid t) (Valid u) h = search rules
key_same (Valid t) (Conf u q) h = search rules
key_same (Valid t) (Layout u) h = search rules
key_same (Valid t) (Same u v) h = search rules
key_same (Conf t p) (Valid u) h = search rules
key_same (Conf t p) (Conf u q) h = search rules
key_same (Conf t p) (Layout u) h = search rules
key_same (Conf t p) (Same u v) h = search rules
key_same (Layout t) (Valid u) h = search rules
key_same (Layout t) (Conf u q) h = search rules
key_same (Layout t) (Layout u) h = search rules
key_same (Layout t) (Same u v) h = search rules
key_same (Same t w) (Valid u) h = search rules
key_same (Same t w) (Conf u q) h = search rules
key_same (Same t w) (Layout u) h = search rules
key_same (Same t w) (Same u v) h = search rules

-- the key of a statement
abbrev key_by : Statement → Key
key_by (stated.Valid t) = Valid t
key_by (stated.Holds (required.Conf t p)) = Conf t p
key_by (stated.Holds (required.Layout t)) = Layout t
key_by (stated.Holds (required.Same t u)) = Same t u

key_back : (x : Key) → key_by (statement_by x) ≡ x
key_back (Valid t) = refl
key_back (Conf t p) = refl
key_back (Layout t) = refl
key_back (Same t u) = refl

-- keys of the same statement are identical
one_key : (x y : Key) → statement_by x ≡ statement_by y → x ≡ y
one_key x y e = sym (key_back x) ∙ ap key_by e ∙ key_back y

there_any : (keys : List Key) (k : ℕ) (x : Key) → slice_get keys k ≡ Some x → list_any (eq-value.it x) keys ≡ true
there_any [] k x h = absurd cc
there_any (y ∷ keys) zero x h =
    let same : y ≡ x = cc in ap (λ b. b || list_any (eq-value.it x) keys) (subst (λ z. eq-value.it x z ≡ true) (sym same) (laws-law.refl x))
there_any (y ∷ keys) (suc k) x h = ap (λ b. eq-value.it x y || b) (there_any keys k x h) ∙ or-true (eq-value.it x y)

-- the key at the place that a search finds is the one that was sought
pub found_at : (x : Key) (keys : List Key) (k : ℕ) → position (eq-value.it x) keys ≡ Some k → slice_get keys k ≡ Some x
found_at x keys k h =
    let p = position-Some (eq-value.it x) keys k x h in
    slice_get-get_or keys k x p.0 ∙ ap Some (sym (key_same x (get_or keys k x) p.1))

-- a statement whose key is found has the number after that place
pub numbered : (x : Key) (keys : List Key) (st : Statement) (k : ℕ) → statement_by x ≡ st → position (eq-value.it x) keys ≡ Some k
    → HasNumber (k + 1) (map statement_by keys) st
numbered x keys st k e h = (
  omega arith,
  subst (λ z. slice_get (map statement_by keys) z ≡ Some st) (omega arith)
      (get_map statement_by keys k x (found_at x keys k h) ∙ ap Some e),
)

-- a statement whose key is not found does not stand in the list
pub nowhere : (x : Key) (keys : List Key) (st : Statement) → statement_by x ≡ st → list_any (eq-value.it x) keys ≡ false
    → (k : ℕ) → slice_get (map statement_by keys) k ≡ Some st → ⊥
nowhere x keys st e h k w =
    let y = get_of_map statement_by keys k st w in
    let same : y.0 ≡ x = one_key y.0 x (y.2 ∙ sym e) in
    true≢false (sym (there_any keys k x (y.1 ∙ ap Some same)) ∙ h)

any_there : (x : Key) (keys : List Key) → list_any (eq-value.it x) keys ≡ true → (k : ℕ) × (slice_get keys k ≡ Some x)
any_there x [] h = absurd (true≢false (sym h))
any_there x (y ∷ keys) h = at (eq-value.it x y) refl (any_there x keys)
  where
    at : (b : Bool) → eq-value.it x y ≡ b → (list_any (eq-value.it x) keys ≡ true → (k : ℕ) × (slice_get keys k ≡ Some x))
        → (k : ℕ) × (slice_get (y ∷ keys) k ≡ Some x)
    at true i rest = (0, ap Some (sym (key_same x y i)))
    at false i rest = let r = rest (subst (λ b. b || list_any (eq-value.it x) keys ≡ true) i h) in (suc r.0, r.1)

-- putting a key that was not there puts its statement last
pub put_last : (x : Key) (keys : List Key) (st : Statement) → statement_by x ≡ st
    → ((k : ℕ) → slice_get (map statement_by keys) k ≡ Some st → ⊥)
    → map statement_by (if list_any (eq-value.it x) keys then keys else keys ++ x ∷ []) ≡ map statement_by keys ++ st ∷ []
put_last x keys st e none = go (list_any (eq-value.it x) keys) refl
  where
    go : (b : Bool) → list_any (eq-value.it x) keys ≡ b
        → map statement_by (if list_any (eq-value.it x) keys then keys else keys ++ x ∷ []) ≡ map statement_by keys ++ st ∷ []
    go true i = let r = any_there x keys i in absurd (none r.0 (get_map statement_by keys r.0 x r.1 ∙ ap Some e))
    go false i = rw i (map-append statement_by keys (x ∷ []) ∙ ap (λ z. map statement_by keys ++ z ∷ []) e)

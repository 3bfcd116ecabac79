-- Lists by place: all of them alike, and one of them with one more item.
use Rattle.std.proofs.Common.{◌≡◌, ℕ, zero, suc, ◌<◌, ◌⊎◌, inl, inr, ⊎_elim, ◌↔◌, List, [], ◌∷◌, ◌++◌, length, get_or, set, replicate, Contains, refl, sym, ap, subst, ◌∙◌}
use Rattle.std.proofs.lemmas.Bool.{cases_eq}
use Rattle.std.proofs.lemmas.List.{get_or-set_same, get_or-set_other}
use Rattle.std.proofs.lemmas.List.Elements.{Contains-append_left, Contains-push, Contains-push_cases}

pub all_alike : {A : Type 0} (n r : ℕ) (d : A) → get_or (replicate n d) r d ≡ d
all_alike zero r d = refl
all_alike (suc n) zero d = refl
all_alike (suc n) (suc r) d = all_alike n r d

abbrev pub with_item : {T : Type 0} → List (List T) → ℕ → T → List (List T)
with_item lists place item = set lists place (get_or lists place [] ++ item ∷ [])

module _ {T : Type 0} (lists : List (List T)) (place : ℕ) (item : T) (room : place < length lists) where
  here : (r : ℕ) → r ≡ place → get_or (with_item lists place item) r [] ≡ get_or lists r [] ++ item ∷ []
  here r e =
      ap (λ k. get_or (with_item lists place item) k []) e ∙ get_or-set_same lists place (get_or lists place [] ++ item ∷ []) [] room
      ∙ ap (λ k. get_or lists k [] ++ item ∷ []) (sym e)

  other : (r : ℕ) → (r ≡ place → ⊥) → get_or (with_item lists place item) r [] ≡ get_or lists r []
  other r n = get_or-set_other lists place r (get_or lists place [] ++ item ∷ []) [] n

  -- the list at the place has the item too, and the others have what they had
  pub pushed : (r : ℕ) (x : T)
      → Contains (get_or (with_item lists place item) r []) x ↔ (Contains (get_or lists r []) x ⊎ ((r ≡ place) × (x ≡ item)))
  pushed r x = (to, from)
    where
      to : Contains (get_or (with_item lists place item) r []) x → Contains (get_or lists r []) x ⊎ ((r ≡ place) × (x ≡ item))
      to c =
          ⊎_elim
          (λ e.
          ⊎_elim inl (λ s. inr (e, sym s)) (Contains-push_cases (get_or lists r []) item x (subst (λ xs. Contains xs x) (here r e) c)))
          (λ n. inl (subst (λ xs. Contains xs x) (other r n) c)) (cases_eq r place)

      kept : Contains (get_or lists r []) x → Contains (get_or (with_item lists place item) r []) x
      kept d =
          ⊎_elim (λ e. subst (λ xs. Contains xs x) (sym (here r e)) (Contains-append_left (get_or lists r []) (item ∷ []) x d))
          (λ n. subst (λ xs. Contains xs x) (sym (other r n)) d) (cases_eq r place)

      from : Contains (get_or lists r []) x ⊎ ((r ≡ place) × (x ≡ item)) → Contains (get_or (with_item lists place item) r []) x
      from h =
          ⊎_elim kept
          (λ s. subst (λ xs. Contains xs x) (sym (here r s.0))
          (subst (λ y. Contains (get_or lists r [] ++ item ∷ []) y) (sym s.1) (Contains-push (get_or lists r []) item))) h

-- Flags from round to round.
use Rattle.std.proofs.lemmas.List.{drop_all, drop_more}
use Rattle.std.proofs.Common.{◌≡◌, ◌⊎◌, inl, inr, refl, sym, subst, ap, ap₂, drop, get_or, replicate, ◌∙◌, ℕ, zero, suc, ◌<◌, ◌≤◌, ◌+◌, arith, Bool, true, false, List, [], ◌∷◌, ◌++◌, length, map, Contains, IsTrue, slice_get, Some, true≢false}
use Rattle.std.specs.Bool.{Decides, if◌then◌else◌, beq}
use Rattle.std.specs.List.{list_all}
use Rattle.swreq_complete.proofs.swreq_lemmas.Members.{first_member, later_member, member_cases, no_member}
use Rattle.swreq_rounds.specs.Rounds.{Selects}
use Rattle.swreq_rounds.specs.Rounds.Selects.{none, takes, leaves}
use Rattle.swreq_rounds.proofs.Members.{selected}
use Rattle.swreq_valid.specs.Flags.{chosen, Tells, TellsMore, either_of, is_either, unset}

-- Of flags that are all unset none is set.
pub none_set : (n k : ℕ) → slice_get (replicate n false) k ≡ Some true → ⊥
none_set zero k e = cc
none_set (suc n) zero e = cc
none_set (suc n) (suc k) e = none_set n k e

module _ {A : Type 0} where
  -- flags of which none is set choose nothing
  pub chosen_unset : (xs : List A) (n : ℕ) → chosen xs (replicate n false) ≡ []
  chosen_unset [] n = refl
  chosen_unset (x ∷ xs) zero = refl
  chosen_unset (x ∷ xs) (suc n) = chosen_unset xs n

  -- what is chosen is of the list
  pub chosen_in : (xs : List A) (bs : List Bool) (x : A) → Contains (chosen xs bs) x → Contains xs x
  chosen_in [] bs x c = c
  chosen_in (y ∷ xs) [] x c = no_member x c
  chosen_in (y ∷ xs) (true ∷ bs) x c = elim (member_cases y x (chosen xs bs) c) [
    | inl e ↦ subst (λ z. Contains (y ∷ xs) z) (sym e) (first_member y xs)
    | inr k ↦ later_member y x xs (chosen_in xs bs x k)
  ]
  chosen_in (y ∷ xs) (false ∷ bs) x c = later_member y x xs (chosen_in xs bs x c)

  -- flags that tell of P choose exactly those of which P holds
  pub tells_selects : {P : A → Type 0} (xs : List A) (bs : List Bool) → Tells P xs bs → Selects P xs (chosen xs bs)
  tells_selects [] [] t = none
  tells_selects [] (b ∷ bs) t = absurd t
  tells_selects (x ∷ xs) [] t = absurd t
  tells_selects (x ∷ xs) (true ∷ bs) t = takes (t.0.0 refl) (tells_selects xs bs t.1)
  tells_selects (x ∷ xs) (false ∷ bs) t = leaves (λ h. true≢false (sym (t.0.1 h))) (tells_selects xs bs t.1)

  one_decision : (P : A → Type 0) (x : A) (b c : Bool) → Decides b (P x) → Decides c (P x) → b ≡ c
  one_decision P x true true h k = refl
  one_decision P x true false h k = sym (k.1 (h.0 refl))
  one_decision P x false true h k = h.1 (k.0 refl)
  one_decision P x false false h k = refl

  -- flags that tell of P are one list
  pub one_telling : (P : A → Type 0) (xs : List A) (bs cs : List Bool) → Tells P xs bs → Tells P xs cs → bs ≡ cs
  one_telling P [] [] [] t u = refl
  one_telling P [] [] (c ∷ cs) t u = absurd u
  one_telling P [] (b ∷ bs) cs t u = absurd t
  one_telling P (x ∷ xs) [] cs t u = absurd t
  one_telling P (x ∷ xs) (b ∷ bs) [] t u = absurd u
  one_telling P (x ∷ xs) (b ∷ bs) (c ∷ cs) t u = ap₂ ◌∷◌ (one_decision P x b c t.0 u.0) (one_telling P xs bs cs t.1 u.1)

  pub tells_length : (P : A → Type 0) (xs : List A) (bs : List Bool) → Tells P xs bs → length bs ≡ length xs
  tells_length P [] [] t = refl
  tells_length P [] (b ∷ bs) t = absurd t
  tells_length P (x ∷ xs) [] t = absurd t
  tells_length P (x ∷ xs) (b ∷ bs) t = let h = tells_length P xs bs t.1 in omega (arith, h)

  pub tells_one_more : (P : A → Type 0) (xs : List A) (bs : List Bool) (x : A) (b : Bool) → Tells P xs bs → Decides b (P x)
      → Tells P (xs ++ x ∷ []) (bs ++ b ∷ [])
  tells_one_more P [] [] x b t d = (d, tt)
  tells_one_more P [] (c ∷ bs) x b t d = absurd t
  tells_one_more P (y ∷ xs) [] x b t d = absurd t
  tells_one_more P (y ∷ xs) (c ∷ bs) x b t d = (t.0, tells_one_more P xs bs x b t.1 d)

  pub count_chosen : (xs : List A) (bs : List Bool) → length bs ≡ length xs → length (chosen xs bs) + unset bs ≡ length xs
  count_chosen [] [] e = refl
  count_chosen [] (b ∷ bs) e = absurd (omega (arith, e))
  count_chosen (x ∷ xs) [] e = absurd (omega (arith, e))
  count_chosen (x ∷ xs) (true ∷ bs) e = let h = count_chosen xs bs (omega (arith, e)) in omega (arith, h)
  count_chosen (x ∷ xs) (false ∷ bs) e = let h = count_chosen xs bs (omega (arith, e)) in omega (arith, h)

pub tells_map : {A B : Type 0} (P : B → Type 0) (g : A → B) (xs : List A) (bs : List Bool)
    → Tells (λ x. P (g x)) xs bs → Tells P (map g xs) bs
tells_map P g [] [] t = t
tells_map P g [] (b ∷ bs) t = absurd t
tells_map P g (x ∷ xs) [] t = absurd t
tells_map P g (x ∷ xs) (b ∷ bs) t = (t.0, tells_map P g xs bs t.1)

pub tells_to : {A : Type 0} (P Q : A → Type 0) → ((x : A) → P x → Q x) → ((x : A) → Q x → P x) → (xs : List A) (bs : List Bool)
    → Tells P xs bs → Tells Q xs bs
tells_to P Q to back [] [] t = t
tells_to P Q to back [] (b ∷ bs) t = absurd t
tells_to P Q to back (x ∷ xs) [] t = absurd t
tells_to P Q to back (x ∷ xs) (b ∷ bs) t = (((λ h. to x (t.0.0 h)), λ h. t.0.1 (back x h)), tells_to P Q to back xs bs t.1)

-- what is chosen from a place on
pub chosen_from : {A : Type 0} (xs : List A) (bs : List Bool) (k : ℕ) (x d : A) (b c : Bool) → k < length xs → k < length bs
    → get_or xs k d ≡ x → get_or bs k c ≡ b
    → chosen (drop k xs) (drop k bs) ≡ (if b then x ∷ [] else []) ++ chosen (drop (k + 1) xs) (drop (k + 1) bs)
chosen_from xs bs k x d b c l m e f =
    ap₂ chosen (drop_more xs k d l) (drop_more bs k c m) ∙ ap₂ (λ y z. chosen (y ∷ drop (k + 1) xs) (z ∷ drop (k + 1) bs)) e f ∙ one b
  where
    one : (z : Bool)
        → chosen (x ∷ drop (k + 1) xs) (z ∷ drop (k + 1) bs) ≡ (if z then x ∷ [] else []) ++ chosen (drop (k + 1) xs) (drop (k + 1) bs)
    one true = refl
    one false = refl

pub chosen_map : {A B : Type 0} (g : A → B) (xs : List A) (bs : List Bool) → chosen (map g xs) bs ≡ map g (chosen xs bs)
chosen_map g [] bs = refl
chosen_map g (x ∷ xs) [] = refl
chosen_map g (x ∷ xs) (true ∷ bs) = ap (λ z. g x ∷ z) (chosen_map g xs bs)
chosen_map g (x ∷ xs) (false ∷ bs) = chosen_map g xs bs

pub map_one_if : {A B : Type 0} (h : A → B) (b : Bool) (x : A) → map h (if b then x ∷ [] else []) ≡ (if b then h x ∷ [] else [])
map_one_if h true x = refl
map_one_if h false x = refl

-- each flag that is set in the first is set in the second
abbrev Covers : List Bool → List Bool → Type 0
Covers [] [] = Unit {0}
Covers (a ∷ xs) (b ∷ bs) = (IsTrue a → IsTrue b) × Covers xs bs
Covers _ _ = ⊥

module _ {A : Type 0} {P : A → Type 0} where
  covers : (xs : List A) (cs bs : List Bool) → length cs ≡ length xs → Tells P xs bs
      → ((x : A) → Contains (chosen xs cs) x → P x) → Covers cs bs
  covers [] [] [] e t h = tt
  covers [] [] (b ∷ bs) e t h = t
  covers [] (a ∷ cs) bs e t h = absurd (omega (arith, e))
  covers (x ∷ xs) [] bs e t h = absurd (omega (arith, e))
  covers (x ∷ xs) (a ∷ cs) [] e t h = t
  covers (x ∷ xs) (true ∷ cs) (b ∷ bs) e t h = (
    (λ k. t.0.1 (h x (first_member x (chosen xs cs)))),
    covers xs cs bs (omega (arith, e)) t.1 (λ y c. h y (later_member x y (chosen xs cs) c)),
  )
  covers (x ∷ xs) (false ∷ cs) (b ∷ bs) e t h = ((λ k. absurd (true≢false (sym k))), covers xs cs bs (omega (arith, e)) t.1 h)

unset_le : (cs bs : List Bool) → Covers cs bs → unset bs ≤ unset cs
unset_le [] [] c = omega arith
unset_le [] (b ∷ bs) c = absurd c
unset_le (a ∷ cs) [] c = absurd c
unset_le (true ∷ cs) (true ∷ bs) c = unset_le cs bs c.1
unset_le (true ∷ cs) (false ∷ bs) c = absurd (true≢false (sym (c.0 refl)))
unset_le (false ∷ cs) (true ∷ bs) c = let h = unset_le cs bs c.1 in omega (arith, h)
unset_le (false ∷ cs) (false ∷ bs) c = let h = unset_le cs bs c.1 in omega (arith, h)

unset_falls : (cs bs : List Bool) → Covers cs bs → (bs ≡ cs → ⊥) → unset bs < unset cs
unset_falls [] [] c n = absurd (n refl)
unset_falls [] (b ∷ bs) c n = absurd c
unset_falls (a ∷ cs) [] c n = absurd c
unset_falls (true ∷ cs) (true ∷ bs) c n = unset_falls cs bs c.1 (λ e. n (ap (λ z. true ∷ z) e))
unset_falls (true ∷ cs) (false ∷ bs) c n = absurd (true≢false (sym (c.0 refl)))
unset_falls (false ∷ cs) (true ∷ bs) c n = let h = unset_le cs bs c.1 in omega (arith, h)
unset_falls (false ∷ cs) (false ∷ bs) c n = let h = unset_falls cs bs c.1 (λ e. n (ap (λ z. false ∷ z) e)) in omega (arith, h)

-- Where all that was chosen is told, and the flags are others, fewer are unset.
pub fewer_unset : {A : Type 0} {P : A → Type 0} (xs : List A) (cs bs : List Bool) → length cs ≡ length xs → Tells P xs bs
    → ((x : A) → Contains (chosen xs cs) x → P x) → (bs ≡ cs → ⊥) → unset bs < unset cs
fewer_unset xs cs bs e t h n = unset_falls cs bs (covers xs cs bs e t h) n

-- And then other ones are chosen.
pub others_chosen : {A : Type 0} {P : A → Type 0} (xs : List A) (cs bs : List Bool) → length cs ≡ length xs → Tells P xs bs
    → ((x : A) → Contains (chosen xs cs) x → P x) → (bs ≡ cs → ⊥) → chosen xs bs ≡ chosen xs cs → ⊥
others_chosen {P = P} xs cs bs e t h n same =
    let a = fewer_unset xs cs bs e t h n in
    let b = count_chosen xs cs e in
    let d = count_chosen xs bs (tells_length P xs bs t) in
    let k : length (chosen xs bs) ≡ length (chosen xs cs) = ap length same in
    omega (arith, a, b, d, k)

-- ---- flags by item, and flags of more

module _ {A : Type 0} where
  -- what is chosen has what the flags tell
  chosen_told : (P : A → Type 0) (xs : List A) (bs : List Bool) → Tells P xs bs → (x : A) → Contains (chosen xs bs) x → P x
  chosen_told P xs bs t x h = (selected (tells_selects xs bs t) x h).1

  told_among : (P : A → Type 0) (ys : List A) → ((x : A) → Contains ys x → P x) → (xs : List A) (bs : List Bool) → Tells P xs bs
      → ((x : A) → Contains (chosen xs bs) x → Contains ys x) → Tells (Contains ys) xs bs
  told_among P ys to [] [] t h = tt
  told_among P ys to [] (b ∷ bs) t h = t
  told_among P ys to (x ∷ xs) [] t h = t
  told_among P ys to (x ∷ xs) (true ∷ bs) t h = (
    ((λ k. h x (first_member x (chosen xs bs))), λ k. refl),
    told_among P ys to xs bs t.1 (λ y c. h y (later_member x y (chosen xs bs) c)),
  )
  told_among P ys to (x ∷ xs) (false ∷ bs) t h = (((λ k. absurd (true≢false (sym k))), λ k. t.0.1 (to x k)), told_among P ys to xs bs t.1 h)

  -- flags that tell of a property are set for exactly the chosen ones
  pub by_item : (P : A → Type 0) (xs : List A) (bs : List Bool) → Tells P xs bs → Tells (Contains (chosen xs bs)) xs bs
  by_item P xs bs t = told_among P (chosen xs bs) (λ x h. chosen_told P xs bs t x h) xs bs t (λ x h. h)

  none_told : (xs : List A) → Tells (λ x. ⊥) xs (replicate (length xs) false)
  none_told [] = tt
  none_told (x ∷ xs) = (((λ k. absurd (true≢false (sym k))), λ k. absurd k), none_told xs)

  pub none_by_item : (xs : List A) (bs : List Bool) → bs ≡ replicate (length xs) false → Tells (Contains (chosen xs bs)) xs bs
  none_by_item xs bs e = by_item (λ x. ⊥) xs bs (subst (Tells (λ x. ⊥) xs) (sym e) (none_told xs))

  -- flags that are set in either of two lists
  pub either_tells : (P : A → Type 0) (xs : List A) (bs cs : List Bool) → length bs ≡ length xs → Tells P xs cs
      → TellsMore P xs bs (either_of bs cs)
  either_tells P [] [] [] e t = tt
  either_tells P [] (b ∷ bs) cs e t = absurd (omega (arith, e))
  either_tells P [] [] (c ∷ cs) e t = absurd t
  either_tells P (x ∷ xs) [] cs e t = absurd (omega (arith, e))
  either_tells P (x ∷ xs) (b ∷ bs) [] e t = absurd t
  either_tells P (x ∷ xs) (true ∷ bs) (c ∷ cs) e t = (((λ k. inl refl), λ k. refl), either_tells P xs bs cs (omega (arith, e)) t.1)
  either_tells P (x ∷ xs) (false ∷ bs) (c ∷ cs) e t = (
    ((λ k. inr (t.0.0 k)), λ k. elim k [ inl z ↦ absurd (true≢false (sym z)) | inr z ↦ t.0.1 z ]),
    either_tells P xs bs cs (omega (arith, e)) t.1,
  )

  more_among : (P : A → Type 0) (ys : List A) (xs : List A) (bs cs : List Bool) → Tells (Contains ys) xs bs → TellsMore P xs bs cs
      → Tells (λ x. Contains ys x ⊎ P x) xs cs
  more_among P ys [] [] [] t m = tt
  more_among P ys [] [] (c ∷ cs) t m = m
  more_among P ys [] (b ∷ bs) cs t m = absurd t
  more_among P ys (x ∷ xs) [] cs t m = absurd t
  more_among P ys (x ∷ xs) (b ∷ bs) [] t m = m
  more_among P ys (x ∷ xs) (b ∷ bs) (c ∷ cs) t m = (
    ((λ k. elim (m.0.0 k) [ inl z ↦ inl (t.0.0 z) | inr z ↦ inr z ]), λ k. m.0.1 (elim k [ inl z ↦ inl (t.0.1 z) | inr z ↦ inr z ])),
    more_among P ys xs bs cs t.1 m.1,
  )

  -- the flags of those that were chosen, and of those of which P holds
  pub more_told : (P : A → Type 0) (xs : List A) (bs cs : List Bool) → Tells (Contains (chosen xs bs)) xs bs → TellsMore P xs bs cs
      → Tells (λ x. Contains (chosen xs bs) x ⊎ P x) xs cs
  more_told P xs bs cs t m = more_among P (chosen xs bs) xs bs cs t m

-- what is left from a place on of the flags of either list
pub either_from : (a b : List Bool) (k : ℕ) (c d : Bool) → k < length a → k < length b
    → either_of (drop k a) (drop k b) ≡ is_either (get_or a k c) (get_or b k d) ∷ either_of (drop (k + 1) a) (drop (k + 1) b)
either_from a b k c d l m = ap₂ either_of (drop_more a k c l) (drop_more b k d m)

pub none_of_either : (a b : List Bool) (k : ℕ) → length a ≤ k → either_of (drop k a) (drop k b) ≡ []
none_of_either a b k l = ap (λ z. either_of z (drop k b)) (drop_all k a l)

pub more_to : {A : Type 0} (P Q : A → Type 0) → ((x : A) → P x → Q x) → ((x : A) → Q x → P x) → (xs : List A) (bs cs : List Bool)
    → TellsMore P xs bs cs → TellsMore Q xs bs cs
more_to P Q to back [] [] [] t = t
more_to P Q to back [] [] (c ∷ cs) t = absurd t
more_to P Q to back [] (b ∷ bs) cs t = absurd t
more_to P Q to back (x ∷ xs) [] cs t = absurd t
more_to P Q to back (x ∷ xs) (b ∷ bs) [] t = absurd t
more_to P Q to back (x ∷ xs) (b ∷ bs) (c ∷ cs) t = (
  ((λ h. elim (t.0.0 h) [ inl z ↦ inl z | inr z ↦ inr (to x z) ]), λ h. t.0.1 (elim h [ inl z ↦ inl z | inr z ↦ inr (back x z) ])),
  more_to P Q to back xs bs cs t.1,
)

pub flags_decide : (a b : Bool) → Decides (beq a b) (a ≡ b)
flags_decide true true = ((λ h. refl), λ h. refl)
flags_decide true false = ((λ h. cc), λ h. cc)
flags_decide false true = ((λ h. cc), λ h. cc)
flags_decide false false = ((λ h. refl), λ h. refl)

-- Where all flags are set and all that is chosen has the property, the flags tell it.
pub all_set_tell : {A : Type 0} {P : A → Type 0} (xs : List A) (bs : List Bool) → list_all (λ b. b) bs ≡ true → length bs ≡ length xs
    → ((x : A) → Contains (chosen xs bs) x → P x) → Tells P xs bs
all_set_tell [] [] s e h = tt
all_set_tell [] (b ∷ bs) s e h = absurd (omega (arith, e))
all_set_tell (x ∷ xs) [] s e h = absurd (omega (arith, e))
all_set_tell (x ∷ xs) (true ∷ bs) s e h = (
  ((λ k. h x (first_member x (chosen xs bs))), λ k. refl),
  all_set_tell xs bs s (omega (arith, e)) (λ y c. h y (later_member x y (chosen xs bs) c)),
)
all_set_tell (x ∷ xs) (false ∷ bs) s e h = absurd (true≢false (sym s))

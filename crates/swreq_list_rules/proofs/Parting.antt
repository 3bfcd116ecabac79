-- Members of a list: those of one kind, those that are left when one is removed, and what they say.
use Rattle.std.proofs.Common.{◌≡◌, ◌⊎◌, ◌∙◌, inl, inr, sym, ap, subst, ◌<◌, ◌-◌, arith, ℕ, suc, List, [], ◌∷◌, ◌++◌, take, drop, get_or, length, map, Contains, drop-cons, length-take-le}
use Rattle.std.specs.Prelude.{remove}
use Rattle.std.proofs.lemmas.List.{take-append-drop}
use Rattle.std.proofs.lemmas.List.Edits.{remove-append_right}
use Rattle.std.proofs.lemmas.List.Elements.{Contains-append_cases, Contains-append_left, Contains-append_right}
use Rattle.swreq_machine.proofs.swreq_lemmas.Members.{contains_map, contains_of_map, first_member, later_member, member_cases, no_member}

-- some members of a list, all of them of one kind, and all others of another
pub record AreParted {X : Type 0} (A B : X → Type 0) (list some : List X) : Type 0 where
  pub within : (x : X) → Contains some x → Contains list x × A x
  pub others : (x : X) → Contains list x → Contains some x ⊎ B x

module _ {X : Type 0} (A B : X → Type 0) where
  one_in : (x : X) (list some : List X) → A x → AreParted A B list some → AreParted A B (x ∷ list) (x ∷ some)
  one_in x list some a p = record {
    within = λ y h. elim (member_cases x y some h) [
      | inl e ↦ (subst (λ z. Contains (x ∷ list) z) (sym e) (first_member x list), subst A (sym e) a)
      | inr k ↦ (let q = p.within y k in (later_member x y list q.0, q.1))
    ];
    others = λ y h. elim (member_cases x y list h) [
      | inl e ↦ inl (subst (λ z. Contains (x ∷ some) z) (sym e) (first_member x some))
      | inr k ↦ elim (p.others y k) [ inl c ↦ inl (later_member x y some c) | inr b ↦ inr b ]
    ];
  }

  one_out : (x : X) (list some : List X) → B x → AreParted A B list some → AreParted A B (x ∷ list) some
  one_out x list some b p = record {
    within = λ y h. let q = p.within y h in (later_member x y list q.0, q.1);
    others = λ y h. elim (member_cases x y list h) [ inl e ↦ inr (subst B (sym e) b) | inr k ↦ p.others y k ];
  }

  pub parted : (list : List X) → ((x : X) → Contains list x → A x ⊎ B x) → (some : List X) × AreParted A B list some
  parted [] d = ([], record { within = λ x h. no_member x h; others = λ x h. no_member x h })
  parted (x ∷ list) d =
      let (some, p) = parted list (λ y h. d y (later_member x y list h)) in
      elim (d x (first_member x list)) [
        | inl a ↦ (x ∷ some, one_in x list some a p)
        | inr b ↦ (some, one_out x list some b p)
      ]

-- ---- one is removed

module _ {X : Type 0} (xs : List X) (k : ℕ) (d : X) (l : k < length xs) where
  abbrev one : X
  one = get_or xs k d

  split : xs ≡ take k xs ++ one ∷ drop (suc k) xs
  split = sym (take-append-drop k xs) ∙ ap (λ z. take k xs ++ z) (drop-cons xs k d l)

  without : remove xs k ≡ take k xs ++ drop (suc k) xs
  without =
      ap (λ z. remove z k) split
      ∙ (remove-append_right (take k xs) (one ∷ drop (suc k) xs) k k (length-take-le k xs (omega (arith, l))) (omega arith)
      ∙ ap (λ n. take k xs ++ remove (one ∷ drop (suc k) xs) n) (let z : k - k ≡ 0 = omega arith in z))

  pub was_there : (x : X) → Contains (remove xs k) x → Contains xs x
  was_there x h = elim (Contains-append_cases (take k xs) (drop (suc k) xs) x (subst (λ z. Contains z x) without h)) [
    | inl i ↦ subst (λ z. Contains z x) (sym split) (Contains-append_left (take k xs) (one ∷ drop (suc k) xs) x i)
    | inr i ↦ subst (λ z. Contains z x) (sym split)
        (Contains-append_right (take k xs) (one ∷ drop (suc k) xs) x (later_member one x (drop (suc k) xs) i))
  ]

  pub is_left : (x : X) → Contains xs x → (x ≡ one) ⊎ Contains (remove xs k) x
  is_left x h = elim (Contains-append_cases (take k xs) (one ∷ drop (suc k) xs) x (subst (λ z. Contains z x) split h)) [
    | inl i ↦ inr (subst (λ z. Contains z x) (sym without) (Contains-append_left (take k xs) (drop (suc k) xs) x i))
    | inr i ↦ elim (member_cases one x (drop (suc k) xs) i) [
      | inl e ↦ inl e
      | inr j ↦ inr (subst (λ z. Contains z x) (sym without) (Contains-append_right (take k xs) (drop (suc k) xs) x j))
    ]
  ]

  -- what the members of a list say, where one of them is taken out
  module _ {Y : Type 0} (g : X → Y) where
    pub said_before : (y : Y) → Contains (map g (remove xs k)) y → Contains (map g xs) y
    said_before y h =
        let q = contains_of_map g (remove xs k) y h in
        subst (λ z. Contains (map g xs) z) (sym q.2) (contains_map g xs q.0 (was_there q.0 q.1))

    pub said_still : (y : Y) → Contains (map g xs) y → (y ≡ g one) ⊎ Contains (map g (remove xs k)) y
    said_still y h = let q = contains_of_map g xs y h in elim (is_left q.0 q.1) [
      | inl e ↦ inl (q.2 ∙ ap g e)
      | inr i ↦ inr (subst (λ z. Contains (map g (remove xs k)) z) (sym q.2) (contains_map g (remove xs k) q.0 i))
    ]

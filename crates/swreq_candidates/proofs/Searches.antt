-- Finite searches for what is decided.
use Rattle.std.proofs.Common.{◌≡◌, ◌⊎◌, ◌<◌, ◌≤◌, ℕ, zero, suc, List, [], ◌∷◌, Contains, ap, subst, sym, inl, inr, arith}
use Rattle.std.proofs.Math.Decide.{dec_lt, ℕ_discrete}
use Rattle.swreq_canonical.proofs.swreq_correspondence.OneType.{one_assoc}
use Rattle.swreq_canonical.specs.swreq_param.declared.ids.AssocId.{AssocId}
use Rattle.swreq_canonical.proofs.swreq_lemmas.Members.{first_member, later_member, member_cases, no_member}

pub both_decided : {A B : Type 0} → Dec A → Dec B → Dec (A × B)
both_decided (yes a) (yes b) = yes (a, b)
both_decided (yes a) (no n) = no (λ h. n h.1)
both_decided (no n) b = no (λ h. n h.0)

-- ---- ids

pub assocs_decided : (d e : AssocId) → Dec (d ≡ e)
assocs_decided d e = elim (ℕ_discrete d.rank e.rank) [ yes h ↦ yes (one_assoc h) | no n ↦ no (λ h. n (ap (λ (z : AssocId). z.rank) h)) ]

-- ---- numbers and lists

-- the least number below n with the property, or none has it
pub least_below : (Q : ℕ → Type 0) → ((j : ℕ) → Dec (Q j)) → (n : ℕ)
    → ((j : ℕ) × (j < n) × Q j × ((i : ℕ) → i < j → Q i → ⊥)) ⊎ ((i : ℕ) → i < n → Q i → ⊥)
least_below Q d zero = inr (λ i h q. omega arith)
least_below Q d (suc n) = elim (least_below Q d n) [
  | inl (j, h, q, l) ↦ inl (j, omega arith, q, l)
  | inr none ↦ elim (d n) [
    | yes q ↦ inl (n, omega arith, q, none)
    | no k ↦ inr (λ i h q. elim (ℕ_discrete i n) [ yes e ↦ k (subst Q e q) | no e ↦ (let z : i ≡ n → ⊥ = e in none i (omega arith) q) ])
  ]
]

-- the member of least size with the property, or none has it
pub least_member : {X : Type 0} (Q : X → Type 0) → ((x : X) → Dec (Q x)) → (size : X → ℕ) → (xs : List X)
    → ((x : X) × Contains xs x × Q x × ((y : X) → Contains xs y → Q y → size x ≤ size y)) ⊎ ((x : X) → Contains xs x → Q x → ⊥)
least_member Q d size [] = inr (λ x h q. no_member x h)
least_member {X} Q d size (y ∷ xs) = elim (d y) [
  | no n ↦ elim (least_member Q d size xs) [
    | inl (x, h, q, l) ↦
        inl (x, later_member y x xs h, q, λ z i p. elim (member_cases y z xs i) [ inl e ↦ absurd (n (subst Q e p)) | inr k ↦ l z k p ])
    | inr none ↦ inr (λ x h q. elim (member_cases y x xs h) [ inl e ↦ n (subst Q e q) | inr k ↦ none x k q ])
  ]
  | yes q ↦ elim (least_member Q d size xs) [
    | inr none ↦ inl (
      y,
      first_member y xs,
      q,
      λ z i p. elim (member_cases y z xs i) [
        | inl e ↦ subst (λ w. size y ≤ size w) (sym e) (omega arith)
        | inr k ↦ absurd (none z k p)
      ],
    )
    | inl (x, h, r, l) ↦ elim (dec_lt (size x) (size y)) [
      | yes g ↦ inl (
        x,
        later_member y x xs h,
        r,
        λ z i p. elim (member_cases y z xs i) [
          | inl e ↦ subst (λ w. size x ≤ size w) (sym e) (omega arith)
          | inr k ↦ l z k p
        ],
      )
      | no g ↦ (let n : size x < size y → ⊥ = g in inl (
        y,
        first_member y xs,
        q,
        λ z i p. elim (member_cases y z xs i) [
          | inl e ↦ subst (λ w. size y ≤ size w) (sym e) (omega arith)
          | inr k ↦ (let a : size x ≤ size z = l z k p in omega arith)
        ],
      ))
    ]
  ]
]

-- some member has the property, or none has it
pub some_member : {X : Type 0} (Q : X → Type 0) → ((x : X) → Dec (Q x)) → (xs : List X)
    → ((x : X) × Contains xs x × Q x) ⊎ ((x : X) → Contains xs x → Q x → ⊥)
some_member Q d xs = elim (least_member Q d (λ x. 0) xs) [ inl (x, h, q, l) ↦ inl (x, h, q) | inr none ↦ inr none ]

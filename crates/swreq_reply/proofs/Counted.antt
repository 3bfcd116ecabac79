-- How many of a list have a property.
use Rattle.std.proofs.Common.{sym, subst, ℕ, suc, ◌+◌, ◌<◌, arith, List, [], ◌∷◌, ◌++◌, take, get_or, length, Contains}
use Rattle.std.proofs.lemmas.List.{take_more}
use Rattle.swreq_print.proofs.swreq_lemmas.Members.{first_member, later_member}
use Rattle.swreq_check.specs.Lines.{Counted}
use Rattle.swreq_check.specs.Lines.Counted.{nothing, one, other}

-- ---- how many have a property

module _ {A : Type 0} (P : A → Type 0) where
  one_end : {xs : List A} {n : ℕ} {x : A} → Counted P xs n → P x → Counted P (xs ++ x ∷ []) (suc n)
  one_end nothing h = one h nothing
  one_end (one a rest) h = one a (one_end rest h)
  one_end (other a rest) h = other a (one_end rest h)

  other_end : {xs : List A} {n : ℕ} {x : A} → Counted P xs n → (P x → ⊥) → Counted P (xs ++ x ∷ []) n
  other_end nothing h = other h nothing
  other_end (one a rest) h = one a (other_end rest h)
  other_end (other a rest) h = other a (other_end rest h)

  module _ (xs : List A) (k : ℕ) (d : A) (n : ℕ) (below : k < length xs) (so_far : Counted P (take k xs) n) where
    -- the next one has it, or not
    pub one_more : P (get_or xs k d) → Counted P (take (k + 1) xs) (n + 1)
    one_more has = subst (λ (m : ℕ). Counted P (take (k + 1) xs) m) (omega arith)
        (subst (λ (ys : List A). Counted P ys (suc n)) (sym (take_more xs k d below)) (one_end so_far has))

    pub no_more : (P (get_or xs k d) → ⊥) → Counted P (take (k + 1) xs) n
    no_more lacks = subst (λ (ys : List A). Counted P ys n) (sym (take_more xs k d below)) (other_end so_far lacks)

-- what each of them has where it has another property is counted alike
pub counted_by : {A : Type 0} (P Q : A → Type 0) {xs : List A} {n : ℕ} → ((x : A) → Contains xs x → P x → Q x)
    → ((x : A) → Contains xs x → Q x → P x)
    → Counted P xs n → Counted Q xs n
counted_by P Q there back nothing = nothing
counted_by P Q there back (one {x} {xs} has rest) =
    one (there x (first_member x xs) has)
    (counted_by P Q (λ y c. there y (later_member x y xs c)) (λ y c. back y (later_member x y xs c)) rest)
counted_by P Q there back (other {x} {xs} lacks rest) =
    other (λ h. lacks (back x (first_member x xs) h))
    (counted_by P Q (λ y c. there y (later_member x y xs c)) (λ y c. back y (later_member x y xs c)) rest)

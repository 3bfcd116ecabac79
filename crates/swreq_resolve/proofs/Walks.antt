-- The first refusal of parts that stand one after another.
use Rattle.std.proofs.Common.{◌≡◌, ℕ, List, [], ◌∷◌, ◌++◌, refl, sym, ap, ◌∙◌, Option, ◌<◌, ◌≤◌, ◌+◌, length, get_or, drop}
use Rattle.std.specs.List.{flat_map, fold}
use Rattle.std.proofs.lemmas.List.{at_drop_more, at_drop_all}
use Rattle.swreq_resolve.specs.declared.refusal.Refusal.{Refusal}
use Rattle.swreq_resolve.specs.First.{least, earlier, walk}
use Rattle.swreq_resolve.specs.Refusals.{by_place}

pub least_both : (b : Option Refusal) (xs ys : List Refusal) → least b (xs ++ ys) ≡ least (least b xs) ys
least_both b [] ys = refl
least_both b (x ∷ xs) ys = least_both (earlier b x) xs ys

-- a walk that keeps the first so far
pub walked : {A : Type 0} (f : A → List Refusal) (b : Option Refusal) (xs : List A)
    → fold (λ b x. least b (f x)) b xs ≡ least b (flat_map f xs)
walked f b [] = refl
walked f b (x ∷ xs) = walked f (least b (f x)) xs ∙ sym (least_both b (f x) (flat_map f xs))

-- one part, and then another
pub then_least : (b p q : Option Refusal) (xs ys : List Refusal) → p ≡ least b xs → q ≡ least p ys → q ≡ least b (xs ++ ys)
then_least b p q xs ys h k = k ∙ ap (λ z. least z ys) h ∙ sym (least_both b xs ys)

pub walked_over : {A : Type 0} (f : A → List Refusal) (b c : Option Refusal) (xs ys : List A) → c ≡ walk f b xs → xs ≡ ys
    → c ≡ least b (flat_map f ys)
walked_over f b c xs ys h e = h ∙ walked f b xs ∙ ap (λ zs. least b (flat_map f zs)) e

-- ---- items with their places

-- a step of a loop whose invariant is that the rest gives what all give
pub by_place_more : {A : Type 0} (f : ℕ → A → List Refusal) (xs : List A) (i : ℕ) (x : A) (b c start : Option Refusal)
    → i < length xs → x ≡ get_or xs i x
    → c ≡ least b (f i x) → least b (by_place f i (drop i xs)) ≡ start → least c (by_place f (i + 1) (drop (i + 1) xs)) ≡ start
by_place_more f xs i x b c start h e k inv =
    (λ j. least (k j) (by_place f (i + 1) (drop (i + 1) xs)))
    ∙ (λ j. least (least b (f i (e j))) (by_place f (i + 1) (drop (i + 1) xs)))
    ∙ sym (least_both b (f i (get_or xs i x)) (by_place f (i + 1) (drop (i + 1) xs)))
    ∙ sym (at_drop_more (λ ys. least b (by_place f i ys)) xs i x h)
    ∙ inv

pub by_place_all : {A : Type 0} (f : ℕ → A → List Refusal) (xs : List A) (i : ℕ) (b start : Option Refusal) → length xs ≤ i
    → least b (by_place f i (drop i xs)) ≡ start → b ≡ start
by_place_all f xs i b start h inv = sym (at_drop_all (λ ys. least b (by_place f i ys)) xs i h) ∙ inv

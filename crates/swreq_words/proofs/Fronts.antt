-- Texts and their fronts.
use Rattle.std.proofs.Common.{◌≡◌, ◌≢◌, ◌∙◌, ◌==◌, ℕ, Bool, true, false, true≢false, [], ◌∷◌, ◌++◌, Option, Some, None, option_map, is_some, refl, sym, ap, ap₂, if◌then◌else◌, rules}
use Rattle.std.specs.Option.{MatchOption}
use Rattle.std.specs.Str.{bytes_eq}
use Rattle.std.proofs.lemmas.Slice.Eq.{bytes_eq-Decides}
use Rattle.std.proofs.lemmas.Bool.{eqb-true}
use Rattle.swreq_words.specs.Form.{Text}
use Rattle.swreq_words.specs.Reading.{after}

pub none_some : {A : Type 0} (x : A) → None ≡ Some x → ⊥
none_some x e = true≢false (sym (ap is_some e))

or_else : {A : Type 0} → A → Option A → A
or_else d None = d
or_else d (Some x) = x

pub some_same : {A : Type 0} (x y : A) → Some x ≡ Some y → x ≡ y
unfolding or_else
some_same x y e = ap (or_else x) e

pub bytes_same : (a b : Text) → bytes_eq a b ≡ true → a ≡ b
bytes_same a b e = (bytes_eq-Decides a b).0 e

step : (b : Bool) (x y : ℕ) (xs ys text : Text) → (y == x) ≡ b → (after xs ys ≡ Some text → ys ≡ xs ++ text)
    → (if b then after xs ys else None) ≡ Some text → y ∷ ys ≡ x ∷ (xs ++ text)
step false x y xs ys text is more e = absurd (none_some text e)
step true x y xs ys text is more e = ap₂ (λ h r. h ∷ r) (eqb-true y x is) (more e)

pub after_is : (front word text : Text) → after front word ≡ Some text → word ≡ front ++ text
unfolding after
after_is [] word text e = some_same word text e
after_is (x ∷ xs) [] text e = absurd (none_some text e)
after_is (x ∷ xs) (y ∷ ys) text e = step (y == x) x y xs ys text refl (after_is xs ys text) e

pub after_front : (front text : Text) → after front (front ++ text) ≡ Some text
unfolding after
after_front [] text = refl
after_front (x ∷ xs) text =
    let same : (x == x) ≡ true = search rules in ap (λ b. if b then after xs (xs ++ text) else None) same ∙ after_front xs text

not_after : (front word : Text) → ((rest : Text) → word ≢ front ++ rest) → (o : Option Text) → after front word ≡ o → None ≡ o
not_after front word none None e = refl
not_after front word none (Some text) e = absurd (none text (after_is front word text e))

pub stripped : {B : Type 0} → (now : B → Text) (front word : Text) (found : Option B)
    → MatchOption found ((rest : Text) → word ≢ front ++ rest) (λ x. word ≡ front ++ now x) → option_map now found ≡ after front word
stripped now front word None none = not_after front word none (after front word) refl
stripped now front word (Some x) is = sym (ap (after front) is ∙ after_front front (now x))

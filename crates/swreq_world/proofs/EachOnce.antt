-- Each signature stands once in the order of signatures.
use Rattle.std.proofs.Common.{◌≡◌, ℕ, zero, suc, ◌+◌, ◌≤◌, ◌<◌, ◌⊎◌, inl, inr, ⊎_elim, List, [], ◌∷◌, ◌++◌, Some, length, drop, slice_get, refl, sym, subst, ◌∙◌, arith}
use Rattle.std.proofs.lemmas.Option.{same_Some}
use Rattle.std.specs.List.{prefix_len}
use Rattle.swreq_param.proofs.swreq_lemmas.Elements.{get_either}
use Rattle.swreq_lexicon.specs.swreq_decl.declared.skeleton.FunctionDecl.{FunctionDecl}
use Rattle.swreq_lexicon.specs.swreq_decl.declared.skeleton.Skeleton.{Skeleton}
use Rattle.swreq_lexicon.specs.swreq_decl.declared.skeleton.StructDecl.{StructDecl}
use Rattle.swreq_lexicon.specs.swreq_decl.Signatures.{stands_before}
use Rattle.swreq_lexicon.specs.swreq_names.declared.signature.Signature.{Signature}
use Rattle.swreq_lexicon.specs.swreq_names.declared.signature.Signature.TheVariants.{Struct, Function, Nested}
use Rattle.swreq_lowering.specs.Signatures.{nested_from, functions_from, with_nested, merged_from, in_order, func_id}
use Rattle.swreq_world.proofs.Standing.{IsIn, stands}

-- ---- lists without repeats

-- No item stands at two places.
abbrev IsOnce : {A : Type 0} → List A → Type 0
IsOnce {A} xs = (p q : ℕ) (x : A) → slice_get xs p ≡ Some x → slice_get xs q ≡ Some x → p ≡ q

once_both : {A : Type 0} (xs ys : List A) → IsOnce xs → IsOnce ys
    → ((p q : ℕ) (x : A) → slice_get xs p ≡ Some x → slice_get ys q ≡ Some x → ⊥) → IsOnce (xs ++ ys)
once_both {A} xs ys once_left once_right apart p q x e f = by (get_either xs ys p x e) (get_either xs ys q x f)
  where
    Right : ℕ → Type 0
    Right k = (j : ℕ) × (k ≡ length xs + j) × (slice_get ys j ≡ Some x)

    both : Right p → Right q → p ≡ q
    both (i, at, g) (j, there, h) = let same = once_right i j x g h in omega (arith, at, there, same)

    by : (slice_get xs p ≡ Some x) ⊎ Right p → (slice_get xs q ≡ Some x) ⊎ Right q → p ≡ q
    by (inl g) (inl h) = once_left p q x g h
    by (inl g) (inr h) = absurd (apart p h.0 x g h.2)
    by (inr g) (inl h) = absurd (apart q g.0 x h g.2)
    by (inr g) (inr h) = both g h

-- ---- what stands where

function_at : (k n p : ℕ) (g : Signature) → slice_get (functions_from k n) p ≡ Some g → (m : ℕ) × (g ≡ Function m) × (k + p ≡ m) × (p < n)
function_at k zero p g e = absurd cc
function_at k (suc n) zero g e = (k, sym (same_Some (Function k) g e), omega arith, omega arith)
function_at k (suc n) (suc p) g e = let (m, is, at, l) = function_at (k + 1) n p g e in (m, is, omega (arith, at), omega (arith, l))

nested_at : (i j n p : ℕ) (g : Signature) → slice_get (nested_from i j n) p ≡ Some g → (m : ℕ) × (g ≡ Nested i m) × (j + p ≡ m)
nested_at i j zero p g e = absurd cc
nested_at i j (suc n) zero g e = (j, sym (same_Some (Nested i j) g e), omega arith)
nested_at i j (suc n) (suc p) g e = let (m, is, at) = nested_at i (j + 1) n p g e in (m, is, omega (arith, at))

-- The signature is of a struct from the i-th on, or a function at the top from the k-th on.
abbrev IsFrom : ℕ → ℕ → Signature → Type 0
IsFrom i k (Struct m) = i ≤ m
IsFrom i k (Function m) = k ≤ m
IsFrom i k (Nested m l) = i ≤ m

-- The signature is of the struct.
abbrev IsOfStruct : ℕ → Signature → Type 0
IsOfStruct i (Struct m) = i ≡ m
IsOfStruct i (Function m) = ⊥
IsOfStruct i (Nested m l) = i ≡ m

of_struct_at : (i : ℕ) (s : StructDecl) (p : ℕ) (g : Signature) → slice_get (with_nested i s) p ≡ Some g → IsOfStruct i g
of_struct_at i s zero g e = subst (IsOfStruct i) (same_Some (Struct i) g e) refl
of_struct_at i s (suc p) g e = let (m, is, at) = nested_at i 0 (length s.functions) p g e in subst (IsOfStruct i) (sym is) refl

later_of_struct : (i k : ℕ) (g : Signature) → IsOfStruct i g → IsFrom i k g
later_of_struct i k (Struct m) h = omega (arith, h)
later_of_struct i k (Function m) h = absurd h
later_of_struct i k (Nested m l) h = omega (arith, h)

from_sooner : (i k n : ℕ) (g : Signature) → IsFrom (i + 1) (k + n) g → IsFrom i k g
from_sooner i k n (Struct m) h = omega (arith, h)
from_sooner i k n (Function m) h = omega (arith, h)
from_sooner i k n (Nested m l) h = omega (arith, h)

all_from : (i : ℕ) (ss : List StructDecl) (k : ℕ) (fs : List FunctionDecl) (p : ℕ) (g : Signature)
    → slice_get (merged_from i ss k fs) p ≡ Some g → IsFrom i k g
all_from i [] k fs p g e =
    let (m, is, at, l) = function_at k (length fs) p g e in
    let h : k ≤ m = omega (arith, at) in
    subst (IsFrom i k) (sym is) h
all_from i (s ∷ ss) k fs p g e =
    let n = prefix_len (stands_before s) fs in
    let later = merged_from (i + 1) ss (k + n) (drop n fs) in
    ⊎_elim (λ h. let (m, is, at, l) = function_at k n p g h in let o : k ≤ m = omega (arith, at) in subst (IsFrom i k) (sym is) o)
    (λ h. ⊎_elim (λ a. later_of_struct i k g (of_struct_at i s h.0 g a))
    (λ a. from_sooner i k n g (all_from (i + 1) ss (k + n) (drop n fs) a.0 g a.2))
    (get_either (with_nested i s) later h.0 g h.2))
    (get_either (functions_from k n) (with_nested i s ++ later) p g e)

-- ---- each once

functions_once : (k n : ℕ) → IsOnce (functions_from k n)
functions_once k n p q g e f =
    let (m, is, at, l) = function_at k n p g e in
    let (o, so, there, h) = function_at k n q g f in
    let same = number (sym is ∙ so) in
    omega (arith, at, there, same)
  where
    number : {m o : ℕ} → Function m ≡ Function o → m ≡ o
    number e = cc

struct_once : (i : ℕ) (s : StructDecl) → IsOnce (with_nested i s)
struct_once i s zero zero g e f = refl
struct_once i s zero (suc q) g e f = absurd (no_struct (nested_at i 0 (length s.functions) q g f) e)
  where
    no_struct : (m : ℕ) × (g ≡ Nested i m) × (0 + q ≡ m) → Some (Struct i) ≡ Some g → ⊥
    no_struct (m, is, at) e = let clash : Struct i ≡ Nested i m = same_Some (Struct i) g e ∙ is in absurd cc
struct_once i s (suc p) zero g e f = absurd (no_struct (nested_at i 0 (length s.functions) p g e) f)
  where
    no_struct : (m : ℕ) × (g ≡ Nested i m) × (0 + p ≡ m) → Some (Struct i) ≡ Some g → ⊥
    no_struct (m, is, at) f = let clash : Struct i ≡ Nested i m = same_Some (Struct i) g f ∙ is in absurd cc
struct_once i s (suc p) (suc q) g e f =
    let (m, is, at) = nested_at i 0 (length s.functions) p g e in
    let (o, so, there) = nested_at i 0 (length s.functions) q g f in
    let same = number (sym is ∙ so) in
    omega (arith, at, there, same)
  where
    number : {m o : ℕ} → Nested i m ≡ Nested i o → m ≡ o
    number e = cc

not_of_next : (i k : ℕ) (g : Signature) → IsOfStruct i g → IsFrom (i + 1) k g → ⊥
not_of_next i k (Struct m) h l = omega (arith, h, l)
not_of_next i k (Function m) h l = h
not_of_next i k (Nested m j) h l = omega (arith, h, l)

merged_once : (i : ℕ) (ss : List StructDecl) (k : ℕ) (fs : List FunctionDecl) → IsOnce (merged_from i ss k fs)
merged_once i [] k fs = functions_once k (length fs)
merged_once i (s ∷ ss) k fs =
    once_both (functions_from k n) (with_nested i s ++ later) (functions_once k n)
    (once_both (with_nested i s) later (struct_once i s) (merged_once (i + 1) ss (k + n) (drop n fs))
    (λ p q g e f. not_of_next i (k + n) g (of_struct_at i s p g e) (all_from (i + 1) ss (k + n) (drop n fs) q g f)))
    (λ p q g e f. not_before p q g e (get_either (with_nested i s) later q g f))
  where
    n : ℕ
    n = prefix_len (stands_before s) fs

    later : List Signature
    later = merged_from (i + 1) ss (k + n) (drop n fs)

    not_before : (p q : ℕ) (g : Signature) → slice_get (functions_from k n) p ≡ Some g
        → (slice_get (with_nested i s) q ≡ Some g) ⊎ ((j : ℕ) × (q ≡ length (with_nested i s) + j) × (slice_get later j ≡ Some g)) → ⊥
    not_before p q g e (inl h) = let (m, is, at, l) = function_at k n p g e in subst (IsOfStruct i) is (of_struct_at i s q g h)
    not_before p q g e (inr h) =
        let (m, is, at, l) = function_at k n p g e in
        let o : k + n ≤ m = subst (IsFrom (i + 1) (k + n)) is (all_from (i + 1) ss (k + n) (drop n fs) h.0 g h.2) in
        omega (arith, at, l, o)

-- A signature stands at no other place than its own.
pub own_place : (s : Skeleton) (g : Signature) (k : ℕ) → IsIn s g → slice_get (in_order s) k ≡ Some g → (func_id (in_order s) g).place ≡ k
own_place s g k h e = merged_once 0 s.structs 0 s.functions (func_id (in_order s) g).place k g (stands s g h) e

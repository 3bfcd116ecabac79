-- The signatures of a text in their order are those that its declarations give.
use Rattle.std.proofs.Common.{◌≡◌, ℕ, zero, suc, ◌+◌, ◌≤◌, Bool, true, false, not, List, [], ◌∷◌, ◌++◌, Option, Some, length, take, drop, map, filter, slice_get, refl, sym, ap, ◌∙◌, arith}
use Rattle.std.proofs.lemmas.Bool.Decides.{nat_tests}
use Rattle.std.proofs.lemmas.List.{map-append, take_all}
use Rattle.std.proofs.lemmas.List.Sums.{prefix_len-le-length}
use Rattle.std.specs.List.{prefix_len}
use Rattle.std.specs.Option.{option_map}
use Rattle.swreq_lexicon.specs.swreq_decl.declared.skeleton.FunctionDecl.{FunctionDecl}
use Rattle.swreq_lexicon.specs.swreq_decl.declared.skeleton.Skeleton.{Skeleton}
use Rattle.swreq_lexicon.specs.swreq_decl.declared.skeleton.StructDecl.{StructDecl}
use Rattle.swreq_lexicon.specs.swreq_decl.Signatures as declared
use Rattle.swreq_lexicon.specs.swreq_decl.Signatures.{of_struct, of_inner, of_function, with_functions, stands_before}
use Rattle.swreq_lexicon.specs.swreq_names.declared.signature.Signature.{Signature}
use Rattle.swreq_lowering.specs.Signatures.{nested_from, functions_from, with_nested, merged_from, in_order}
use Rattle.swreq_world.specs.Declarations.{nested_declaration, declaration_of, HasSignature}
use Rattle.swreq_world.proofs.Everywhere.{mapped_from, stands_mapped}
use Rattle.swreq_world.proofs.Offsets.{AreRising, rising_drop, function_start}

-- ---- the rest of a list

-- These are the items from the k-th on.
abbrev AreFrom : {A : Type 0} → List A → ℕ → List A → Type 0
AreFrom xs k ys = (j m : ℕ) → k + j ≡ m → slice_get xs m ≡ slice_get ys j

all_from : {A : Type 0} (xs : List A) → AreFrom xs 0 xs
all_from xs j m e = let same : m ≡ j = omega (arith, e) in ap (slice_get xs) same

from_next : {A : Type 0} (xs : List A) (k : ℕ) (y : A) (ys : List A) → AreFrom xs k (y ∷ ys) → AreFrom xs (k + 1) ys
from_next xs k y ys are j m e = are (suc j) m (omega (arith, e))

first_from : {A : Type 0} (xs : List A) (k : ℕ) (y : A) (ys : List A) → AreFrom xs k (y ∷ ys) → slice_get xs k ≡ Some y
first_from xs k y ys are = are 0 k (omega arith)

past : {A : Type 0} (n : ℕ) (ys : List A) (j m : ℕ) → n + j ≡ m → slice_get ys m ≡ slice_get (drop n ys) j
past zero ys j m e = let same : m ≡ j = omega (arith, e) in ap (slice_get ys) same
past (suc n) [] j m e = refl
past (suc n) (y ∷ ys) j zero e = absurd (omega (arith, e))
past (suc n) (y ∷ ys) j (suc m) e = past n ys j m (omega (arith, e))

from_later : {A : Type 0} (xs : List A) (k n : ℕ) (ys : List A) → AreFrom xs k ys → AreFrom xs (k + n) (drop n ys)
from_later xs k n ys are j m e = are (n + j) m (omega (arith, e)) ∙ past n ys j (n + j) refl

-- ---- the functions before a struct, where each function stands before those after it

module _ (s : StructDecl) where
  abbrev before : FunctionDecl → Bool
  before = stands_before s

  not_before : (f : FunctionDecl) → s.name.start ≤ f.name.start → before f ≡ false
  not_before f l = grind (arith, nat_tests)

  none_before : (from : ℕ) (fs : List FunctionDecl) → s.name.start ≤ from → AreRising function_start from fs
      → (filter before fs ≡ []) × (filter (λ f. not (before f)) fs ≡ fs)
  none_before from [] l r = (refl, refl)
  none_before from (f ∷ fs) l r =
      let k = r.0 in
      let e = not_before f (omega (arith, l, k)) in
      let later = none_before (suc (function_start f)) fs (omega (arith, l, k)) r.1 in
      rw e (later.0, ap (λ gs. f ∷ gs) later.1)

  -- They are the front of the list, and the others are the rest.
  parted : (from : ℕ) (fs : List FunctionDecl) → AreRising function_start from fs
      → (take (prefix_len before fs) fs ≡ filter before fs) × (drop (prefix_len before fs) fs ≡ filter (λ f. not (before f)) fs)
  parted from [] r = (refl, refl)
  parted from (f ∷ fs) r = by (before f) refl (parted (suc (function_start f)) fs r.1)
    where
      more : 1 + prefix_len before fs ≡ suc (prefix_len before fs)
      more = omega arith

      by : (b : Bool) → before f ≡ b
          → (take (prefix_len before fs) fs ≡ filter before fs) × (drop (prefix_len before fs) fs ≡ filter (λ g. not (before g)) fs)
          → (take (prefix_len before (f ∷ fs)) (f ∷ fs) ≡ filter before (f ∷ fs))
          × (drop (prefix_len before (f ∷ fs)) (f ∷ fs) ≡ filter (λ g. not (before g)) (f ∷ fs))
      by true e later = rw e (ap (λ n. take n (f ∷ fs)) more ∙ ap (λ gs. f ∷ gs) later.0, ap (λ n. drop n (f ∷ fs)) more ∙ later.1)
      by false e later =
          let l : s.name.start ≤ suc f.name.start = grind (arith, nat_tests, e) in
          let none = none_before (suc (function_start f)) fs l r.1 in
          rw e (sym none.0, ap (λ gs. f ∷ gs) (sym none.1))

-- ---- their declarations

module _ (s : Skeleton) where
  abbrev declarations : List Signature → List (Option declared.SignatureDecl)
  declarations gs = map (declaration_of s) gs

  abbrev all : List declared.SignatureDecl → List (Option declared.SignatureDecl)
  all ds = map (λ d. Some d) ds

  functions_are : (k n : ℕ) (fs : List FunctionDecl) → AreFrom s.functions k fs → n ≤ length fs
      → declarations (functions_from k n) ≡ all (map (λ f. of_function f) (take n fs))
  functions_are k zero fs are l = refl
  functions_are k (suc n) [] are l = absurd (omega (arith, l))
  functions_are k (suc n) (f ∷ fs) are l =
      let one = ap (option_map of_function) (first_from s.functions k f fs are) in
      let more = functions_are (k + 1) n fs (from_next s.functions k f fs are) (omega (arith, l)) in
      λ i. one i ∷ more i

  nested_are : (i : ℕ) (t : StructDecl) (j : ℕ) (fs : List FunctionDecl) → slice_get s.structs i ≡ Some t → AreFrom t.functions j fs
      → declarations (nested_from i j (length fs)) ≡ all (map (λ f. of_inner t f) fs)
  nested_are i t j [] at are = refl
  nested_are i t j (f ∷ fs) at are =
      let one = ap (λ o. nested_declaration o j) at ∙ ap (option_map (of_inner t)) (first_from t.functions j f fs are) in
      let more = nested_are i t (j + 1) fs at (from_next t.functions j f fs are) in
      λ k. one k ∷ more k

  struct_is : (i : ℕ) (t : StructDecl) → slice_get s.structs i ≡ Some t → declarations (with_nested i t) ≡ all (with_functions t)
  struct_is i t at =
      let one = ap (option_map of_struct) at in
      let more = nested_are i t 0 t.functions at (all_from t.functions) in
      λ k. one k ∷ more k

  merged_are : (i : ℕ) (ss : List StructDecl) (k : ℕ) (fs : List FunctionDecl) (from : ℕ) → AreFrom s.structs i ss
      → AreFrom s.functions k fs
      → AreRising function_start from fs → declarations (merged_from i ss k fs) ≡ all (declared.merged ss fs)
  merged_are i [] k fs from in_structs in_functions r =
      functions_are k (length fs) fs in_functions (omega arith)
      ∙ ap (λ gs. all (map (λ f. of_function f) gs)) (take_all (length fs) fs (omega arith))
  merged_are i (t ∷ ss) k fs from in_structs in_functions r =
      let n = prefix_len (stands_before t) fs in
      let later = merged_from (i + 1) ss (k + n) (drop n fs) in
      let top = map (λ f. of_function f) (take n fs) in
      let own = with_functions t in
      let others = declared.merged ss (drop n fs) in
      let first = functions_are k n fs in_functions (prefix_len-le-length (stands_before t) fs) in
      let second = struct_is i t (first_from s.structs i t ss in_structs) in
      let third =
      merged_are (i + 1) ss (k + n) (drop n fs) from (from_next s.structs i t ss in_structs) (from_later s.functions k n fs in_functions)
      (rising_drop function_start from n fs r) in
      let parts = parted t from fs r in
      map-append (declaration_of s) (functions_from k n) (with_nested i t ++ later)
      ∙ ap (λ ds. declarations (functions_from k n) ++ ds) (map-append (declaration_of s) (with_nested i t) later)
      ∙ (λ j. first j ++ (second j ++ third j))
      ∙ sym (map-append (λ d. Some d) top (own ++ others) ∙ ap (λ ds. all top ++ ds) (map-append (λ d. Some d) own others))
      ∙ (λ j. all (map (λ f. of_function f) (parts.0 j) ++ (own ++ declared.merged ss (parts.1 j))))

  pub in_order_is : (from : ℕ) → AreRising function_start from s.functions → declarations (in_order s) ≡ all (declared.signature_decls s)
  in_order_is from r = merged_are 0 s.structs 0 s.functions from (all_from s.structs) (all_from s.functions) r

  -- Each of them is declared.
  pub all_declared : (from : ℕ) → AreRising function_start from s.functions → (k : ℕ) (g : Signature)
      → slice_get (in_order s) k ≡ Some g → HasSignature s g
  all_declared from r k g e =
      let (d, at, is) = mapped_from (λ d. Some d) (declared.signature_decls s) k (declaration_of s g)
      (ap (λ ds. slice_get ds k) (sym (in_order_is from r)) ∙ stands_mapped (declaration_of s) (in_order s) k g e) in
      (d, sym is)

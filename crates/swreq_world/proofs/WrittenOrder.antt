-- Signatures in written order, one more at a time.
use Rattle.std.proofs.Common.{◌≡◌, ℕ, zero, suc, ◌+◌, ◌-◌, ◌≤◌, ◌<◌, Bool, true, false, cond, List, [], ◌∷◌, ◌++◌, length, get_or, drop, refl, sym, ap, ◌∙◌, arith, append_assoc}
use Rattle.std.proofs.lemmas.List.{drop_all, drop_more}
use Rattle.std.specs.List.{prefix_len}
use Rattle.swreq_lexicon.specs.swreq_decl.declared.skeleton.FunctionDecl.{FunctionDecl}
use Rattle.swreq_lexicon.specs.swreq_decl.declared.skeleton.StructDecl.{StructDecl}
use Rattle.swreq_lexicon.specs.swreq_decl.Signatures.{stands_before}
use Rattle.swreq_lexicon.specs.swreq_names.declared.signature.Signature.{Signature}
use Rattle.swreq_lexicon.specs.swreq_names.declared.signature.Signature.TheVariants.{Function, Nested}
use Rattle.swreq_lowering.specs.Signatures.{functions_from, nested_from, with_nested, merged_from}

functions_after : (k n m : ℕ) → k + n ≡ m → functions_from k (suc n) ≡ functions_from k n ++ Function m ∷ []
functions_after k zero m e = let f : k ≡ m = omega arith in ap (λ (j : ℕ). Function j ∷ []) f
functions_after k (suc n) m e = ap (λ (gs : List Signature). Function k ∷ gs) (functions_after (k + 1) n m (omega arith))

pub functions_push : (k n p m : ℕ) → p ≡ suc n → k + n ≡ m → functions_from k p ≡ functions_from k n ++ Function m ∷ []
functions_push k n p m e f = ap (functions_from k) e ∙ functions_after k n m f

nested_after : (i j n m : ℕ) → j + n ≡ m → nested_from i j (suc n) ≡ nested_from i j n ++ Nested i m ∷ []
nested_after i j zero m e = let f : j ≡ m = omega arith in ap (λ (l : ℕ). Nested i l ∷ []) f
nested_after i j (suc n) m e = ap (λ (gs : List Signature). Nested i j ∷ gs) (nested_after i (j + 1) n m (omega arith))

pub nested_push : (i n p : ℕ) → p ≡ suc n → nested_from i 0 p ≡ nested_from i 0 n ++ Nested i n ∷ []
nested_push i n p e = ap (nested_from i 0) e ∙ nested_after i 0 n n (omega arith)

module _ {A : Type 0} where
  pub drop_at : (xs : List A) (i : ℕ) (x : A) → i < length xs → x ≡ get_or xs i x → drop i xs ≡ x ∷ drop (i + 1) xs
  drop_at xs i x h e = drop_more xs i x h ∙ ap (λ (z : A). z ∷ drop (i + 1) xs) (sym e)

  drop_none : (n : ℕ) → drop {A = A} n [] ≡ []
  drop_none zero = refl
  drop_none (suc n) = refl

  pub drop_twice : (xs : List A) (i n : ℕ) → drop n (drop i xs) ≡ drop (i + n) xs
  drop_twice xs zero n = let e : n ≡ 0 + n = omega arith in ap (λ (m : ℕ). drop m xs) e
  drop_twice [] (suc i) n = drop_none n ∙ sym (drop_none (suc i + n))
  drop_twice (x ∷ xs) (suc i) n = drop_twice xs i n ∙ (let e : suc (i + n) ≡ suc i + n = omega arith in ap (λ (m : ℕ). drop m (x ∷ xs)) e)

  pub length_rest : (xs : List A) (i : ℕ) → length (drop i xs) ≡ length xs - i
  length_rest xs zero = omega arith
  length_rest [] (suc i) = omega arith
  length_rest (x ∷ xs) (suc i) = let e = length_rest xs i in omega arith

  prefix_first : (p : A → Bool) (x : A) (xs : List A) (b : Bool) → p x ≡ b → prefix_len p (x ∷ xs) ≡ cond b (1 + prefix_len p xs) 0
  prefix_first p x xs b e = ap (λ (c : Bool). cond c (1 + prefix_len p xs) 0) e

  -- one more passes
  pub prefix_more : (p : A → Bool) (xs : List A) (i : ℕ) (x : A) → i < length xs → x ≡ get_or xs i x → p x ≡ true
      → prefix_len p (drop i xs) ≡ 1 + prefix_len p (drop (i + 1) xs)
  prefix_more p xs i x h e t = ap (prefix_len p) (drop_at xs i x h e) ∙ prefix_first p x (drop (i + 1) xs) true t

  pub prefix_ends : (p : A → Bool) (xs : List A) (i : ℕ) (x : A) → i < length xs → x ≡ get_or xs i x → p x ≡ false
      → prefix_len p (drop i xs) ≡ 0
  prefix_ends p xs i x h e f = ap (prefix_len p) (drop_at xs i x h e) ∙ prefix_first p x (drop (i + 1) xs) false f

  pub prefix_none : (p : A → Bool) (xs : List A) (i : ℕ) → length xs ≤ i → prefix_len p (drop i xs) ≡ 0
  prefix_none p xs i h = ap (prefix_len p) (drop_all i xs h)

-- a struct with the functions before it, and its own
pub merged_next : (ss : List StructDecl) (fs : List FunctionDecl) (all so more before after : List Signature) (i at n : ℕ) (s : StructDecl)
    → i < length ss → s ≡ get_or ss i s
    → n ≡ prefix_len (stands_before s) (drop at fs)
    → so ++ merged_from i (drop i ss) at (drop at fs) ≡ all → before ≡ so ++ functions_from at n → after ≡ before ++ with_nested i s
    → after ++ merged_from (i + 1) (drop (i + 1) ss) (at + n) (drop (at + n) fs) ≡ all
merged_next ss fs all so more before after i at n s h e c inv b a =
    (λ j. a j ++ merged_from (i + 1) (drop (i + 1) ss) (at + n) (drop (at + n) fs))
    ∙ (λ j. (b j ++ with_nested i s) ++ merged_from (i + 1) (drop (i + 1) ss) (at + n) (drop (at + n) fs))
    ∙ append_assoc (so ++ functions_from at n) (with_nested i s) (merged_from (i + 1) (drop (i + 1) ss) (at + n) (drop (at + n) fs))
    ∙ append_assoc so (functions_from at n) (with_nested i s ++ merged_from (i + 1) (drop (i + 1) ss) (at + n) (drop (at + n) fs))
    ∙ (λ j. so ++ (functions_from at n ++ (with_nested i s ++ merged_from (i + 1) (drop (i + 1) ss) (at + n) (sym (drop_twice fs at n) j))))
    ∙ (λ j.
    so ++ (functions_from at (c j) ++ (with_nested i s ++ merged_from (i + 1) (drop (i + 1) ss) (at + c j) (drop (c j) (drop at fs)))))
    ∙ (λ j. so ++ merged_from i (sym (drop_at ss i s h e) j) at (drop at fs))
    ∙ inv

-- the functions after the last struct
pub merged_last : (ss : List StructDecl) (fs : List FunctionDecl) (all so after : List Signature) (i at : ℕ) → length ss ≤ i
    → so ++ merged_from i (drop i ss) at (drop at fs) ≡ all → after ≡ so ++ functions_from at (length fs - at) → after ≡ all
merged_last ss fs all so after i at h inv a =
    a ∙ (λ j. so ++ functions_from at (sym (length_rest fs at) j))
    ∙ (λ j. so ++ merged_from i (sym (drop_all i ss h) j) at (drop at fs)) ∙ inv

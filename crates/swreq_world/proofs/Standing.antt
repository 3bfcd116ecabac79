-- Each signature of a text stands at its place in written order.
use Rattle.std.proofs.Common.{◌≡◌, ℕ, zero, suc, ◌+◌, ◌-◌, ◌<◌, ◌≤◌, ◌⊎◌, ⊎_elim, true, List, [], ◌∷◌, ◌++◌, Option, Some, None, unwrap_or, length, get_or, drop, slice_get, nat_eq, refl, sym, ap, subst, ◌∙◌, arith, eqb-true, eq-eqb}
use Rattle.std.proofs.lemmas.Bool.{cases_lt, and_parts}
use Rattle.std.proofs.lemmas.Iterator.Adapters.{position_from-zero}
use Rattle.std.proofs.lemmas.List.Elements.{Contains-append_left, Contains-append_right}
use Rattle.std.proofs.lemmas.List.Quantifiers.{position-Some}
use Rattle.std.proofs.lemmas.Option.{slice_get-get_or, slice_get_within, same_Some}
use Rattle.std.specs.List.{Contains, prefix_len}
use Rattle.std.specs.Option.{option_map}
use Rattle.swreq_lexicon.specs.swreq_decl.declared.skeleton.FunctionDecl.{FunctionDecl}
use Rattle.swreq_lexicon.specs.swreq_decl.declared.skeleton.Skeleton.{Skeleton}
use Rattle.swreq_lexicon.specs.swreq_decl.declared.skeleton.StructDecl.{StructDecl}
use Rattle.swreq_lexicon.specs.swreq_decl.Signatures.{of_struct, of_inner, of_function, stands_before}
use Rattle.swreq_lexicon.specs.swreq_names.declared.signature.Signature.{Signature}
use Rattle.swreq_lexicon.specs.swreq_names.declared.signature.Signature.TheVariants.{Struct, Function, Nested}
use Rattle.swreq_lexicon.proofs.Positions.{fails_all}
use Rattle.swreq_lexicon.proofs.SymbolPlaces.{get_left}
use Rattle.swreq_lowering.specs.Signatures.{nested_from, functions_from, with_nested, merged_from, in_order, is_signature, place_in, func_id}
use Rattle.swreq_lowering.specs.declared.ids.FuncId.{FuncId}
use Rattle.swreq_lowering.specs.Requirements.{PlacedRequirement}
use Rattle.swreq_lowering.specs.Words.{WordsView}
use Rattle.swreq_lowering.proofs.Referring.{from_below}
use Rattle.swreq_lowering.proofs.Shorter.{nested_count}
use Rattle.swreq_world.specs.Declarations.{nested_declaration, HasSignature}
use Rattle.swreq_world.specs.Text.{outer_of, signature_in, signatures}
use Rattle.swreq_world.specs.Worlds.{SignatureOver}
use Rattle.swreq_world.proofs.Everywhere.{stands_mapped}
use Rattle.swreq_world.proofs.WrittenOrder.{length_rest}
use Rattle.swreq_param.proofs.swreq_lemmas.Elements.{get_either, get_after}

-- The signature is of the text.
abbrev pub IsIn : Skeleton → Signature → Type 0
IsIn s (Struct i) = i < length s.structs
IsIn s (Function i) = i < length s.functions
IsIn s (Nested i j) = (t : StructDecl) × (slice_get s.structs i ≡ Some t) × (j < length t.functions)

-- ---- the first place of a signature

same_number : (i k : ℕ) → nat_eq i k ≡ true → k ≡ i
same_number i k e = sym (eqb-true i k e)

itself : (i : ℕ) → nat_eq i i ≡ true
itself i = eq-eqb i i refl

same_signature : (g h : Signature) → is_signature g h ≡ true → h ≡ g
same_signature (Struct i) (Struct k) e = ap Struct (same_number i k e)
same_signature (Struct i) (Function k) e = absurd cc
same_signature (Struct i) (Nested k l) e = absurd cc
same_signature (Function i) (Struct k) e = absurd cc
same_signature (Function i) (Function k) e = ap Function (same_number i k e)
same_signature (Function i) (Nested k l) e = absurd cc
same_signature (Nested i j) (Struct k) e = absurd cc
same_signature (Nested i j) (Function k) e = absurd cc
same_signature (Nested i j) (Nested k l) e =
    λ n. Nested (same_number i k (and_parts (nat_eq i k) (nat_eq j l) e).0 n) (same_number j l (and_parts (nat_eq i k) (nat_eq j l) e).1 n)

place_of : (order : List Signature) (g : Signature) → is_signature g g ≡ true → Contains order g
    → (k : ℕ) × (place_in order g ≡ Some k) × (slice_get order k ≡ Some g)
place_of order g s c = by (place_in order g) refl
  where
    by : (o : Option ℕ) → place_in order g ≡ o → (k : ℕ) × (place_in order g ≡ Some k) × (slice_get order k ≡ Some g)
    by None e =
        let no = fails_all (is_signature g) order (position_from-zero (is_signature g) order ∙ e) c.0 g c.1 in
        let yes = ap (is_signature g) c.2 ∙ s in
        absurd cc
    by (Some k) e =
        let h = position-Some (is_signature g) order k g (position_from-zero (is_signature g) order ∙ e) in
        (k, e, slice_get-get_or order k g h.0 ∙ ap Some (same_signature g (get_or order k g) h.1))

-- ---- structs and functions at the top

functions_there : (k n m : ℕ) → k ≤ m → m < k + n → Contains (functions_from k n) (Function m)
functions_there k zero m h l = absurd (omega arith)
functions_there k (suc n) m h l =
    ⊎_elim (λ b. Contains-append_right (Function k ∷ []) (functions_from (k + 1) n) (Function m)
    (functions_there (k + 1) n m (omega arith) (omega arith)))
    (λ b. (0, omega arith, ap Function (same b))) (cases_lt k m)
  where
    same : m ≤ k → k ≡ m
    same b = omega arith

function_there : (i : ℕ) (ss : List StructDecl) (k : ℕ) (fs : List FunctionDecl) (m : ℕ) → k ≤ m → m < k + length fs
    → Contains (merged_from i ss k fs) (Function m)
function_there i [] k fs m h l = functions_there k (length fs) m h l
function_there i (s ∷ ss) k fs m h l =
    let n = prefix_len (stands_before s) fs in
    let later = merged_from (i + 1) ss (k + n) (drop n fs) in
    let e = length_rest fs n in
    ⊎_elim (λ b. Contains-append_left (functions_from k n) (with_nested i s ++ later) (Function m) (functions_there k n m h b))
    (λ b. Contains-append_right (functions_from k n) (with_nested i s ++ later) (Function m)
    (Contains-append_right (with_nested i s) later (Function m) (function_there (i + 1) ss (k + n) (drop n fs) m b (omega arith))))
    (cases_lt m (k + n))

struct_there : (i : ℕ) (ss : List StructDecl) (k : ℕ) (fs : List FunctionDecl) (m : ℕ) → i ≤ m → m < i + length ss
    → Contains (merged_from i ss k fs) (Struct m)
struct_there i [] k fs m h l = absurd (omega arith)
struct_there i (s ∷ ss) k fs m h l =
    let n = prefix_len (stands_before s) fs in
    let later = merged_from (i + 1) ss (k + n) (drop n fs) in
    Contains-append_right (functions_from k n) (with_nested i s ++ later) (Struct m)
    (⊎_elim (λ b.
    Contains-append_right (with_nested i s) later (Struct m) (struct_there (i + 1) ss (k + n) (drop n fs) m (omega arith) (omega arith)))
    (λ b. (0, omega arith, ap Struct (same b))) (cases_lt i m))
  where
    same : m ≤ i → i ≡ m
    same b = omega arith

-- ---- the functions of a struct

no_struct_at_top : (k n m p : ℕ) → slice_get (functions_from k n) p ≡ Some (Struct m) → ⊥
no_struct_at_top k zero m p e = absurd cc
no_struct_at_top k (suc n) m zero e = absurd cc
no_struct_at_top k (suc n) m (suc p) e = no_struct_at_top (k + 1) n m p e

no_struct_within : (i j n m p : ℕ) → slice_get (nested_from i j n) p ≡ Some (Struct m) → ⊥
no_struct_within i j zero m p e = absurd cc
no_struct_within i j (suc n) m zero e = absurd cc
no_struct_within i j (suc n) m (suc p) e = no_struct_within i (j + 1) n m p e

nested_at : (i j n m l : ℕ) → m < n → j + m ≡ l → slice_get (nested_from i j n) m ≡ Some (Nested i l)
nested_at i j zero m l h e = absurd (omega arith)
nested_at i j (suc n) zero l h e = let f : j ≡ l = omega arith in ap (λ b. Some (Nested i b)) f
nested_at i j (suc n) (suc m) l h e = nested_at i (j + 1) n m l (omega arith) (omega arith)

-- After the m-th struct, which stands at p, its functions stand.
record IsFollowed (order : List Signature) (i : ℕ) (ss : List StructDecl) (m p : ℕ) : Type 0 where
  pub from : i ≤ m
  pub is : StructDecl
  pub stands : slice_get ss (m - i) ≡ Some is
  pub functions : (j : ℕ) → j < length is.functions → slice_get order (p + (1 + j)) ≡ Some (Nested m j)

-- the struct that stands first, or a later one
module _ (i : ℕ) (s : StructDecl) (ss : List StructDecl) (before later : List Signature) (m p : ℕ) where
  abbrev own : List Signature
  own = with_nested i s

  abbrev all : List Signature
  all = before ++ (own ++ later)

  signature_number : Struct i ≡ Struct m → i ≡ m
  signature_number e = cc

  here : (q : ℕ) → p ≡ length before + q → slice_get own q ≡ Some (Struct m) → IsFollowed all i (s ∷ ss) m p
  here zero a h =
      let same : i ≡ m = signature_number (same_Some (Struct i) (Struct m) h) in
      let first : m - i ≡ 0 = omega (arith, same) in
      let nested = nested_from i 0 (length s.functions) in
      let count = nested_count i 0 (length s.functions) in
      record {
        from = omega (arith, same);
        is = s;
        stands = ap (slice_get (s ∷ ss)) first;
        functions = λ j l.
            let at : p + (1 + j) ≡ length before + suc j = omega (arith, a) in
            let within : j < length nested = omega (arith, l, count) in
            ap (slice_get all) at ∙ get_after before (own ++ later) (suc j) ∙ get_left nested later j within
            ∙ nested_at i 0 (length s.functions) j j l (omega arith) ∙ ap (λ b. Some (Nested b j)) same;
      }
  here (suc q) a h = absurd (no_struct_within i 0 (length s.functions) m q h)

  further : (q r : ℕ) → p ≡ length before + q → q ≡ length own + r → IsFollowed later (i + 1) ss m r → IsFollowed all i (s ∷ ss) m p
  further q r a b f =
      let l = f.from in
      let next : m - i ≡ suc (m - (i + 1)) = omega (arith, l) in
      record {
        from = omega (arith, l);
        is = f.is;
        stands = ap (slice_get (s ∷ ss)) next ∙ f.stands;
        functions = λ j g.
            let at : p + (1 + j) ≡ length before + (length own + (r + (1 + j))) = omega (arith, a, b) in
            ap (slice_get all) at ∙ get_after before (own ++ later) (length own + (r + (1 + j)))
            ∙ get_after own later (r + (1 + j)) ∙ f.functions j g;
      }

  first_or_later : ((r : ℕ) → slice_get later r ≡ Some (Struct m) → IsFollowed later (i + 1) ss m r)
      → (slice_get before p ≡ Some (Struct m) → ⊥) → slice_get all p ≡ Some (Struct m)
      → IsFollowed all i (s ∷ ss) m p
  first_or_later rest none e = ⊎_elim (λ h. absurd (none h)) (λ h. past h.0 h.1 (get_either own later h.0 (Struct m) h.2))
      (get_either before (own ++ later) p (Struct m) e)
    where
      past : (q : ℕ) → p ≡ length before + q → (slice_get own q ≡ Some (Struct m))
          ⊎ ((r : ℕ) × (q ≡ length own + r) × (slice_get later r ≡ Some (Struct m))) → IsFollowed all i (s ∷ ss) m p
      past q a o = ⊎_elim (λ h. here q a h) (λ h. further q h.0 a h.1 (rest h.0 h.2)) o

followed : (i : ℕ) (ss : List StructDecl) (k : ℕ) (fs : List FunctionDecl) (m p : ℕ) → slice_get (merged_from i ss k fs) p ≡ Some (Struct m)
    → IsFollowed (merged_from i ss k fs) i ss m p
followed i [] k fs m p e = absurd (no_struct_at_top k (length fs) m p e)
followed i (s ∷ ss) k fs m p e =
    let n = prefix_len (stands_before s) fs in
    first_or_later i s ss (functions_from k n) (merged_from (i + 1) ss (k + n) (drop n fs)) m p
    (λ r h. followed (i + 1) ss (k + n) (drop n fs) m r h) (no_struct_at_top k n m p) e

-- ---- each signature

pub stands : (s : Skeleton) (g : Signature) → IsIn s g → slice_get (in_order s) (func_id (in_order s) g).place ≡ Some g
stands s (Struct i) h =
    let p = place_of (in_order s) (Struct i) (itself i) (struct_there 0 s.structs 0 s.functions i (omega arith) (omega arith)) in
    ap (λ o. slice_get (in_order s) (unwrap_or o 0)) p.1 ∙ p.2
stands s (Function i) h =
    let p = place_of (in_order s) (Function i) (itself i) (function_there 0 s.structs 0 s.functions i (omega arith) (omega arith)) in
    ap (λ o. slice_get (in_order s) (unwrap_or o 0)) p.1 ∙ p.2
stands s (Nested i j) h =
    let l = slice_get_within s.structs i h.0 h.1 in
    let p = place_of (in_order s) (Struct i) (itself i) (struct_there 0 s.structs 0 s.functions i (omega arith) (omega arith)) in
    let f = followed 0 s.structs 0 s.functions i p.0 p.2 in
    let z : i - 0 ≡ i = omega arith in
    let same = same_Some h.0 f.is (sym h.1 ∙ ap (slice_get s.structs) (sym z) ∙ f.stands) in
    ap (λ o. slice_get (in_order s) (unwrap_or o 0 + (1 + j))) p.1
    ∙ f.functions j (subst (λ (t : StructDecl). j < length t.functions) same h.2)

-- ---- each signature that is declared

some_mapped : {A B : Type 0} (f : A → B) (o : Option A) (y : B) → option_map f o ≡ Some y → (x : A) × (o ≡ Some x)
some_mapped f None y e = absurd cc
some_mapped f (Some x) y e = (x, refl)

pub is_in : (s : Skeleton) (g : Signature) → HasSignature s g → IsIn s g
is_in s (Struct i) h = let t = some_mapped of_struct (slice_get s.structs i) h.0 h.1 in slice_get_within s.structs i t.0 t.1
is_in s (Function k) h = let f = some_mapped of_function (slice_get s.functions k) h.0 h.1 in slice_get_within s.functions k f.0 f.1
is_in s (Nested i j) h = by (slice_get s.structs i) refl h.1
  where
    by : (o : Option StructDecl) → slice_get s.structs i ≡ o → nested_declaration o j ≡ Some h.0 → IsIn s (Nested i j)
    by None n e = absurd cc
    by (Some t) n e = let f = some_mapped (of_inner t) (slice_get t.functions j) h.0 e in (t, n, slice_get_within t.functions j f.0 f.1)

pub has_place : (s : Skeleton) (g : Signature) → HasSignature s g → slice_get (in_order s) (func_id (in_order s) g).place ≡ Some g
has_place s g h = stands s g (is_in s g h)

pub signature_stands : (w : WordsView) (gs : List (SignatureOver PlacedRequirement)) → gs ≡ signatures w → (f : FuncId) (g : Signature)
    → slice_get (in_order w.skeleton) f.place ≡ Some g
    → slice_get gs f.place ≡ Some (signature_in w (in_order w.skeleton) g)
signature_stands w gs is f g e =
    ap (λ hs. slice_get hs f.place) is ∙ stands_mapped (signature_in w (in_order w.skeleton)) (in_order w.skeleton) f.place g e

-- ---- the struct around a signature

some_within : (order : List Signature) (g : Signature) → 0 < length order → unwrap_or (place_in order g) 0 < length order
some_within order g h = by (place_in order g) refl
  where
    by : (o : Option ℕ) → place_in order g ≡ o → unwrap_or o 0 < length order
    by None e = h
    by (Some k) e = let l = from_below (is_signature g) 0 order k e in omega arith

pub outer_within : (order : List Signature) (g : Signature) (f : FuncId) → 0 < length order → outer_of order g ≡ Some f
    → f.place < length order
outer_within order (Struct i) f h e = absurd cc
outer_within order (Function i) f h e = absurd cc
outer_within order (Nested i j) f h e =
    subst (λ (o : FuncId). o.place < length order) (same_Some (func_id order (Struct i)) f e) (some_within order (Struct i) h)

-- Distinct entries stand for distinct type parameters, and what a look-up of an entry answers.
use Rattle.std.proofs.Common.{◌≡◌, ℕ, zero, suc, ◌<◌, Bool, true, false, ◌||◌, List, [], ◌∷◌, length, get_or, slice_get, Some, Contains, refl, sym, ap, subst, ◌∙◌, arith, position, true≢false}
use Rattle.std.proofs.Math.Bool.{or-true}
use Rattle.std.proofs.lemmas.List.{get_or_default}
use Rattle.std.proofs.lemmas.List.Quantifiers.{position-Some}
use Rattle.std.proofs.lemmas.Option.{slice_get-get_or, slice_get_within}
use Rattle.std.specs.Cmp.{IsEquivalence}
use Rattle.std.specs.List.{IsDistinct, AllByRecursion, list_any}
use Rattle.swreq_param.specs.contracts.table.EntryPartialEq.TheImpl.{eq-value}
use Rattle.swreq_param.specs.contracts.table.EntryEq.TheImpl.Laws.{laws-law}
use Rattle.swreq_param.specs.declared.ids.TermId.{TermId}
use Rattle.swreq_param.specs.declared.table.Entry.{Entry}
use Rattle.swreq_param.specs.declared.table.Entry.TheVariants.{Param, Member as Kept}
use Rattle.swreq_param.specs.Entries.{term_of, terms_of, IsBelow, AreGrounded}
use Rattle.swreq_param.specs.Terms.{Term, self}
use Rattle.swreq_param.specs.Tables.{term_at, AreDistinct, IsOf}
use Rattle.swreq_param.proofs.SameEntries.{entry_same}
use Rattle.swreq_param.proofs.TermsOfEntries.{length_terms, entry_is, entry_at, in_table}

-- where bases below are told apart by their type parameters, entries are too
entries_alike : (ts : List Term) (m k : ℕ) (e f : Entry) → IsBelow m e → IsBelow k f
    → ((x y : TermId) → x.place < m → y.place < k → term_at ts x ≡ term_at ts y → x ≡ y)
    → term_of ts e ≡ term_of ts f → e ≡ f
entries_alike ts m k (Param p) (Param q) be bf h s = let same : p ≡ q = cc in ap (λ x. Param x) same
entries_alike ts m k (Param p) (Kept b r) be bf h s = absurd cc
entries_alike ts m k (Kept b r) (Param q) be bf h s = absurd cc
entries_alike ts m k (Kept b r) (Kept d q) be bf h s =
    let bases : term_at ts b ≡ term_at ts d = cc in
    let steps : r ≡ q = cc in
    let one : b ≡ d = h b d be bf bases in
    cc

-- each entry stands once
abbrev pub IsOnce : List Entry → Type 0
IsOnce es = (i j : ℕ) (e : Entry) → slice_get es i ≡ Some e → slice_get es j ≡ Some e → i ≡ j

distinct_below : (es : List Entry) → AreGrounded es → IsOnce es → (n : ℕ) (a b : TermId) → a.place < n
    → IsOf (terms_of es) a → IsOf (terms_of es) b → term_at (terms_of es) a ≡ term_at (terms_of es) b → a ≡ b
distinct_below es g one zero a b h p q s = absurd (omega arith)
distinct_below es g one (suc n) a b h p q s =
    let x = entry_at es a.place (in_table es (terms_of es) a refl p) in
    let y = entry_at es b.place (in_table es (terms_of es) b refl q) in
    let ax = entry_is es a x.0 g x.1 in
    let by = entry_is es b y.0 g y.1 in
    let same : x.0 ≡ y.0 = entries_alike (terms_of es) a.place b.place x.0 y.0 ax.1 by.1
    (λ c d i j t. let len : length (terms_of es) ≡ length es = length_terms es in
    distinct_below es g one n c d (omega arith) (omega arith) (omega arith) t)
    (sym ax.0 ∙ s ∙ by.0) in
    let places : a.place ≡ b.place = one a.place b.place x.0 x.1 (y.1 ∙ ap Some (sym same)) in
    λ i. record { place = places i }

distinct : (es : List Entry) → AreGrounded es → IsOnce es → AreDistinct (terms_of es)
distinct es g one a b p q s = distinct_below es g one (suc a.place) a b (omega arith) p q s

module _ {K : Type 0} (eq : K → K → Bool) (laws : IsEquivalence eq) where
  all_at : (P : K → Type 0) (xs : List K) (j : ℕ) (x : K) → AllByRecursion P xs → slice_get xs j ≡ Some x → P x
  all_at P [] j x a e = absurd cc
  all_at P (y ∷ ys) zero x a e = let same : y ≡ x = cc in subst P same a.0
  all_at P (y ∷ ys) (suc j) x a e = all_at P ys j x a.1 e

  once : (xs : List K) → IsDistinct eq xs → (i j : ℕ) (x : K) → slice_get xs i ≡ Some x → slice_get xs j ≡ Some x → i ≡ j
  unfolding IsDistinct
  once [] d i j x p q = absurd cc
  once (y ∷ ys) d zero zero x p q = refl
  once (y ∷ ys) d zero (suc j) x p q =
      let same : y ≡ x = cc in
      absurd (true≢false (sym (laws.refl x) ∙ subst (λ z. eq z x ≡ false) same (all_at (λ z. eq y z ≡ false) ys j x d.0 q)))
  once (y ∷ ys) d (suc i) zero x p q =
      let same : y ≡ x = cc in
      absurd (true≢false (sym (laws.refl x) ∙ subst (λ z. eq z x ≡ false) same (all_at (λ z. eq y z ≡ false) ys i x d.0 p)))
  once (y ∷ ys) d (suc i) (suc j) x p q = ap suc (once ys d.1 i j x p q)

  found_any : (xs : List K) (i : ℕ) (x : K) → slice_get xs i ≡ Some x → list_any (eq x) xs ≡ true
  found_any [] i x h = absurd cc
  found_any (y ∷ ys) zero x h =
      let same : y ≡ x = cc in ap (λ b. b || list_any (eq x) ys) (subst (λ z. eq x z ≡ true) (sym same) (laws.refl x))
  found_any (y ∷ ys) (suc i) x h = ap (λ b. eq x y || b) (found_any ys i x h) ∙ or-true (eq x y)

pub each_once : (es : List Entry) → IsDistinct eq-value.it es → IsOnce es
each_once = once eq-value.it laws-law

-- ids are equal where their type parameters are
pub are_distinct : (es : List Entry) (ts : List Term) → AreGrounded es → IsDistinct eq-value.it es → terms_of es ≡ ts → AreDistinct ts
are_distinct es ts g d s = subst AreDistinct s (distinct es g (each_once es d))

-- an entry whose type parameter is there is there
there : (es : List Entry) (e : Entry) → AreGrounded es → IsOnce es → IsBelow (length es) e
    → Contains (terms_of es) (term_of (terms_of es) e)
    → (i : ℕ) × (slice_get es i ≡ Some e)
there es e g one b h =
    let len : length (terms_of es) ≡ length es = length_terms es in
    let t : TermId = record { place = h.0 } in
    let x = entry_at es h.0 (omega (arith, h.1)) in
    let ax = entry_is es t x.0 g x.1 in
    let stands : term_at (terms_of es) t ≡ term_of (terms_of es) e =
    get_or_default (terms_of es) h.0 self (term_of (terms_of es) e) h.1 ∙ h.2 in
    let same : x.0 ≡ e = entries_alike (terms_of es) t.place (length es) x.0 e ax.1 b
    (λ c d i j s. distinct es g one c d (omega (arith, h.1)) (omega arith) s) (sym ax.0 ∙ stands) in
    (h.0, x.1 ∙ ap Some same)

-- ---- what a look-up answers

pub found_at : (es : List Entry) (e : Entry) (i : ℕ) → position (eq-value.it e) es ≡ Some i → slice_get es i ≡ Some e
found_at es e i h =
    let p = position-Some (eq-value.it e) es i e h in
    slice_get-get_or es i e p.0 ∙ ap Some (sym (entry_same e (get_or es i e) p.1))

pub stands_at : (es : List Entry) (ts : List Term) (e : Entry) (t : TermId) → AreGrounded es → terms_of es ≡ ts
    → slice_get es t.place ≡ Some e → IsOf ts t × (term_at ts t ≡ term_of ts e)
stands_at es ts e t g s h =
    let len : length ts ≡ length es = ap length (sym s) ∙ length_terms es in
    let below : t.place < length es = slice_get_within es t.place e h in
    (omega arith, subst (λ us. term_at us t ≡ term_of us e) s (entry_is es t e g h).0)

-- the type parameter of an entry that no place has is not there
pub is_absent : (es : List Entry) (ts : List Term) (e : Entry) → AreGrounded es → IsOnce es → terms_of es ≡ ts → IsBelow (length ts) e
    → list_any (eq-value.it e) es ≡ false → Contains ts (term_of ts e) → ⊥
is_absent es ts e g one s b none h =
    let len : length ts ≡ length es = ap length (sym s) ∙ length_terms es in
    let k = there es e g one (subst (λ n. IsBelow n e) len b) (subst (λ us. Contains us (term_of us e)) (sym s) h) in
    true≢false (sym (found_any eq-value.it laws-law es k.0 e k.1) ∙ none)

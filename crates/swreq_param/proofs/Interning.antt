-- What a call that interns an entry leaves.
use Rattle.std.proofs.Common.{◌≡◌, ℕ, zero, suc, ◌+◌, inl, inr, Bool, true, false, ◌||◌, List, [], ◌∷◌, ◌++◌, length, slice_get, Some, refl, sym, ap, subst, ◌∙◌, arith, length-append, append-nil, if◌then◌else◌, cond, not, true≢false}
use Rattle.std.proofs.Math.Numerals.{one-add}
use Rattle.std.proofs.lemmas.List.{get_or_push}
use Rattle.std.specs.List.{IsDistinct, list_any, position_or_len}
use Rattle.swreq_param.specs.contracts.table.EntryPartialEq.TheImpl.{eq-value}
use Rattle.swreq_param.specs.declared.ids.TermId.{TermId}
use Rattle.swreq_param.specs.declared.table.Entry.{Entry}
use Rattle.swreq_param.specs.Entries.{term_of, terms_of, IsBelow, AreGrounded}
use Rattle.swreq_param.specs.Terms.{Term, self}
use Rattle.swreq_param.specs.Tables.{Extends, Interned}
use Rattle.swreq_param.proofs.SameEntries.{entry_same}
use Rattle.swreq_param.proofs.Growing.{at_end}
use Rattle.swreq_param.proofs.TermsOfEntries.{length_terms, terms_more, grounded_more}
use Rattle.swreq_param.proofs.DistinctEntries.{IsOnce, each_once, stands_at, is_absent}

-- the entries with e, which goes last where it is new
abbrev with_entry : List Entry → Entry → List Entry
with_entry es e = if list_any (eq-value.it e) es then es else es ++ e ∷ []

-- The first that is equal to e is e, and where none is, it would go last.
first_at : (e x : Entry) (es : List Entry) (b : Bool) → eq-value.it e x ≡ b → list_any (eq-value.it e) (x ∷ es) ≡ true
    → (list_any (eq-value.it e) es ≡ true → slice_get es (position_or_len (eq-value.it e) es) ≡ Some e)
    → slice_get (x ∷ es) (position_or_len (eq-value.it e) (x ∷ es)) ≡ Some e
first_at e x es true h any rest =
    ap (λ c. slice_get (x ∷ es) (cond (not c) (1 + position_or_len (eq-value.it e) es) 0)) h ∙ ap Some (sym (entry_same e x h))
first_at e x es false h any rest =
    ap (λ c. slice_get (x ∷ es) (cond (not c) (1 + position_or_len (eq-value.it e) es) 0)) h
    ∙ rw one-add (rest (sym (ap (λ c. c || list_any (eq-value.it e) es) h) ∙ any))

first_is : (e : Entry) (es : List Entry) → list_any (eq-value.it e) es ≡ true → slice_get es (position_or_len (eq-value.it e) es) ≡ Some e
first_is e [] h = absurd (true≢false (sym h))
first_is e (x ∷ es) h = first_at e x es (eq-value.it e x) refl h (first_is e es)

last_at : (e x : Entry) (es : List Entry) (b : Bool) → eq-value.it e x ≡ b → list_any (eq-value.it e) (x ∷ es) ≡ false
    → (list_any (eq-value.it e) es ≡ false → position_or_len (eq-value.it e) es ≡ length es)
    → position_or_len (eq-value.it e) (x ∷ es) ≡ length (x ∷ es)
last_at e x es true h none rest = absurd (true≢false (sym (ap (λ c. c || list_any (eq-value.it e) es) h) ∙ none))
last_at e x es false h none rest =
    ap (λ c. cond (not c) (1 + position_or_len (eq-value.it e) es) 0) h
    ∙ rw one-add (ap suc (rest (sym (ap (λ c. c || list_any (eq-value.it e) es) h) ∙ none)))

last_is : (e : Entry) (es : List Entry) → list_any (eq-value.it e) es ≡ false → position_or_len (eq-value.it e) es ≡ length es
last_is e [] h = refl
last_is e (x ∷ es) h = last_at e x es (eq-value.it e x) refl h (last_is e es)

get_left : (xs ys : List Entry) (k : ℕ) (x : Entry) → slice_get xs k ≡ Some x → slice_get (xs ++ ys) k ≡ Some x
get_left [] ys k x e = absurd cc
get_left (y ∷ xs) ys zero x e = e
get_left (y ∷ xs) ys (suc k) x e = get_left xs ys k x e

module _ (es : List Entry) (ts : List Term) (e : Entry) (grounded : AreGrounded es) (is_view : terms_of es ≡ ts)
    (below : IsBelow (length ts) e) where
  len : length ts ≡ length es
  len = ap length (sym is_view) ∙ length_terms es

  more : terms_of (es ++ e ∷ []) ≡ ts ++ term_of ts e ∷ []
  more = terms_more es e ∙ ap (λ us. us ++ term_of us e ∷ []) is_view

  pub with_entry_grounded : (b : Bool) → list_any (eq-value.it e) es ≡ b → AreGrounded (with_entry es e)
  with_entry_grounded true h = subst AreGrounded (sym (ap (λ c. if c then es else es ++ e ∷ []) h)) grounded
  with_entry_grounded false h =
      subst AreGrounded (sym (ap (λ c. if c then es else es ++ e ∷ []) h))
      (grounded_more es e grounded (subst (λ n. IsBelow n e) len below))

  pub with_entry_extends : (b : Bool) → list_any (eq-value.it e) es ≡ b → Extends ts (terms_of (with_entry es e))
  with_entry_extends true h =
      at_end ts [] (terms_of (with_entry es e)) (ap (λ c. terms_of (if c then es else es ++ e ∷ [])) h ∙ is_view ∙ sym (append-nil ts))
  with_entry_extends false h =
      at_end ts (term_of ts e ∷ []) (terms_of (with_entry es e)) (ap (λ c. terms_of (if c then es else es ++ e ∷ [])) h ∙ more)

  pub with_entry_interned : (b : Bool) → list_any (eq-value.it e) es ≡ b → IsDistinct eq-value.it (with_entry es e)
      → (t : TermId) → t.place ≡ position_or_len (eq-value.it e) es → Interned ts (terms_of (with_entry es e)) (term_of ts e) t
  with_entry_interned true h d t p =
      let k = stands_at es ts e t grounded is_view (ap (slice_get es) p ∙ first_is e es h) in
      subst (λ us. Interned ts us (term_of ts e) t) (sym (ap (λ c. terms_of (if c then es else es ++ e ∷ [])) h ∙ is_view))
      (record { is_of = k.0; stands = k.1; grown = inl refl })
  with_entry_interned false h d t p =
      let l = length-append ts (term_of ts e ∷ []) in
      let place : length ts ≡ t.place = len ∙ sym (p ∙ last_is e es h) in
      let all : IsOnce (es ++ e ∷ []) =
      each_once (es ++ e ∷ []) (subst (IsDistinct eq-value.it) (ap (λ c. if c then es else es ++ e ∷ []) h) d) in
      let one : IsOnce es = λ i j x a b. all i j x (get_left es (e ∷ []) i x a) (get_left es (e ∷ []) j x b) in
      subst (λ us. Interned ts us (term_of ts e) t) (sym (ap (λ c. terms_of (if c then es else es ++ e ∷ [])) h ∙ more)) (record {
        is_of = omega arith;
        stands = get_or_push ts (term_of ts e) self t.place place;
        grown = inr (is_absent es ts e grounded one is_view below h, refl);
      })

-- The type parameters of entries: each entry stands for the one in its place.
use Rattle.std.proofs.Common.{◌≡◌, ℕ, zero, suc, ◌+◌, ◌<◌, ◌⊎◌, inl, inr, List, [], ◌∷◌, ◌++◌, length, get_or, slice_get, Some, Contains, refl, sym, ap, subst, ◌∙◌, arith, length-append, ⊎_elim}
use Rattle.std.proofs.lemmas.List.{get_or_append_left, get_or_at, get_or_default}
use Rattle.std.proofs.lemmas.Option.{slice_get-get_or}
use Rattle.swreq_param.specs.declared.ids.Step.{Step}
use Rattle.swreq_param.specs.declared.ids.TermId.{TermId}
use Rattle.swreq_param.specs.declared.table.Entry.{Entry}
use Rattle.swreq_param.specs.declared.table.Entry.TheVariants.{Param, Member as Kept}
use Rattle.swreq_param.specs.Entries.{term_of, terms_after, terms_of, IsBelow, AreGrounded, IsEntryOf}
use Rattle.swreq_param.specs.Terms.{Term, self}
use Rattle.swreq_param.specs.Terms.Term.{Member}
use Rattle.swreq_param.specs.Tables.{term_at, IsOf, HasBases}

length_after : (ts : List Term) (es : List Entry) → length (terms_after ts es) ≡ length ts + length es
length_after ts [] = omega arith
length_after ts (e ∷ es) = omega (arith, length_after (ts ++ term_of ts e ∷ []) es, length-append ts (term_of ts e ∷ []))

pub length_terms : (es : List Entry) → length (terms_of es) ≡ length es
length_terms es = omega (arith, length_after [] es)

-- the first of them stay
kept : (ts : List Term) (es : List Entry) (i : ℕ) (d : Term) → i < length ts → get_or (terms_after ts es) i d ≡ get_or ts i d
kept ts [] i d h = refl
kept ts (e ∷ es) i d h =
    let more : i < length (ts ++ term_of ts e ∷ []) = omega (arith, length-append ts (term_of ts e ∷ [])) in
    kept (ts ++ term_of ts e ∷ []) es i d more ∙ get_or_append_left ts (term_of ts e ∷ []) d i h

pushed : (ts : List Term) (es : List Entry) (e : Entry)
    → terms_after ts (es ++ e ∷ []) ≡ terms_after ts es ++ term_of (terms_after ts es) e ∷ []
pushed ts [] e = refl
pushed ts (x ∷ es) e = pushed (ts ++ term_of ts x ∷ []) es e

-- the type parameters of one entry more
pub terms_more : (es : List Entry) (e : Entry) → terms_of (es ++ e ∷ []) ≡ terms_of es ++ term_of (terms_of es) e ∷ []
terms_more es e = pushed [] es e

term_of_same : (ts us : List Term) (e : Entry) (n : ℕ) → IsBelow n e → ((i : ℕ) → i < n → get_or ts i self ≡ get_or us i self)
    → term_of ts e ≡ term_of us e
term_of_same ts us (Param p) n b h = refl
term_of_same ts us (Kept base step) n b h = ap (λ t. Member t step) (h base.place b)

entry_after : (ts : List Term) (es : List Entry) (i : ℕ) (e : Entry) → slice_get es i ≡ Some e → IsBelow (length ts + i) e
    → get_or (terms_after ts es) (length ts + i) self ≡ term_of (terms_after ts es) e
entry_after ts [] i e g b = absurd cc
entry_after ts (x ∷ es) zero e g b =
    let same : x ≡ e = cc in
    let at : length ts + 0 ≡ length ts = omega arith in
    let us = ts ++ term_of ts x ∷ [] in
    let more : length ts < length us = omega (arith, length-append ts (term_of ts x ∷ [])) in
    let found : get_or (terms_after us es) (length ts) self ≡ term_of ts x =
    kept us es (length ts) self more ∙ get_or_at ts (term_of ts x) [] self (length ts) refl in
    let b2 : IsBelow (length ts) e = subst (λ n. IsBelow n e) at b in
    let base : term_of ts e ≡ term_of (terms_after us es) e =
    term_of_same ts (terms_after us es) e (length ts) b2 (λ i h. sym (kept ts (x ∷ es) i self h)) in
    subst (λ n. get_or (terms_after us es) n self ≡ term_of (terms_after us es) e) (sym at) (found ∙ ap (term_of ts) same ∙ base)
entry_after ts (x ∷ es) (suc i) e g b =
    let us = ts ++ term_of ts x ∷ [] in
    let at : length us + i ≡ length ts + suc i = omega (arith, length-append ts (term_of ts x ∷ [])) in
    subst (λ n. get_or (terms_after us es) n self ≡ term_of (terms_after us es) e) at
    (entry_after us es i e g (subst (λ n. IsBelow n e) (sym at) b))

-- each entry stands for the type parameter in its place
pub entry_is : (es : List Entry) (t : TermId) (e : Entry) → AreGrounded es → slice_get es t.place ≡ Some e → IsEntryOf (terms_of es) t e
entry_is es t e g h =
    let at : 0 + t.place ≡ t.place = omega arith in (
      subst (λ n. get_or (terms_of es) n self ≡ term_of (terms_of es) e) at
          (entry_after [] es t.place e h (subst (λ n. IsBelow n e) (sym at) (g t.place e h))),
      g t.place e h,
    )

-- each place has an entry
pub entry_at : (es : List Entry) (i : ℕ) → i < length es → (e : Entry) × (slice_get es i ≡ Some e)
entry_at [] i h = absurd (omega arith)
entry_at (x ∷ es) i h = (get_or (x ∷ es) i x, slice_get-get_or (x ∷ es) i x h)

-- a place of the table is a place of its entries
pub in_table : (es : List Entry) (ts : List Term) (t : TermId) → terms_of es ≡ ts → IsOf ts t → t.place < length es
in_table es ts t e h = omega (arith, length_terms es, ap length e)

-- one entry more
get_more : (xs : List Entry) (e f : Entry) (i : ℕ) → slice_get (xs ++ e ∷ []) i ≡ Some f
    → (slice_get xs i ≡ Some f) ⊎ ((i ≡ length xs) × (e ≡ f))
get_more [] e f zero h = inr (refl, cc)
get_more [] e f (suc i) h = absurd cc
get_more (x ∷ xs) e f zero h = inl h
get_more (x ∷ xs) e f (suc i) h = ⊎_elim (λ k. inl k) (λ k. inr (ap suc k.0, k.1)) (get_more xs e f i h)

pub grounded_more : (es : List Entry) (e : Entry) → AreGrounded es → IsBelow (length es) e → AreGrounded (es ++ e ∷ [])
grounded_more es e g b i f h =
    ⊎_elim (λ k. g i f k) (λ k. subst (λ n. IsBelow n f) (sym k.0) (subst (λ x. IsBelow (length es) x) k.1 b)) (get_more es e f i h)

-- with each member the table has its base
pub has_bases : (es : List Entry) (ts : List Term) → AreGrounded es → terms_of es ≡ ts → HasBases ts
has_bases es ts g s = subst HasBases s based
  where
    base_of : (i : ℕ) (e : Entry) (t : Term) (x : Step) → IsBelow i e → i < length (terms_of es) → Member t x ≡ term_of (terms_of es) e
        → Contains (terms_of es) t
    base_of i (Param p) t x b h e = absurd cc
    base_of i (Kept base step) t x b h e =
        let same : t ≡ term_at (terms_of es) base = cc in
        let within : base.place < length (terms_of es) = omega arith in
        (base.place, within, get_or_default (terms_of es) base.place t self within ∙ sym same)

    based : HasBases (terms_of es)
    based t x (i, h, stands) =
        let len : length (terms_of es) ≡ length es = length_terms es in
        let e = entry_at es i (omega arith) in
        let k = entry_is es (record { place = i }) e.0 g e.1 in
        base_of i e.0 t x k.1 h (sym stands ∙ get_or_default (terms_of es) i (Member t x) self h ∙ k.0)

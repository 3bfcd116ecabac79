-- What a refusal, or none, says of the names.
use Rattle.std.proofs.Common.{◌≡◌, ℕ, zero, suc, ◌<◌, ◌⊎◌, inl, inr, ⊎_elim, Bool, true, false, refl, List, length, slice_get, Option, None, Some, Contains, sym, ap, subst, ◌∙◌, arith, true≢false}
use Rattle.std.proofs.lemmas.Bool.{cases_lt, cases_eq}
use Rattle.std.proofs.lemmas.List.{length-map}
use Rattle.std.proofs.lemmas.Option.{slice_get_cases}
use Rattle.swreq_names.proofs.swreq_lemmas.Members.{no_member}
use Rattle.swreq_names.proofs.swreq_lemmas.Numbers.{above}
use Rattle.swreq_names.proofs.swreq_rank.Tests.{same_bool}
use Rattle.swreq_closure.specs.Chains.{leads}
use Rattle.swreq_closure.proofs.Marks.{begins_within}
use Rattle.swreq_decl.specs.declared.skeleton.ProtocolDecl.{ProtocolDecl}
use Rattle.swreq_decl.specs.declared.skeleton.Skeleton.{Skeleton}
use Rattle.swreq_resolve.specs.declared.refusal.Refusal.{Refusal}
use Rattle.swreq_resolve.specs.declared.refusal.NameErr.{NameErr}
use Rattle.swreq_resolve.specs.declared.refusal.NameErr.TheVariants.{Cycle}
use Rattle.swreq_resolve.specs.Errors.{error_of}
use Rattle.swreq_names.specs.Spaces.{Spaces, spaces}
use Rattle.swreq_resolve.specs.First.{least, IsFirst}
use Rattle.swreq_resolve.specs.Refusals.{refusals, refusals_in}
use Rattle.swreq_names.specs.Inheritance.{direct, inheritance, TellsInheritance, Inherits}
use Rattle.swreq_resolve.specs.Cycles.{HasNoLoop, IsLoopAt}
use Rattle.swreq_names.specs.Names.{NamesView, HasDeclared}
use Rattle.swreq_resolve.specs.Resolving.{HasNames, Resolve, RefusesSkeleton, RefusesName, RefusesCycle, IsFirstCycle}
use Rattle.swreq_resolve.proofs.Order.{none_refused, least_is_first, one_first}

-- what inherits a protocol is a protocol of the text
inherits_within : (text : List ℕ) (s : Skeleton) (i : ℕ) → Inherits text s i i → i < length s.protocols
inherits_within text s i k =
    let b = begins_within (inheritance text s) i i k in
    subst (λ m. i < m) (length-map s.protocols (direct text (spaces text s))) b

-- ---- the answers

module _ (text : List ℕ) (s : Skeleton) (n : NamesView) (h : HasDeclared text s n) where
  as_refusals : (o : Option Refusal) → least None (refusals_in text n.declared (leads n.inherits) s) ≡ o
      → least None (refusals text (leads n.inherits) s) ≡ o
  as_refusals o e = subst (λ (d : Spaces). least None (refusals_in text d (leads n.inherits) s) ≡ o) h.declared e

  pub refused_name : (r : Refusal) (e : NameErr) → least None (refusals_in text n.declared (leads n.inherits) s) ≡ Some r → e ≡ error_of r
      → RefusesSkeleton text s e
  refused_name r e l is =
      inl (
        r,
        record {
          inherits = leads n.inherits;
          tells = h.tells;
          first = least_is_first (refusals text (leads n.inherits) s) r (as_refusals (Some r) l);
        },
        is,
      )

  module _ (l : least None (refusals_in text n.declared (leads n.inherits) s) ≡ None) where
    has_names : HasNames text s
    has_names = record {
      inherits = leads n.inherits;
      tells = h.tells;
      none = none_refused (refusals text (leads n.inherits) s) (as_refusals None l);
    }

    pub refused_cycle : (at : ℕ) → IsLoopAt n.inherits s at → RefusesCycle text s at
    refused_cycle at c = record {
      names = has_names;
      place = c.place;
      protocol = c.protocol;
      stands = c.stands;
      cycle = record {
        itself = (h.tells c.place c.place).0 c.loop.itself;
        first = λ j g k. true≢false (sym ((h.tells j j).1 k) ∙ c.loop.first j g);
      };
      is = c.is;
    }

    pub resolved : HasNoLoop n.inherits (length s.protocols) → Resolve text s
    resolved none = record {
      names = has_names;
      no_cycle = λ i k. true≢false (sym ((h.tells i i).1 k) ∙ none i (inherits_within text s i k));
    }

-- ---- one answer

-- two tables that tell are one
one_table : (text : List ℕ) (s : Skeleton) (t u : ℕ → ℕ → Bool) → TellsInheritance text s t → TellsInheritance text s u → t ≡ u
one_table text s t u a b = λ k i j. same_bool (t i j) (u i j) (λ h. (b i j).1 ((a i j).0 h)) (λ h. (a i j).1 ((b i j).0 h)) k

module _ (text : List ℕ) (s : Skeleton) where
  first_with : (r : Refusal) (t : ℕ → ℕ → Bool) → TellsInheritance text s t → RefusesName text s r → IsFirst (refusals text t s) r
  first_with r t a n = subst (λ (u : ℕ → ℕ → Bool). IsFirst (refusals text u s) r) (one_table text s n.inherits t n.tells a) n.first

  no_refused_name : (r : Refusal) → HasNames text s → RefusesName text s r → ⊥
  no_refused_name r h n = no_member r (subst (λ (rs : List Refusal). Contains rs r) h.none (first_with r h.inherits h.tells n).is)

  one_name : (r q : Refusal) → RefusesName text s r → RefusesName text s q → r ≡ q
  one_name r q n m = one_first (refusals text m.inherits s) r q (first_with r m.inherits m.tells n) m.first

  one_place : (i j : ℕ) → IsFirstCycle text s i → IsFirstCycle text s j → i ≡ j
  one_place i j c d = ⊎_elim (λ l. absurd (d.first i l c.itself))
      (λ l. ⊎_elim (λ e. e) (λ n. absurd (c.first j (above i j l n) d.itself)) (cases_eq i j)) (cases_lt i j)

  one_cycle : (at other : ℕ) → RefusesCycle text s at → RefusesCycle text s other → at ≡ other
  one_cycle at other c d =
      let e : Some c.protocol ≡ Some d.protocol =
      sym c.stands ∙ ap (slice_get s.protocols) (one_place c.place d.place c.cycle d.cycle) ∙ d.stands in
      c.is ∙ ap (λ (p : ProtocolDecl). p.name.start) (same_protocol c.protocol d.protocol e) ∙ sym d.is
    where
      same_protocol : (p q : ProtocolDecl) → Some p ≡ Some q → p ≡ q
      same_protocol p q e = cc

  pub not_refused : (e : NameErr) → Resolve text s → RefusesSkeleton text s e → ⊥
  not_refused e h (inl n) = no_refused_name n.0 h.names n.1
  not_refused e h (inr c) = h.no_cycle c.1.place c.1.cycle.itself

  pub one_refusal : (e f : NameErr) → RefusesSkeleton text s e → RefusesSkeleton text s f → e ≡ f
  one_refusal e f (inl n) (inl m) = n.2 ∙ ap error_of (one_name n.0 m.0 n.1 m.1) ∙ sym m.2
  one_refusal e f (inl n) (inr d) = absurd (no_refused_name n.0 d.1.names n.1)
  one_refusal e f (inr c) (inl m) = absurd (no_refused_name m.0 c.1.names m.1)
  one_refusal e f (inr c) (inr d) = c.2 ∙ ap Cycle (one_cycle c.0 d.0 c.1 d.1) ∙ sym d.2

-- ---- some answer

-- none of the places below a number leads to itself, or one is the first that does
abbrev Loops : (ℕ → ℕ → Bool) → ℕ → Type 0
Loops t n = ((i : ℕ) → i < n → t i i ≡ false) ⊎ ((i : ℕ) × (i < n) × (t i i ≡ true) × ((j : ℕ) → j < i → t j j ≡ false))

loops_more : (t : ℕ → ℕ → Bool) (n : ℕ) (b : Bool) → t n n ≡ b → Loops t n → Loops t (suc n)
loops_more t n b e (inr m) = let l = m.1 in inr (m.0, omega (arith, l), m.2, m.3)
loops_more t n true e (inl none) = inr (n, omega arith, e, none)
loops_more t n false e (inl none) =
    inl (λ i l. ⊎_elim (λ s. subst (λ (x : ℕ). t x x ≡ false) (sym s) e) (λ d. none i (below i n l d)) (cases_eq i n))
  where
    below : (i n : ℕ) → i < suc n → (i ≡ n → ⊥) → i < n
    below i n l d = omega arith

loops : (t : ℕ → ℕ → Bool) (n : ℕ) → Loops t n
loops t zero = inl (λ i l. absurd (omega arith))
loops t (suc n) = loops_more t n (t n n) refl (loops t n)

module _ (text : List ℕ) (s : Skeleton) (t : ℕ → ℕ → Bool) (tells : TellsInheritance text s t) where
  abbrev Answer : Type 0
  Answer = Resolve text s ⊎ ((e : NameErr) × RefusesSkeleton text s e)

  stands : (i : ℕ) → i < length s.protocols → (p : ProtocolDecl) × (slice_get s.protocols i ≡ Some p)
  stands i l = ⊎_elim (λ c. (c.0, c.2)) (λ c. absurd (let h = c.0 in omega (arith, h))) (slice_get_cases s.protocols i).1

  cycle_or_none : HasNames text s → Loops t (length s.protocols) → Answer
  cycle_or_none names (inl none) =
      inl (record { names = names; no_cycle = λ i k. true≢false (sym ((tells i i).1 k) ∙ none i (inherits_within text s i k)) })
  cycle_or_none names (inr m) =
      let p = stands m.0 m.1 in
      inr (
        Cycle p.0.name.start,
        inr (
          p.0.name.start,
          record {
            names = names;
            place = m.0;
            protocol = p.0;
            stands = p.1;
            cycle = record { itself = (tells m.0 m.0).0 m.2; first = λ j g k. true≢false (sym ((tells j j).1 k) ∙ m.3 j g) };
            is = refl;
          },
          refl,
        ),
      )

  by_first : (o : Option Refusal) → least None (refusals text t s) ≡ o → Answer
  by_first (Some r) l =
      inr (error_of r, inl (r, record { inherits = t; tells = tells; first = least_is_first (refusals text t s) r l }, refl))
  by_first None l =
      cycle_or_none (record { inherits = t; tells = tells; none = none_refused (refusals text t s) l }) (loops t (length s.protocols))

  pub some_answer : Answer
  some_answer = by_first (least None (refusals text t s)) refl

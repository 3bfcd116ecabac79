-- What follows of the failing requirements of a call, and its one line.
use Rattle.std.proofs.Common.{◌≡◌, ◌↔◌, ℕ, zero, suc, ◌-◌, ◌<◌, ◌≤◌, inl, inr, List, [], ◌∷◌, Option, Some, length, map, get_or, slice_get, Contains, refl, sym, ap, ap₂, subst, ◌∙◌, arith}
use Rattle.std.specs.List.{AllPairs}
use Rattle.std.proofs.lemmas.List.Elements.{Contains-get_or}
use Rattle.std.proofs.lemmas.List.Kept.{AllPairs-from_increasing}
use Rattle.std.proofs.lemmas.Option.{same_Some, slice_get_within}
use Rattle.swreq_print.proofs.swreq_lemmas.Elements.{contains_get, get_contains, same_heads, same_tails}
use Rattle.swreq_print.proofs.swreq_lemmas.Members.{contains_of_map, first_member, later_member, member_cases, no_member}
use Rattle.swreq_machine.specs.swreq_param.Terms.{Term, self}
use Rattle.swreq_machine.specs.swreq_derive.declared.known.Params.{Params}
use Rattle.swreq_machine.specs.swreq_derive.Derivation.{Derivable, Source, TermFacts, TermRequirement, TermStatement}
use Rattle.swreq_machine.specs.swreq_derive.Derivation.Source.{Written}
use Rattle.swreq_machine.specs.swreq_derive.Derivation.TermStatement.{IsValid}
use Rattle.swreq_machine.specs.swreq_derive.Facts.{generic_params}
use Rattle.swreq_machine.specs.swreq_derive.Instances.{HasNumber}
use Rattle.swreq_machine.specs.swreq_derive.Substitution.{substitute_into}
use Rattle.swreq_machine.proofs.swreq_derive.Substitution.{derives_with}
use Rattle.swreq_print.specs.Names.{Text}
use Rattle.swreq_machine.specs.swreq_world.FactsAt.{facts_of, source_of, written_list}
use Rattle.swreq_machine.specs.swreq_world.Worlds.{TextWorld, signature_at}
use Rattle.swreq_subst.specs.Arguments.{argument_of, param_count, place_of}
use Rattle.swreq_subst.specs.Calls.{TermCall}
use Rattle.swreq_subst.specs.Failing.{AreFailing, Holds}
use Rattle.swreq_subst.specs.Lines.{AreValid, IsInvalid, IsLineOf, HasInvalid, verdict_text}
use Rattle.swreq_subst.proofs.Replacing.{place_within}

-- ---- none fails

module _ (f : TermFacts) (from : Source) (params : Params) (args : List Term) (rs : List TermRequirement) where
  numbered : (r : TermRequirement) → Contains rs r → (n : ℕ) × (n ≤ length rs) × HasNumber n rs r
  numbered r c =
      let (k, at) = contains_get rs r c in
      let l = slice_get_within rs k r at in
      let here : k ≡ suc k - 1 = omega arith in
      (suc k, (omega arith), ((omega arith), subst (λ z. slice_get rs z ≡ Some r) here at))

  pub none_fails : (ns : List ℕ) → AreFailing f from params args rs ns
      → (ns ≡ []) ↔ ((r : TermRequirement) → Contains rs r → Holds f from params args r)
  none_fails ns h = (onward, back ns h)
    where
      onward : ns ≡ [] → (r : TermRequirement) → Contains rs r → Holds f from params args r
      onward e r c =
          let (n, l, at) = numbered r c in
          elim (h.others n r l at) [ inl d ↦ no_member n (subst (λ z. Contains z n) e d) | inr d ↦ d ]

      back : (ms : List ℕ) → AreFailing f from params args rs ms
          → ((r : TermRequirement) → Contains rs r → Holds f from params args r) → ms ≡ []
      back [] k all = refl
      back (n ∷ ms) k all =
          let (r, at, fails) = (k.fail n (first_member n ms)).1 in
          absurd (fails (all r (get_contains rs (n - 1) r at.1)))

  pub carried : AreFailing f from params args rs [] → length args ≡ param_count params
      → ((t : Term) → Contains args t → Derivable f from (IsValid t))
      → (st : TermStatement) → Derivable f (Written (generic_params params) rs) st
      → Derivable f from (substitute_into (argument_of params args) st)
  carried h count valid st d =
      derives_with d from (argument_of params args)
      (λ g c. let l = place_within params g c in
      valid (argument_of params args g) (Contains-get_or args (place_of params g) self (omega (arith, l, count))))
      (λ r c v w. (none_fails [] h).0 refl r c)

-- ---- one list of numbers

rest_rises : (n : ℕ) (ns : List ℕ) → AllPairs (λ x y. x < y) (n ∷ ns) → AllPairs (λ x y. x < y) ns
rest_rises n ns h i j d l m = h (suc i) (suc j) d (omega arith) (omega arith)

first_is_least : (n : ℕ) (ns : List ℕ) → AllPairs (λ x y. x < y) (n ∷ ns) → (m : ℕ) → Contains ns m → n < m
first_is_least n ns h m c =
    let (k, at) = contains_get ns m c in
    let l = slice_get_within ns k m at in
    subst (λ z. n < z) (read ns k at) (h 0 (suc k) 0 (omega arith) (omega arith))
  where
    read : (xs : List ℕ) (k : ℕ) → slice_get xs k ≡ Some m → get_or xs k 0 ≡ m
    read [] k e = absurd cc
    read (x ∷ xs) zero e = same_Some x m e
    read (x ∷ xs) (suc k) e = read xs k e

same_members : (ns ms : List ℕ) → AllPairs (λ x y. x < y) ns → AllPairs (λ x y. x < y) ms → ((n : ℕ) → Contains ns n → Contains ms n)
    → ((n : ℕ) → Contains ms n → Contains ns n) → ns ≡ ms
same_members [] [] h k to from = refl
same_members [] (m ∷ ms) h k to from = no_member m (from m (first_member m ms))
same_members (n ∷ ns) [] h k to from = no_member n (to n (first_member n ns))
same_members (n ∷ ns) (m ∷ ms) h k to from = ap₂ ◌∷◌ first (same_members ns ms (rest_rises n ns h) (rest_rises m ms k) rest_to rest_from)
  where
    first : n ≡ m
    first = elim (member_cases m n ms (to n (first_member n ns))) [
      | inl e ↦ e
      | inr c ↦ elim (member_cases n m ns (from m (first_member m ms))) [
        | inl e ↦ sym e
        | inr d ↦ (let up = first_is_least n ns h m d in let down = first_is_least m ms k n c in absurd (omega arith))
      ]
    ]

    rest_to : (i : ℕ) → Contains ns i → Contains ms i
    rest_to i c = elim (member_cases m i ms (to i (later_member n i ns c))) [
      | inl e ↦ (let up = first_is_least n ns h i c in absurd (omega (arith, up, e, first)))
      | inr d ↦ d
    ]

    rest_from : (i : ℕ) → Contains ms i → Contains ns i
    rest_from i c = elim (member_cases n i ns (from i (later_member m i ms c))) [
      | inl e ↦ (let up = first_is_least m ms k i c in absurd (omega (arith, up, e, first)))
      | inr d ↦ d
    ]

module _ (f : TermFacts) (from : Source) (params : Params) (args : List Term) (rs : List TermRequirement) where
  among : (ns ms : List ℕ) → AreFailing f from params args rs ns → AreFailing f from params args rs ms → (n : ℕ)
      → Contains ns n → Contains ms n
  among ns ms h k n c =
      let (l, (r, at, fails)) = h.fail n c in
      elim (k.others n r l at) [ inl d ↦ d | inr d ↦ absurd (fails d) ]

  one_list : (ns ms : List ℕ) → AreFailing f from params args rs ns → AreFailing f from params args rs ms → ns ≡ ms
  one_list ns ms h k =
      same_members ns ms (AllPairs-from_increasing ns h.ascending) (AllPairs-from_increasing ms k.ascending)
      (among ns ms h k) (among ms ns k h)

-- ---- one line

some_same : (ts us : List Term) → map (λ (t : Term). Some t) ts ≡ map (λ (t : Term). Some t) us → ts ≡ us
some_same [] [] e = refl
some_same [] (u ∷ us) e = absurd cc
some_same (t ∷ ts) [] e = absurd cc
some_same (t ∷ ts) (u ∷ us) e = ap₂ ◌∷◌ (same_Some t u (same_heads e)) (some_same ts us (same_tails e))

not_both : (w : TextWorld) (c : TermCall) (ts : List Term) → HasInvalid w c → c.args ≡ map (λ (t : Term). Some t) ts → AreValid w c ts → ⊥
not_both w c ts (a, at, wrong) are valid =
    let (t, there, same) = contains_of_map (λ (t : Term). Some t) ts a (subst (λ (vs : List (Option Term)). Contains vs a) are at) in
    subst (IsInvalid w c) same wrong (valid t there)

pub one_line : (w : TextWorld) (c : TermCall) (l m : Text) → IsLineOf w c l → IsLineOf w c m → l ≡ m
one_line w c l m (inl a) (inl b) = a.1 ∙ sym b.1
one_line w c l m (inl a) (inr (ts, ns, (are, failing), valid, e)) = absurd (not_both w c ts a.0 are valid)
one_line w c l m (inr (ts, ns, (are, failing), valid, e)) (inl b) = absurd (not_both w c ts b.0 are valid)
one_line w c l m (inr (ts, ns, (are, failing), valid, e)) (inr (us, ms, (also, others), right, k)) =
    let same : ts ≡ us = some_same ts us (sym are ∙ also) in
    let judged : List Term → List ℕ → Type 0 = λ vs ks.
    AreFailing (facts_of w) (source_of (signature_at w c.f)) (signature_at w c.g).params vs (written_list (signature_at w c.g)) ks in
    let one = one_list (facts_of w) (source_of (signature_at w c.f)) (signature_at w c.g).params us
    (written_list (signature_at w c.g)) ns ms (subst (λ vs. judged vs ns) same failing) others in
    e ∙ ap (verdict_text w.lexicon (written_list (signature_at w c.g))) one ∙ sym k

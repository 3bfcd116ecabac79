-- The numbers of failing requirements, one after another.
use Rattle.std.proofs.Common.{◌≡◌, ◌↔◌, IsTrue, ℕ, suc, ◌+◌, ◌<◌, inl, inr, Bool, true, false, cond, List, [], ◌∷◌, ◌++◌, length, Contains, get_or, refl, sym, ap, subst, ◌∙◌, arith, length-append}
use Rattle.std.specs.Prelude.{slice_index}
use Rattle.std.proofs.lemmas.Bool.{cases_lt}
use Rattle.std.proofs.lemmas.List.Elements.{Contains-append_left, Contains-append_right, Contains-append_cases}
use Rattle.std.proofs.lemmas.List.{get_or_append_left, get_or_default}
use Rattle.std.proofs.Math.Seq.{get_or-append_seam}
use Rattle.swreq_print.proofs.swreq_lemmas.Members.{first_member, no_member, only_member}
use Rattle.swreq_machine.specs.swreq_param.Terms.{Term}
use Rattle.swreq_machine.specs.swreq_derive.declared.known.Params.{Params}
use Rattle.swreq_machine.specs.swreq_derive.Derivation.{TermFacts, TermRequirement, Source}
use Rattle.swreq_machine.specs.swreq_derive.Derivation.Source.{Written}
use Rattle.swreq_machine.specs.swreq_derive.Facts.{generic_params}
use Rattle.swreq_machine.specs.swreq_derive.Instances.{HasNumber}
use Rattle.swreq_machine.proofs.swreq_derive.InstanceLemmas.{one_number}
use Rattle.swreq_subst.specs.Failing.{AreFailing, AreFailingUpTo, FailsAt, Holds}

module _ (f : TermFacts) (from : Source) (params : Params) (args : List Term) (rs : List TermRequirement) where
  pub none_yet : AreFailingUpTo f from params args rs 0 []
  none_yet = record {
    fail = λ n h. no_member n h;
    others = λ n r l h. let k = h.0 in absurd (omega arith);
    ascending = λ k h. absurd (omega arith);
  }

  -- the next one holds
  next_holds : (count : ℕ) (ns : List ℕ) (r : TermRequirement) → AreFailingUpTo f from params args rs count ns → HasNumber (suc count) rs r
      → Holds f from params args r → AreFailingUpTo f from params args rs (suc count) ns
  next_holds count ns r h there holds = record {
    fail = λ n k. let e = h.fail n k in ((let l = e.0 in omega arith), e.1);
    others = λ n q l k. elim (cases_lt count n) [
      | inl more ↦
          let e : n ≡ suc count = omega arith in
          inr (subst (Holds f from params args) (sym (one_number (suc count) rs q r (subst (λ z. HasNumber z rs q) e k) there)) holds)
      | inr less ↦ h.others n q less k
    ];
    ascending = h.ascending;
  }

  -- the next one fails
  next_fails : (count : ℕ) (ns : List ℕ) (r : TermRequirement) → AreFailingUpTo f from params args rs count ns → HasNumber (suc count) rs r
      → (Holds f from params args r → ⊥) → AreFailingUpTo f from params args rs (suc count) (ns ++ suc count ∷ [])
  next_fails count ns r h there fails = record {
    fail = λ n k. elim (Contains-append_cases ns (suc count ∷ []) n k) [
      | inl old ↦ (let e = h.fail n old in ((let l = e.0 in omega arith), e.1))
      | inr new ↦
          (let e = only_member (suc count) n new in ((omega arith), subst (FailsAt f from params args rs) (sym e) (r, there, fails)))
    ];
    others = λ n q l k. elim (cases_lt count n) [
      | inl more ↦
          let e : n ≡ suc count = omega arith in
          inl (subst (Contains (ns ++ suc count ∷ [])) (sym e)
          (Contains-append_right ns (suc count ∷ []) (suc count) (first_member (suc count) [])))
      | inr less ↦ elim (h.others n q less k) [ inl c ↦ inl (Contains-append_left ns (suc count ∷ []) n c) | inr d ↦ inr d ]
    ];
    ascending = λ k l. rises k l;
  }
    where
      bounded : (k : ℕ) → k < length ns → get_or ns k 0 < suc count
      bounded k l = let e = (h.fail (get_or ns k 0) (k, l, get_or_default ns k (get_or ns k 0) 0 l)).0 in omega arith

      rises : (k : ℕ) → k + 1 < length (ns ++ suc count ∷ [])
          → slice_index (ns ++ suc count ∷ []) k < slice_index (ns ++ suc count ∷ []) (k + 1)
      rises k l =
          let size = length-append ns (suc count ∷ []) in
          let within : k < length ns = omega arith in
          let first : get_or (ns ++ suc count ∷ []) k 0 ≡ get_or ns k 0 = get_or_append_left ns (suc count ∷ []) 0 k within in
          elim (cases_lt (k + 1) (length ns)) [
            | inl inside ↦
                let second : get_or (ns ++ suc count ∷ []) (k + 1) 0 ≡ get_or ns (k + 1) 0 =
                get_or_append_left ns (suc count ∷ []) 0 (k + 1) inside in
                let up = h.ascending k inside in
                subst (λ z. z < get_or (ns ++ suc count ∷ []) (k + 1) 0) (sym first) (subst (λ z. get_or ns k 0 < z) (sym second) up)
            | inr last ↦
                let place : k + 1 ≡ length ns = omega arith in
                let second : get_or (ns ++ suc count ∷ []) (k + 1) 0 ≡ suc count
                = ap (λ z. get_or (ns ++ suc count ∷ []) z 0) place ∙ get_or-append_seam ns (suc count) [] 0 in
                subst (λ z. z < get_or (ns ++ suc count ∷ []) (k + 1) 0) (sym first)
                (subst (λ z. get_or ns k 0 < z) (sym second) (bounded k within))
          ]

  -- the next one, by whether it holds
  pub noted : (k number : ℕ) (ns more : List ℕ) (r : TermRequirement) (holds : Bool) → AreFailingUpTo f from params args rs k ns
      → HasNumber (suc k) rs r
      → number ≡ suc k → IsTrue holds ↔ Holds f from params args r → more ≡ cond holds ns (ns ++ number ∷ [])
      → AreFailingUpTo f from params args rs (suc k) more
  noted k number ns more r true h there same is e =
      subst (AreFailingUpTo f from params args rs (suc k)) (sym e) (next_holds k ns r h there (is.0 refl))
  noted k number ns more r false h there same is e =
      subst (AreFailingUpTo f from params args rs (suc k)) (sym (e ∙ ap (λ z. ns ++ z ∷ []) same))
      (next_fails k ns r h there (λ d. let z = is.1 d in cc))

-- Requirements that fail have the same numbers, where parameters, types and requirements are equal.
pub same_failing : (f : TermFacts) (written : List TermRequirement) {ps qs params others : Params} {args types : List Term}
    {rs list : List TermRequirement}
    → ps ≡ qs → params ≡ others → args ≡ types → rs ≡ list → (ns : List ℕ)
    → AreFailing f (Written (generic_params ps) written) params args rs ns
    → AreFailing f (Written (generic_params qs) written) others types list ns
same_failing f written {qs = qs} {params = params} {others = others} {args = args} {types = types} {rs = rs} {list = list} a b c d ns h =
    subst (λ (z : List TermRequirement). AreFailing f (Written (generic_params qs) written) others types z ns) d
    (subst (λ (z : List Term). AreFailing f (Written (generic_params qs) written) others z rs ns) c
    (subst (λ (z : Params). AreFailing f (Written (generic_params qs) written) z args rs ns) b
    (subst (λ (z : Params). AreFailing f (Written (generic_params z) written) params args rs ns) a h)))

-- What the numbers that were tried say of all others.
use Rattle.std.proofs.Common.{◌≡◌, ℕ, suc, ◌≤◌, ◌⊎◌, inl, inr, List, [], ◌∷◌, ◌++◌, length, Some, Contains, slice_get, refl, sym, ap, subst, ◌∙◌, arith, append_assoc}
use Rattle.std.proofs.lemmas.Bool.{cases_lt}
use Rattle.std.proofs.lemmas.Option.{same_Some, slice_get_within}
use Rattle.std.proofs.lemmas.List.{append-nil}
use Rattle.swreq_print.proofs.swreq_lemmas.Elements.{contains_get, get_contains}
use Rattle.swreq_machine.specs.swreq_param.declared.ids.ParamId.{ParamId}
use Rattle.swreq_machine.specs.swreq_param.declared.ids.ProtoId.{ProtoId}
use Rattle.swreq_machine.specs.swreq_param.Terms.{Term}
use Rattle.swreq_machine.specs.swreq_derive.Derivation.{TermRequirement, TermFacts, Source, Derivable}
use Rattle.swreq_machine.specs.swreq_derive.Derivation.TermRequirement.{Conforms}
use Rattle.swreq_machine.specs.swreq_derive.Derivation.TermStatement.{Requires}
use Rattle.swreq_machine.specs.swreq_derive.Derivation.Source.{Written}
use Rattle.swreq_machine.specs.swreq_derive.Paths.{IsConformancePath, IsGivenPath}
use Rattle.swreq_machine.specs.swreq_derive.WellFormed.{AreProtocolsWellFormed, IsListWellFormed}
use Rattle.swreq_machine.proofs.swreq_derive.PathLemmas.{has_path}
use Rattle.swreq_confpath.specs.Routes.{TermPlace, GoesTo, LeadTo, AreAlike, IsNotAfter}
use Rattle.swreq_confpath.specs.Routes.TermPlace.{Start, Conformance}
use Rattle.swreq_confpath.specs.Tried.{TermSpot, start, IsCovered, IsDeadEnd, AreTried, AreTriedUpTo}
use Rattle.swreq_confpath.proofs.Orders.{not_after_then, not_after_with, before_longer, before_by_last, before_by_length, not_after_length, not_after_numbers}
use Rattle.swreq_confpath.proofs.Alike.{lead_further, lead_on, on_leads, stays_derivable, goes_alike, alike_then, lead_alike}

-- what stands at one place
pub one_there : {A : Type 0} (xs : List A) (k : ℕ) (x y : A) → slice_get xs k ≡ Some x → slice_get xs k ≡ Some y → x ≡ y
one_there xs k x y h i = same_Some x y (sym h ∙ i)

-- ---- paths

module _ (f : TermFacts) (params : List ParamId) (written : List TermRequirement) where
  abbrev source : Source
  source = Written params written

  -- the numbers of a conformance path lead to the place that is sought
  pub path_leads : (t : Term) (p : ProtoId) (first : ℕ) (steps : List ℕ) → Derivable f source (Requires (Conforms t p))
      → IsConformancePath f params written first steps t p
      → (d : TermPlace) × LeadTo f written Start (first ∷ steps) d × AreAlike f source d (Conformance t p)
  path_leads t p first steps c h = (
    Conformance h.subject p,
    (Conformance h.start h.proto, (h.start, h.proto, h.is_written, refl), on_leads f written steps h.start h.subject h.proto p h.leads),
    (refl, h.equal, c),
  )

  -- and numbers that lead there are those of one
  pub leads_path : (t : Term) (p : ProtoId) (first : ℕ) (steps : List ℕ) (d : TermPlace) → LeadTo f written Start (first ∷ steps) d
      → AreAlike f source d (Conformance t p)
      → IsConformancePath f params written first steps t p
  leads_path t p first steps Start h like = absurd like
  leads_path t p first steps (Conformance u q) h like = record {
    start = h.1.0;
    proto = h.1.1;
    is_written = h.1.2;
    subject = u;
    leads = lead_on f written steps h.1.0 u h.1.1 p
        (subst (λ z. LeadTo f written (Conformance h.1.0 h.1.1) steps (Conformance u z)) like.0
        (subst (λ z. LeadTo f written z steps (Conformance u q)) h.1.3 h.2));
    equal = like.1;
  }

-- ---- what was tried

module _ (f : TermFacts) (params : List ParamId) (written : List TermRequirement)
    (protocols : AreProtocolsWellFormed f) (list : IsListWellFormed f (Written params written)) where
  abbrev s : Source
  s = Written params written

  -- Numbers that lead to this place go on from one that is not done: from the `at`-th that was tried, by `by` and then `ns`.
  record IsOpen (tried : List TermSpot) (next : ℕ) (numbers : List ℕ) (d : TermPlace) : Type 0 where
    pub at : ℕ
    pub from : TermSpot
    pub is_at : slice_get tried at ≡ Some from
    pub later : next ≤ at
    pub by : ℕ
    pub ns : List ℕ
    pub first : TermPlace
    pub last : TermPlace
    pub goes : GoesTo f written from.place by first
    pub leads : LeadTo f written first ns last
    pub alike : AreAlike f s last d
    pub not_after : IsNotAfter (from.numbers ++ (by ∷ ns)) numbers

  module _ (sought : TermPlace) (tried : List TermSpot) (next : ℕ) (h : AreTried f params written sought tried next) where
    -- no numbers lead from a dead end to the place that is sought, nor from a place like it
    none_from_dead : (c b : TermPlace) (ms : List ℕ) (d : TermPlace) → IsDeadEnd f params written sought c
        → AreAlike f s c b → AreAlike f s b b
        → LeadTo f written b ms d → AreAlike f s d sought → ⊥
    none_from_dead c b ms d dead alike own k like =
        let rest = lead_alike f written params protocols list ms c b d alike own k in
        dead ms rest.0 rest.1 (alike_then f written params protocols list rest.0 d sought rest.2 like)

    -- numbers that lead to the place that is sought are covered, or go on from one that is not done
    covers : (ms front : List ℕ) (e : TermSpot) (a d : TermPlace) → AreAlike f s d sought → Contains tried e
        → AreAlike f s e.place a → AreAlike f s a a
        → IsNotAfter e.numbers front → LeadTo f written a ms d
        → IsCovered f params written tried (front ++ ms) d ⊎ IsOpen tried next (front ++ ms) d
    covers [] front e a d like of alike own early k =
        inl (e, of, subst (AreAlike f s e.place) k alike, subst (IsNotAfter e.numbers) (sym (append-nil front)) early)
    covers (n ∷ ms) front e a d like of alike own early k =
        let p = contains_get tried e of in
        let one = goes_alike f written params protocols list e.place a n k.0 alike k.1 in
        let own_now = stays_derivable f written params protocols list a n k.0 own k.1 in
        elim (cases_lt p.0 next) [
          | inl done ↦ elim (h.settled p.0 e done p.1 n one.0 one.1) [
            | inl c ↦
                let alike_now = alike_then f written params protocols list c.0.place one.0 k.0 c.2 one.2 in
                let early_now : IsNotAfter c.0.numbers (front ++ n ∷ [])
                = not_after_then c.0.numbers (e.numbers ++ n ∷ []) (front ++ n ∷ []) c.3 (not_after_with e.numbers front (n ∷ []) early) in
                let rest = covers ms (front ++ n ∷ []) c.0 k.0 d like c.1 alike_now own_now early_now k.2 in
                subst (λ z. IsCovered f params written tried z d ⊎ IsOpen tried next z d) (append_assoc front (n ∷ []) ms) rest
            | inr dead ↦ absurd (none_from_dead one.0 k.0 ms d dead one.2 own_now k.2 like)
          ]
          | inr opened ↦
              let rest = lead_alike f written params protocols list ms one.0 k.0 d one.2 own_now k.2 in
              inr (record {
                at = p.0;
                from = e;
                is_at = p.1;
                later = opened;
                by = n;
                ns = ms;
                first = one.0;
                last = rest.0;
                goes = one.1;
                leads = rest.1;
                alike = rest.2;
                not_after = not_after_with e.numbers front (n ∷ ms) early;
              })
        ]

    -- numbers that lead to the place that is sought go on from one that is not done
    opened_to : (ms : List ℕ) (d : TermPlace) → LeadTo f written Start ms d → AreAlike f s d sought → IsOpen tried next ms d
    opened_to ms d k like =
        elim (covers ms [] start Start d like h.begins tt tt (inl refl) k) [
          | inl c ↦ absurd (h.unlike c.0 c.1 (alike_then f written params protocols list c.0.place d sought c.2 like))
          | inr opened ↦ opened
        ]

    -- where all are done, none lead there
    none_left : length tried ≤ next → (ms : List ℕ) (d : TermPlace) → LeadTo f written Start ms d → AreAlike f s d sought → ⊥
    none_left all ms d k like =
        let opened = opened_to ms d k like in
        let within = slice_get_within tried opened.at opened.from opened.is_at in
        let later = opened.later in
        omega arith

    -- what goes on from the next one is not after numbers that lead to the place that is sought
    first_found : (at : TermSpot) (count : ℕ) → AreTriedUpTo f params written sought tried next at count
        → (ms : List ℕ) (d : TermPlace) → LeadTo f written Start ms d → AreAlike f s d sought → IsNotAfter (at.numbers ++ suc count ∷ []) ms
    first_found at count now ms d k like =
        let opened = opened_to ms d k like in
        not_after_then (at.numbers ++ suc count ∷ []) (opened.from.numbers ++ (opened.by ∷ opened.ns)) ms
        (from_opened opened (alike_then f written params protocols list opened.last d sought opened.alike like)) opened.not_after
      where
        by_rest : (from : TermSpot) (by : ℕ) (first : TermPlace) (ns : List ℕ) (last : TermPlace) → from ≡ at
            → GoesTo f written from.place by first → LeadTo f written first ns last
            → AreAlike f s last sought → IsNotAfter (at.numbers ++ suc count ∷ []) (at.numbers ++ (by ∷ ns))
        by_rest from by first [] last same goes leads found =
            elim (cases_lt count by) [
              | inl h ↦ elim (cases_lt (suc count) by) [
                | inl less ↦ inr (before_by_last at.numbers (suc count) by less)
                | inr not ↦ let e : suc count ≡ by = omega arith in inl (ap (λ z. at.numbers ++ z ∷ []) e)
              ]
              | inr h ↦ absurd (now.unlike by first h (subst (λ (z : TermSpot). GoesTo f written z.place by first) same goes)
                  (subst (λ z. AreAlike f s z sought) (sym leads) found))
            ]
        by_rest from by first (n ∷ ns) last same goes leads found = inr (before_by_length at.numbers ns (suc count) by n)

        from_opened : (opened : IsOpen tried next ms d) → AreAlike f s opened.last sought
            → IsNotAfter (at.numbers ++ suc count ∷ []) (opened.from.numbers ++ (opened.by ∷ opened.ns))
        from_opened opened found =
            elim (cases_lt next opened.at) [
              | inl later ↦ inr (before_longer at.numbers opened.from.numbers opened.ns (suc count) opened.by
                  (h.ordered next opened.at at opened.from later now.is_next opened.is_at))
              | inr not ↦
                  let e : opened.at ≡ next = let l = opened.later in omega arith in
                  let same : opened.from ≡ at =
                  one_there tried next opened.from at (subst (λ z. slice_get tried z ≡ Some opened.from) e opened.is_at) now.is_next in
                  subst (λ (z : TermSpot). IsNotAfter (at.numbers ++ suc count ∷ []) (z.numbers ++ (opened.by ∷ opened.ns))) (sym same)
                  (by_rest opened.from opened.by opened.first opened.ns opened.last same opened.goes opened.leads found)
            ]

  -- The first numbers that are found are those of the given path.
  pub is_given : (t : Term) (p : ProtoId) (tried : List TermSpot) (next : ℕ) (at : TermSpot) (count : ℕ) (d : TermPlace)
      (first : ℕ) (steps : List ℕ)
      → Derivable f s (Requires (Conforms t p)) → AreTriedUpTo f params written (Conformance t p) tried next at count
      → GoesTo f written at.place (suc count) d → AreAlike f s d (Conformance t p) → first ∷ steps ≡ at.numbers ++ suc count ∷ []
      → IsGivenPath f params written first steps t p
  is_given t p tried next at count d first steps c now goes like e =
      let own = (now.so_far.leads at (get_contains tried next at now.is_next)).0 in
      let leads : LeadTo f written Start (first ∷ steps) d
      = subst (λ z. LeadTo f written Start z d) (sym e) (lead_further f written Start at.place d at.numbers (suc count) own goes) in
      record {
        path = leads_path f params written t p first steps d leads like;
        shortest = λ k ns h. let l = not_after_length (first ∷ steps) (k ∷ ns) (least k ns h) in omega arith;
        least = λ k ns h same less. not_after_numbers (first ∷ steps) (k ∷ ns) (least k ns h) (ap suc same) less;
      }
    where
      least : (k : ℕ) (ns : List ℕ) → IsConformancePath f params written k ns t p → IsNotAfter (first ∷ steps) (k ∷ ns)
      least k ns h =
          let to = path_leads f params written t p k ns c h in
          subst (λ z. IsNotAfter z (k ∷ ns)) (sym e)
          (first_found (Conformance t p) tried next now.so_far at count now (k ∷ ns) to.0 to.1 to.2)

  -- While not all that were tried are done, or some numbers lead there, the search has not ended.
  pub not_ended : (t : Term) (p : ProtoId) (tried : List TermSpot) (next : ℕ) → Derivable f s (Requires (Conforms t p))
      → AreTried f params written (Conformance t p) tried next → length tried ≤ next → ⊥
  not_ended t p tried next c h all =
      let path = has_path f params written t p c in
      let to = path_leads f params written t p path.0 path.1 c path.2 in
      none_left (Conformance t p) tried next h all (path.0 ∷ path.1) to.0 to.1 to.2

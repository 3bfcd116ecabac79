-- Where numbers lead, and places that are alike, on a well formed text.
use Rattle.std.proofs.Common.{◌≡◌, ℕ, ◌<◌, List, [], ◌∷◌, ◌++◌, refl, sym, subst, ◌∙◌}
use Rattle.swreq_machine.specs.swreq_param.declared.ids.ParamId.{ParamId}
use Rattle.swreq_machine.specs.swreq_param.declared.ids.ProtoId.{ProtoId}
use Rattle.swreq_machine.specs.swreq_param.Terms.{Term}
use Rattle.swreq_machine.specs.swreq_derive.Derivation.{TermRequirement, TermFacts, Source, Derivable, for_self}
use Rattle.swreq_machine.specs.swreq_derive.Derivation.TermRequirement.{Conforms}
use Rattle.swreq_machine.specs.swreq_derive.Derivation.TermStatement.{Requires}
use Rattle.swreq_machine.specs.swreq_derive.Derivation.Source.{Written}
use Rattle.swreq_machine.specs.swreq_derive.Derivation.Derives.{conf, assoc_conf, reflex, trans}
use Rattle.swreq_machine.specs.swreq_derive.Instances.{HasNumber}
use Rattle.swreq_machine.specs.swreq_derive.Paths.{LeadsOn}
use Rattle.swreq_machine.specs.swreq_derive.WellFormed.{AreProtocolsWellFormed, IsListWellFormed}
use Rattle.swreq_machine.proofs.swreq_derive.InstanceLemmas.{contains_number, one_number}
use Rattle.swreq_machine.proofs.swreq_derive.PathLemmas.{same_for_self}
use Rattle.swreq_machine.proofs.swreq_derive.Substitution.{valid_sides}
use Rattle.swreq_confpath.specs.Routes.{TermPlace, GoesTo, LeadTo, AreAlike}
use Rattle.swreq_confpath.specs.Routes.TermPlace.{Start, Conformance}

-- ---- one number leads to one place

module _ (f : TermFacts) (written : List TermRequirement) where
  pub goes_once : (a : TermPlace) (n : ℕ) (s r : TermPlace) → GoesTo f written a n s → GoesTo f written a n r → s ≡ r
  goes_once Start n s r h k =
      let e : Conforms h.0 h.1 ≡ Conforms k.0 k.1 = one_number n written (Conforms h.0 h.1) (Conforms k.0 k.1) h.2 k.2 in
      let u = h.3 in let v = k.3 in cc
  goes_once (Conformance t p) n s r h k =
      let e : Conforms h.0 h.1 ≡ Conforms k.0 k.1 = one_number n (f.of_protocol p) (Conforms h.0 h.1) (Conforms k.0 k.1) h.2 k.2 in
      let u = h.3 in let v = k.3 in cc

  pub goes_from_one : (a : TermPlace) (n : ℕ) (s : TermPlace) → GoesTo f written a n s → 0 < n
  goes_from_one Start n s h = h.2.0
  goes_from_one (Conformance t p) n s h = h.2.0

  pub lead_further : (a b c : TermPlace) (ns : List ℕ) (n : ℕ) → LeadTo f written a ns b → GoesTo f written b n c
      → LeadTo f written a (ns ++ n ∷ []) c
  lead_further a b c [] n h k = (c, subst (λ z. GoesTo f written z n c) (sym h) k, refl)
  lead_further a b c (m ∷ ns) n h k = (h.0, h.1, lead_further h.0 b c ns n h.2 k)

  -- ---- numbers that lead to a conformance are those of a path

  pub lead_on : (ns : List ℕ) (u t : Term) (q p : ProtoId) → LeadTo f written (Conformance u q) ns (Conformance t p) → LeadsOn f u q ns t p
  lead_on [] u t q p h = (one_subject h, one_proto h)
    where
      one_subject : {a b : Term} {c d : ProtoId} → Conformance a c ≡ Conformance b d → a ≡ b
      one_subject e = cc

      one_proto : {a b : Term} {c d : ProtoId} → Conformance a c ≡ Conformance b d → c ≡ d
      one_proto e = cc
  lead_on (n ∷ ns) u t q p h =
      (h.1.0, h.1.1, h.1.2, lead_on ns (for_self u h.1.0) t h.1.1 p (subst (λ z. LeadTo f written z ns (Conformance t p)) h.1.3 h.2))

  pub on_leads : (ns : List ℕ) (u t : Term) (q p : ProtoId) → LeadsOn f u q ns t p → LeadTo f written (Conformance u q) ns (Conformance t p)
  on_leads [] u t q p h = let e = h.0 in let d = h.1 in cc
  on_leads (n ∷ ns) u t q p h = (Conformance (for_self u h.0) h.1, (h.0, h.1, h.2, refl), on_leads ns (for_self u h.0) t h.1 p h.3)

  -- ---- places alike

  module _ (params : List ParamId) (protocols : AreProtocolsWellFormed f) (list : IsListWellFormed f (Written params written)) where
    abbrev s : Source
    s = Written params written

    -- what a conformance that is derivable goes on to is derivable
    pub stays_derivable : (a : TermPlace) (n : ℕ) (b : TermPlace) → AreAlike f s a a → GoesTo f written a n b → AreAlike f s b b
    stays_derivable Start n b h k =
        let i = contains_number n written (Conforms k.0 k.1) k.2 in
        let valid = list (Conforms k.0 k.1) i in
        subst (λ z. AreAlike f s z z) (sym k.3) (refl, reflex valid, conf i (λ g. valid))
    stays_derivable (Conformance t p) n b h k =
        let i = contains_number n (f.of_protocol p) (Conforms k.0 k.1) k.2 in
        let valid = protocols p (Conforms k.0 k.1) i in
        let c : Derivable f s (Requires (Conforms (for_self t k.0) k.1)) = assoc_conf h.2 i (λ g. valid) in
        subst (λ z. AreAlike f s z z) (sym k.3) (refl, reflex (valid_sides f s (Conforms (for_self t k.0) k.1) c), c)

    -- where two places are alike, each number that leads on from the second leads on from the first, to a place that is alike
    pub goes_alike : (a b : TermPlace) (n : ℕ) (d : TermPlace) → AreAlike f s a b → GoesTo f written b n d
        → (c : TermPlace) × GoesTo f written a n c × AreAlike f s c d
    goes_alike Start Start n d h k = (d, k, stays_derivable Start n d tt k)
    goes_alike Start (Conformance u q) n d h k = absurd h
    goes_alike (Conformance t p) Start n d h k = absurd h
    goes_alike (Conformance t p) (Conformance u q) n d h k =
        let i = contains_number n (f.of_protocol q) (Conforms k.0 k.1) k.2 in
        let valid = protocols q (Conforms k.0 k.1) i in
        let c : Derivable f s (Requires (Conforms (for_self u k.0) k.1)) = assoc_conf h.2 i (λ g. valid) in
        let e = same_for_self f s t u q k.0 h.2 h.1 valid in (
          Conformance (for_self t k.0) k.1,
          (k.0, k.1, subst (λ z. HasNumber n (f.of_protocol z) (Conforms k.0 k.1)) (sym h.0) k.2, refl),
          subst (AreAlike f s (Conformance (for_self t k.0) k.1)) (sym k.3) (refl, e, c),
        )

    -- a place that another is alike is alike itself
    pub alike_itself : (a b : TermPlace) → AreAlike f s a b → AreAlike f s b b
    alike_itself Start Start h = tt
    alike_itself Start (Conformance u q) h = absurd h
    alike_itself (Conformance t p) Start h = absurd h
    alike_itself (Conformance t p) (Conformance u q) h = (refl, reflex (valid_sides f s (Conforms u q) h.2), h.2)

    pub alike_then : (a b c : TermPlace) → AreAlike f s a b → AreAlike f s b c → AreAlike f s a c
    alike_then Start Start Start h k = tt
    alike_then Start Start (Conformance v r) h k = absurd k
    alike_then Start (Conformance u q) c h k = absurd h
    alike_then (Conformance t p) Start c h k = absurd h
    alike_then (Conformance t p) (Conformance u q) Start h k = absurd k
    alike_then (Conformance t p) (Conformance u q) (Conformance v r) h k = (h.0 ∙ k.0, trans h.1 k.1, k.2)

    -- numbers that lead on from the second lead on from the first, to a place that is alike
    pub lead_alike : (ns : List ℕ) (a b d : TermPlace) → AreAlike f s a b → AreAlike f s b b → LeadTo f written b ns d
        → (c : TermPlace) × LeadTo f written a ns c × AreAlike f s c d
    lead_alike [] a b d h own k = (a, refl, subst (AreAlike f s a) k h)
    lead_alike (n ∷ ns) a b d h own k =
        let one = goes_alike a b n k.0 h k.1 in
        let rest = lead_alike ns one.0 k.0 d one.2 (stays_derivable b n k.0 own k.1) k.2 in
        (rest.0, (one.0, one.1, rest.1), rest.2)

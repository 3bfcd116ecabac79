-- The steps of the search: what is known stays known.
use Rattle.std.proofs.Common.{◌≡◌, ℕ, suc, ◌+◌, ◌<◌, ◌≤◌, ◌⊎◌, inl, inr, List, [], ◌∷◌, ◌++◌, Some, Contains, slice_get, refl, sym, subst, arith}
use Rattle.std.proofs.lemmas.Bool.{cases_lt}
use Rattle.std.proofs.lemmas.Option.{slice_get_within}
use Rattle.std.proofs.lemmas.List.Elements.{Contains-append_left, Contains-append_right, Contains-append_cases}
use Rattle.swreq_machine.specs.swreq_param.declared.ids.ParamId.{ParamId}
use Rattle.swreq_machine.specs.swreq_derive.Derivation.{TermRequirement, TermFacts, Source}
use Rattle.swreq_machine.specs.swreq_derive.Derivation.Source.{Written}
use Rattle.swreq_machine.specs.swreq_derive.WellFormed.{AreProtocolsWellFormed, IsListWellFormed}
use Rattle.swreq_print.proofs.swreq_lemmas.Elements.{get_cases, get_contains, get_left}
use Rattle.swreq_print.proofs.swreq_lemmas.Members.{only_member}
use Rattle.swreq_confpath.specs.Routes.{TermPlace, GoesTo, LeadTo, AreAlike, ComesBefore}
use Rattle.swreq_confpath.specs.Routes.TermPlace.{Start}
use Rattle.swreq_confpath.specs.Tried.{TermSpot, start, IsSettled, AreReady, AreTriedUpTo}
use Rattle.swreq_confpath.proofs.Orders.{before_then, before_longer, before_by_last}
use Rattle.swreq_confpath.proofs.Alike.{goes_once, goes_from_one, lead_further, stays_derivable}
use Rattle.swreq_confpath.proofs.Covering.{one_there}

module _ (f : TermFacts) (params : List ParamId) (written : List TermRequirement)
    (protocols : AreProtocolsWellFormed f) (list : IsListWellFormed f (Written params written)) (sought : TermPlace) where
  abbrev s : Source
  s = Written params written

  settled_more : (tried : List TermSpot) (spot : TermSpot) (numbers : List ℕ) (d : TermPlace)
      → IsSettled f params written sought tried numbers d
      → IsSettled f params written sought (tried ++ spot ∷ []) numbers d
  settled_more tried spot numbers d (inl h) = inl (h.0, Contains-append_left tried (spot ∷ []) h.0 h.1, h.2, h.3)
  settled_more tried spot numbers d (inr dead) = inr dead

  -- ---- from the first

  pub begun : (AreAlike f s Start sought → ⊥) → AreReady f params written sought (start ∷ []) 0
  begun other = record {
    so_far = record {
      begins = (0, omega arith, refl);
      leads = λ e h. subst (λ (z : TermSpot). LeadTo f written Start z.numbers z.place × AreAlike f s z.place z.place)
          (sym (only_member start e h)) (refl, tt);
      unlike = λ e h k. other (subst (λ (z : TermSpot). AreAlike f s z.place sought) (only_member start e h) k);
      ordered = λ i j a b less x y.
          let w = slice_get_within (start ∷ []) j b y in absurd (omega arith);
      settled = λ i a less. absurd (omega arith);
    };
    before = λ i a e n later some x h.
        let one : e ≡ start = only_member start e h in
        let two : a ≡ start = only_member start a (get_contains (start ∷ []) i a x) in
        subst (λ (z : TermSpot). ComesBefore z.numbers (a.numbers ++ n ∷ [])) (sym one)
        (subst (λ (z : TermSpot). ComesBefore [] (z.numbers ++ n ∷ [])) (sym two) (inl (omega arith)));
  }

  pub opens : (tried : List TermSpot) (next : ℕ) (at : TermSpot) → AreReady f params written sought tried next
      → slice_get tried next ≡ Some at
      → AreTriedUpTo f params written sought tried next at 0
  opens tried next at h e = record {
    so_far = h.so_far;
    is_next = e;
    settled = λ n d few goes. let k = goes_from_one f written at.place n d goes in absurd (omega arith);
    unlike = λ n d few goes like. let k = goes_from_one f written at.place n d goes in omega arith;
    before = λ e n some of. h.before next at e n (omega arith) some is_there of;
  }
    where
      is_there : slice_get tried next ≡ Some at
      is_there = e

  -- ---- one requirement more

  -- one by which nothing goes on
  pub passes : (tried : List TermSpot) (next : ℕ) (at : TermSpot) (count : ℕ) → AreTriedUpTo f params written sought tried next at count
      → ((d : TermPlace) → GoesTo f written at.place (suc count) d → ⊥) → AreTriedUpTo f params written sought tried next at (suc count)
  passes tried next at count h none = record {
    so_far = h.so_far;
    is_next = h.is_next;
    settled = λ n d few goes. elim (cases_lt count n) [
      | inl more ↦ let e : n ≡ suc count = omega arith in absurd (none d (subst (λ z. GoesTo f written at.place z d) e goes))
      | inr less ↦ h.settled n d less goes
    ];
    unlike = λ n d few goes like. elim (cases_lt count n) [
      | inl more ↦ let e : n ≡ suc count = omega arith in none d (subst (λ z. GoesTo f written at.place z d) e goes)
      | inr less ↦ h.unlike n d less goes like
    ];
    before = λ e n more of. h.before e n (omega arith) of;
  }

  module _ (at : TermSpot) (count : ℕ) (d : TermPlace) (goes : GoesTo f written at.place (suc count) d) where
    -- what goes on by the next number goes there
    one_place : (n : ℕ) (r : TermPlace) → count < n → n ≤ suc count → GoesTo f written at.place n r → (n ≡ suc count) × (d ≡ r)
    one_place n r more few to =
        let e : n ≡ suc count = omega arith in
        (e, goes_once f written at.place (suc count) d r goes (subst (λ z. GoesTo f written at.place z r) e to))

    settled_now : (all : List TermSpot)
        → ((n : ℕ) (r : TermPlace) → n ≤ count → GoesTo f written at.place n r
        → IsSettled f params written sought all (at.numbers ++ n ∷ []) r)
        → IsSettled f params written sought all (at.numbers ++ suc count ∷ []) d
        → (n : ℕ) (r : TermPlace) → n ≤ suc count → GoesTo f written at.place n r
        → IsSettled f params written sought all (at.numbers ++ n ∷ []) r
    settled_now all before known n r few to = elim (cases_lt count n) [
      | inl more ↦
          let e = one_place n r more few to in
          subst (λ z. IsSettled f params written sought all (at.numbers ++ z ∷ []) r) (sym e.0)
          (subst (IsSettled f params written sought all (at.numbers ++ suc count ∷ [])) e.1 known)
      | inr less ↦ before n r less to
    ]

    unlike_now : ((n : ℕ) (r : TermPlace) → n ≤ count → GoesTo f written at.place n r → AreAlike f s r sought → ⊥)
        → (AreAlike f s d sought → ⊥)
        → (n : ℕ) (r : TermPlace) → n ≤ suc count → GoesTo f written at.place n r → AreAlike f s r sought → ⊥
    unlike_now before other n r few to like = elim (cases_lt count n) [
      | inl more ↦ other (subst (λ z. AreAlike f s z sought) (sym (one_place n r more few to).1) like)
      | inr less ↦ before n r less to like
    ]

  -- one that goes on to a place that is settled, and not sought
  pub knows : (tried : List TermSpot) (next : ℕ) (at : TermSpot) (count : ℕ) (d : TermPlace)
      → AreTriedUpTo f params written sought tried next at count
      → GoesTo f written at.place (suc count) d → IsSettled f params written sought tried (at.numbers ++ suc count ∷ []) d
      → (AreAlike f s d sought → ⊥)
      → AreTriedUpTo f params written sought tried next at (suc count)
  knows tried next at count d h goes known other = record {
    so_far = h.so_far;
    is_next = h.is_next;
    settled = settled_now at count d goes tried h.settled known;
    unlike = unlike_now at count d goes h.unlike other;
    before = λ e n more of. h.before e n (omega arith) of;
  }

  -- a place that was reached goes on like one that was tried before
  pub is_known : (tried : List TermSpot) (next : ℕ) (at : TermSpot) (count : ℕ) (d : TermPlace) (e : TermSpot)
      → AreTriedUpTo f params written sought tried next at count
      → Contains tried e → AreAlike f s e.place d → IsSettled f params written sought tried (at.numbers ++ suc count ∷ []) d
  is_known tried next at count d e h of like = inl (e, of, like, inr (h.before e (suc count) (omega arith) of))

  -- one that is tried from now on
  module _ (tried : List TermSpot) (next : ℕ) (at : TermSpot) (count : ℕ) (d : TermPlace)
      (h : AreTriedUpTo f params written sought tried next at count)
      (goes : GoesTo f written at.place (suc count) d) (other : AreAlike f s d sought → ⊥) where
    abbrev spot : TermSpot
    spot = record { numbers = at.numbers ++ suc count ∷ []; place = d }

    abbrev more : List TermSpot
    more = tried ++ spot ∷ []

    own : LeadTo f written Start at.numbers at.place × AreAlike f s at.place at.place
    own = h.so_far.leads at (get_contains tried next at h.is_next)

    derivable : AreAlike f s d d
    derivable = stays_derivable f written params protocols list at.place (suc count) d own.1 goes

    spot_of : (e : TermSpot) → Contains more e → Contains tried e ⊎ (e ≡ spot)
    spot_of e of = elim (Contains-append_cases tried (spot ∷ []) e of) [ inl k ↦ inl k | inr k ↦ inr (only_member spot e k) ]

    known : IsSettled f params written sought more (at.numbers ++ suc count ∷ []) d
    known = inl (spot, Contains-append_right tried (spot ∷ []) spot (0, omega arith, refl), derivable, inl refl)

    old_place : (i : ℕ) (a : TermSpot) → i < next → slice_get more i ≡ Some a → slice_get tried i ≡ Some a
    old_place i a less x =
        let within = slice_get_within tried next at h.is_next in
        elim (get_cases tried spot i a x) [ inl k ↦ k | inr k ↦ let e = k.0 in absurd (omega arith) ]

    ordered_now : (i j : ℕ) (a b : TermSpot) → i < j → slice_get more i ≡ Some a → slice_get more j ≡ Some b
        → ComesBefore a.numbers b.numbers
    ordered_now i j a b less x y = elim (get_cases tried spot j b y) [
      | inl old ↦
          let w = slice_get_within tried j b old in
          elim (get_cases tried spot i a x) [
            | inl k ↦ h.so_far.ordered i j a b less k old
            | inr k ↦ let e = k.0 in absurd (omega arith)
          ]
      | inr new ↦ elim (get_cases tried spot i a x) [
        | inl k ↦ subst (λ (z : TermSpot). ComesBefore a.numbers z.numbers) (sym new.1)
            (h.before a (suc count) (omega arith) (get_contains tried i a k))
        | inr k ↦ let e = k.0 in let g = new.0 in absurd (omega arith)
      ]
    ]

    pub adds : AreTriedUpTo f params written sought
        (tried ++ (record { numbers = at.numbers ++ suc count ∷ []; place = d }) ∷ []) next at (suc count)
    adds = record {
      so_far = record {
        begins = Contains-append_left tried (spot ∷ []) start h.so_far.begins;
        leads = λ e of. elim (spot_of e of) [
          | inl k ↦ h.so_far.leads e k
          | inr k ↦
              subst (λ (z : TermSpot). LeadTo f written Start z.numbers z.place × AreAlike f s z.place z.place) (sym k)
              (lead_further f written Start at.place d at.numbers (suc count) own.0 goes, derivable)
        ];
        unlike = λ e of like. elim (spot_of e of) [
          | inl k ↦ h.so_far.unlike e k like
          | inr k ↦ other (subst (λ (z : TermSpot). AreAlike f s z.place sought) k like)
        ];
        ordered = ordered_now;
        settled =
            λ i a less x n r to. settled_more tried spot (a.numbers ++ n ∷ []) r (h.so_far.settled i a less (old_place i a less x) n r to);
      };
      is_next = get_left tried (spot ∷ []) next at h.is_next;
      settled =
          settled_now at count d goes more (λ n r few to. settled_more tried spot (at.numbers ++ n ∷ []) r (h.settled n r few to)) known;
      unlike = unlike_now at count d goes h.unlike other;
      before = λ e n above of. elim (spot_of e of) [
        | inl k ↦ h.before e n (omega arith) k
        | inr k ↦
            subst (λ (z : TermSpot). ComesBefore z.numbers (at.numbers ++ n ∷ [])) (sym k) (before_by_last at.numbers (suc count) n above)
      ];
    }

  -- ---- the next one is done

  pub done : (tried : List TermSpot) (next : ℕ) (at : TermSpot) (count : ℕ) → AreTriedUpTo f params written sought tried next at count
      → ((n : ℕ) (d : TermPlace) → GoesTo f written at.place n d → n ≤ count) → AreReady f params written sought tried (next + 1)
  done tried next at count h all = record {
    so_far = record {
      begins = h.so_far.begins;
      leads = h.so_far.leads;
      unlike = h.so_far.unlike;
      ordered = h.so_far.ordered;
      settled = λ i a less x n d to. elim (cases_lt i next) [
        | inl early ↦ h.so_far.settled i a early x n d to
        | inr late ↦
            let e : i ≡ next = omega arith in
            let same : a ≡ at = one_there tried next a at (subst (λ z. slice_get tried z ≡ Some a) e x) h.is_next in
            let to_now : GoesTo f written at.place n d = subst (λ (z : TermSpot). GoesTo f written z.place n d) same to in
            subst (λ (z : TermSpot). IsSettled f params written sought tried (z.numbers ++ n ∷ []) d) (sym same)
            (h.settled n d (all n d to_now) to_now)
      ];
    };
    before = λ i a e n later some x of.
        before_then e.numbers (at.numbers ++ suc count ∷ []) (a.numbers ++ n ∷ []) (h.before e (suc count) (omega arith) of)
        (before_longer at.numbers a.numbers [] (suc count) n (h.so_far.ordered next i at a (omega arith) h.is_next x));
  }

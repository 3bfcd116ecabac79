-- What the search for the given conformance path knows of the numbers that it has tried.
use Rattle.std.specs.Prelude.{◌≡◌, ℕ, ◌<◌, ◌≤◌, ◌⊎◌, List, [], ◌∷◌, ◌++◌, Some, Contains, slice_get}
use Rattle.swreq_machine.specs.swreq_param.declared.ids.ParamId.{ParamId}
use Rattle.swreq_machine.specs.swreq_derive.Derivation.{TermFacts, TermRequirement}
use Rattle.swreq_machine.specs.swreq_derive.Derivation.Source.{Written}
use Rattle.swreq_confpath.specs.Routes.{TermPlace, GoesTo, LeadTo, AreAlike, ComesBefore, IsNotAfter}
use Rattle.swreq_confpath.specs.Routes.TermPlace.{Start}

-- numbers that were tried, and where they lead
pub record TermSpot : Type 0 where
  pub numbers : List ℕ
  pub place : TermPlace

abbrev pub start : TermSpot
start = record { numbers = []; place = Start }

module _ (f : TermFacts) (params : List ParamId) (written : List TermRequirement) where
  -- Some numbers that were tried lead to a place like this one, and do not come after these.
  abbrev pub IsCovered : List TermSpot → List ℕ → TermPlace → Type 0
  IsCovered tried numbers d =
      (e : TermSpot) × Contains tried e × AreAlike f (Written params written) e.place d × IsNotAfter e.numbers numbers

  -- No numbers lead from the place on to one like the place that is sought, and it is not like that place itself.
  abbrev pub IsDeadEnd : TermPlace → TermPlace → Type 0
  IsDeadEnd sought d = (ns : List ℕ) (e : TermPlace) → LeadTo f written d ns e → AreAlike f (Written params written) e sought → ⊥

  -- Numbers that lead to this place need not be tried.
  abbrev pub IsSettled : TermPlace → List TermSpot → List ℕ → TermPlace → Type 0
  IsSettled sought tried numbers d = IsCovered tried numbers d ⊎ IsDeadEnd sought d

  -- All of these were tried, in their order, from none on, and no place among them is like the one that is sought. All that goes on from
  -- the first `next` ones is settled.
  pub record AreTried (sought : TermPlace) (tried : List TermSpot) (next : ℕ) : Type 0 where
    pub begins : Contains tried start
    pub leads : (e : TermSpot) → Contains tried e
        → LeadTo f written Start e.numbers e.place × AreAlike f (Written params written) e.place e.place
    pub unlike : (e : TermSpot) → Contains tried e → AreAlike f (Written params written) e.place sought → ⊥
    pub ordered : (i j : ℕ) (a b : TermSpot) → i < j → slice_get tried i ≡ Some a → slice_get tried j ≡ Some b
        → ComesBefore a.numbers b.numbers
    pub settled : (i : ℕ) (a : TermSpot) → i < next → slice_get tried i ≡ Some a → (n : ℕ) (d : TermPlace) → GoesTo f written a.place n d
        → IsSettled sought tried (a.numbers ++ n ∷ []) d

  -- And all of them come before what goes on from the next one.
  pub record AreReady (sought : TermPlace) (tried : List TermSpot) (next : ℕ) : Type 0 where
    pub so_far : AreTried sought tried next
    pub before : (i : ℕ) (a e : TermSpot) (n : ℕ) → next ≤ i → 0 < n → slice_get tried i ≡ Some a → Contains tried e
        → ComesBefore e.numbers (a.numbers ++ n ∷ [])

  -- What goes on from the next one, `at`, by the first `count` requirements, is settled, and none of it is sought. All that were tried
  -- come before what goes on by the later ones.
  pub record AreTriedUpTo (sought : TermPlace) (tried : List TermSpot) (next : ℕ) (at : TermSpot) (count : ℕ) : Type 0 where
    pub so_far : AreTried sought tried next
    pub is_next : slice_get tried next ≡ Some at
    pub settled : (n : ℕ) (d : TermPlace) → n ≤ count → GoesTo f written at.place n d → IsSettled sought tried (at.numbers ++ n ∷ []) d
    pub unlike : (n : ℕ) (d : TermPlace) → n ≤ count → GoesTo f written at.place n d → AreAlike f (Written params written) d sought → ⊥
    pub before : (e : TermSpot) (n : ℕ) → count < n → Contains tried e → ComesBefore e.numbers (at.numbers ++ n ∷ [])

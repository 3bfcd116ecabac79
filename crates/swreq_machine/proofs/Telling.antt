-- From what is shown of the words of type parameters to what is answered of them.
use Rattle.std.proofs.Common.{◌≡◌, ◌↔◌, inl, inr, subst, ℕ, Bool, IsTrue, List, Option, Some, None, MatchOption}
use Rattle.swreq_valid.specs.swreq_param.Terms.{Term}
use Rattle.swreq_valid.specs.swreq_derive.Derivation.{TermRequirement}
use Rattle.swreq_valid.specs.swreq_derive.Derivation.Source.{Written}
use Rattle.swreq_valid.specs.swreq_derive.Derivation.TermRequirement.{Equals}
use Rattle.swreq_valid.specs.swreq_derive.Derivation.TermStatement.{Requires}
use Rattle.swreq_valid.specs.swreq_derive.Facts.{generic_params}
use Rattle.swreq_valid.specs.swreq_symbols.Meaning.{facts_of}
use Rattle.swreq_valid.proofs.swreq_derive.Substitution.{valid_sides}
use Rattle.swreq_map.specs.Properties.{IsProperty}
use Rattle.swreq_map.specs.swreq_word.declared.symbols.Symbol.{Symbol}
use Rattle.swreq_valid.specs.swreq_world.Closed.{IsClosed}
use Rattle.swreq_valid.specs.swreq_world.Worlds.{TextWorld}
use Rattle.swreq_machine.specs.declared.having.Property.{Property}
use Rattle.swreq_machine.specs.declared.having.Property.TheVariants.{Protocol, Layout}
use Rattle.swreq_machine.specs.Asked.{IsBehind, IsDerivable, IsShownBy}
use Rattle.swreq_machine.specs.Having.{IsBelow, TellsIfEqual, TellsIfHas, has, symbol_of}
use Rattle.swreq_machine.specs.Machines.{IsMachineOf, MachineView}
use Rattle.swreq_machine.proofs.Answering.{conforms_answer, derivable_shown, layout_answer, shown_derivable}

pub is_property : (protocols : ℕ) (property : Property) → IsBelow protocols property → IsProperty protocols (symbol_of property)
is_property n (Protocol p) h = h
is_property n Layout h = tt

module _ (w : TextWorld) (closed : IsClosed w) (m : MachineView) (list : List TermRequirement) (is : IsMachineOf w list m) (t : Term) where
  has_answer : (property : Property) (b : Bool) → IsTrue b ↔ IsBehind w m t (symbol_of property)
      → IsTrue b ↔ IsDerivable w m list (Requires (has t property))
  has_answer (Protocol p) b d = conforms_answer w closed m list is t p b d
  has_answer Layout b d = layout_answer w closed m list is t b d

  pub tells_if_has : (property : Property) (x : Symbol) (r : Option Bool) → x ≡ symbol_of property
      → MatchOption r (IsShownBy w m t → ⊥) (λ b. IsShownBy w m t × (IsTrue b ↔ IsBehind w m t x))
      → TellsIfHas (IsDerivable w m list) t property r
  tells_if_has property x None e n = λ h. n (derivable_shown w closed m list is t h)
  tells_if_has property x (Some b) e h = (
    shown_derivable w closed m list is t h.0,
    has_answer property b (subst (λ z. IsTrue b ↔ IsBehind w m t z) e h.1),
  )

-- where a side is not valid, no equality is derivable
pub none_equal : (w : TextWorld) (m : MachineView) (list : List TermRequirement) (t u : Term) → TellsIfEqual (IsDerivable w m list) t u None
    → IsDerivable w m list (Requires (Equals t u)) → ⊥
none_equal w m list t u (inl n) e = n (valid_sides (facts_of w) (Written (generic_params m.params) list) (Equals t u) e).0
none_equal w m list t u (inr n) e = n (valid_sides (facts_of w) (Written (generic_params m.params) list) (Equals t u) e).1

-- The sides that the rules of the last round of a list show valid are the valid ones.
use Rattle.std.proofs.Common.{sym, subst, List, Contains}
use Rattle.swreq_valid.specs.swreq_param.Terms.{Term}
use Rattle.swreq_valid.specs.swreq_derive.Derivation.{Derivable, Source, TermRequirement}
use Rattle.swreq_valid.specs.swreq_derive.Derivation.Source.{Written}
use Rattle.swreq_valid.specs.swreq_derive.Derivation.TermStatement.{IsValid}
use Rattle.swreq_valid.specs.swreq_derive.Facts.{generic_params}
use Rattle.swreq_valid.specs.swreq_correspondence.Shown.{ShowsValid}
use Rattle.swreq_valid.specs.swreq_lowering.Requirements.{PlacedRequirement}
use Rattle.swreq_valid.specs.swreq_world.Closed.{IsClosed}
use Rattle.swreq_valid.specs.swreq_world.Worlds.{TextWorld}
use Rattle.swreq_valid.specs.swreq_symbols.Meaning.{facts_of, symbols_of}
use Rattle.swreq_valid.specs.swreq_symbols.Vanishing.{Links}
use Rattle.swreq_valid.proofs.swreq_symbols.Symbols.{symbols_law, text_law}
use Rattle.swreq_machine.specs.Machines.{IsMachineOf, MachineView}
use Rattle.swreq_valid.specs.Rounds.{last_rules}
use Rattle.swreq_valid.specs.Sides.{IsShownSide, IsValidSide, Side, sides}
use Rattle.swreq_valid.proofs.Deriving.{derivable_shown, shown_derivable}
use Rattle.swreq_valid.proofs.Valid.{list_source}

-- ---- a list

module _ (w : TextWorld) (closed : IsClosed w) (m : MachineView) (list : List TermRequirement) (is : IsMachineOf w list m) where
  abbrev L : Source
  L = Written (generic_params m.params) list

  pub list_derivable : (t : Term) → ShowsValid (symbols_of w.lexicon) (facts_of w) L (Links (last_rules m.rounds)) t
      → Derivable (facts_of w) L (IsValid t)
  list_derivable t h =
      shown_derivable (symbols_of w.lexicon) (facts_of w) (symbols_law w closed) (text_law w closed) (last_rules m.rounds)
      (generic_params m.params) list is.rules is.in_text t h

  pub list_shown : (t : Term) → Derivable (facts_of w) L (IsValid t)
      → ShowsValid (symbols_of w.lexicon) (facts_of w) L (Links (last_rules m.rounds)) t
  list_shown t e =
      derivable_shown (symbols_of w.lexicon) (facts_of w) (symbols_law w closed) (text_law w closed) (last_rules m.rounds)
      (generic_params m.params) list is.rules is.in_text t e

  module _ (rs : List PlacedRequirement) (s : Side) (c : Contains (sides L rs) s) where
    pub side_valid : IsShownSide (symbols_of w.lexicon) (facts_of w) (last_rules m.rounds) s → IsValidSide (facts_of w) s
    side_valid h =
        let e = list_source L rs s c in
        subst (λ z. Derivable (facts_of w) z (IsValid s.term)) (sym e)
        (list_derivable s.term (subst (λ z. ShowsValid (symbols_of w.lexicon) (facts_of w) z (Links (last_rules m.rounds)) s.term) e h))

    pub side_shown : IsValidSide (facts_of w) s → IsShownSide (symbols_of w.lexicon) (facts_of w) (last_rules m.rounds) s
    side_shown h =
        let e = list_source L rs s c in
        subst (λ z. ShowsValid (symbols_of w.lexicon) (facts_of w) z (Links (last_rules m.rounds)) s.term) (sym e)
        (list_shown s.term (subst (λ z. Derivable (facts_of w) z (IsValid s.term)) e h))

-- What is left of the candidates of a machine's list is its minimised list.
use Rattle.std.proofs.Common.{subst, List, Contains, Option}
use Rattle.swreq_machine.specs.swreq_param.declared.ids.ParamId.{ParamId}
use Rattle.swreq_machine.specs.swreq_param.Tables.{Extends}
use Rattle.swreq_machine.specs.swreq_param.Terms.{Term}
use Rattle.swreq_machine.specs.swreq_derive.Derivation.{TermFacts, TermRequirement}
use Rattle.swreq_machine.specs.swreq_derive.Derivation.Source.{Written}
use Rattle.swreq_machine.specs.swreq_derive.Equivalence.{AreEquivalent}
use Rattle.swreq_machine.specs.swreq_derive.Facts.{generic_params}
use Rattle.swreq_machine.specs.swreq_rule.declared.rules.Rule.{Rule}
use Rattle.swreq_candidates.specs.swreq_watch.declared.events.Event.{Event}
use Rattle.swreq_machine.specs.swreq_complete.Complete.{IsComplete}
use Rattle.swreq_machine.specs.swreq_complete.declared.limit.Failed.{Failed}
use Rattle.swreq_machine.specs.swreq_complete.declared.limit.Limits.{Limits}
use Rattle.swreq_candidates.specs.swreq_canonical.Canonical.{IsCanonical}
use Rattle.swreq_candidates.specs.swreq_canonical.CanonicalOrder.{IsStrictlySorted}
use Rattle.swreq_candidates.specs.swreq_canonical.Generators.{AreEnough}
use Rattle.swreq_candidates.specs.swreq_canonical.Minimised.{IsIndependent, IsMinimised}
use Rattle.swreq_candidates.proofs.swreq_canonical.Agreement.{minimised_canonical, minimised_independent, minimised_same, minimised_sorted}
use Rattle.swreq_candidates.proofs.swreq_canonical.Taking.{generator_list, generators_told}
use Rattle.swreq_candidates.specs.Candidates.{IsCandidateList}
use Rattle.swreq_candidates.specs.Completed.{IsCompleted}
use Rattle.swreq_candidates.proofs.Completions.{enough_here, reduced_here}
use Rattle.swreq_machine.specs.swreq_correspondence.Symbols.{Symbols}
use Rattle.swreq_machine.specs.swreq_symbols.Known.{IsTextOver}
use Rattle.swreq_machine.specs.swreq_symbols.Meaning.{facts_of, symbols_of}
use Rattle.swreq_machine.specs.swreq_world.ByTable.{world_by}
use Rattle.swreq_machine.specs.swreq_world.Worlds.{IdWorld, TextWorld}
use Rattle.swreq_machine.specs.swreq_valid.Protocols.{AreRulesOf}
use Rattle.swreq_machine.specs.Machines.{IsMachineOf, MachineView, list_of}
use Rattle.swreq_machine.specs.swreq_valid.Rounds.{last_rules}
use Rattle.swreq_minimal.specs.Passed.{IsPassed, IsPassedOf, AreMinimisedCandidates}
use Rattle.swreq_minimal.specs.Told.{TellsFailure, TellsParts}
use Rattle.swreq_minimal.proofs.Completing.{completed}
use Rattle.swreq_machine.proofs.swreq_symbols.Growing.{world_stays}
use Rattle.swreq_minimal.proofs.Telling.{failure_of, tells_of}

-- A machine of a list over a table that grew since, and the candidates that were read off it.
pub record IsReadOffMachine (old new : List Term) (w : IdWorld) (protocols : List Rule) (machine : MachineView)
    (list found : List TermRequirement) : Type 0 where
  pub text : IsTextOver old w
  pub more : Extends old new
  pub complete : IsComplete protocols
  pub rules : AreRulesOf (world_by old w) protocols
  pub complete_too : IsComplete (last_rules machine.rounds)
  pub is : IsMachineOf (world_by old w) list machine
  pub candidates : IsCompleted (symbols_of w.lexicon) (facts_of (world_by old w)) (generic_params machine.params) list
      → IsCandidateList (symbols_of w.lexicon) (facts_of (world_by old w)) (Written (generic_params machine.params) list) found

module _ (old new : List Term) (w : IdWorld) (protocols : List Rule) (machine : MachineView) (list found : List TermRequirement)
    (read : IsReadOffMachine old new w protocols machine list found) where
  abbrev m : Symbols
  m = symbols_of w.lexicon

  abbrev f : TermFacts
  f = facts_of (world_by old w)

  abbrev ps : List ParamId
  ps = generic_params machine.params

  ended : IsCompleted m f ps list
  ended = completed (world_by old w) read.text.closed protocols read.complete read.rules list machine read.complete_too read.is

  candidates : IsCandidateList m f (Written ps list) found
  candidates = read.candidates ended

  enough : AreEnough f ps list found
  enough = enough_here m f ps list ended found candidates

  module _ (out : List TermRequirement) (sifted : AreMinimisedCandidates (facts_of (world_by new w)) ps found out) where
    here : AreMinimisedCandidates f ps found out
    here =
        subst (λ (z : TextWorld). AreMinimisedCandidates (facts_of z) ps found out) (world_stays old new read.more w read.text.table) sifted

    pub is_minimised : IsMinimised f ps list out
    is_minimised = record {
      generators = here.generators;
      are_generators = generator_list f ps list found here.generators enough here.takes;
      leaves = here.leaves;
    }

    pub is_same : AreEquivalent f ps list out
    is_same =
        minimised_same f ps list out (reduced_here m f ps list ended) (generators_told f ps list found here.generators enough here.takes)
        is_minimised

    pub is_independent : IsIndependent f ps out
    is_independent = minimised_independent f ps list out is_minimised

    pub is_canonical : (r : TermRequirement) → Contains out r → IsCanonical f (Written ps list) r
    is_canonical = minimised_canonical f ps list out is_minimised

    pub is_sorted : IsStrictlySorted out
    is_sorted = minimised_sorted f ps list out is_minimised

  -- ---- what is told

  passed : (l : List TermRequirement) → IsPassed (facts_of (world_by new w)) ps found l → IsPassedOf m f ps list l
  passed l h =
      (found, candidates, subst (λ (z : TextWorld). IsPassed (facts_of z) ps found l) (world_stays old new read.more w read.text.table) h)

  module _ (limits : Limits) (a b : Option (List Event)) where
    pub tells : TellsParts limits (list_of (world_by new w) protocols machine.params) (IsPassed (facts_of (world_by new w)) ps found) a b
        → TellsParts limits (list_of (world_by old w) protocols machine.params) (IsPassedOf m f ps list) a b
    tells h =
        tells_of limits (list_of (world_by old w) protocols machine.params) (IsPassed (facts_of (world_by new w)) ps found)
        (IsPassedOf m f ps list) passed a b
        (subst (λ (z : TextWorld). TellsParts limits (list_of z protocols machine.params)
        (IsPassed (facts_of (world_by new w)) ps found) a b)
        (world_stays old new read.more w read.text.table) h)

    pub fails : (failed : Failed) → TellsFailure limits (list_of (world_by new w) protocols machine.params)
        (IsPassed (facts_of (world_by new w)) ps found) a b failed
        → TellsFailure limits (list_of (world_by old w) protocols machine.params) (IsPassedOf m f ps list) a b failed
    fails failed h =
        failure_of limits (list_of (world_by old w) protocols machine.params) (IsPassed (facts_of (world_by new w)) ps found)
        (IsPassedOf m f ps list) passed a b failed
        (subst (λ (z : TextWorld). TellsFailure limits (list_of z protocols machine.params)
        (IsPassed (facts_of (world_by new w)) ps found) a b failed)
        (world_stays old new read.more w read.text.table) h)

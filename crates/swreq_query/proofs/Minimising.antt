-- What minimising a signature tells, by what minimising its machine's list tells.
use Rattle.std.proofs.Common.{◌≡◌, sym, subst, List, Option}
use Rattle.swreq_print.specs.swreq_derive.declared.known.Params.{Params}
use Rattle.swreq_print.specs.swreq_derive.Derivation.{TermRequirement}
use Rattle.swreq_print.specs.swreq_derive.Facts.{generic_params}
use Rattle.swreq_print.specs.swreq_rule.declared.rules.Rule.{Rule}
use Rattle.swreq_machine.specs.swreq_watch.declared.events.Event.{Event}
use Rattle.swreq_machine.specs.swreq_watch.Told.{GrewBy}
use Rattle.swreq_machine.specs.swreq_complete.declared.limit.Limits.{Limits}
use Rattle.swreq_machine.specs.swreq_complete.declared.limit.Failed.{Failed}
use Rattle.swreq_machine.specs.swreq_complete.declared.limit.Failed.TheVariants.{Memory}
use Rattle.swreq_print.specs.swreq_lowering.Requirements.{PlacedRequirement}
use Rattle.swreq_machine.specs.swreq_world.Worlds.{SignatureOver, TextWorld}
use Rattle.swreq_machine.specs.swreq_symbols.Meaning.{facts_of, symbols_of}
use Rattle.swreq_machine.specs.Machines.{list_of}
use Rattle.swreq_minimal.specs.Passed.{IsPassedOf}
use Rattle.swreq_minimal.specs.Told.{TellsFailure, TellsParts}
use Rattle.swreq_minimal.proofs.Telling.{wants_memory}
use Rattle.swreq_query.specs.Minimising.{MinimisingFails, MinimisingTells}
use Rattle.swreq_machine.specs.swreq_world.FactsAt.{written_list}

module _ (limits : Limits) (w : TextWorld) (rules : List Rule) (g : SignatureOver PlacedRequirement) (old new : Option (List Event)) where
  -- the lists that minimising may complete, with these generic parameters
  abbrev IsMetBy : Params → List TermRequirement → Type 0
  IsMetBy params = IsPassedOf (symbols_of w.lexicon) (facts_of w) (generic_params params) (written_list g)

  module _ (params : Params) (same : params ≡ g.params) where
    pub signature_tells : TellsParts limits (list_of w rules params) (IsMetBy params) old new
        → (told : List Event) × MinimisingTells limits w rules g told × GrewBy old new told
    signature_tells h = subst (λ (p : Params). TellsParts limits (list_of w rules p) (IsMetBy p) old new) same h

    pub signature_fails : (failed : Failed) → TellsFailure limits (list_of w rules params) (IsMetBy params) old new failed
        → (told : List Event) × MinimisingFails limits w rules g failed told × GrewBy old new told
    signature_fails failed h = subst (λ (p : Params). TellsFailure limits (list_of w rules p) (IsMetBy p) old new failed) same h

    pub signature_wants : (failed : Failed) → failed ≡ Memory → TellsParts limits (list_of w rules params) (IsMetBy params) old new
        → (told : List Event) × MinimisingFails limits w rules g failed told × GrewBy old new told
    signature_wants failed is h =
        signature_fails failed (subst (λ (z : Failed). TellsFailure limits (list_of w rules params) (IsMetBy params) old new z) (sym is)
        (wants_memory limits (list_of w rules params) (IsMetBy params) old new h))

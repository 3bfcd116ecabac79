-- What a watcher is told of minimising a signature.
use Rattle.std.specs.Prelude.{List, Option}
use Rattle.swreq_print.specs.swreq_derive.Derivation.{TermRequirement}
use Rattle.swreq_print.specs.swreq_derive.Facts.{generic_params}
use Rattle.swreq_print.specs.swreq_rule.declared.rules.Rule.{Rule}
use Rattle.swreq_machine.specs.swreq_watch.declared.events.Event.{Event}
use Rattle.swreq_machine.specs.swreq_watch.Told.{GrewBy}
use Rattle.swreq_machine.specs.swreq_complete.declared.limit.Limits.{Limits}
use Rattle.swreq_machine.specs.swreq_complete.declared.limit.Failed.{Failed}
use Rattle.swreq_print.specs.swreq_lowering.declared.ids.FuncId.{FuncId}
use Rattle.swreq_print.specs.swreq_lowering.Requirements.{PlacedRequirement}
use Rattle.swreq_machine.specs.swreq_world.Worlds.{SignatureOver, TextWorld, signature_at}
use Rattle.swreq_machine.specs.swreq_symbols.Meaning.{facts_of, symbols_of}
use Rattle.swreq_machine.specs.Machines.{list_of}
use Rattle.swreq_minimal.specs.Passed.{IsPassedOf}
use Rattle.swreq_minimal.specs.Told.{AreParts, FailsBy}
use Rattle.swreq_machine.specs.swreq_world.FactsAt.{written_list}

-- a list that minimising the signature may complete
abbrev pub IsMet : TextWorld → SignatureOver PlacedRequirement → List TermRequirement → Type 0
IsMet w g = IsPassedOf (symbols_of w.lexicon) (facts_of w) (generic_params g.params) (written_list g)

module _ (limits : Limits) (w : TextWorld) (rules : List Rule) where
  -- Over these rules of the protocols minimising the signature tells this: parts, each what the rounds of one such list tell.
  abbrev pub MinimisingTells : SignatureOver PlacedRequirement → List Event → Type 0
  MinimisingTells g told = AreParts limits (list_of w rules g.params) (IsMet w g) told

  -- Minimising the signature fails in this way, and tells this: by a limit that the rounds of one such list pass, with its trace, or
  -- because memory runs out.
  abbrev pub MinimisingFails : SignatureOver PlacedRequirement → Failed → List Event → Type 0
  MinimisingFails g failed told = FailsBy limits (list_of w rules g.params) (IsMet w g) failed told

  -- A watcher that had been told `old` has been told `new`: what minimising the signature tells has been added.
  abbrev pub TellsMinimised : FuncId → Option (List Event) → Option (List Event) → Type 0
  TellsMinimised f old new = (told : List Event) × MinimisingTells (signature_at w f) told × GrewBy old new told

  abbrev pub FailsMinimised : FuncId → Option (List Event) → Option (List Event) → Failed → Type 0
  FailsMinimised f old new failed = (told : List Event) × MinimisingFails (signature_at w f) failed told × GrewBy old new told

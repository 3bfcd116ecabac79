-- What a watcher is told of the check of a text, and of minimising after it.
use Rattle.std.specs.Prelude.{◌≡◌, ◌⊎◌, List, [], ◌∷◌, ◌++◌, Contains, Ok, Option}
use Rattle.swreq_machine.specs.swreq_rule.declared.rules.Rule.{Rule}
use Rattle.swreq_machine.specs.swreq_rounds.Rounds.{ComesTo}
use Rattle.swreq_machine.specs.swreq_complete.declared.limit.Failed.{Failed}
use Rattle.swreq_machine.specs.swreq_complete.declared.limit.Failed.TheVariants.{Limit, Memory}
use Rattle.swreq_machine.specs.swreq_complete.declared.limit.Limits.{Limits}
use Rattle.swreq_machine.specs.swreq_watch.declared.events.Event.{Event}
use Rattle.swreq_machine.specs.swreq_watch.Told.{GrewBy}
use Rattle.swreq_check.specs.declared.content.Content.{Content}
use Rattle.swreq_check.specs.declared.content.Made.{Made}
use Rattle.swreq_check.specs.declared.content.Made.TheVariants.{Lines, Lists, Nothing, Systems}
use Rattle.swreq_check.specs.Contents.{makes}
use Rattle.swreq_machine.specs.swreq_lowering.Queries.{TermQuery}
use Rattle.swreq_machine.specs.swreq_lowering.Queries.TermAsks.{AsksSignature}
use Rattle.swreq_machine.specs.swreq_lowering.Requirements.{PlacedRequirement}
use Rattle.swreq_machine.specs.swreq_world.Worlds.{SignatureOver, TextWorld, signature_at}
use Rattle.swreq_machine.specs.swreq_valid.Protocols.{protocols_of}
use Rattle.swreq_machine.specs.OfSignatures.{signature_plan}
use Rattle.swreq_query.specs.Minimising.{MinimisingFails, MinimisingTells}
use Rattle.swreq_check.specs.Machines.{ProtocolsCome, SignatureComes}

-- A watcher that had been told `old` has been told `new`: such events have been added.
abbrev pub Tells : (List Event → Type 0) → Option (List Event) → Option (List Event) → Type 0
Tells Are old new = (told : List Event) × Are told × GrewBy old new told

-- The minimised list of the signature is made: where lines of queries are made, if a query asks for it; where lists are made, of each; and
-- otherwise of none.
abbrev pub IsListMade : Made → TextWorld → SignatureOver PlacedRequirement → Type 0
IsListMade Lines w g = (q : TermQuery) × Contains w.queries q × (q.asks ≡ AsksSignature) × (g ≡ signature_at w q.f)
IsListMade Lists w g = Contains w.signatures g
IsListMade Systems w g = ⊥
IsListMade Nothing w g = ⊥

-- The minimised list of the signature is wanted for this content.
abbrev pub IsMinimisedFor : Content → TextWorld → SignatureOver PlacedRequirement → Type 0
IsMinimisedFor c = IsListMade (makes c)

module _ (limits : Limits) (w : TextWorld) where
  -- ---- minimising

  module _ (wants : Content) (rules : List Rule) where
    -- Of one signature minimising tells this where the command asks for it, and otherwise nothing.
    abbrev pub TellsOne : SignatureOver PlacedRequirement → List Event → Type 0
    TellsOne g told = (told ≡ []) ⊎ (IsMinimisedFor wants w g × MinimisingTells limits w rules g told)

    -- Minimising fails in this way at a signature for which the command asks.
    abbrev pub FailsAt : SignatureOver PlacedRequirement → Failed → List Event → Type 0
    FailsAt g failed told = IsMinimisedFor wants w g × MinimisingFails limits w rules g failed told

    -- Over these rules of the protocols minimising tells this: parts, one after the other, each of a signature that the command asks for.
    pub data MinimisingAllTells : List Event → Type 0 where
      nothing : MinimisingAllTells []
      one_more : {before part told : List Event} (g : SignatureOver PlacedRequirement) → MinimisingAllTells before
          → IsMinimisedFor wants w g
          → MinimisingTells limits w rules g part → told ≡ before ++ part → MinimisingAllTells told

    -- Minimising fails in this way at a signature, after such parts of those before it.
    pub record MinimisingAllFails (failed : Failed) (told : List Event) : Type 0 where
      pub before : List Event
      pub last : List Event
      pub g : SignatureOver PlacedRequirement
      pub parts : MinimisingAllTells before
      pub asked : IsMinimisedFor wants w g
      pub fails : MinimisingFails limits w rules g failed last
      pub told_is : told ≡ before ++ last

    -- Minimising fails by a limit at a signature, or because memory runs out at one or after such parts.
    abbrev pub MinimisingEndsIn : Failed → List Event → Type 0
    MinimisingEndsIn (Limit which trace) told = MinimisingAllFails (Limit which trace) told
    MinimisingEndsIn Memory told = MinimisingAllTells told ⊎ MinimisingAllFails Memory told

  -- ---- where memory runs out

  -- What the checks of these signatures may have told when memory runs out.
  pub data SignaturesTell (rules : List Rule) : List (SignatureOver PlacedRequirement) → List Event → Type 0 where
    nothing_yet : {gs : List (SignatureOver PlacedRequirement)} → SignaturesTell rules gs []
    in_first : {g : SignatureOver PlacedRequirement} {gs : List (SignatureOver PlacedRequirement)} {told : List Event}
        → ComesTo limits (signature_plan w rules g) told → SignaturesTell rules (g ∷ gs) told
    past_first : {g : SignatureOver PlacedRequirement} {gs : List (SignatureOver PlacedRequirement)} {first more told : List Event}
        (own : List Rule) → SignatureComes limits w rules g (Ok own) first → SignaturesTell rules gs more → told ≡ first ++ more
        → SignaturesTell rules (g ∷ gs) told

  -- What the check may have told when memory runs out.
  pub data CheckTells : List Event → Type 0 where
    in_protocols : {told : List Event} → ComesTo limits (protocols_of w) told → CheckTells told
    past_protocols : {first more told : List Event} (rules : List Rule) → ProtocolsCome limits w (Ok rules) first
        → SignaturesTell rules w.signatures more → told ≡ first ++ more → CheckTells told

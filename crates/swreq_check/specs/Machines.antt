-- The machines of a text: the rules of its protocols, and those of the list of each signature, or why there are none.
use Rattle.std.specs.Prelude.{◌≡◌, ◌≢◌, List, [], ◌∷◌, ◌++◌, Option, Some, None, Result, Ok, Err}
use Rattle.swreq_machine.specs.swreq_rule.declared.rules.Rule.{Rule}
use Rattle.swreq_machine.specs.swreq_watch.declared.events.Event.{Event}
use Rattle.swreq_machine.specs.swreq_complete.declared.limit.Limits.{Limits}
use Rattle.swreq_machine.specs.swreq_lowering.Requirements.{PlacedRequirement}
use Rattle.swreq_machine.specs.swreq_world.Worlds.{SignatureOver, TextWorld}
use Rattle.swreq_machine.specs.swreq_symbols.Meaning.{facts_of}
use Rattle.swreq_machine.specs.swreq_valid.declared.refused.Refused.{Refused}
use Rattle.swreq_machine.specs.swreq_valid.declared.refused.Refused.TheVariants.{Memory}
use Rattle.swreq_machine.specs.swreq_valid.Built.{IsBuilt}
use Rattle.swreq_machine.specs.swreq_valid.Protocols.{protocols_of}
use Rattle.swreq_machine.specs.OfSignatures.{signature_plan, signature_sides}
use Rattle.swreq_machine.specs.swreq_valid.Sides.{protocol_sides}

module _ (limits : Limits) (w : TextWorld) where
  -- The rounds of the protocols come to rules that show each side of their requirements, or to a refusal, and tell these events.
  abbrev pub ProtocolsCome : (answer : Result (List Rule) Refused) → List Event → Type 0
  ProtocolsCome = IsBuilt limits (protocols_of w) (facts_of w) (protocol_sides w)

  -- The rounds of a signature, over the rules of the protocols, come to rules that show each of its sides, or to a refusal, and tell these
  -- events.
  abbrev pub SignatureComes : List Rule → SignatureOver PlacedRequirement → (answer : Result (List Rule) Refused) → List Event → Type 0
  SignatureComes rules g = IsBuilt limits (signature_plan w rules g) (facts_of w) (signature_sides g)

  -- The signatures, in order: all of them come to rules, or the first that does not is refused so. They tell the events of all up to it.
  pub data SignaturesCome (rules : List Rule) : List (SignatureOver PlacedRequirement) → Option Refused → List Event → Type 0 where
    all : SignaturesCome rules [] None []
    next : {g : SignatureOver PlacedRequirement} {gs : List (SignatureOver PlacedRequirement)} {refused : Option Refused}
        {first more told : List Event}
        (own : List Rule) → SignatureComes rules g (Ok own) first → SignaturesCome rules gs refused more → told ≡ first ++ more
        → SignaturesCome rules (g ∷ gs) refused told
    stopped : {g : SignatureOver PlacedRequirement} {gs : List (SignatureOver PlacedRequirement)} {told : List Event}
        (refused : Refused) → refused ≢ Memory → SignatureComes rules g (Err refused) told
        → SignaturesCome rules (g ∷ gs) (Some refused) told

  -- The text is checked: first its protocols, then its signatures in written order. It is refused so, or not, and these events are told.
  pub data IsChecked : Option Refused → List Event → Type 0 where
    protocols_refused : {told : List Event} (refused : Refused) → refused ≢ Memory → ProtocolsCome (Err refused) told
        → IsChecked (Some refused) told
    protocols_built : {refused : Option Refused} {first more told : List Event} (rules : List Rule) → ProtocolsCome (Ok rules) first
        → SignaturesCome rules w.signatures refused more → told ≡ first ++ more → IsChecked refused told

  -- The text is not refused: its protocols come to these rules, and each signature to rules over them. These events are told.
  pub record IsBuiltOver (rules : List Rule) (told : List Event) : Type 0 where
    pub first : List Event
    pub more : List Event
    pub protocols : ProtocolsCome (Ok rules) first
    pub signatures : SignaturesCome rules w.signatures None more
    pub told_is : told ≡ first ++ more

-- Texts that are answered, said without their refusals.
use Rattle.std.specs.Prelude.{◌≡◌, List, Contains, Ok, Err, length, map}
use Rattle.swreq_print.specs.swreq_rule.declared.rules.Rule.{Rule}
use Rattle.swreq_watch.specs.declared.events.Event.{Event}
use Rattle.swreq_reply.specs.swreq_complete.declared.limit.Failed.TheVariants.{Limit}
use Rattle.swreq_reply.specs.swreq_complete.declared.limit.Which.{Which}
use Rattle.swreq_world.specs.swreq_derive.WellFormed.{IsWellFormed}
use Rattle.swreq_reply.specs.swreq_rounds.Rounds.{IsOutcome}
use Rattle.swreq_world.specs.swreq_lowering.Requirements.{PlacedRequirement}
use Rattle.swreq_world.specs.FactsAt.{source_of}
use Rattle.swreq_world.specs.Worlds.{SignatureOver, TextWorld}
use Rattle.swreq_reply.specs.swreq_symbols.Meaning.{facts_of}
use Rattle.swreq_reply.specs.swreq_valid.Protocols.{protocols_of}
use Rattle.swreq_reply.specs.swreq_machine.OfSignatures.{signature_plan}
use Rattle.swreq_text.specs.Lines.{lines}
use Rattle.swreq_reply.specs.swreq_query.Minimising.{MinimisingFails}
use Rattle.swreq_reply.specs.swreq_reqsig.Told.{IsFamilyOutcome}
use Rattle.swreq_reply.specs.swreq_verify.SecondParts.{AreSections, TermSection}
use Rattle.swreq_words.specs.declared.command.CommandLine.{CommandLine}
use Rattle.swreq_reply.specs.swreq_check.declared.content.Content.{Content}
use Rattle.swreq_reply.specs.Outputs.{HasCalls}
use Rattle.swreq_reply.specs.swreq_check.Contents.{AreCalls, AreFamilies, AreJudgements}
use Rattle.swreq_reply.specs.Commands.{content_of}
use Rattle.swreq_reply.specs.Inputs.{Parts}
use Rattle.swreq_reply.specs.swreq_check.Told.{IsMinimisedFor}
use Rattle.swreq_reply.specs.Verdict.{ChecksMachines, limits_of}

module _ (line : CommandLine) (w : TextWorld) where
  -- Rounds that are run for the command stop at a limit, with a trace.
  pub data PassesALimit (which : Which) (trace : List Rule) (told : List Event) : Type 0 where
    -- those of the protocols
    of_protocols : IsOutcome (limits_of line) (protocols_of w) (Err (Limit which trace)) told → PassesALimit which trace told
    -- those of the list of a signature, over the rules of the protocols
    of_signature : (rules : List Rule) (first : List Event) → IsOutcome (limits_of line) (protocols_of w) (Ok rules) first
        → (g : SignatureOver PlacedRequirement) → Contains w.signatures g
        → IsOutcome (limits_of line) (signature_plan w rules g) (Err (Limit which trace)) told → PassesALimit which trace told
    -- those of a list that is met in minimising a signature whose minimised list is printed, over the rules of the protocols
    of_minimising : (rules : List Rule) (first : List Event) → IsOutcome (limits_of line) (protocols_of w) (Ok rules) first
        → (g : SignatureOver PlacedRequirement) → IsMinimisedFor (content_of line) w g
        → MinimisingFails (limits_of line) w rules g (Limit which trace) told → PassesALimit which trace told
    -- those that are run for the requirements of the protocols, where requirement signatures are printed
    of_families : AreFamilies (content_of line) → IsFamilyOutcome (limits_of line) w (Err (Limit which trace)) told
        → PassesALimit which trace told

-- The second part is one for the command: of `verify` as many sections as there are queries, and of `calls` calls of which no name is
-- refused.
pub record IsSecondFor (c : Content) (w : TextWorld) (p : Parts) : Type 0 where
  pub sections : AreJudgements c → (ss : List TermSection) × AreSections w.lexicon (length w.queries) (lines p.second) ss
  pub calls : AreCalls c → HasCalls w p

-- The world of a source text is in order for the command: where the command checks machines, each side of each requirement is a type
-- parameter, and no rounds that are run for it stop at a limit; and the second part is one for the command.
pub record IsInOrder (line : CommandLine) (p : Parts) (w : TextWorld) : Type 0 where
  pub formed : ChecksMachines line → IsWellFormed (facts_of w) (map source_of w.signatures)
  pub within : ChecksMachines line → (which : Which) (trace : List Rule) (told : List Event)
      → PassesALimit line w which trace told → ⊥
  pub second : IsSecondFor (content_of line) w p

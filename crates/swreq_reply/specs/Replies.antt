-- What a reply is.
use Rattle.std.specs.Prelude.{◌≡◌, ◌⊎◌, List, [], ◌++◌, Option, Result, Ok, Err}
use Rattle.std.specs.declared.alloc.AllocError.{AllocError}
use Rattle.swreq_valid.specs.swreq_watch.declared.events.Event.{Event}
use Rattle.swreq_valid.specs.swreq_watch.Told.{GrewBy}
use Rattle.swreq_print.specs.Names.{Text}
use Rattle.swreq_print.specs.swreq_rule.declared.rules.Rule.{Rule}
use Rattle.swreq_words.specs.declared.command.CommandLine.{CommandLine}
use Rattle.swreq_valid.specs.swreq_world.Worlds.{TextWorld}
use Rattle.swreq_reply.specs.declared.outcome.Outcome.{Outcome}
use Rattle.swreq_check.specs.Contents.{AreFamilies}
use Rattle.swreq_reply.specs.Commands.{content_of}
use Rattle.swreq_check.specs.Machines.{IsBuiltOver}
use Rattle.swreq_check.specs.Told.{CheckTells}
use Rattle.swreq_valid.specs.Rounds.{last_rules}
use Rattle.swreq_reply.specs.Stages.{AcceptedView, world_in}
use Rattle.swreq_reply.specs.Told.{FamiliesPartTell, MinimisingPartTells}
use Rattle.swreq_reply.specs.Verdict.{ChecksMachines, HasWorld, IsRefused, IsVerdict, limits_of}

-- What an input may have told when memory runs out: nothing, or, of a command that checks machines, a part of what the check of its text
-- tells, or that and a part of what is told after it.
abbrev pub TellsPart : CommandLine → Text → List Event → Type 0
TellsPart line input told = (told ≡ []) ⊎ (ChecksMachines line × ((w : TextWorld) × HasWorld line input w
    × (CheckTells (limits_of line) w told ⊎ (MinimisingPartTells (limits_of line) w (content_of line) told
    ⊎ (AreFamilies (content_of line) × FamiliesPartTell (limits_of line) w told)))))

-- The watcher was told what an input may have told when memory runs out.
abbrev pub WasToldPart : CommandLine → Text → Option (List Event) → Option (List Event) → Type 0
WasToldPart line input old new = (told : List Event) × TellsPart line input told × GrewBy old new told

-- The outcome is a verdict on the input with which nothing is told.
abbrev pub IsVerdictAlone : CommandLine → Text → Outcome → Type 0
IsVerdictAlone line input o = IsVerdict line input o []

-- The outcome is a verdict on the input, and the watcher was told what is told with it.
abbrev pub IsToldVerdict : CommandLine → Text → Option (List Event) → Option (List Event) → Outcome → Type 0
IsToldVerdict line input old new o = (told : List Event) × IsVerdict line input o told × GrewBy old new told

-- If the input is refused, this is the outcome of the refusal.
abbrev pub IsOnlyRefusal : CommandLine → Text → Outcome → Type 0
IsOnlyRefusal line input o = (p : Outcome) (told : List Event) → IsRefused line input p told → o ≡ p

-- A verdict, with what is told with it; if memory runs out, a part of that.
abbrev pub Replies : CommandLine → Text → Option (List Event) → Option (List Event) → Result Outcome AllocError → Type 0
Replies line input old new (Ok o) = IsToldVerdict line input old new o
Replies line input old new (Err e) = WasToldPart line input old new

-- After a check of this world that came to these rules of the protocols: a verdict; if memory runs out, a part of what is told.
abbrev pub Finishes : CommandLine → Text → TextWorld → List Rule → Option (List Event) → Option (List Event)
    → Result Outcome AllocError → Type 0
Finishes line input w rules old new (Ok o) =
    (more : List Event)
    × ((first : List Event) → IsBuiltOver (limits_of line) w rules first → IsVerdict line input o (first ++ more)) × GrewBy old new more
Finishes line input w rules old new (Err e) =
    (more : List Event) × ((first : List Event) → IsBuiltOver (limits_of line) w rules first → TellsPart line input (first ++ more))
    × GrewBy old new more

-- After the check of this request.
abbrev pub FinishesAfter : AcceptedView → Option (List Event) → Option (List Event) → Result Outcome AllocError → Type 0
FinishesAfter a =
    Finishes a.resolved.request.line a.resolved.request.parts.input (world_in a.resolved) (last_rules a.checked.protocols.rounds)

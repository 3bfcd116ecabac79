-- What the steps of a run come to, before anything is written and after it.
use Rattle.std.specs.Prelude.{◌≡◌, ◌⊎◌, ℕ, List, [], Option, IfSome, Result, Ok, Err}
use Rattle.std.specs.Io.KnownBytes.{Appends}
use Rattle.swreq_text.specs.Faults.{HasRisen}
use Rattle.swreq_text.specs.Given.{AppendsPart, GivesCount}
use Rattle.swreq_text.specs.declared.whole.ReadErr.{ReadErr}
use Rattle.swreq_text.specs.declared.whole.ReadErr.TheVariants.{TooLarge, Fault, Memory}
use Rattle.swreq_print.specs.Names.{Text}
use Rattle.swreq_watch.specs.declared.events.Event.{Event}
use Rattle.swreq_watch.specs.Told.{GrewBy}
use Rattle.swreq_words.specs.declared.command.CommandLine.{CommandLine}
use Rattle.swreq_reply.specs.declared.outcome.Outcome.{Outcome}
use Rattle.swreq_reply.specs.Replies.{IsOnlyRefusal, IsToldVerdict, WasToldPart}
use Rattle.swreq_top.specs.Run.{ReadsNothing, IsOfVerdict, LeavesSource, known_text}

-- Of a text that was read: a verdict, and what is told with it; or memory ran out, and a part of that was told.
abbrev pub AnswersText : CommandLine → Text → Option (List Event) → Option (List Event) → Result Outcome ReadErr → Type 0
AnswersText line text old new (Ok o) = IsToldVerdict line text old new o × IsOnlyRefusal line text o
AnswersText line text old new (Err TooLarge) = ⊥
AnswersText line text old new (Err Fault) = ⊥
AnswersText line text old new (Err Memory) = WasToldPart line text old new

-- Of a source: a verdict on its text, what is told with it, and what is left of the source; or a text that is too long, or a read that
-- failed, and then nothing is told; or memory ran out, and a part of what is told with a verdict was told.
abbrev pub Answers : CommandLine → (left rest : Option Text) → (old new : Option (List Event)) → Result Outcome ReadErr → Type 0
Answers line left rest old new (Ok o) =
    LeavesSource line.command left rest
    × IfSome (known_text line left) (λ text. IsToldVerdict line text old new o × IsOnlyRefusal line text o)
    × IsOfVerdict o.status
Answers line left rest old new (Err TooLarge) = GivesCount left rest 1048577 × (ReadsNothing line.command → ⊥) × GrewBy old new []
Answers line left rest old new (Err Fault) = (ReadsNothing line.command → ⊥) × GrewBy old new []
Answers line left rest old new (Err Memory) = IfSome (known_text line left) (λ text. WasToldPart line text old new)

-- Of the bytes all were taken, and the status is this; or a write failed, a part of them was taken, and the status is 5.
abbrev pub IsFinished : (taken new_taken : Option Text) → (faults new_faults : ℕ) → Text → (status result : ℕ) → Type 0
IsFinished taken new_taken faults new_faults bytes status result =
    ((result ≡ status) × Appends taken new_taken bytes × (new_faults ≡ faults))
    ⊎ ((result ≡ 5) × AppendsPart taken new_taken bytes × HasRisen faults new_faults)

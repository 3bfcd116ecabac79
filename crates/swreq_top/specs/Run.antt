-- A run as its caller sees it: its words, what its streams show before it and after it, and its status.
use Rattle.std.specs.Prelude.{◌≡◌, ◌⊎◌, ℕ, ◌<◌, ◌≤◌, List, [], length, Option, Some, IfSome}
use Rattle.std.specs.Io.KnownBytes.{Appends, IsAtEnd}
use Rattle.swreq_text.specs.Faults.{HasRisen}
use Rattle.swreq_text.specs.Given.{AppendsPart, GivesCount}
use Rattle.swreq_reply.specs.swreq_gen.Generated.{generated}
use Rattle.swreq_print.specs.Names.{Text}
use Rattle.swreq_print.specs.Refusals.{refusal_line}
use Rattle.swreq_print.specs.declared.refusal.RefusalKind.TheVariants as refusals
use Rattle.swreq_watch.specs.declared.events.Event.{Event}
use Rattle.swreq_watch.specs.Told.{GrewBy}
use Rattle.swreq_words.specs.Form.{Says}
use Rattle.swreq_words.specs.declared.command.Command.{Command}
use Rattle.swreq_words.specs.declared.command.CommandLine.{CommandLine}
use Rattle.swreq_words.specs.declared.command.Input.{Input}
use Rattle.swreq_words.specs.declared.command.Input.TheVariants.{Nothing}
use Rattle.swreq_words.specs.Commands.{input as reads}
use Rattle.swreq_reply.specs.declared.outcome.Outcome.{Outcome}
use Rattle.swreq_reply.specs.Replies.{IsOnlyRefusal, IsToldVerdict, WasToldPart}
use Rattle.swreq_reply.specs.Verdict.{IsCutShort, IsRefused}

-- What the source has left and how often it has failed, what the sink has taken and how often it has failed, and what the watcher was told.
pub record Streams : Type 0 where
  pub left : Option Text
  pub read_faults : ℕ
  pub taken : Option Text
  pub write_faults : ℕ
  pub told : Option (List Event)

-- The words of a run, its streams before it and after it, and the status with which it ends.
pub record Run : Type 0 where
  pub words : List Text
  pub before : Streams
  pub after : Streams
  pub status : ℕ

-- ---- words

-- The words say no command.
abbrev pub AreWrong : List Text → Type 0
AreWrong words = (line : CommandLine) → Says words line → ⊥

-- The command reads no source, as `gen`.
abbrev pub ReadsNothing : Command → Type 0
ReadsNothing c = reads c ≡ Nothing

-- The words say a command that reads no source.
abbrev pub ReadNothing : List Text → Type 0
ReadNothing words = (line : CommandLine) × Says words line × ReadsNothing line.command

-- ---- texts

-- The text that the command answers, where it is known: that of the source, and of `gen`, which reads nothing, the generated one whatever
-- the source has.
abbrev pub known_for : Input → ℕ → Option Text → Option Text
known_for Nothing n left = Some (generated n)
known_for _ n left = left

abbrev pub known_text : CommandLine → Option Text → Option Text
known_text line = known_for (reads line.command) line.count

-- What is left of the text that the source had, once it has a verdict: nothing, or of one that is too long all but the first 1,048,577
-- bytes, one more than the limit.
abbrev pub IsRead : Option Text → Option Text → Type 0
IsRead left rest =
    IfSome left (λ text. ((length text ≤ 1048576) × IsAtEnd rest) ⊎ ((1048576 < length text) × GivesCount left rest 1048577))

-- Of a command that reads a source that is left; one that reads nothing leaves the source unchanged.
abbrev pub Leaves : Input → Option Text → Option Text → Type 0
Leaves Nothing left rest = rest ≡ left
Leaves _ left rest = IsRead left rest

abbrev pub LeavesSource : Command → Option Text → Option Text → Type 0
LeavesSource c = Leaves (reads c)

-- ---- statuses

-- The status is that of a verdict: 0 where the text is answered, 1 where it is refused, 3 where a limit is passed.
abbrev pub IsOfVerdict : ℕ → Type 0
IsOfVerdict status = (status ≡ 0) ⊎ ((status ≡ 1) ⊎ (status ≡ 3))

module _ (r : Run) where
  -- No more bytes than this are gone from what the source had left.
  abbrev pub ReadsAtMost : ℕ → Type 0
  ReadsAtMost most = (n : ℕ) × (n ≤ most) × GivesCount r.before.left r.after.left n

  -- The watcher was told these events.
  abbrev pub Tells : List Event → Type 0
  Tells = GrewBy r.before.told r.after.told

  -- A read failed, or none did.
  abbrev pub ReadFailed : Type 0
  ReadFailed = HasRisen r.before.read_faults r.after.read_faults

  abbrev pub NoReadFailed : Type 0
  NoReadFailed = r.after.read_faults ≡ r.before.read_faults

  -- A write failed, or none did.
  abbrev pub WriteFailed : Type 0
  WriteFailed = HasRisen r.before.write_faults r.after.write_faults

  abbrev pub NoWriteFailed : Type 0
  NoWriteFailed = r.after.write_faults ≡ r.before.write_faults

  -- Where the text that the command answers is known, this is true of it.
  abbrev pub HoldsOfText : CommandLine → (Text → Type 0) → Type 0
  HoldsOfText line P = IfSome (known_text line r.before.left) P

  -- The text has a verdict with this outcome, and what is told with it was told. One that is refused has no other.
  pub record HasVerdict (line : CommandLine) (o : Outcome) : Type 0 where
    pub status : IsOfVerdict o.status
    pub source : LeavesSource line.command r.before.left r.after.left
    pub verdict : HoldsOfText line (λ text. IsToldVerdict line text r.before.told r.after.told o)
    pub refusal : HoldsOfText line (λ text. IsOnlyRefusal line text o)

  -- The watcher was told a part of what is told with a verdict, and nothing where the words are wrong.
  pub record HasToldPart : Type 0 where
    pub part : (line : CommandLine) → Says r.words line → HoldsOfText line (λ text. WasToldPart line text r.before.told r.after.told)
    pub untold : AreWrong r.words → Tells []

  -- What a run has to print, and with which status, by its cause.
  pub data HasToPrint : (status : ℕ) → Text → Type 0 where
    -- 0, 1, 3: the words say a command, and the text has a verdict.
    verdict : {status : ℕ} {bytes : Text} (line : CommandLine) → Says r.words line
        → HasVerdict line (record { status = status; output = bytes })
        → NoReadFailed → HasToPrint status bytes
    -- 2: the words are wrong. Nothing is told.
    wrong_words : AreWrong r.words → Tells [] → NoReadFailed → HasToPrint 2 (refusal_line refusals.Usage)
    -- 4: a read failed, of a command that reads a source. Nothing is told.
    read_fault : (line : CommandLine) → Says r.words line → (ReadsNothing line.command → ⊥) → Tells [] → ReadFailed
        → HasToPrint 4 (refusal_line refusals.ReadFault)
    -- 6: memory ran out.
    no_memory : HasToldPart → NoReadFailed → HasToPrint 6 (refusal_line refusals.OutOfMemory)

  -- How a run ends.
  pub data IsEnd : Type 0 where
    -- What it has to print was printed.
    printed : (bytes : Text) → HasToPrint r.status bytes → Appends r.before.taken r.after.taken bytes → NoWriteFailed → IsEnd
    -- A write failed, and a part of that was printed: the status is 5.
    cut_off : (status : ℕ) (bytes : Text) → HasToPrint status bytes → AppendsPart r.before.taken r.after.taken bytes → WriteFailed
        → r.status ≡ 5 → IsEnd

  -- The text is refused with this outcome.
  abbrev pub IsRefusedRun : Outcome → Type 0
  IsRefusedRun o = (line : CommandLine) × Says r.words line × ((text : Text) × (known_text line r.before.left ≡ Some text)
      × ((told : List Event) × IsRefused line text o told))

  -- The words say a command whose text nothing refuses, and minimising stops at no limit.
  abbrev pub IsAnswerable : Type 0
  IsAnswerable = (line : CommandLine) × Says r.words line × ((text : Text) × (known_text line r.before.left ≡ Some text)
      × ((o : Outcome) (told : List Event) → IsRefused line text o told ⊎ IsCutShort line text o told → ⊥))

  -- Neither stream failed.
  abbrev pub NothingFailed : Type 0
  NothingFailed = (ReadFailed → ⊥) × (WriteFailed → ⊥)

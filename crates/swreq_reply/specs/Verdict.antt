-- The verdicts on a text.
use Rattle.std.specs.Prelude.{◌≡◌, ◌≢◌, ℕ, ◌<◌, ◌≤◌, Bool, false, List, [], ◌++◌, Contains, length, Some, None, Err, if◌then◌else◌}
use Rattle.swreq_print.specs.swreq_lex.declared.refusal.LexErr.TheVariants as lexical
use Rattle.swreq_print.specs.swreq_lex.Refusals.{HasRefusal}
use Rattle.swreq_print.specs.swreq_decl.declared.skeleton.Skeleton.{Skeleton}
use Rattle.swreq_print.specs.swreq_decl.Skeletons.{StandsFor, RefusedFor}
use Rattle.swreq_print.specs.swreq_decl.declared.refusal.ParseErr.{ParseErr}
use Rattle.swreq_print.specs.swreq_decl.declared.refusal.ParseErr.TheVariants as grammar
use Rattle.swreq_print.specs.swreq_decl.declared.skeleton.CallDecl.{CallDecl}
use Rattle.swreq_print.specs.swreq_decl.Calls as calls
use Rattle.swreq_print.specs.swreq_decl.Calls.{IsReason}
use Rattle.swreq_subst.specs.Refusals.{RefusesCalls}
use Rattle.swreq_gen.specs.Generated.{generated}
use Rattle.swreq_valid.specs.swreq_resolve.declared.refusal.NameErr.{NameErr}
use Rattle.swreq_valid.specs.swreq_resolve.declared.refusal.NameErr.TheVariants as names
use Rattle.swreq_valid.specs.swreq_resolve.Resolving.{RefusesSkeleton}
use Rattle.swreq_print.specs.swreq_lexicon.Views.{LexiconView}
use Rattle.swreq_print.specs.swreq_rule.declared.rules.Rule.{Rule}
use Rattle.swreq_valid.specs.swreq_watch.declared.events.Event.{Event}
use Rattle.swreq_valid.specs.swreq_complete.declared.limit.Failed.{Failed}
use Rattle.swreq_valid.specs.swreq_complete.declared.limit.Failed.TheVariants as failed
use Rattle.swreq_valid.specs.swreq_complete.declared.limit.Limits.{Limits}
use Rattle.swreq_valid.specs.swreq_complete.declared.limit.Which.{Which}
use Rattle.swreq_words.specs.declared.command.CommandLine.{CommandLine}
use Rattle.swreq_valid.specs.swreq_world.Worlds.{TextWorld}
use Rattle.swreq_valid.specs.declared.refused.Refused.{Refused}
use Rattle.swreq_valid.specs.declared.refused.Refused.TheVariants.{Limit, NotATypeParameter, Memory}
use Rattle.swreq_print.specs.declared.refusal.RefusalKind.{RefusalKind}
use Rattle.swreq_print.specs.declared.refusal.RefusalKind.TheVariants as refusals
use Rattle.swreq_print.specs.Names.{Text}
use Rattle.swreq_print.specs.Refusals.{refusal_line}
use Rattle.swreq_print.specs.Rules.{trace_text}
use Rattle.swreq_reply.specs.declared.outcome.Outcome.{Outcome}
use Rattle.swreq_query.specs.Ended.{IsWorldOfText}
use Rattle.swreq_text.specs.Lines.{lines}
use Rattle.swreq_text.specs.Divided.{divider}
use Rattle.swreq_reqsig.specs.Told.{IsFamilyOutcome}
use Rattle.swreq_verify.specs.SecondParts.{IsFirstMisfit}
use Rattle.swreq_words.specs.declared.command.Input.{Input}
use Rattle.swreq_words.specs.declared.command.Input.TheVariants.{Nothing, TwoParts}
use Rattle.swreq_words.specs.Commands.{input as reads}
use Rattle.swreq_check.specs.Contents.{AreCalls, AreFamilies, AreJudgements}
use Rattle.swreq_reply.specs.Commands.{content_of}
use Rattle.swreq_reply.specs.Inputs.{AreParts, Parts, second_at}
use Rattle.swreq_check.specs.Machines as machines
use Rattle.swreq_check.specs.Machines.{IsBuiltOver}
use Rattle.swreq_reply.specs.Outputs.{IsOutput}
use Rattle.swreq_reply.specs.Reports.{limit_refusal, name_refusal, refusal_of}
use Rattle.swreq_check.specs.Told.{MinimisingAllFails}
use Rattle.swreq_reply.specs.Told.{TellsBehind}

-- the most rules of a completion, and the most symbols on a left side
abbrev pub limits_of : CommandLine → Limits
limits_of line = record { max_rules = line.max_rules; max_length = line.max_length; in_range = line.in_range }

-- The input that is answered: where a command reads nothing, as `gen`, the generated text of its number, and otherwise that of the source.
abbrev pub text_for : Input → ℕ → Text → Text
text_for Nothing n text = generated n
text_for _ n text = text

abbrev pub answered_text : CommandLine → Text → Text
answered_text line = text_for (reads line.command) line.count

-- ---- what is printed

-- the line of a refusal, with status 1
abbrev pub refused_with : RefusalKind → Outcome
refused_with refusal = record { status = 1; output = refusal_line refusal }

-- the line of a limit, and with `--trace` the lines of its trace, with status 3
abbrev pub stopped_with : CommandLine → LexiconView → Which → List Rule → Outcome
stopped_with line x which trace = record {
  status = 3;
  output = refusal_line (limit_refusal (limits_of line) which) ++ (if line.trace then trace_text x trace else []);
}

-- what the outcome is where machines are refused so
abbrev pub machine_outcome : CommandLine → LexiconView → Refused → Outcome
machine_outcome line x (Limit which trace) = stopped_with line x which trace
machine_outcome line x (NotATypeParameter at) = refused_with (refusals.NotATypeParameter at)
machine_outcome line x Memory = refused_with refusals.OutOfMemory

-- The outcome is that of a limit that minimising passed.
abbrev pub IsStopOf : CommandLine → LexiconView → Failed → Outcome → Type 0
IsStopOf line x (failed.Limit which trace) o = o ≡ stopped_with line x which trace
IsStopOf line x failed.Memory o = ⊥

-- ---- refusals

-- The text is not too long, a skeleton stands for it, and its names have this refusal.
abbrev pub RefusesNames : Text → NameErr → Type 0
RefusesNames text e = (length text ≤ 1048576) × ((skeleton : Skeleton) × StandsFor text skeleton × RefusesSkeleton text skeleton e)

-- The text has no world: it is not in the language, or its names do not resolve. At most one refusal is its.
abbrev pub HasNoWorld : Text → RefusalKind → Type 0
HasNoWorld text (refusals.NotUtf8 at) = (length text ≤ 1048576) × HasRefusal text (lexical.NotUtf8 at)
HasNoWorld text (refusals.BadCharacter at) = (length text ≤ 1048576) × HasRefusal text (lexical.BadCharacter at)
HasNoWorld text (refusals.OpenComment at) = (length text ≤ 1048576) × HasRefusal text (lexical.OpenComment at)
HasNoWorld text (refusals.Syntax at) = (length text ≤ 1048576) × RefusedFor text at None
HasNoWorld text (refusals.Unsupported at kind) = (length text ≤ 1048576) × RefusedFor text at (Some kind)
HasNoWorld text (refusals.Duplicate at) = RefusesNames text (names.Duplicate at)
HasNoWorld text (refusals.NotAProtocol at) = RefusesNames text (names.NotAProtocol at)
HasNoWorld text (refusals.ConcreteType at) = RefusesNames text (names.ConcreteType at)
HasNoWorld text (refusals.NoSuchMember at) = RefusesNames text (names.NoSuchMember at)
HasNoWorld text (refusals.UnknownSignature at) = RefusesNames text (names.UnknownSignature at)
HasNoWorld text (refusals.WrongArity at) = RefusesNames text (names.WrongArity at)
HasNoWorld text (refusals.Cycle at) = RefusesNames text (names.Cycle at)
HasNoWorld text _ = ⊥

-- The second part stands for no calls, or a name of its calls is refused. At most one refusal is its.
pub data RefusesSecond (w : TextWorld) (p : Parts) (refusal : RefusalKind) : Type 0 where
  no_calls : (e : ParseErr) → e ≢ grammar.Memory → IsReason p.input (second_at p) e → refusal ≡ refusal_of e → RefusesSecond w p refusal
  bad_name : (ds : List CallDecl) (e : NameErr) → calls.StandsFor p.input (second_at p) ds → RefusesCalls w p.input ds e
      → refusal ≡ name_refusal e → RefusesSecond w p refusal

-- The machines of the text are checked: its derivations are not judged by the checker of derivations alone.
abbrev pub ChecksMachines : CommandLine → Type 0
ChecksMachines line = AreJudgements (content_of line) → ⊥

module _ (line : CommandLine) (input : Text) where
  -- The input has a source text, of which this is a world.
  pub record HasWorld (w : TextWorld) : Type 0 where
    pub parts : Parts
    pub are : AreParts line.command input parts
    pub of_text : IsWorldOfText parts.source w

  -- The text has a world, of which the check refuses nothing and comes to rules of the protocols. Its events are told first, and then more.
  pub record PassesCheck (told : List Event) : Type 0 where
    pub checks : ChecksMachines line
    pub world : TextWorld
    pub has_world : HasWorld world
    pub rules : List Rule
    pub first : List Event
    pub more : List Event
    pub built : IsBuiltOver (limits_of line) world rules first
    pub told_is : told ≡ first ++ more

  -- The input is refused. It is looked at in this order: how long it is, its parts, its source text, the machines of the protocols and then
  -- of the signatures in written order, its second part. With it these events are told.
  pub data IsRefused (o : Outcome) (told : List Event) : Type 0 where
    -- The input is too long.
    too_long : 1048576 < length input → o ≡ refused_with refusals.TooLarge → told ≡ [] → IsRefused o told
    -- The command reads a second part, and it has none.
    in_one_part : length input ≤ 1048576 → reads line.command ≡ TwoParts → (Contains (lines input) divider → ⊥)
        → o ≡ refused_with refusals.MissingPart → told ≡ [] → IsRefused o told
    -- The source text has no world.
    without_world : (p : Parts) → AreParts line.command input p → (refusal : RefusalKind) → HasNoWorld p.source refusal
        → o ≡ refused_with refusal → told ≡ [] → IsRefused o told
    -- The check of its machines refuses it: a side of a requirement is no type parameter, or the rounds of the protocols or of a
    -- signature stop at a limit.
    unchecked : (w : TextWorld) (cause : Refused) → ChecksMachines line → HasWorld w
        → machines.IsChecked (limits_of line) w (Some cause) told → o ≡ machine_outcome line w.lexicon cause → IsRefused o told
    -- A line of the second part does not fit the queries.
    misfit : (w : TextWorld) (n : ℕ) → AreJudgements (content_of line) → (has : HasWorld w)
        → IsFirstMisfit w.lexicon (length w.queries) (lines has.parts.second) n → o ≡ refused_with (refusals.DerivationSyntax n) → told ≡ []
        → IsRefused o told
    -- The rounds that are run for a requirement of a protocol stop at a limit, going through the requirements of the protocols.
    past_a_limit_of_families : (which : Which) (trace : List Rule) (c : PassesCheck told) → AreFamilies (content_of line)
        → IsFamilyOutcome (limits_of line) c.world (Err (failed.Limit which trace)) c.more
        → o ≡ stopped_with line c.world.lexicon which trace
        → IsRefused o told
    -- The second part stands for no calls, or a name of its calls is refused. After the check nothing is told.
    bad_calls : (refusal : RefusalKind) (c : PassesCheck told) → AreCalls (content_of line)
        → RefusesSecond c.world c.has_world.parts refusal
        → c.more ≡ [] → o ≡ refused_with refusal → IsRefused o told

  module _ (guarded : Bool) where
    -- The text is answered, by the rules with the guard or without it: it passes the check, and the output is what the command prints.
    pub record IsAnswered (o : Outcome) (told : List Event) : Type 0 where
      pub check : PassesCheck told
      pub behind : TellsBehind (limits_of line) check.world (content_of line) check.rules check.more
      pub status : o.status ≡ 0
      pub output : IsOutput check.world guarded (content_of line) check.has_world.parts o.output

  -- The derivations in the second part are judged by the checker of derivations alone. Nothing is told.
  pub record IsJudged (o : Outcome) (told : List Event) : Type 0 where
    pub judges : AreJudgements (content_of line)
    pub world : TextWorld
    pub has_world : HasWorld world
    pub status : o.status ≡ 0
    pub output : IsOutput world false (content_of line) has_world.parts o.output
    pub told_nothing : told ≡ []

  -- The text passes the check, and in minimising for the command rounds stop at a limit.
  pub record IsCutShort (o : Outcome) (told : List Event) : Type 0 where
    pub check : PassesCheck told
    pub which : Which
    pub trace : List Rule
    pub fails : MinimisingAllFails (limits_of line) check.world (content_of line) check.rules (failed.Limit which trace) check.more
    pub outcome : o ≡ stopped_with line check.world.lexicon which trace

  -- A verdict, and what is told with it. The answers are by the book's rules, which have no guard.
  pub data IsVerdict (o : Outcome) (told : List Event) : Type 0 where
    refused : IsRefused o told → IsVerdict o told
    cut_short : IsCutShort o told → IsVerdict o told
    answered : IsAnswered false o told → IsVerdict o told
    judged : IsJudged o told → IsVerdict o told

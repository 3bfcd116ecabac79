-- Each text is read in one way and has one world, and so an input has one verdict where it is refused.
use Rattle.std.proofs.Common.{false, ◌≡◌, ◌≢◌, ◌⊎◌, ℕ, ◌<◌, ◌≤◌, List, ◌∷◌, length, Option, Some, None, Result, Ok, Err, Contains, refl, sym, ◌∙◌, ap, ap₂, inl, inr, subst, arith, length-append}
use Rattle.swreq_print.specs.swreq_lex.declared.refusal.LexErr.{LexErr}
use Rattle.swreq_print.specs.swreq_lex.declared.refusal.LexErr.TheVariants as lexical
use Rattle.swreq_print.specs.swreq_lex.declared.token.Token as lexed
use Rattle.swreq_print.specs.swreq_lex.Refusals.{HasRefusal}
use Rattle.swreq_print.specs.swreq_lex.Tokens.{HasTokens}
use Rattle.swreq_print.specs.swreq_decl.declared.kind.Kind.{Kind}
use Rattle.swreq_print.specs.swreq_decl.declared.skeleton.Skeleton.{Skeleton}
use Rattle.swreq_print.specs.swreq_decl.declared.refusal.ParseErr.{ParseErr}
use Rattle.swreq_print.specs.swreq_decl.declared.refusal.ParseErr.TheVariants as grammar
use Rattle.swreq_print.specs.swreq_decl.Skeletons.{StandsFor, RefusedFor, refused}
use Rattle.swreq_valid.specs.swreq_resolve.declared.refusal.NameErr.{NameErr}
use Rattle.swreq_valid.specs.swreq_resolve.declared.refusal.NameErr.TheVariants as names
use Rattle.swreq_valid.specs.swreq_resolve.Resolving.{RefusesSkeleton, Resolve}
use Rattle.swreq_valid.proofs.swreq_resolve.Answers.{not_refused, one_refusal as one_name}
use Rattle.swreq_print.specs.declared.refusal.RefusalKind.{RefusalKind}
use Rattle.swreq_print.specs.declared.refusal.RefusalKind.TheVariants as refusals
use Rattle.swreq_valid.specs.swreq_watch.declared.events.Event.{Event}
use Rattle.swreq_valid.specs.swreq_world.WorldOf.{IsWorldOf}
use Rattle.swreq_valid.specs.swreq_world.Worlds.{TextWorld}
use Rattle.swreq_valid.specs.declared.refused.Refused.{Refused}
use Rattle.swreq_words.specs.declared.command.Command.{Command}
use Rattle.swreq_words.specs.declared.command.CommandLine.{CommandLine}
use Rattle.swreq_words.specs.declared.command.Input.{Input}
use Rattle.swreq_words.specs.declared.command.Input.TheVariants as inputs
use Rattle.swreq_words.specs.Commands.{input as reads}
use Rattle.swreq_valid.specs.swreq_complete.declared.limit.Failed.{Failed}
use Rattle.swreq_valid.specs.swreq_complete.declared.limit.Failed.TheVariants as failed
use Rattle.swreq_text.specs.Lines.{line_feed, lines}
use Rattle.swreq_text.specs.Divided.{Divides, divider}
use Rattle.swreq_text.proofs.Divided.{has_divider as divided_line, same_parts as one_division}
use Rattle.swreq_reqsig.specs.declared.family.Family.{Family}
use Rattle.swreq_reqsig.specs.Families.{numbers}
use Rattle.swreq_reqsig.specs.Told.{IsFamilyOutcome}
use Rattle.swreq_reqsig.proofs.OneFamily.{family_outcomes_are_one}
use Rattle.swreq_verify.specs.SecondParts.{AreSections, IsFirstMisfit, TermSection}
use Rattle.swreq_check.specs.declared.content.Content.{Content}
use Rattle.swreq_check.specs.declared.content.Content.TheVariants.{Calls, Families, Judgements}
use Rattle.swreq_reply.specs.declared.outcome.Outcome.{Outcome}
use Rattle.swreq_reply.specs.Outputs.{ArePrinted, HasCalls}
use Rattle.swreq_reply.specs.Commands.{content_of}
use Rattle.swreq_reply.specs.Inputs.{AreParts, HasParts, Parts, second_at}
use Rattle.swreq_check.specs.Machines.{IsChecked}
use Rattle.swreq_reply.specs.Reports.{name_refusal, refusal_of}
use Rattle.swreq_check.specs.Told.{IsMinimisedFor}
use Rattle.swreq_reply.specs.Told.{TellsBehind}
use Rattle.swreq_reply.specs.Verdict.{ChecksMachines, HasNoWorld, HasWorld, IsAnswered, IsCutShort, IsJudged, IsRefused, IsVerdict, PassesCheck, RefusesNames, RefusesSecond, limits_of, machine_outcome, refused_with, stopped_with}
use Rattle.swreq_reply.specs.Verdict.IsRefused.{bad_calls, in_one_part, misfit, past_a_limit_of_families, too_long, unchecked, without_world}
use Rattle.swreq_reply.specs.Verdict.IsVerdict.{answered as is_answered, cut_short as is_cut_short, judged as is_judged, refused as is_refused}
use Rattle.swreq_reply.proofs.OfCalls.{IsOnePart, never_second, one_second}
use Rattle.swreq_check.proofs.OfChecks.{built_checked}
use Rattle.swreq_reply.proofs.Misfits.{no_sections, one_misfit}
use Rattle.swreq_check.proofs.OneCheck.{one_check}

-- what the crates below say of every text
pub record AreOne (text : List ℕ) : Type 0 where
  pub refusal : (d e : LexErr) → HasRefusal text d → HasRefusal text e → d ≡ e
  pub no_refusal : (ts : List lexed.Token) (e : LexErr) → HasTokens text ts → ¬ (HasRefusal text e)
  pub skeleton : (s t : Skeleton) → StandsFor text s → StandsFor text t → s ≡ t
  pub token : (at place : ℕ) (kind other : Option Kind) → RefusedFor text at kind → RefusedFor text place other
      → (at ≡ place) × (kind ≡ other)
  pub no_token : (s : Skeleton) (at : ℕ) (kind : Option Kind) → StandsFor text s → ¬ (RefusedFor text at kind)
  pub world : (s : Skeleton) (w v : TextWorld) → IsWorldOf text s w → IsWorldOf text s v → w ≡ v

-- ---- one reading

-- A text is read so: it has this lexical refusal, or a token of it is refused, or this skeleton stands for it.
data IsReadAs (text : List ℕ) : Result Skeleton ParseErr → Type 0 where
  lexical_refusal : (e : LexErr) → HasRefusal text e → IsReadAs text (Err (grammar.Lex e))
  refused_token : (at : ℕ) (kind : Option Kind) → RefusedFor text at kind → IsReadAs text (Err (refused at kind))
  whole : (s : Skeleton) → StandsFor text s → IsReadAs text (Ok s)

-- It is read in one way.
one_reading : {text : List ℕ} → AreOne text → {a b : Result Skeleton ParseErr} → IsReadAs text a → IsReadAs text b → a ≡ b
one_reading one (lexical_refusal d h) (lexical_refusal e k) = ap (λ (z : LexErr). Err (grammar.Lex z)) (one.refusal d e h k)
one_reading one (lexical_refusal d h) (refused_token at kind k) = absurd (one.no_refusal k.0 d k.1 h)
one_reading one (lexical_refusal d h) (whole s k) = absurd (one.no_refusal k.0 d k.1 h)
one_reading one (refused_token at kind h) (lexical_refusal e k) = absurd (one.no_refusal h.0 e h.1 k)
one_reading one (refused_token at kind h) (refused_token place other k) =
    let same = one.token at place kind other h k in ap₂ (λ (n : ℕ) (z : Option Kind). Err (refused n z)) same.0 same.1
one_reading one (refused_token at kind h) (whole s k) = absurd (one.no_token s at kind k h)
one_reading one (whole s h) (lexical_refusal e k) = absurd (one.no_refusal h.0 e h.1 k)
one_reading one (whole s h) (refused_token at kind k) = absurd (one.no_token s at kind h k)
one_reading one (whole s h) (whole t k) = ap Ok (one.skeleton s t h k)

-- ---- parts

-- an input has its parts in one way
pub one_split : (c : Command) (input : List ℕ) (p q : Parts) → AreParts c input p → AreParts c input q → p ≡ q
one_split c input p q a b = by (reads c) a.divided b.divided
  where
    whole_input : p.input ≡ q.input
    whole_input = a.whole ∙ sym b.whole

    same : p.source ≡ q.source → p.second ≡ q.second → p ≡ q
    same e f = λ i. record { input = whole_input i; source = e i; second = f i }

    by : (how : Input) → HasParts how p → HasParts how q → p ≡ q
    by inputs.TwoParts d e =
        let one =
        one_division q.input p.source p.second q.source q.second (subst (λ (z : List ℕ). Divides z p.source p.second) whole_input d) e in
        same one.0 one.1
    by _ (e, f) (g, h) = same (e ∙ whole_input ∙ sym g) (f ∙ sym h)

-- one that has two parts has a line that divides it
pub split_divided : (c : Command) (input : List ℕ) (p : Parts) → AreParts c input p → reads c ≡ inputs.TwoParts
    → Contains (lines input) divider
split_divided c input p a two =
    subst (λ (z : List ℕ). Contains (lines z) divider) a.whole
    (divided_line p.input p.source p.second (subst (λ (how : Input). HasParts how p) two a.divided))

-- the source text is short enough
pub source_within : {c : Command} {input : List ℕ} {p : Parts} → AreParts c input p → length p.source ≤ 1048576
source_within {c} {input} {p} are = by (reads c) are.divided
  where
    by : (how : Input) → HasParts how p → length p.source ≤ 1048576
    by inputs.TwoParts d = omega (arith, ap length (sym are.whole ∙ d.whole), length-append p.source d.behind, are.within)
    by _ (e, f) = omega (arith, ap length (e ∙ are.whole), are.within)

-- the second part is no longer than the input
pub second_within : {c : Command} {input : List ℕ} {p : Parts} → AreParts c input p → length p.second ≤ length p.input
second_within {c} {input} {p} are = by (reads c) are.divided
  where
    by : (how : Input) → HasParts how p → length p.second ≤ length p.input
    by inputs.TwoParts d = elim d.divided [
      | inl e ↦ omega (arith, ap length d.whole, length-append p.source d.behind, ap length e, length-append divider (line_feed ∷ p.second))
      | inr e ↦ omega (arith, ap length e.1)
    ]
    by _ (e, f) = omega (arith, ap length f)

-- ---- how an input ends: in a refusal with some outcome, or in none

-- It ends in the outcome of a thing that has the property, or this holds and it ends in none.
abbrev EndsBy : {X : Type 0} → (X → Type 0) → (X → Outcome) → Type 0 → Option Outcome → Type 0
EndsBy {X} Has outcome Passes end = ((x : X) × Has x × (end ≡ Some (outcome x))) ⊎ (Passes × (end ≡ None))

one_of_two : {X : Type 0} (Has : X → Type 0) (outcome : X → Outcome) (Passes : Type 0) → ((x y : X) → Has x → Has y → x ≡ y)
    → ((x : X) → Has x → Passes → ⊥) → (a b : Option Outcome) → EndsBy Has outcome Passes a → EndsBy Has outcome Passes b → a ≡ b
one_of_two Has outcome Passes one never a b (inl (x, h, is)) (inl (y, k, same)) = is ∙ ap (λ z. Some (outcome z)) (one x y h k) ∙ sym same
one_of_two Has outcome Passes one never a b (inl (x, h, is)) (inr (k, same)) = absurd (never x h k)
one_of_two Has outcome Passes one never a b (inr (h, is)) (inl (y, k, same)) = absurd (never y k h)
one_of_two Has outcome Passes one never a b (inr (h, is)) (inr (k, same)) = is ∙ sym same

module _ (line : CommandLine) (p : Parts) where
  -- where a family passes a limit it ends in that
  abbrev family_end : TextWorld → Result Family Failed → Option Outcome
  family_end w (Err (failed.Limit which trace)) = Some (stopped_with line w.lexicon which trace)
  family_end w answer = None

  -- How the input ends after a check that refuses nothing: a family may pass a limit, and the second part may be refused.
  abbrev EndsBehind : TextWorld → Content → Option Outcome → Type 0
  EndsBehind w Families end = (answer : Result Family Failed) × (told : List Event) × IsFamilyOutcome (limits_of line) w answer told
      × (answer ≢ Err failed.Memory) × (end ≡ family_end w answer)
  EndsBehind w Calls end = EndsBy (RefusesSecond w p) refused_with (HasCalls w p) end
  EndsBehind w c end = end ≡ None

  -- How the input ends with a check that comes out so.
  abbrev EndsChecked : TextWorld → Content → Option Refused → Option Outcome → Type 0
  EndsChecked w c (Some r) end = end ≡ Some (machine_outcome line w.lexicon r)
  EndsChecked w c None end = EndsBehind w c end

  abbrev IsMisfit : TextWorld → ℕ → Type 0
  IsMisfit w = IsFirstMisfit w.lexicon (length w.queries) (lines p.second)

  abbrev Fits : TextWorld → Type 0
  Fits w = (ss : List TermSection) × AreSections w.lexicon (length w.queries) (lines p.second) ss

  -- How the input ends with this world: by its second part alone, or by a check.
  abbrev EndsIn : TextWorld → Content → Option Outcome → Type 0
  EndsIn w Judgements end = EndsBy (IsMisfit w) (λ n. refused_with (refusals.DerivationSyntax n)) (Fits w) end
  EndsIn w c end = (r : Option Refused) × (told : List Event) × IsChecked (limits_of line) w r told × EndsChecked w c r end

  -- How the input ends where its source is read in this way: unread, or by its names, or with its world.
  abbrev EndsRead : Result Skeleton ParseErr → Option Outcome → Type 0
  EndsRead (Err e) end = end ≡ Some (refused_with (refusal_of e))
  EndsRead (Ok s) end = ((e : NameErr) × RefusesSkeleton p.source s e × (end ≡ Some (refused_with (name_refusal e))))
      ⊎ (Resolve p.source s × ((w : TextWorld) × IsWorldOf p.source s w × EndsIn w (content_of line) end))

  -- How the input ends with these parts.
  abbrev EndsWith : Option Outcome → Type 0
  EndsWith end = (r : Result Skeleton ParseErr) × IsReadAs p.source r × EndsRead r end

  -- ---- a source text with no world

  unread : (e : ParseErr) → IsReadAs p.source (Err e) → EndsWith (Some (refused_with (refusal_of e)))
  unread e read = (Err e, read, refl)

  unnamed : (e : NameErr) → RefusesNames p.source e → EndsWith (Some (refused_with (name_refusal e)))
  unnamed e (short, (s, stands, refuses)) = (Ok s, whole s stands, inl (e, refuses, refl))

  worldless : (refusal : RefusalKind) → HasNoWorld p.source refusal → EndsWith (Some (refused_with refusal))
  worldless (refusals.NotUtf8 at) has = unread _ (lexical_refusal (lexical.NotUtf8 at) has.1)
  worldless (refusals.BadCharacter at) has = unread _ (lexical_refusal (lexical.BadCharacter at) has.1)
  worldless (refusals.OpenComment at) has = unread _ (lexical_refusal (lexical.OpenComment at) has.1)
  worldless (refusals.Syntax at) has = unread _ (refused_token at None has.1)
  worldless (refusals.Unsupported at kind) has = unread _ (refused_token at (Some kind) has.1)
  worldless (refusals.Duplicate at) has = unnamed (names.Duplicate at) has
  worldless (refusals.NotAProtocol at) has = unnamed (names.NotAProtocol at) has
  worldless (refusals.ConcreteType at) has = unnamed (names.ConcreteType at) has
  worldless (refusals.NoSuchMember at) has = unnamed (names.NoSuchMember at) has
  worldless (refusals.UnknownSignature at) has = unnamed (names.UnknownSignature at) has
  worldless (refusals.WrongArity at) has = unnamed (names.WrongArity at) has
  worldless (refusals.Cycle at) has = unnamed (names.Cycle at) has
  worldless _ has = absurd has

module _ (line : CommandLine) (input : List ℕ) where
  abbrev printed : Content
  printed = content_of line

  -- How an input ends: it is too long, or lacks its second part, or has parts and ends as they do.
  data Ends (end : Option Outcome) : Type 0 where
    long : 1048576 < length input → end ≡ Some (refused_with refusals.TooLarge) → Ends end
    undivided : length input ≤ 1048576 → reads line.command ≡ inputs.TwoParts → (Contains (lines input) divider → ⊥)
        → end ≡ Some (refused_with refusals.MissingPart) → Ends end
    divided : (p : Parts) → AreParts line.command input p → EndsWith line p end → Ends end

  -- ---- how each verdict ends

  of_world : {w : TextWorld} (has : HasWorld line input w) {end : Option Outcome} → EndsIn line has.parts w printed end → Ends end
  of_world {w} has h =
      let text = has.of_text in
      divided has.parts has.are (Ok text.skeleton, whole text.skeleton text.stands, inr (text.resolve, (w, text.world, h)))

  of_check : {w : TextWorld} (has : HasWorld line input w) {end : Option Outcome} → ChecksMachines line → (r : Option Refused)
      (told : List Event) → IsChecked (limits_of line) w r told → EndsChecked line has.parts w printed r end → Ends end
  of_check {w} has {end} checks r told checked h = of_world has (by printed checks h)
    where
      by : (c : Content) → c ≢ Judgements → EndsChecked line has.parts w c r end → EndsIn line has.parts w c end
      by Judgements real h = absurd (real refl)
      by c real h = (r, told, checked, h)

  behind : {told : List Event} (c : PassesCheck line input told) {end : Option Outcome}
      → EndsBehind line c.has_world.parts c.world printed end → Ends end
  behind c h = of_check c.has_world c.checks None c.first (built_checked (limits_of line) c.world c.rules c.first c.built) h

  refused_ends : {o : Outcome} {told : List Event} → IsRefused line input o told → Ends (Some o)
  refused_ends (too_long more is none) = long more (ap Some is)
  refused_ends (in_one_part within two none is nothing) = undivided within two none (ap Some is)
  refused_ends (without_world p are refusal has is none) =
      divided p are (subst (EndsWith line p) (ap Some (sym is)) (worldless line p refusal has))
  refused_ends {told = told} (unchecked w r checks has checked is) = of_check has checks (Some r) told checked (ap Some is)
  refused_ends {o} (misfit w n judges has first is none) =
      of_world has (subst (λ (c : Content). EndsIn line has.parts w c (Some o)) (sym judges) (inl (n, first, ap Some is)))
  refused_ends {o} (past_a_limit_of_families which trace c asked stops is) =
      behind c (subst (λ (k : Content). EndsBehind line c.has_world.parts c.world k (Some o)) (sym asked)
      (Err (failed.Limit which trace), c.more, stops, (λ e. cc), ap Some is))
  refused_ends {o} (bad_calls refusal c asked refuses none is) =
      behind c
      (subst (λ (k : Content). EndsBehind line c.has_world.parts c.world k (Some o)) (sym asked) (inl (refusal, refuses, ap Some is)))

  -- What minimising meets is neither families nor calls.
  cut_ends : {o : Outcome} {told : List Event} → IsCutShort line input o told → Ends None
  cut_ends c = behind c.check (by printed c.fails.asked)
    where
      by : (k : Content) → IsMinimisedFor k c.check.world c.fails.g → EndsBehind line c.check.has_world.parts c.check.world k None
      by Families asked = absurd asked
      by Calls asked = absurd asked
      by _ asked = refl

  answered_ends : {o : Outcome} {told : List Event} → IsAnswered line input false o told → Ends None
  answered_ends a = behind a.check (by printed a.output.0 a.behind a.output.1)
    where
      open a.check use {world as w, has_world, rules, more}

      by : (k : Content) (pieces : List (List ℕ)) → TellsBehind (limits_of line) w k rules more
          → ArePrinted w false k has_world.parts pieces
          → EndsBehind line has_world.parts w k None
      by Families pieces (flags, gone) are = (Ok (record { kept = numbers w flags }), more, (flags, gone, refl), (λ e. cc), refl)
      by Calls pieces told (ds, stands, none, lines) = inr ((ds, stands, none), refl)
      by _ pieces told are = refl

  judged_ends : {o : Outcome} {told : List Event} → IsJudged line input o told → Ends None
  judged_ends j =
      let (pieces, are, is) = j.output in
      let (said, output, alone) = subst (λ (c : Content). ArePrinted j.world false c j.has_world.parts pieces) j.judges are in
      of_world j.has_world (subst (λ (c : Content). EndsIn line j.has_world.parts j.world c None) (sym j.judges)
      (inr ((output.sections, output.fits), refl)))

-- ---- one end

module _ (line : CommandLine) (input : List ℕ) (p : Parts) (are : AreParts line.command input p) (one : AreOne p.source)
    (part : IsOnePart p.input (second_at p)) where
  at_parts : {end : Option Outcome} → Ends line input end → EndsWith line p end
  at_parts (long more is) = absurd (omega (arith, more, are.within))
  at_parts (undivided within two none is) = absurd (none (split_divided line.command input p are two))
  at_parts {end} (divided q others h) = subst (λ (z : Parts). EndsWith line z end) (one_split line.command input q p others are) h

  one_behind : (w : TextWorld) (c : Content) (a b : Option Outcome) → EndsBehind line p w c a → EndsBehind line p w c b → a ≡ b
  one_behind w Families a b (x, t, h, real, is) (y, u, k, too, same) =
      let one_family : x ≡ y = elim (family_outcomes_are_one (limits_of line) w x y t u h k) [
        | inl e ↦ e.0
        | inr (inl e) ↦ absurd (real e)
        | inr (inr e) ↦ absurd (too e)
      ] in is ∙ ap (family_end line p w) one_family ∙ sym same
  one_behind w Calls a b h k =
      one_of_two (RefusesSecond w p) refused_with (HasCalls w p) (one_second w p part) (never_second w p part) a b h k
  one_behind w _ a b is same = is ∙ sym same

  one_checked : (w : TextWorld) (c : Content) (r : Option Refused) (a b : Option Outcome) → EndsChecked line p w c r a
      → EndsChecked line p w c r b
      → a ≡ b
  one_checked w c (Some r) a b is same = is ∙ sym same
  one_checked w c None a b h k = one_behind w c a b h k

  one_in : (w : TextWorld) (c : Content) (a b : Option Outcome) → EndsIn line p w c a → EndsIn line p w c b → a ≡ b
  one_in w Judgements a b h k =
      one_of_two (IsMisfit line p w) (λ (n : ℕ). refused_with (refusals.DerivationSyntax n)) (Fits line p w)
      (one_misfit w.lexicon (length w.queries) (lines p.second)) (no_sections w.lexicon (length w.queries) (lines p.second)) a b h k
  one_in w c a b (r, t, checked, h) (s, u, also, k) =
      one_checked w c s a b (subst (λ (z : Option Refused). EndsChecked line p w c z a) (one_check (limits_of line) w checked also) h) k

  one_read : (r : Result Skeleton ParseErr) (a b : Option Outcome) → EndsRead line p r a → EndsRead line p r b → a ≡ b
  one_read (Err e) a b is same = is ∙ sym same
  one_read (Ok s) a b (inl (e, refuses, is)) (inl (f, too, same)) =
      is ∙ ap (λ (n : NameErr). Some (refused_with (name_refusal n))) (one_name p.source s e f refuses too) ∙ sym same
  one_read (Ok s) a b (inl (e, refuses, is)) (inr (resolve, world)) = absurd (not_refused p.source s e resolve refuses)
  one_read (Ok s) a b (inr (resolve, world)) (inl (e, refuses, is)) = absurd (not_refused p.source s e resolve refuses)
  one_read (Ok s) a b (inr (resolve, (w, h, end))) (inr (also, (v, k, other))) =
      one_in v (content_of line) a b
      (subst (λ (z : TextWorld). EndsIn line p z (content_of line) a) (one.world s w v h k) end) other

  one_end : {a b : Option Outcome} → Ends line input a → Ends line input b → a ≡ b
  one_end {a} {b} h k =
      let (r, read, end) = at_parts h in
      let (s, too, other) = at_parts k in
      one_read s a b (subst (λ (z : Result Skeleton ParseErr). EndsRead line p z a) (one_reading one read too) end) other

  -- an input that is refused has no other verdict
  pub verdict_is_one : (o q : Outcome) (told also : List Event) → IsRefused line input o told → IsVerdict line input q also → q ≡ o
  verdict_is_one o q told also r (is_refused other) = cc (one_end (refused_ends line input r) (refused_ends line input other))
  verdict_is_one o q told also r (is_cut_short c) = cc (one_end (refused_ends line input r) (cut_ends line input c))
  verdict_is_one o q told also r (is_answered a) = cc (one_end (refused_ends line input r) (answered_ends line input a))
  verdict_is_one o q told also r (is_judged j) = cc (one_end (refused_ends line input r) (judged_ends line input j))

-- an input that is too long is refused for that alone
pub long_refused : (line : CommandLine) (input : List ℕ) → 1048576 < length input → {o : Outcome} {told : List Event}
    → IsRefused line input o told
    → o ≡ refused_with refusals.TooLarge
long_refused line input more {o} r = by (refused_ends line input r)
  where
    by : Ends line input (Some o) → o ≡ refused_with refusals.TooLarge
    by (long l is) = cc
    by (undivided within two none is) = absurd (omega (arith, more, within))
    by (divided p are end) = absurd (omega (arith, more, are.within))

-- an input that lacks its second part is refused for that alone
pub undivided_refused : (line : CommandLine) (input : List ℕ) → reads line.command ≡ inputs.TwoParts → (Contains (lines input) divider → ⊥)
    → length input ≤ 1048576 → {o : Outcome} {told : List Event} → IsRefused line input o told → o ≡ refused_with refusals.MissingPart
undivided_refused line input two none within {o} r = by (refused_ends line input r)
  where
    by : Ends line input (Some o) → o ≡ refused_with refusals.MissingPart
    by (long l is) = absurd (omega (arith, l, within))
    by (undivided w t n is) = cc
    by (divided p are end) = absurd (none (split_divided line.command input p are two))

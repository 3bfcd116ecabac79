-- What the rounds come to that are run for the requirements of the protocols, going through them.
use Rattle.std.specs.Prelude.{◌≡◌, ◌⊎◌, ℕ, suc, Bool, List, [], ◌++◌, length, Option, Result, Ok, Err}
use Rattle.swreq_print.specs.swreq_rule.declared.rules.Rule.{Rule}
use Rattle.swreq_valid.specs.swreq_watch.declared.events.Event.{Event}
use Rattle.swreq_valid.specs.swreq_watch.Told.{GrewBy}
use Rattle.swreq_valid.specs.swreq_complete.declared.limit.Limits.{Limits}
use Rattle.swreq_valid.specs.swreq_complete.declared.limit.Which.{Which}
use Rattle.swreq_valid.specs.swreq_complete.declared.limit.Failed.{Failed}
use Rattle.swreq_valid.specs.swreq_complete.declared.limit.Failed.TheVariants.{Limit, Memory}
use Rattle.swreq_valid.specs.swreq_rounds.Rounds.{ComesTo, IsOutcome}
use Rattle.swreq_valid.specs.swreq_world.Worlds.{TextWorld}
use Rattle.swreq_reqsig.specs.declared.family.Family.{Family}
use Rattle.swreq_reqsig.specs.Families.{associated_types_of, family_plan, numbers, owned}
use Rattle.swreq_reqsig.specs.GoingThrough.{IsDecided, all_kept, without}
use Rattle.swreq_reqsig.specs.Asked.{AreAsked, IsBeyond}

module _ (limits : Limits) (w : TextWorld) where
  -- ---- one requirement, with the others whose flags are set

  -- Where the requirement at the place is unsaid or out of reach nothing is completed and nothing told. Else the rounds end that are run of
  -- the others that its protocol reaches, and they tell this.
  pub data IsSettled (n : ℕ) (others : List Bool) (told : List Event) : Type 0 where
    without_rounds : IsBeyond w n others → told ≡ [] → IsSettled n others told
    by_rounds : {asked : List Bool} {rules : List Rule} → AreAsked w n others asked → IsOutcome limits (family_plan w asked) (Ok rules) told
        → IsSettled n others told

  -- The rounds that are run of the others that its protocol reaches pass the limit, with this trace.
  pub record StopsAt (n : ℕ) (others : List Bool) (which : Which) (trace : List Rule) (told : List Event) : Type 0 where
    pub asked : List Bool
    pub are : AreAsked w n others asked
    pub stops : IsOutcome limits (family_plan w asked) (Err (Limit which trace)) told

  -- This is told by the rounds of the others that its protocol reaches, up to some moment.
  pub record ComesAt (n : ℕ) (others : List Bool) (told : List Event) : Type 0 where
    pub asked : List Bool
    pub are : AreAsked w n others asked
    pub comes : ComesTo limits (family_plan w asked) told

  -- The rounds for the requirement at the place fail so: by a limit, or when memory runs out, before the first of them or later.
  abbrev pub FailsAt : ℕ → List Bool → Failed → List Event → Type 0
  FailsAt n others (Limit which trace) told = StopsAt n others which trace told
  FailsAt n others Memory told = (told ≡ []) ⊎ ComesAt n others told

  -- ---- all requirements

  -- It is settled whether the requirement at the place follows from the others that are kept, this is told, and it is decided whether the
  -- requirement stays.
  pub record MeetsFamily (n : ℕ) (flags left : List Bool) (part : List Event) : Type 0 where
    pub settled : IsSettled n (without flags n) part
    pub decided : IsDecided (associated_types_of w) (owned w) n flags left

  -- The requirements from the last to the one at this place are decided: these are kept, and the rounds that were run for them told this,
  -- one after the other.
  pub data WasReduced : ℕ → List Bool → List Event → Type 0 where
    start : {n : ℕ} {flags : List Bool} {told : List Event}
        → n ≡ length (owned w) → flags ≡ all_kept (owned w) → told ≡ [] → WasReduced n flags told
    further : {n : ℕ} {flags left : List Bool} {before part told : List Event}
        → WasReduced (suc n) flags before → MeetsFamily n flags left part → told ≡ before ++ part → WasReduced n left told

  -- The rounds for the next requirement pass the limit, with this trace.
  pub record IsStopped (which : Which) (trace : List Rule) (told : List Event) : Type 0 where
    pub place : ℕ
    pub flags : List Bool
    pub before : List Event
    pub part : List Event
    pub gone : WasReduced (suc place) flags before
    pub stops : StopsAt place (without flags place) which trace part
    pub told_is : told ≡ before ++ part

  -- All requirements are decided, and this family is left, with its numbers; or the rounds for one stop at a limit, with its trace.
  abbrev pub IsFamilyOutcome : Result Family Failed → List Event → Type 0
  IsFamilyOutcome (Ok family) told = (flags : List Bool) × WasReduced 0 flags told × (family.kept ≡ numbers w flags)
  IsFamilyOutcome (Err (Limit which trace)) told = IsStopped which trace told
  IsFamilyOutcome (Err Memory) told = Unit {0}

  -- So far as this is told before the rounds for a requirement stop or all requirements are met.
  pub record ComesSoFar (told : List Event) : Type 0 where
    pub place : ℕ
    pub flags : List Bool
    pub before : List Event
    pub gone : WasReduced place flags before
    pub part : (told ≡ before)
        ⊎ ((n : ℕ) × (some : List Event) × (place ≡ suc n) × ComesAt n (without flags n) some × (told ≡ before ++ some))

  -- It comes out so, and the watcher was told all that is told; if memory runs out, what was told until then.
  abbrev pub AnswersFamily : Option (List Event) → Option (List Event) → Result Family Failed → Type 0
  AnswersFamily old new (Ok family) = (told : List Event) × IsFamilyOutcome (Ok family) told × GrewBy old new told
  AnswersFamily old new (Err (Limit which trace)) =
      (told : List Event) × IsFamilyOutcome (Err (Limit which trace)) told × GrewBy old new told
  AnswersFamily old new (Err Memory) = (told : List Event) × ComesSoFar told × GrewBy old new told

  abbrev pub IsForMemory : Result Family Failed → Type 0
  IsForMemory answer = answer ≡ Err Memory

  -- Unless memory runs out, it comes out in no other way.
  abbrev pub IsOnlyFamily : Result Family Failed → Type 0
  IsOnlyFamily answer = (other : Result Family Failed) (told : List Event) → IsFamilyOutcome other told
      → (answer ≡ other) ⊎ (IsForMemory answer ⊎ IsForMemory other)

-- What a round under way comes to.
use Rattle.std.specs.Prelude.{◌≡◌, ◌⊎◌, ◌<◌, Bool, List, [], ◌∷◌, ◌++◌, length, Contains, Option, Some, None, Result, Ok, Err}
use Rattle.swreq_complete.specs.swreq_rule.declared.rules.Rule.{Rule}
use Rattle.swreq_complete.specs.swreq_watch.declared.events.Event.{Event}
use Rattle.swreq_complete.specs.swreq_watch.Told.{GrewBy}
use Rattle.swreq_complete.specs.declared.limit.Failed.{Failed}
use Rattle.swreq_complete.specs.declared.limit.Failed.TheVariants.{Limit, Memory}
use Rattle.swreq_complete.specs.declared.limit.Limits.{Limits}
use Rattle.swreq_complete.specs.Events.{events}
use Rattle.swreq_complete.specs.Limits.{IsWithin}
use Rattle.swreq_complete.specs.Reached.{BeginsWith}
use Rattle.swreq_rounds.specs.Plan.{Item, Plan, given}
use Rattle.swreq_rounds.specs.Rounds.{IsDue, IsRound, Next, Passed, Turns}
use Rattle.swreq_rounds.specs.Rounds.Next.{ended, going}
use Rattle.swreq_valid.specs.declared.underway.Passed as stored
use Rattle.swreq_valid.specs.declared.underway.Turn as turn
use Rattle.swreq_valid.specs.declared.underway.Turn.TheVariants.{Goes, Lasts}
use Rattle.swreq_valid.specs.declared.underway.Underway.{Underway}
use Rattle.swreq_valid.specs.Flags.{Tells, chosen, unset}
use Rattle.swreq_valid.specs.Rounds.{AreRoundsFrom, RoundView, last_rules}

-- A flag is set for exactly the requirements that are among the chosen ones, also for one that is written twice.
abbrev pub AreByItem : List Item → List Bool → Type 0
AreByItem all used = Tells (Contains (chosen all used)) all used

-- the limit that was passed first
abbrev pub first_of : Option stored.Passed → Option Passed
first_of None = None
first_of (Some p) = Some (record { which = p.which; trace = p.trace })

module _ (limits : Limits) (plan : Plan) where
  -- the requirements that the round uses
  abbrev pub used_by : Underway → List Item
  used_by u = chosen plan.all u.used.items

  -- The rounds come to the one that is under way, and those before it told this.
  pub record IsUnderway (u : Underway) (told : List Event) : Type 0 where
    pub flags : AreByItem plan.all u.used.items
    pub round : IsRound limits plan (used_by u) (first_of u.first) told

  -- The round under way is completed.
  abbrev pub IsDueNow : Underway → Type 0
  IsDueNow u = IsDue limits plan (used_by u) (first_of u.first)

  -- The round under way comes to this, and tells this.
  abbrev pub ComesTo : Underway → List Event → Next → Type 0
  ComesTo u told next = Turns limits plan (used_by u) (first_of u.first) told next

  -- The next round uses more; this one is noted before it, and those from the next one on follow it.
  pub record GoesTo (u v : Underway) (told : List Event) : Type 0 where
    pub turns : ComesTo u told (going (used_by v) (first_of v.first))
    pub flags : AreByItem plan.all v.used.items
    pub fewer : unset v.used.items < unset u.used.items
    pub round : RoundView
    pub noted : v.before.items ≡ u.before.items ++ round ∷ []
    pub lead : (others : List RoundView) → AreRoundsFrom limits plan v.used.items (first_of v.first) others
        → AreRoundsFrom limits plan u.used.items (first_of u.first) (round ∷ others)

  -- The round under way was the last of these rounds.
  pub record IsLastOf (u : Underway) (rounds : List RoundView) (told : List Event) : Type 0 where
    pub turns : ComesTo u told (ended (Ok (last_rules rounds)))
    pub round : RoundView
    pub noted : rounds ≡ u.before.items ++ round ∷ []
    pub last : AreRoundsFrom limits plan u.used.items (first_of u.first) (round ∷ [])

  abbrev pub TurnsTo : Underway → List Event → turn.Turn → Type 0
  TurnsTo u told (Goes v) = GoesTo u v told
  TurnsTo u told (Lasts rounds) = IsLastOf u rounds told

  -- The round under way comes to a limit, or memory runs out.
  abbrev pub FailsWith : Underway → List Event → Failed → Type 0
  FailsWith u told (Limit which trace) = ComesTo u told (ended (Err (Limit which trace)))
  FailsWith u told Memory = Unit {0}

  -- nothing, or a part of what its completion tells
  abbrev pub IsPart : Underway → List Event → Type 0
  IsPart u part = (part ≡ []) ⊎ ((trace : List Rule) × IsDueNow u × BeginsWith plan.base trace
      × IsWithin limits (length plan.base) (given plan (used_by u)) trace × (part ≡ events (length plan.base) trace))

  -- The round under way comes to this, and the watcher was told what it tells, or a part of that if memory ran out.
  abbrev pub IsTaken : Underway → Option (List Event) → Option (List Event) → Result turn.Turn Failed → Type 0
  IsTaken u old new (Ok t) = (told : List Event) × TurnsTo u told t × GrewBy old new told
  IsTaken u old new (Err (Limit which trace)) = (told : List Event) × FailsWith u told (Limit which trace) × GrewBy old new told
  IsTaken u old new (Err Memory) = (part : List Event) × IsPart u part × GrewBy old new part

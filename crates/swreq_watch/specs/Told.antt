-- The list of the events that a watcher was told, which it may tell or not.
use Rattle.std.specs.Prelude.{◌≡◌, ℕ, ◌<◌, List, ◌++◌, length, take, drop, Option, Some, None}
use Rattle.std.specs.List.{AllZip}
use Rattle.swreq_watch.specs.declared.events.Event.{Event}

-- it does not tell its list
abbrev pub untold : Option (List Event)
untold = None

-- Where the list is told it is told again, with these events at its end. Where it is not, it is not told again.
abbrev pub GrewBy : Option (List Event) → Option (List Event) → List Event → Type 0
GrewBy (Some old) new more = new ≡ Some (old ++ more)
GrewBy None new more = new ≡ None

-- Each of these watchers was told these events, place by place.
abbrev pub EachGrewBy : List (Option (List Event)) → List (Option (List Event)) → List Event → Type 0
EachGrewBy old new more = AllZip (λ told told'. GrewBy told told' more) old new

-- The first `count` of these watchers were told these events, and the others were not.
pub record FirstGrewBy (count : ℕ) (old new : List (Option (List Event))) (more : List Event) : Type 0 where
  pub first : EachGrewBy (take count old) (take count new) more
  pub others : drop count new ≡ drop count old

-- The watchers before one of these were told these events, and that one and those after it were not.
pub record GrewUpToOne (old new : List (Option (List Event))) (more : List Event) : Type 0 where
  pub place : ℕ
  pub within : place < length old
  pub grew : FirstGrewBy place old new more

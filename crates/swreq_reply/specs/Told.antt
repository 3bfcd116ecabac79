-- What a watcher is told after the check of a text.
use Rattle.std.specs.Prelude.{◌≡◌, Bool, List, [], ◌++◌}
use Rattle.swreq_print.specs.swreq_rule.declared.rules.Rule.{Rule}
use Rattle.swreq_valid.specs.swreq_complete.declared.limit.Failed.{Failed}
use Rattle.swreq_valid.specs.swreq_complete.declared.limit.Limits.{Limits}
use Rattle.swreq_valid.specs.swreq_watch.declared.events.Event.{Event}
use Rattle.swreq_check.specs.declared.content.Content.{Content}
use Rattle.swreq_check.specs.declared.content.Content.TheVariants.{Calls, Families}
use Rattle.swreq_valid.specs.swreq_world.Worlds.{TextWorld}
use Rattle.swreq_reqsig.specs.Told.{ComesSoFar, WasReduced}
use Rattle.swreq_check.specs.Machines.{IsBuiltOver}
use Rattle.swreq_check.specs.Told.{MinimisingAllTells, MinimisingEndsIn}

module _ (limits : Limits) (w : TextWorld) where
  -- ---- where memory runs out

  -- What the check, which came to rules, and minimising after it may have told when memory runs out.
  pub record MinimisingPartTells (wants : Content) (told : List Event) : Type 0 where
    pub rules : List Rule
    pub first : List Event
    pub more : List Event
    pub built : IsBuiltOver limits w rules first
    pub failed : Failed
    pub part : MinimisingEndsIn limits w wants rules failed more
    pub told_is : told ≡ first ++ more

  -- What the check, and the search for families of requirement signatures after it, may have told when memory runs out.
  pub record FamiliesPartTell (told : List Event) : Type 0 where
    pub rules : List Rule
    pub first : List Event
    pub more : List Event
    pub built : IsBuiltOver limits w rules first
    pub part : ComesSoFar limits w more
    pub told_is : told ≡ first ++ more

  -- What is told after the check of a text that is answered: parts of minimising; of requirement signatures what the rounds tell that
  -- are run for the requirements of the protocols, going through all of them; of calls nothing.
  abbrev pub TellsBehind : Content → List Rule → List Event → Type 0
  TellsBehind Families rules more = (flags : List Bool) × WasReduced limits w 0 flags more
  TellsBehind Calls rules more = more ≡ []
  TellsBehind c rules more = MinimisingAllTells limits w c rules more

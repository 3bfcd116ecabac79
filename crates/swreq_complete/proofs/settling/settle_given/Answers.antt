use Rattle.std.proofs.Common.{◌≡◌, ◌+◌, ◌<◌, ℕ, List, Option, arith, get_or, length, refl, subst}
use Rattle.std.proofs.lemmas.Option.{slice_get_read, slice_get_within}
use Rattle.std.proofs.lemmas.Result.{err_from_is_err_and}
use Rattle.swreq_rule.specs.swreq_word.declared.symbols.Symbol.{Symbol}
use Rattle.swreq_rule.specs.declared.rules.Rule.{Rule}
use Rattle.swreq_rule.specs.declared.rules.Birth.TheVariants.{Given}
use Rattle.swreq_watch.specs.declared.events.Event.{Event}
use Rattle.swreq_complete.specs.declared.limit.Limits.{Limits}
use Rattle.swreq_complete.specs.declared.limit.Stop.{Stop}
use Rattle.swreq_complete.specs.Progress.{GivenBelow, Progress, Settles}
use Rattle.swreq_complete.specs.Settling.{DoneWithin, HasCome, HasStoppedAmong, StoppedAt}
use Rattle.swreq_complete.proofs.Closed.{below_closed}
use Rattle.swreq_complete.proofs.Equations.{below_given, none_yet, given_more}
use Rattle.swreq_complete.proofs.Telling.{Adds, kept_length, grown_none, settles_adds, goes_on, goes_later, stops_among, stops_among_later}
use Rattle.swreq_complete.proofs.settling.settle_given.Goals as goal

-- One equation more, by what is read there: to settle it takes the completion on, and a stop at it is one of the completion.
module _ (limits : Limits) (given : List (List Symbol × List Symbol)) (start old new : List Rule) (n : ℕ)
    (told told' told'' : Option (List Event)) (come : HasCome limits (length start) given (GivenBelow n) start old told told')
    (equation : List Symbol × List Symbol) (within : n < length given) (read : equation ≡ get_or given n equation) where
  abbrev base : ℕ
  base = length start

  abbrev Done : List Rule → Type 0
  Done t = Settles old t (Given (n + 1)) equation.0 equation.1

  adds : (t : List Rule) → Done t → Adds old t
  adds t = settles_adds old t (Given (n + 1)) equation.0 equation.1

  takes_on : (t : List Rule) → Done t → Progress base given t (GivenBelow (n + 1))
  takes_on t =
      given_more base given old t n equation.0 equation.1 come.progress (slice_get_read given (length given) n equation refl within read)

  settled : DoneWithin limits Done old new told' told'' → HasCome limits base given (GivenBelow (n + 1)) start new told told''
  settled d =
      goes_later limits base given (GivenBelow (n + 1)) start old new told told' told'' come.grown
      (goes_on limits base given (GivenBelow n) (GivenBelow (n + 1)) Done old new told' told'' come.progress come.kept
      (below_closed base given n old) (λ t s. below_closed base given (n + 1) t) adds takes_on d)

  stopped : (s : Stop) → StoppedAt limits Done old new told' told'' s → HasStoppedAmong limits base given start new told told'' s
  stopped s d =
      stops_among_later limits base given start old new told told' told'' come.grown s
      (stops_among limits base given (GivenBelow n) (GivenBelow (n + 1)) Done old new told' told'' come.progress come.kept
      (below_closed base given n old) (λ t s. below_closed base given (n + 1) t) adds takes_on (below_given (n + 1)) s d)

pub loop-n-init : goal.loop-n-init
loop-n-init g c = record {
  progress = none_yet c.args.task.now.given.now c.args.rules.now;
  kept = λ k r lo e. absurd (let w = slice_get_within c.args.rules.now k r e in omega (arith, w, lo));
  grown = grown_none c.args.rules.now (g.W.Watch.told c.args.watch.now);
}

pub loop-n-preserved : goal.loop-n-preserved
loop-n-preserved g c =
    let told = g.W.Watch.told in
    settled c.args.task.now.limits c.args.task.now.given.now c.args.rules.now c.loop-n.rules c.settle_equation.new.rules c.loop-n.n
    (told c.args.watch.now) (told c.loop-n.watch) (told c.settle_equation.new.watch) c.loop-n.invariant
    c.index-given-n.result c.loop-n-test.true c.index-given-n.is c.in_ok-settle_equation.ensures

pub returns : goal.returns
returns g c = subst (λ n.
    HasCome c.args.task.now.limits (length c.args.rules.now) c.args.task.now.given.now (GivenBelow n) c.args.rules.now c.loop-n.rules
    (g.W.Watch.told c.args.watch.now) (g.W.Watch.told c.loop-n.watch)) (omega arith) c.loop-n.invariant

pub returns-in_err-settle_equation : goal.returns-in_err-settle_equation
returns-in_err-settle_equation g c =
    let told = g.W.Watch.told in
    let p = err_from_is_err_and c.from_residual.result c.from_residual.ensures.1 in
    rw (p.1, p.2)
    (stopped c.args.task.now.limits c.args.task.now.given.now c.args.rules.now c.loop-n.rules c.settle_equation.new.rules c.loop-n.n
    (told c.args.watch.now) (told c.loop-n.watch) (told c.settle_equation.new.watch) c.loop-n.invariant
    c.index-given-n.result c.loop-n-test.true c.index-given-n.is
    c.in_err-settle_equation.field-0.0 c.in_err-settle_equation.ensures)

pub settle_equation-requires : goal.settle_equation-requires
settle_equation-requires g c =
    let k = kept_length c.args.task.now.limits (length c.args.rules.now) c.loop-n.rules c.loop-n.invariant.kept in
    let b = c.requires in let m = c.args.task.now.limits.in_range.1 in
    omega (arith, k, b, m)

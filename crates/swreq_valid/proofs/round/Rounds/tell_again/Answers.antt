use Rattle.std.proofs.Common.{◌≡◌, ◌∙◌, ap, get_or, length, subst, sym, take, List, ℕ, OnOk, OnErr}
use Rattle.std.proofs.lemmas.List.{take_all}
use Rattle.std.proofs.lemmas.Result.{err_from_is_err_and}
use Rattle.swreq_complete.specs.swreq_rule.declared.rules.Rule.{Rule}
use Rattle.swreq_complete.specs.swreq_watch.Told.{GrewBy}
use Rattle.swreq_complete.proofs.swreq_watch.Told.{grew_none}
use Rattle.swreq_complete.specs.Events.{events}
use Rattle.swreq_valid.specs.Again.{TellsFront, TellsRound, events_of}
use Rattle.swreq_valid.specs.Rounds.{RoundView}
use Rattle.swreq_valid.proofs.Retold.{all_told, front_lost, one_more_round}
use Rattle.swreq_valid.proofs.round.Rounds.tell_again.Goals as goal

pub loop-k-init : goal.loop-k-init
loop-k-init g c = grew_none (g.W.Watch.told c.args.watch.now)

pub returns-in_err-tell_course : goal.returns-in_err-tell_course
returns-in_err-tell_course g c limits plan is are =
    let told = g.W.Watch.told in
    let front = c.before-before.result.now in
    let (used, whole) = c.before-before.ensures in
    let k = c.loop-k.k in
    let base : c.count_of-base.result ≡ length plan.base = c.count_of-base.ensures ∙ ap length (sym is) in
    let so_far =
    subst (λ (n : ℕ). GrewBy (told c.args.watch.now) (told c.loop-k.watch) (events_of n (take k front))) base c.loop-k.invariant in
    let part : TellsRound (length plan.base) (get_or front k c.index-before-k.result) (told c.loop-k.watch) (told c.tell_course.new.watch)
    = subst (λ (r : RoundView). TellsRound (length plan.base) r (told c.loop-k.watch) (told c.tell_course.new.watch)) c.index-before-k.is
    (subst (λ (n : ℕ). TellsRound n c.index-before-k.result (told c.loop-k.watch) (told c.tell_course.new.watch)) base
    c.in_err-tell_course.ensures.err) in
    let p = err_from_is_err_and c.from_residual.result c.from_residual.ensures.1 in
    rw p.1
    (front_lost limits plan c.args.self.now are (told c.args.watch.now) (told c.tell_course.new.watch) front used whole k
    c.index-before-k.result (told c.loop-k.watch) c.loop-k-test.true so_far part)

pub loop-k-preserved : goal.loop-k-preserved
loop-k-preserved g c =
    let told = g.W.Watch.told in
    one_more_round c.count_of-base.result c.before-before.result.now c.loop-k.k c.index-before-k.result
    (told c.args.watch.now) (told c.loop-k.watch)
    (told c.tell_course.new.watch) c.loop-k-test.true (sym c.index-before-k.is) c.loop-k.invariant c.in_ok-tell_course.ensures.ok

pub returns : goal.returns
returns g c limits plan is are =
    let told = g.W.Watch.told in
    let front = c.before-before.result.now in
    let (used, whole) = c.before-before.ensures in
    let base : c.count_of-base.result ≡ length plan.base = c.count_of-base.ensures ∙ ap length (sym is) in
    let so_far = subst (λ (rs : List RoundView). GrewBy (told c.args.watch.now) (told c.loop-k.watch) (events_of c.count_of-base.result rs))
    (take_all c.loop-k.k front c.loop-k-test.false) c.loop-k.invariant in
    let own = c.last.ensures in
    all_told limits plan c.args.self.now are (told c.args.watch.now) (told c.tell_round.new.watch) front used whole (told c.loop-k.watch)
    (subst (λ (n : ℕ). GrewBy (told c.args.watch.now) (told c.loop-k.watch) (events_of n front)) base so_far) c.tell_round.result
    (subst (λ (rs : List Rule).
    OnOk c.tell_round.result (GrewBy (told c.loop-k.watch) (told c.tell_round.new.watch) (events (length plan.base) rs))) own
    (subst (λ (n : ℕ). OnOk c.tell_round.result (GrewBy (told c.loop-k.watch) (told c.tell_round.new.watch) (events n c.last.result.now)))
    base
    c.tell_round.ensures.ok))
    (subst (λ (rs : List Rule).
    OnErr c.tell_round.result (TellsFront (length plan.base) rs (told c.loop-k.watch) (told c.tell_round.new.watch))) own
    (subst (λ (n : ℕ). OnErr c.tell_round.result (TellsFront n c.last.result.now (told c.loop-k.watch) (told c.tell_round.new.watch))) base
    c.tell_round.ensures.err))

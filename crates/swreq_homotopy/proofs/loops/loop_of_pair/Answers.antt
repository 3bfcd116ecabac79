use Rattle.std.proofs.Common.{◌≡◌, sym, ◌∙◌, ap, subst, ◌++◌}
use Rattle.swreq_path.specs.Reductions.{IsRedex}
use Rattle.swreq_path.specs.Paths.{HasTarget}
use Rattle.swreq_path.proofs.Leading.{one_end}
use Rattle.swreq_pair.proofs.PairWords.{both_put}
use Rattle.swreq_homotopy.proofs.PairSteps.{redex_of}
use Rattle.swreq_homotopy.proofs.Through.{ends_meet, makes_loop, through_target}
use Rattle.swreq_homotopy.proofs.loops.loop_of_pair.Goals as goal

pub path_through-requires-clause-redex : goal.path_through-requires-clause-redex
path_through-requires-clause-redex c =
    let rules = c.args.rules.now in
    let place = c.args.place in
    let pair = c.requires.pair in
    let w = c.in_ok-word.word.items in
    let put = both_put rules place pair.0 pair.1 w pair.2 c.in_ok-word.ensures in
    subst (λ u. IsRedex rules u 0 place.i) (sym c.deref.ensures.value)
    (redex_of rules place.i 0 pair.2.first w pair.0 pair.2.first_at put.0)

pub path_through-requires-2-clause-redex : goal.path_through-requires-2-clause-redex
path_through-requires-2-clause-redex c =
    let rules = c.args.rules.now in
    let place = c.args.place in
    let pair = c.requires.pair in
    let w = c.in_ok-word.word.items in
    let put = both_put rules place pair.0 pair.1 w pair.2 c.in_ok-word.ensures in
    subst (λ u. IsRedex rules u place.at place.j) (sym c.deref-2.ensures.value)
    (redex_of rules place.j place.at pair.2.second w pair.1 pair.2.second_at put.1)

pub target-requires : goal.target-requires
target-requires c =
    let t = c.in_ok-out.ensures.through in
    (t.1, through_target c.args.rules.now c.in_ok-out.out 0 c.args.place.i c.deref.result.now t.0 t.1 c.in_ok-out.ensures.start t.2)

pub target-requires-2 : goal.target-requires-2
target-requires-2 c =
    let t = c.in_ok-back.ensures.through in (
      t.1,
      through_target c.args.rules.now c.in_ok-back.back c.args.place.at c.args.place.j c.deref-2.result.now t.0 t.1
          c.in_ok-back.ensures.start t.2,
    )

pub returns-then-not-are_same-clause-of_pair : goal.returns-then-not-are_same-clause-of_pair
returns-then-not-are_same-clause-of_pair c s =
    let pair = c.requires.pair in
    let meet = ends_meet c.args.rules.now c.args.place pair.0 pair.1 c.in_ok-word.word.items pair.2 c.in_ok-word.ensures
    c.in_ok-out.out c.in_ok-back.back c.deref.result.now c.deref-2.result.now c.deref.ensures.value c.deref-2.ensures.value
    c.in_ok-out.ensures.start c.in_ok-back.ensures.start c.in_ok-out.ensures.through c.in_ok-back.ensures.through
    c.in_ok-end.end c.in_ok-other_end.other_end c.in_ok-end.ensures c.in_ok-other_end.ensures s in
    let same = c.are_same.ensures.1 (c.symbols.ensures ∙ meet ∙ sym c.symbols-2.ensures) in
    let differ = c.if-not-are_same.true in
    cc

pub compose-requires-clause-first : goal.compose-requires-clause-first
compose-requires-clause-first c =
    let rules = c.args.rules.now in
    let back = c.in_ok-back.back in
    let meet : c.in_ok-end.end ≡ c.in_ok-other_end.other_end =
    (sym c.symbols.ensures ∙ c.are_same.ensures.0 c.if-not-are_same.false ∙ c.symbols-2.ensures) in
    let home : c.in_ok-other_end.other_end ≡ c.in_ok-home.home.start = one_end rules back.steps back.start c.in_ok-other_end.other_end
    c.in_ok-home.home.start c.in_ok-other_end.ensures c.in_ok-home.ensures.start in
    subst (λ v. HasTarget rules c.in_ok-out.out v) (meet ∙ home) c.in_ok-end.ensures

pub returns-clause-of_pair : goal.returns-clause-of_pair
returns-clause-of_pair c =
    let pair = c.requires.pair in
    let meet = sym c.symbols.ensures ∙ c.are_same.ensures.0 c.if-not-are_same.false ∙ c.symbols-2.ensures in
    makes_loop c.args.rules.now c.args.place pair.0 pair.1 c.in_ok-word.word.items pair.2 c.in_ok-word.ensures
    c.in_ok-out.out c.in_ok-back.back c.deref.result.now c.deref-2.result.now c.deref.ensures.value c.deref-2.ensures.value
    c.in_ok-out.ensures.start c.in_ok-back.ensures.start c.in_ok-out.ensures.through c.in_ok-back.ensures.through
    c.in_ok-end.end c.in_ok-other_end.other_end c.in_ok-end.ensures c.in_ok-other_end.ensures meet
    (record { path = c.in_ok-path.path }) c.in_ok-path.ensures.start
    (c.in_ok-path.ensures.steps ∙ ap (λ xs. c.in_ok-out.out.steps ++ xs) c.in_ok-home.ensures.steps)

pub returns-clause-round : goal.returns-clause-round
returns-clause-round c =
    let path = c.in_ok-path.path in
    let back = c.in_ok-back.back in
    let start : back.start ≡ path.start = c.in_ok-back.ensures.start ∙ c.deref-2.ensures.value
    ∙ sym (c.in_ok-path.ensures.start ∙ c.in_ok-out.ensures.start ∙ c.deref.ensures.value) in
    subst (λ v. HasTarget c.args.rules.now path v) start (c.in_ok-path.ensures.target back.start c.in_ok-home.ensures.target)

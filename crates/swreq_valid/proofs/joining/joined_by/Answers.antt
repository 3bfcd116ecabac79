use Rattle.std.proofs.Common.{◌≡◌, ◌∙◌, arith, ap, length, [], refl, subst, sym, Bool, List}
use Rattle.swreq_rounds.specs.Plan.{AreShownByReduction}
use Rattle.swreq_valid.specs.Flags.{TellsMore, either_of}
use Rattle.swreq_valid.specs.Plans.{items_of, plan_of}
use Rattle.swreq_valid.proofs.Flagged.{either_tells, tells_length}
use Rattle.swreq_valid.proofs.Planning.{items_length}
use Rattle.swreq_valid.proofs.joining.joined_by.Goals as goal

pub either-requires : goal.either-requires
either-requires c =
    let terms = c.args.text.now.table.now in
    let all = items_of terms c.args.start.now.all.items in
    let a = tells_length (AreShownByReduction (plan_of c.args.text.now.world.now terms [] c.args.start.now) c.args.rules) all
    c.in_ok-shown.shown.items
    (c.in_ok-shown.ensures []) in
    let q = items_length terms c.args.start.now.all.items in
    let e = ap length c.deref.ensures.value in
    let f = c.requires.flags in
    let o = c.args.start.now.all.ok in
    omega (arith, a, q, e, f, o)

pub returns-then-are_same : goal.returns-then-are_same
returns-then-are_same c base =
    let terms = c.args.text.now.table.now in
    let all = items_of terms c.args.start.now.all.items in
    let plan = plan_of c.args.text.now.world.now terms base c.args.start.now in
    let long : length c.args.used.now ≡ length all
    = (let q = items_length terms c.args.start.now.all.items in let f = c.requires.flags in let o = c.args.start.now.all.ok in
    omega (arith, q, f, o)) in
    let same = sym c.deref-2.ensures.value ∙ c.are_same.ensures.0 c.if-are_same.true in
    subst (λ (z : List Bool). TellsMore (AreShownByReduction plan c.args.rules) all c.args.used.now z)
    (ap (either_of c.args.used.now) (sym c.deref.ensures.value) ∙ sym c.in_ok-more.ensures ∙ same)
    (either_tells (AreShownByReduction plan c.args.rules) all c.args.used.now c.in_ok-shown.shown.items long (c.in_ok-shown.ensures base))

pub returns : goal.returns
returns c base =
    let terms = c.args.text.now.table.now in
    let all = items_of terms c.args.start.now.all.items in
    let plan = plan_of c.args.text.now.world.now terms base c.args.start.now in
    let long : length c.args.used.now ≡ length all
    = (let q = items_length terms c.args.start.now.all.items in let f = c.requires.flags in let o = c.args.start.now.all.ok in
    omega (arith, q, f, o)) in (
      refl,
      (λ e. let h = c.are_same.ensures.1 (c.deref-2.ensures.value ∙ e) in let f = c.if-are_same.false in cc),
      subst (λ (z : List Bool). TellsMore (AreShownByReduction plan c.args.rules) all c.args.used.now z)
          (ap (either_of c.args.used.now) (sym c.deref.ensures.value) ∙ sym c.in_ok-more.ensures)
          (either_tells (AreShownByReduction plan c.args.rules) all c.args.used.now c.in_ok-shown.shown.items long
          (c.in_ok-shown.ensures base)),
    )

use Rattle.std.proofs.Common.{◌∙◌, ◌++◌, [], ◌∷◌, sym, ap, true≢false}
use Rattle.swreq_confpath.specs.Spots.{Spot}
use Rattle.swreq_confpath.proofs.Covering.{one_there}
use Rattle.swreq_confpath.proofs.Keeping.{places_decide}
use Rattle.swreq_confpath.proofs.trying.try_place.Goals as goal

pub returns-then-eq : goal.returns-then-eq
returns-then-eq c s there =
    let same = one_there c.args.tried.now c.args.next (c.spot.result.0.now, c.spot.result.1.now) s c.spot.ensures there in (
      (places_decide c.args.place c.args.target.now).0 (sym c.eq.ensures ∙ c.if-eq.true),
      c.in_ok-path.ensures ∙ ap (λ (x : Spot). x.1 ++ c.args.number ∷ []) same,
    )

pub returns : goal.returns
returns c s there = (
  (λ e. true≢false (sym ((places_decide c.args.place c.args.target.now).1 e) ∙ (sym c.eq.ensures ∙ c.if-eq.false))),
  c.in_ok-keep.ensures s there,
)

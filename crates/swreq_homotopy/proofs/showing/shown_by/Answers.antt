use Rattle.std.proofs.Common.{subst}
use Rattle.swreq_homotopy.specs.Search.{ShowsAt, NoneShows}
use Rattle.swreq_homotopy.proofs.Others.{shows_at}
use Rattle.swreq_homotopy.proofs.RoundTrip.{shown_round, does_without}
use Rattle.swreq_homotopy.proofs.showing.shown_by.Goals as goal

pub returns-in_ok-round_from-in-Some : goal.returns-in_ok-round_from-in-Some
returns-in_ok-round_from-in-Some c =
    let round = c.args.round.now in
    let s = subst (λ xs. ShowsAt c.args.keep.now c.args.may.now xs c.in-Some.at) c.items.ensures c.in-Some.ensures in (
      shown_round c.args.rules.now c.args.keep.now c.args.may.now round c.in-Some.at c.in_ok-round_from-in-Some.field-0 s
          c.in_ok-round_from-in-Some.ensures,
      does_without c.args.rules.now c.args.keep.now c.args.may.now round c.in-Some.at c.in_ok-round_from-in-Some.field-0 s
          c.in_ok-round_from-in-Some.ensures,
    )

pub returns-in-None : goal.returns-in-None
returns-in-None c n s =
    let r = shows_at c.args.keep.now c.args.may.now c.args.round.now n s in
    subst (NoneShows c.args.keep.now c.args.may.now) c.items.ensures c.in-None.ensures r.0 r.1

use Rattle.std.proofs.Common.{arith}
use Rattle.swreq_explain.proofs.Makings.{made, used_round}
use Rattle.swreq_explain.proofs.numbered.shown_by.Goals as goal

pub overflow_add-joined : goal.overflow_add-joined
overflow_add-joined c =
    let within = c.first_use.ensures.within in
    let below = used_round c.args.makings c.args.round c.args.place c.requires in
    let room = (made c.args.makings).room in
    omega (arith, within, below, room)

pub returns : goal.returns
returns c = λ x is. record {
  place = c.args.place;
  there = is;
  round = c.first_use.result;
  within = c.first_use.ensures.within;
  first_use = c.first_use.ensures.first;
  system_is = c.saturating_sub.ensures;
}

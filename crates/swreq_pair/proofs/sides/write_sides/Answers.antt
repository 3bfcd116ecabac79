use Rattle.std.proofs.Common.{refl}
use Rattle.std.proofs.lemmas.Result.{on_ok_weaker}
use Rattle.swreq_rule.proofs.Numbers.{rule_there}
use Rattle.swreq_pair.proofs.sides.write_sides.Goals as goal

pub write_sides_of-requires : goal.write_sides_of-requires
write_sides_of-requires c =
    let rules = c.args.rules.now in let place = c.args.place in
    let p = c.requires.2 in (
      rules,
      place,
      record {
        first_at = rule_there rules place.i p.first c.index-rules-place.result p.first_at c.index-rules-place.is;
        second_at = rule_there rules place.j p.second c.index-rules-place-2.result p.second_at c.index-rules-place-2.is;
        at_is = refl;
      },
      c.requires,
    )

pub returns : goal.returns
returns c =
    let rules = c.args.rules.now in let place = c.args.place in
    let p = c.requires.2 in
    on_ok_weaker c.write_sides_of.result
    (λ sides. sides rules place
    (record {
      first_at = rule_there rules place.i p.first c.index-rules-place.result p.first_at c.index-rules-place.is;
      second_at = rule_there rules place.j p.second c.index-rules-place-2.result p.second_at c.index-rules-place-2.is;
      at_is = refl;
    }) c.requires)
    c.write_sides_of.ensures

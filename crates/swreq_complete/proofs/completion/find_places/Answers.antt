use Rattle.std.proofs.Common.{◌-◌, arith}
use Rattle.swreq_complete.proofs.AllPlaces.{are_all}
use Rattle.swreq_complete.proofs.completion.find_places.Goals as goal

pub returns : goal.returns
returns c =
    let rules = c.args.rules.now in
    let greater = c.args.greater in
    let found = c.in_ok-find_overlaps.ensures in
    let some = c.requires.0 in
    are_all found.0 rules found.1 (greater - 1) c.rule-rule.result.now c.rule-rule.ensures c.find_overlaps.new.found greater
    (omega (arith, some)) c.symbols.result.now c.symbols.ensures found.2

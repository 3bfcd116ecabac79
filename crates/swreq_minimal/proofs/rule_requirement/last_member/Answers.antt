use Rattle.std.proofs.Common.{◌≤◌, ◌+◌, length, rules, vec_capacity}
use Rattle.swreq_minimal.proofs.rule_requirement.last_member.Goals as goal

pub first_named-requires : goal.first_named-requires
first_named-requires c =
    let room : length c.args.front.now + 1 ≤ vec_capacity c.in_ok-test.test = search rules in
    record { least = c.requires.least; fits = room }

use Rattle.std.proofs.Common.{drop, refl, arith}
use Rattle.swreq_rule.proofs.Numbers.{number_some, number_within}
use Rattle.swreq_complete.proofs.Layers.{below_alone, both_tell, own_alone, of_both, below_rule, own_rule}
use Rattle.swreq_complete.proofs.indexed.find_in_both.Goals as goal

pub returns-in-Err-find_at : goal.returns-in-Err-find_at
returns-in-Err-find_at c =
    both_tell c.args.below.now c.args.own.now c.args.rules.now c.requires.index c.args.word.now c.args.at c.in-Err.first
    c.in-Err-find_at.second _
    (omega (arith, c.max.ensures)) (omega (arith, c.max.ensures)) c.in-Err.ensures c.in-Err-find_at.ensures

pub returns-in-Ok-find_at : goal.returns-in-Ok-find_at
returns-in-Ok-find_at c =
    own_alone c.args.below.now c.args.own.now (drop c.args.at c.args.word.now) c.args.rules.now c.requires.index c.in-Ok-find_at.second
    (c.in-Err.ensures c.args.word.now refl) c.in-Ok-find_at.ensures

pub returns-in-Err-find_at-2 : goal.returns-in-Err-find_at-2
returns-in-Err-find_at-2 c =
    below_alone c.args.below.now c.args.own.now
    (drop c.args.at c.args.word.now) c.args.rules.now c.requires.index c.in-Ok.first c.in-Ok.ensures
    (c.in-Err-find_at-2.ensures c.args.word.now refl)

pub shorter-requires-clause-first : goal.shorter-requires-clause-first
shorter-requires-clause-first c =
    let r = below_rule c.args.below.now c.args.own.now
    (drop c.args.at c.args.word.now) c.args.rules.now c.requires.index c.in-Ok.first c.in-Ok.ensures in
    (number_some c.args.rules.now c.in-Ok.first r.0 r.1, number_within c.args.rules.now c.in-Ok.first r.0 r.1)

pub shorter-requires-clause-second : goal.shorter-requires-clause-second
shorter-requires-clause-second c =
    let r = own_rule c.args.below.now c.args.own.now
    (drop c.args.at c.args.word.now) c.args.rules.now c.requires.index c.in-Ok-find_at-2.second c.in-Ok-find_at-2.ensures in
    (number_some c.args.rules.now c.in-Ok-find_at-2.second r.0 r.1, number_within c.args.rules.now c.in-Ok-find_at-2.second r.0 r.1)

pub returns-in-Ok-find_at-2 : goal.returns-in-Ok-find_at-2
returns-in-Ok-find_at-2 c =
    of_both c.args.below.now c.args.own.now
    (drop c.args.at c.args.word.now) c.args.rules.now c.requires.index c.in-Ok.first c.in-Ok-find_at-2.second c.shorter.result
    c.in-Ok.ensures c.in-Ok-find_at-2.ensures c.shorter.ensures

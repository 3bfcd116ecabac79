use Rattle.std.proofs.Common.{arith, ◌++◌}
use Rattle.swreq_rounds.specs.Given.{named_from}
use Rattle.swreq_symbols.specs.Meaning.{symbols_of}
use Rattle.swreq_valid.proofs.Naming.{named_all, named_more}
use Rattle.swreq_valid.proofs.basic.add_names.Goals as goal

pub loop-rank-preserved : goal.loop-rank-preserved
loop-rank-preserved c =
    named_more c.args.world.now.lexicon c.requires.ids c.args.protocol
    (c.args.equations.now.items ++ named_from c.args.protocol 0 (symbols_of c.args.world.now.lexicon).members)
    c.loop-rank.equations.items c.add_name.new.equations.items (record { rank = c.loop-rank.rank }) c.in_ok-add_name.ensures
    c.loop-rank.invariant

pub returns : goal.returns
returns c =
    named_all c.args.world.now.lexicon c.requires.ids c.args.protocol
    (c.args.equations.now.items ++ named_from c.args.protocol 0 (symbols_of c.args.world.now.lexicon).members)
    c.loop-rank.equations.items c.loop-rank.rank
    (λ k s e. let above = c.requires.above k s e in let end = c.loop-rank-test.false in omega (arith, above, end)) c.loop-rank.invariant

use Rattle.std.proofs.Common.{sym, drop}
use Rattle.swreq_rounds.specs.Given.{basic_of}
use Rattle.swreq_symbols.specs.Meaning.{symbols_of}
use Rattle.swreq_valid.proofs.OfProtocols.{basic_at}
use Rattle.swreq_valid.proofs.basic.first_basic.Goals as goal

pub loop-k-preserved : goal.loop-k-preserved
loop-k-preserved c =
    basic_at c.args.world.now.lexicon _ c.proto_at-p.result _ _ c.proto_at-p.ensures c.in_ok-add_protocol.ensures c.loop-k.invariant

pub returns : goal.returns
returns c =
    (basic_of (symbols_of c.args.world.now.lexicon) (drop c.loop-k.k c.args.world.now.lexicon.written_order), sym c.loop-k.invariant)

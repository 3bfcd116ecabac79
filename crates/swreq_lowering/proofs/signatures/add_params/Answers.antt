use Rattle.std.proofs.Common.{arith}
use Rattle.swreq_lowering.proofs.Growing.{adds_then, adds_same}
use Rattle.swreq_lowering.proofs.Places.{params_more}
use Rattle.swreq_lowering.specs.Words.{words_by}
use Rattle.swreq_lowering.proofs.signatures.add_params.Goals as goal

pub loop-i-preserved : goal.loop-i-preserved
loop-i-preserved c =
    let w = words_by c.args.words.now in
    record {
      within = omega arith;
      added = adds_same c.args.table.now c.add_param.new.table c.args.into.now.items c.add_param.new.into.items _ _
          (adds_then c.args.table.now c.loop-i.table c.add_param.new.table c.args.into.now.items c.loop-i.into.items
          c.add_param.new.into.items _ _ c.loop-i.invariant.added c.in_ok-add_param.ensures.adds)
          (params_more w c.args.signature c.args.params.now c.loop-i.i c.index-params-i.result c.loop-i-test.true c.index-params-i.is);
    }

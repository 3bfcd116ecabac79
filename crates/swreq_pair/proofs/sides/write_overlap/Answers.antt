use Rattle.std.proofs.lemmas.Result.{on_ok_weaker}
use Rattle.swreq_pair.proofs.Parts.{overlap_along}
use Rattle.swreq_pair.proofs.sides.write_overlap.Goals as goal

pub returns : goal.returns
returns c =
    on_ok_weaker c.write-2.result
    (λ e. overlap_along c.args.first.now c.args.second.now c.args.at c.symbols-l.result.now c.symbols-m.result.now
    c.symbols.result.now c.symbols-2.result.now
    c.write.new.buffer.items c.write-2.new.buffer.items c.symbols-l.ensures c.symbols-m.ensures c.symbols.ensures c.symbols-2.ensures
    c.requires c.in_ok-write.ensures e)
    c.write-2.ensures

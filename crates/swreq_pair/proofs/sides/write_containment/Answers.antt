use Rattle.std.proofs.lemmas.Result.{on_ok_weaker}
use Rattle.swreq_pair.proofs.Parts.{containment_along}
use Rattle.swreq_pair.proofs.sides.write_containment.Goals as goal

pub returns : goal.returns
returns c =
    on_ok_weaker c.write_three.result
    (λ e. containment_along c.args.first.now c.args.second.now c.args.at c.symbols-l.result.now c.symbols-m.result.now
    c.symbols.result.now c.symbols-2.result.now
    c.write.new.buffer.items c.write_three.new.buffer.items c.symbols-l.ensures c.symbols-m.ensures c.symbols.ensures c.symbols-2.ensures
    c.requires c.in_ok-write.ensures e)
    c.write_three.ensures

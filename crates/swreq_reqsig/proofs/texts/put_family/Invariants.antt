use Rattle.std.proofs.Common.{◌≡◌, ◌++◌, drop}
use Rattle.swreq_reqsig.specs.Texts.{family_text, protocol_lines}
use Rattle.swreq_valid.specs.swreq_symbols.Texts.{world_of}
use Rattle.swreq_reqsig.proofs.texts.put_family.Given as goal

abbrev pub invariant-loop-k : goal.invariant-loop-k
invariant-loop-k l =
    l.out.items ++ protocol_lines (world_of l.text) (drop l.k l.text.world.now.lexicon.written_order) (drop l.k l.family.kept)
    ≡ l.initial.out.items ++ family_text (world_of l.text) l.family.kept

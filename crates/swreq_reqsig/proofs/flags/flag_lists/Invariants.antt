use Rattle.std.proofs.Common.{◌≡◌, ◌++◌, drop}
use Rattle.swreq_reqsig.specs.Families.{flag_lists, in_lists}
use Rattle.swreq_reqsig.proofs.flags.flag_lists.Given as goal

abbrev pub invariant-loop-k : goal.invariant-loop-k
invariant-loop-k l =
    let w = l.text.world.now in
    l.lists.items ++ in_lists w (drop l.k w.lexicon.written_order) l.rest ≡ flag_lists w l.flags

use Rattle.std.proofs.Common.{◌≡◌, ◌++◌, map, take}
use Rattle.swreq_names.specs.Spaces.{word}
use Rattle.swreq_lexicon.specs.Lexicons.{pair, name_by}
use Rattle.swreq_lexicon.proofs.lexicon.add_declared.Given as goal

abbrev pub invariant-loop-m : goal.invariant-loop-m
invariant-loop-m l =
    l.pairs.items ≡ l.fn.pairs.items ++ map (λ m. pair l.proto (name_by l.names (word l.text m.name))) (take l.m-index l.members)

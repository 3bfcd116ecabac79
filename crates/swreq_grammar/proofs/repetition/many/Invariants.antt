use Rattle.std.proofs.Common.{◌≡◌, ◌-◌, length}
use Rattle.swreq_grammar.specs.Grammar.{unlimited}
use Rattle.swreq_grammar.specs.Reader.{read_parts}
use Rattle.swreq_grammar.proofs.Repeating.{with_front}
use Rattle.swreq_grammar.proofs.repetition.many.Given as goal

abbrev pub invariant-loop : goal.invariant-loop
invariant-loop g l =
    let read = read_parts g.P.Part.number g.P.Part.reads g.P.Part.first_set unlimited in
    with_front l.found.items (read (length l.tokens - l.counter) l.rest) ≡ read (length l.tokens) l.tokens

use Rattle.std.proofs.Common.{◌≡◌, ◌-◌}
use Rattle.swreq_grammar.specs.Grammar.{at_most}
use Rattle.swreq_grammar.specs.Reader.{read_parts}
use Rattle.swreq_grammar.proofs.Repeating.{with_front}
use Rattle.swreq_grammar.proofs.repetition.at_most.Given as goal

abbrev pub invariant-loop : goal.invariant-loop
invariant-loop g l =
    let read = read_parts g.P.Part.number g.P.Part.reads g.P.Part.first_set (at_most l.limit l.label) in
    with_front l.found.items (read (l.limit - l.counter) l.rest) ≡ read l.limit l.tokens

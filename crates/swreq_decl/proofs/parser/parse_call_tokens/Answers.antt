use Rattle.std.proofs.Common.{length, sym, subst, ap, ◌∙◌}
use Rattle.swreq_grammar.specs.Gives.{Fails}
use Rattle.swreq_grammar.specs.Reader.{read_whole}
use Rattle.swreq_decl.specs.Terminals.{number, with_terminals}
use Rattle.swreq_decl.specs.Calls.{calls}
use Rattle.swreq_decl.proofs.AnsweringCalls.{read_are_calls, refused_tells}
use Rattle.swreq_decl.proofs.parser.parse_call_tokens.Goals as goal

pub returns-in-Ok : goal.returns-in-Ok
returns-in-Ok c =
    read_are_calls (with_terminals c.args.text.now c.args.found.now) c.in-Ok.found.items
    (ap (read_whole number calls) (sym (c.deref.ensures.value ∙ c.in_ok-coded.ensures)) ∙ c.in-Ok.ensures)

pub returns : goal.returns
returns c =
    let coded = c.deref.ensures.value ∙ c.in_ok-coded.ensures in
    rw c.refusal_of_calls.ensures (refused_tells (length c.args.text.now) (with_terminals c.args.text.now c.args.found.now) c.in-Err.stop
    (subst (λ ts. Fails c.in-Err.stop (read_whole number calls ts)) coded c.in-Err.ensures))

use Rattle.std.proofs.Common.{length, subst}
use Rattle.swreq_decl.specs.Terminals.{with_terminals}
use Rattle.swreq_decl.specs.Calls.{Tells}
use Rattle.swreq_decl.proofs.AnsweringCalls.{told_calls, told_err, told_lex, told_ok, told_syntax}
use Rattle.swreq_decl.proofs.parser.parse_calls.Goals as goal

pub returns-in-Ok : goal.returns-in-Ok
returns-in-Ok c =
    let text = c.args.text.now in
    let from = c.args.from in
    let found = c.in-Ok.found.items in
    let has = c.in-Ok.ensures.ok in
    let one = c.in-Ok.ensures.tokens in
    let none = c.in-Ok.ensures.refusal in
    let r = c.parse_call_tokens.result in
    let told = subst (λ ts. Tells (length text) (with_terminals text ts) r) c.deref.ensures.value c.parse_call_tokens.ensures in
    record {
      ok = told_ok text from found has one none r told;
      err = told_err text from found has one none r told;
      calls = told_calls text from found has one none r told;
      lex = told_lex text from found has one none r told;
      syntax = told_syntax text from found has one none r told;
    }

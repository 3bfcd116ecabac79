use Rattle.std.proofs.Common.{length, subst}
use Rattle.swreq_decl.specs.Terminals.{with_terminals}
use Rattle.swreq_decl.specs.Skeletons.{Tells}
use Rattle.swreq_decl.proofs.Answering.{told_ok, told_syntax, told_unsupported}
use Rattle.swreq_decl.proofs.parser.parse.Goals as goal

pub returns-in-Ok-clause-ok : goal.returns-in-Ok-clause-ok
returns-in-Ok-clause-ok c =
    told_ok c.args.text.now c.in-Ok.found.items (c.in-Ok.ensures.ok, c.in-Ok.ensures.tokens, c.in-Ok.ensures.refusal) c.parse_tokens.result
    (subst (λ ts. Tells (length c.args.text.now) (with_terminals c.args.text.now ts) c.parse_tokens.result)
    c.deref.ensures.value c.parse_tokens.ensures)

pub returns-in-Ok-clause-syntax : goal.returns-in-Ok-clause-syntax
returns-in-Ok-clause-syntax c =
    told_syntax c.args.text.now c.in-Ok.found.items
    (c.in-Ok.ensures.ok, c.in-Ok.ensures.tokens, c.in-Ok.ensures.refusal) c.parse_tokens.result
    (subst (λ ts. Tells (length c.args.text.now) (with_terminals c.args.text.now ts) c.parse_tokens.result)
    c.deref.ensures.value c.parse_tokens.ensures)

pub returns-in-Ok-clause-unsupported : goal.returns-in-Ok-clause-unsupported
returns-in-Ok-clause-unsupported c =
    told_unsupported c.args.text.now c.in-Ok.found.items
    (c.in-Ok.ensures.ok, c.in-Ok.ensures.tokens, c.in-Ok.ensures.refusal) c.parse_tokens.result
    (subst (λ ts. Tells (length c.args.text.now) (with_terminals c.args.text.now ts) c.parse_tokens.result)
    c.deref.ensures.value c.parse_tokens.ensures)

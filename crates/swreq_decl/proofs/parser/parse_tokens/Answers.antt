use Rattle.std.proofs.Common.{length, sym, subst, ap, ◌∙◌}
use Rattle.swreq_grammar.specs.Gives.{Fails}
use Rattle.swreq_grammar.specs.Reader.{read_whole}
use Rattle.swreq_decl.specs.Terminals.{number, with_terminals}
use Rattle.swreq_decl.specs.Source.{source}
use Rattle.swreq_decl.proofs.Answering.{read_source, refused_source}
use Rattle.swreq_decl.proofs.parser.parse_tokens.Goals as goal

pub returns-in-Ok : goal.returns-in-Ok
returns-in-Ok c =
    read_source (with_terminals c.args.text.now c.args.found.now) c.in-Ok.items.items c.in_ok-skeleton_of-in-Ok.field-0
    (ap (read_whole number source) (sym (c.deref.ensures.value ∙ c.in_ok-coded.ensures)) ∙ c.in-Ok.ensures)
    c.in_ok-skeleton_of-in-Ok.ensures

pub returns : goal.returns
returns c =
    let coded = c.deref.ensures.value ∙ c.in_ok-coded.ensures in
    rw c.refusal.ensures (refused_source (length c.args.text.now) (with_terminals c.args.text.now c.args.found.now) c.in-Err.stop
    (subst (λ ts. Fails c.in-Err.stop (read_whole number source ts)) coded c.in-Err.ensures))

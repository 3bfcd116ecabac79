use Rattle.std.proofs.Common.{sym, ◌∙◌, suc, ◌≡◌, ◌-◌, ◌+◌, length, arith}
use Rattle.std.proofs.lemmas.Result.{err_from_is_err_and}
use Rattle.swreq_grammar.specs.Grammar.{unlimited}
use Rattle.swreq_grammar.specs.Reader.{read_parts}
use Rattle.swreq_grammar.proofs.Repeating.{part_read, part_fails, no_part, tokens_end}
use Rattle.swreq_grammar.proofs.repetition.many.Goals as goal

pub returns-then-not-begins : goal.returns-then-not-begins
returns-then-not-begins g c =
    no_part g.P.Part.number g.P.Part.reads g.P.Part.first_set unlimited (length c.args.tokens.now - c.loop.counter) c.loop.found.items
    c.loop.rest.now (read_parts g.P.Part.number g.P.Part.reads g.P.Part.first_set unlimited (length c.args.tokens.now) c.args.tokens.now)
    (sym c.begins.ensures ∙ c.if-not-begins.true) c.loop.invariant

pub returns-in_err-next : goal.returns-in_err-next
returns-in_err-next g c =
    let p = err_from_is_err_and c.from_residual.result c.from_residual.ensures.1 in
    let z : length c.args.tokens.now - c.loop.counter ≡ suc (length c.args.tokens.now - (c.loop.counter + 1)) = omega arith in
    rw (p.1, p.2) (part_fails g.P.Part.number g.P.Part.reads g.P.Part.first_set unlimited (length c.args.tokens.now - c.loop.counter)
    (length c.args.tokens.now - (c.loop.counter + 1)) c.loop.found.items c.loop.rest.now c.in_err-next.field-0.0
    (read_parts g.P.Part.number g.P.Part.reads g.P.Part.first_set unlimited (length c.args.tokens.now) c.args.tokens.now) z
    (sym c.begins.ensures ∙ c.if-not-begins.false) c.in_err-next.ensures c.loop.invariant)

pub loop-preserved : goal.loop-preserved
loop-preserved g c =
    let z : length c.args.tokens.now - c.loop.counter ≡ suc (length c.args.tokens.now - (c.loop.counter + 1)) = omega arith in
    rw c.in_ok-push.ensures.items (part_read g.P.Part.number g.P.Part.reads g.P.Part.first_set unlimited
    (length c.args.tokens.now - c.loop.counter) (length c.args.tokens.now - (c.loop.counter + 1)) c.loop.found.items c.loop.rest.now
    c.in_ok-next.next c.in_ok-next.others.now (read_parts g.P.Part.number g.P.Part.reads g.P.Part.first_set unlimited
    (length c.args.tokens.now) c.args.tokens.now) z (sym c.begins.ensures ∙ c.if-not-begins.false) c.in_ok-next.ensures c.loop.invariant)

pub returns : goal.returns
returns g c = tokens_end g.P.Part.number g.P.Part.reads g.P.Part.first_set (length c.args.tokens.now - c.loop.counter) c.loop.found.items
    c.loop.rest.now (read_parts g.P.Part.number g.P.Part.reads g.P.Part.first_set unlimited (length c.args.tokens.now) c.args.tokens.now)
    (omega arith) c.loop.invariant

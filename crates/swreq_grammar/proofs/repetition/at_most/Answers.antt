use Rattle.std.proofs.Common.{sym, ◌∙◌, suc, ◌≡◌, ◌-◌, ◌+◌, arith}
use Rattle.std.proofs.lemmas.Result.{err_from_is_err_and}
use Rattle.swreq_grammar.specs.Grammar.{at_most}
use Rattle.swreq_grammar.specs.Reader.{read_parts}
use Rattle.swreq_grammar.proofs.Repeating.{part_read, part_fails, no_part, one_too_many}
use Rattle.swreq_grammar.proofs.repetition.at_most.Goals as goal

pub returns-then-not-begins : goal.returns-then-not-begins
returns-then-not-begins g c =
    no_part g.P.Part.number g.P.Part.reads g.P.Part.first_set (at_most c.args.limit c.args.label)
    (c.args.limit - c.loop.counter) c.loop.found.items c.loop.rest.now (read_parts g.P.Part.number g.P.Part.reads g.P.Part.first_set
    (at_most c.args.limit c.args.label) (c.args.limit) c.args.tokens.now) (sym c.begins.ensures ∙ c.if-not-begins.true) c.loop.invariant

pub returns-in_err-next : goal.returns-in_err-next
returns-in_err-next g c =
    let p = err_from_is_err_and c.from_residual.result c.from_residual.ensures.1 in
    let z : c.args.limit - c.loop.counter ≡ suc (c.args.limit - (c.loop.counter + 1)) = omega arith in
    rw (p.1, p.2) (part_fails g.P.Part.number g.P.Part.reads g.P.Part.first_set (at_most c.args.limit c.args.label)
    (c.args.limit - c.loop.counter) (c.args.limit - (c.loop.counter + 1)) c.loop.found.items c.loop.rest.now c.in_err-next.field-0.0
    (read_parts g.P.Part.number g.P.Part.reads g.P.Part.first_set (at_most c.args.limit c.args.label) (c.args.limit) c.args.tokens.now) z
    (sym c.begins.ensures ∙ c.if-not-begins.false) c.in_err-next.ensures c.loop.invariant)

pub loop-preserved : goal.loop-preserved
loop-preserved g c =
    let z : c.args.limit - c.loop.counter ≡ suc (c.args.limit - (c.loop.counter + 1)) = omega arith in
    rw c.in_ok-push.ensures.items (part_read g.P.Part.number g.P.Part.reads g.P.Part.first_set (at_most c.args.limit c.args.label)
    (c.args.limit - c.loop.counter) (c.args.limit - (c.loop.counter + 1)) c.loop.found.items c.loop.rest.now c.in_ok-next.next
    c.in_ok-next.others.now (read_parts g.P.Part.number g.P.Part.reads g.P.Part.first_set (at_most c.args.limit c.args.label)
    (c.args.limit) c.args.tokens.now) z (sym c.begins.ensures ∙ c.if-not-begins.false) c.in_ok-next.ensures c.loop.invariant)

pub returns-then-begins : goal.returns-then-begins
returns-then-begins g c = one_too_many g.P.Part.number g.P.Part.reads g.P.Part.first_set c.args.limit (c.args.limit - c.loop.counter)
    c.args.label c.loop.found.items c.loop.rest.now (read_parts g.P.Part.number g.P.Part.reads g.P.Part.first_set (at_most c.args.limit
    c.args.label) (c.args.limit) c.args.tokens.now) (sym c.begins-2.ensures ∙ c.if-begins.true) (omega arith) c.loop.invariant

pub returns : goal.returns
returns g c = no_part g.P.Part.number g.P.Part.reads g.P.Part.first_set (at_most c.args.limit c.args.label)
    (c.args.limit - c.loop.counter) c.loop.found.items c.loop.rest.now (read_parts g.P.Part.number g.P.Part.reads g.P.Part.first_set
    (at_most c.args.limit c.args.label) (c.args.limit) c.args.tokens.now) (sym c.begins-2.ensures ∙ c.if-begins.false) c.loop.invariant

use Rattle.std.proofs.Common.{◌∙◌, sym, subst}
use Rattle.std.proofs.lemmas.Bool.{false≢true}
use Rattle.std.proofs.lemmas.List.{take_rest}
use Rattle.std.proofs.lemmas.Slice.Eq.{bytes_eq-Decides}
use Rattle.swreq_text.specs.Lines.{IsFirstLine}
use Rattle.swreq_text.specs.Divided.{divider}
use Rattle.swreq_text.proofs.Divided.{found, lines-divided, nowhere, searched_more}
use Rattle.swreq_text.proofs.division.parts.Goals as goal

pub returns-then-eq-clause-parts : goal.returns-then-eq-clause-parts
returns-then-eq-clause-parts c =
    let line = c.in-Some.found.line.now in
    let rest = c.in-Some.found.rest.now in
    let first = subst (λ z. IsFirstLine z line rest) (take_rest c.args.input.now c.loop-found.at) c.in-Some.ensures.first in
    found c.args.input.now c.loop-found.at line rest c.loop-found.invariant first
    ((bytes_eq-Decides line divider).0 (sym c.eq.ensures ∙ c.if-eq.true))

pub returns-then-eq-clause-lines : goal.returns-then-eq-clause-lines
returns-then-eq-clause-lines c =
    let line = c.in-Some.found.line.now in
    let rest = c.in-Some.found.rest.now in
    let first = subst (λ z. IsFirstLine z line rest) (take_rest c.args.input.now c.loop-found.at) c.in-Some.ensures.first in
    lines-divided c.args.input.now _ rest
    (found c.args.input.now c.loop-found.at line rest c.loop-found.invariant first
    ((bytes_eq-Decides line divider).0 (sym c.eq.ensures ∙ c.if-eq.true)))

pub loop-found-preserved : goal.loop-found-preserved
loop-found-preserved c =
    let line = c.in-Some.found.line.now in
    let rest = c.in-Some.found.rest.now in
    let first = subst (λ z. IsFirstLine z line rest) (take_rest c.args.input.now c.loop-found.at) c.in-Some.ensures.first in
    searched_more c.args.input.now c.loop-found.at line rest c.loop-found.invariant first
    (λ same. false≢true (sym c.if-eq.false ∙ c.eq.ensures ∙ (bytes_eq-Decides line divider).1 same))

pub returns-clause-parts : goal.returns-clause-parts
returns-clause-parts c =
    nowhere c.args.input.now c.loop-found.at c.loop-found.invariant (sym (take_rest c.args.input.now c.loop-found.at)
    ∙ c.in_default.ensures.first)

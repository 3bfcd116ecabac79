use Rattle.std.proofs.Common.{◌+◌, ◌∷◌, [], ⊎_elim, ap, subst, sym, arith, length, length-append, Contains}
use Rattle.std.proofs.lemmas.List.Elements.{Contains-append_cases}
use Rattle.std.proofs.lemmas.Result.{err_from_is_err_and}
use Rattle.swreq_print.specs.swreq_derive.declared.lines.Line.{Line}
use Rattle.swreq_print.proofs.swreq_lemmas.Members.{only_member}
use Rattle.swreq_print.proofs.swreq_param.Growing.{onward}
use Rattle.swreq_text.proofs.Lined.{rest_shorter}
use Rattle.swreq_lines.specs.LineTexts.{HasLineIds}
use Rattle.swreq_lines.proofs.Grown.{line_ids, lines_still}
use Rattle.swreq_lines.proofs.SoFar.{refused_at, with_line}
use Rattle.swreq_lines.proofs.lines.read_lines.Goals as goal

pub returns-in_err-line-clause-refused : goal.returns-in_err-line-clause-refused
returns-in_err-line-clause-refused c =
    let found = c.in-Some.found in
    let count = c.loop-found.invariant.count in
    let len = c.len.ensures in
    let short = c.requires.short in
    let p = err_from_is_err_and c.from_residual.result c.from_residual.ensures.1 in
    rw (p.1, p.2) (refused_at c.args.names.now c.loop-found.table c.args.text.now c.loop-found.rest.now found.line.now found.rest.now
    c.loop-found.lines.items
    (c.len.result + 1) c.in_err-line.field-0.0 c.loop-found.invariant.so_far
    (omega (arith, count, len, short)) c.in-Some.ensures.lines (omega (arith, len))
    c.in_err-line.ensures.refused)

pub loop-found-preserved : goal.loop-found-preserved
loop-found-preserved c =
    let x = c.args.names.now in
    let old = c.loop-found.table in
    let new = c.good_line.new.table in
    let items = c.loop-found.lines.items in
    let line = c.in_ok-line.line in
    let rest = c.loop-found.rest.now in
    let found = c.in-Some.found in
    let grown = c.in_ok-line.ensures.extends in
    let kept : (q : Line) → Contains items q → HasLineIds x new q =
    λ q there. line_ids old new grown x q (c.loop-found.invariant.ids q there) in
    let put = c.in_ok-push.ensures.items in
    let len = c.len.ensures in
    let shorter = rest_shorter rest found.line.now found.rest.now c.in-Some.ensures.first in
    let count = c.loop-found.invariant.count in
    let more = ap length put in
    record {
      ids = λ q there. ⊎_elim (kept q) (λ last. subst (HasLineIds x new) (sym (only_member line q last)) c.in_ok-line.ensures.ids)
          (Contains-append_cases items (line ∷ []) q (subst (λ z. Contains z q) put there));
      extends = onward c.args.table.now old new c.loop-found.invariant.extends grown;
      so_far = with_line x old new c.args.text.now rest found.line.now found.rest.now items c.push.new.self.items line (c.len.result + 1)
          c.loop-found.invariant.so_far (lines_still old new grown x items c.loop-found.invariant.ids)
          c.in-Some.ensures.lines (omega (arith, len))
          c.in_ok-line.ensures.line put;
      count = (let one_more = length-append items (line ∷ []) in omega (arith, count, shorter, more, one_more));
    }

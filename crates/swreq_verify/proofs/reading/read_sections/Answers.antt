use Rattle.std.proofs.Common.{◌≡◌, ◌∙◌, sym, ap, subst, ℕ, ◌+◌, ◌≤◌, arith, List, [], ◌∷◌, ◌++◌, true, eqb, length}
use Rattle.std.proofs.lemmas.List.{nil_from_length}
use Rattle.std.proofs.lemmas.Bool.{eqb-true, false≢true}
use Rattle.std.proofs.lemmas.Result.{err_from_is_err_and}
use Rattle.swreq_world.proofs.swreq_param.Growing.{onward}
use Rattle.swreq_text.specs.Lines.{lines}
use Rattle.swreq_verify.specs.declared.reading.Section.{Section}
use Rattle.swreq_verify.specs.SecondParts.{IsFirstMisfit}
use Rattle.swreq_verify.proofs.Laid.{IsLaid, all_laid, laid_more, laid_within, misfit_laid, too_many_laid}
use Rattle.swreq_verify.proofs.reading.read_sections.Goals as goal
use Rattle.swreq_verify.proofs.reading.read_sections.Goals.{After-len-in-loop-reader}

-- the sections that are read with the next one
next_laid : (c : After-len-in-loop-reader) → (c.len-in-loop-reader.result ≡ length c.in_ok-next.next.section.derivation.items)
    × IsLaid c.args.names.now c.args.count c.args.text.now c.next_section.new.table
    (c.loop-reader.sections.items ++ (c.in_ok-next.next.section ∷ []))
    (c.loop-reader.before + (length c.in_ok-next.next.section.derivation.items + 1)) c.in_ok-next.next.rest.now
next_laid c =
    let s = c.in_ok-next.next.section in
    let known = s.derivation.ok.0 in
    let own = c.loop-reader.sections.ok.0 in (
      omega (arith, known),
      laid_more c.args.names.now c.args.count c.args.text.now c.loop-reader.table c.next_section.new.table c.loop-reader.sections.items s
          c.loop-reader.before
          c.loop-reader.rest.now c.in_ok-next.next.rest.now c.loop-reader.invariant.1
          (omega (arith, own)) c.in_ok-next.ensures.extends c.in_ok-next.ensures.section
          c.in_ok-next.ensures.front c.in_ok-next.ensures.less,
    )

-- they have no more lines than the text has bytes
next_within : (c : After-len-in-loop-reader) → c.loop-reader.before + (c.len-in-loop-reader.result + 1) ≤ length c.args.text.now
next_within c =
    let next = next_laid c in
    let within =
    laid_within c.args.names.now c.args.count c.args.text.now c.next_section.new.table
    (c.loop-reader.sections.items ++ (c.in_ok-next.next.section ∷ []))
    (c.loop-reader.before + (length c.in_ok-next.next.section.derivation.items + 1)) c.in_ok-next.next.rest.now next.1 in
    let n = next.0 in
    omega arith

pub next_section-requires-clause-before : goal.next_section-requires-clause-before
next_section-requires-clause-before c =
    let within =
    laid_within c.args.names.now c.args.count c.args.text.now c.loop-reader.table c.loop-reader.sections.items c.loop-reader.before
    c.loop-reader.rest.now c.loop-reader.invariant.1 in
    omega arith

pub returns-in_err-next-clause-misfit : goal.returns-in_err-next-clause-misfit
returns-in_err-next-clause-misfit c n e =
    let p = err_from_is_err_and c.from_residual.result c.from_residual.ensures.1 in
    let w = c.in_err-next.ensures.misfit n (cc (p.1, p.2, e)) in
    let own = c.loop-reader.sections.ok.0 in
    subst (IsFirstMisfit c.args.names.now c.args.count (lines c.args.text.now)) (sym w.2)
    (misfit_laid c.args.names.now c.args.count c.args.text.now c.loop-reader.table c.loop-reader.sections.items c.loop-reader.before w.0
    c.loop-reader.rest.now
    c.loop-reader.invariant.1 (omega (arith, own)) w.1)

pub overflow_cast-before : goal.overflow_cast-before
overflow_cast-before c = let within = next_within c in omega arith

pub overflow_add-before : goal.overflow_add-before
overflow_add-before c = let within = next_within c in omega arith

pub overflow_add-before-in-loop-reader : goal.overflow_add-before-in-loop-reader
overflow_add-before-in-loop-reader c = let within = next_within c in omega arith

pub loop-reader-preserved : goal.loop-reader-preserved
loop-reader-preserved c =
    let next = next_laid (goal.at.loop-reader-preserved c).After-len-in-loop-reader in
    let left = c.in_ok-next.next.rest.now in
    let all = subst (λ (ss : List Section). IsLaid c.args.names.now c.args.count c.args.text.now c.next_section.new.table ss
    (c.loop-reader.before + (length c.in_ok-next.next.section.derivation.items + 1)) left) (sym c.in_ok-push.ensures.items) next.1 in (
      onward c.args.table.now c.loop-reader.table c.next_section.new.table c.loop-reader.invariant.0 c.in_ok-next.ensures.extends,
      subst (λ (k : ℕ).
          IsLaid c.args.names.now c.args.count c.args.text.now c.next_section.new.table c.push.new.self.items
          (c.loop-reader.before + (k + 1)) left) (sym next.0) all,
    )

pub returns-then-is_empty-clause-sections : goal.returns-then-is_empty-clause-sections
returns-then-is_empty-clause-sections c =
    let rest = c.loop-reader.rest.now in
    let own = c.loop-reader.sections.ok.0 in
    let empty : eqb (length rest) 0 ≡ true = sym c.is_empty.ensures ∙ c.if-is_empty.true in
    all_laid c.args.names.now c.args.count c.args.text.now c.loop-reader.table c.loop-reader.sections.items c.loop-reader.before rest
    c.loop-reader.invariant.1
    (omega (arith, own)) (nil_from_length rest (eqb-true (length rest) 0 empty))

pub overflow_add-result : goal.overflow_add-result
overflow_add-result c =
    let within =
    laid_within c.args.names.now c.args.count c.args.text.now c.loop-reader.table c.loop-reader.sections.items c.loop-reader.before
    c.loop-reader.rest.now c.loop-reader.invariant.1 in
    omega arith

pub returns-clause-misfit : goal.returns-clause-misfit
returns-clause-misfit c n e =
    let rest = c.loop-reader.rest.now in
    let own = c.loop-reader.sections.ok.0 in
    let same : c.loop-reader.before + 1 ≡ n = cc in
    let some = λ (none : rest ≡ []).
    let empty : eqb (length rest) 0 ≡ true = ap (λ (z : List ℕ). eqb (length z) 0) none in
    false≢true (sym c.if-is_empty.false ∙ c.is_empty.ensures ∙ empty) in
    subst (IsFirstMisfit c.args.names.now c.args.count (lines c.args.text.now)) same
    (too_many_laid c.args.names.now c.args.count c.args.text.now c.loop-reader.table c.loop-reader.sections.items c.loop-reader.before rest
    c.loop-reader.invariant.1 (omega (arith, own)) some)

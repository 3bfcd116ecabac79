use Rattle.std.proofs.Common.{◌≡◌, ◌∙◌, ◌++◌, ap, codes, sym, true≢false}
use Rattle.std.proofs.lemmas.Bool.Decides.{Decides-eqb}
use Rattle.std.proofs.lemmas.Result.{IfOk-weaker}
use Rattle.std.proofs.lemmas.Slice.Eq.{slice_eq-Decides}
use Rattle.swreq_print.specs.swreq_derive.Derivation.{TermStatement}
use Rattle.swreq_print.specs.swreq_derive.Derivation.TermRequirement.{Equals}
use Rattle.swreq_print.specs.swreq_derive.Derivation.TermStatement.{IsValid, Requires}
use Rattle.swreq_print.specs.swreq_param.Owned.{as_term}
use Rattle.swreq_print.specs.Names.{Text}
use Rattle.swreq_lines.specs.GoodLines.{IsReadableStatement}
use Rattle.swreq_lines.specs.LineTexts.{statement_text}
use Rattle.swreq_lines.specs.Written.{property_of}
use Rattle.swreq_lines.proofs.StatementWords.{IsStated, colon, equals, neither, stated, subject}
use Rattle.swreq_lines.proofs.statements.read_statement.Goals as goal
use Rattle.swreq_lines.proofs.statements.read_statement.Goals.{After-eq}

-- The subject is read, and the mark and what follows it are those of the statement.
abbrev IsRead : After-eq → TermStatement → Text → Type 0
IsRead c st rest =
    IsStated c.args.reader.now.tells_apart c.next_word-subject.result.piece.now c.next_word-mark.result.piece.now
    c.next_word-mark.result.rest.now rest st
    × (as_term c.in_ok-t.t ≡ subject c.args.reader.now.tells_apart st)

read : (c : After-eq) (st : TermStatement) (rest : Text) → IsReadableStatement c.args.reader.now.names.now st
    → c.args.text.now ≡ statement_text c.args.reader.now.names.now st ++ (codes " by " ++ rest) → IsRead c st rest
read c st rest h e =
    let s =
    stated c.args.reader.now.tells_apart c.args.text.now c.next_word-subject.result.piece.now c.next_word-subject.result.rest.now
    c.next_word-mark.result.piece.now c.next_word-mark.result.rest.now rest c.next_word-subject.ensures.piece
    c.next_word-mark.ensures.piece st h e in
    (s, c.in_ok-t.ensures (subject c.args.reader.now.tells_apart st) s.readable s.piece_is)

pub returns-then-eq : goal.returns-then-eq
returns-then-eq c st rest h e =
    let r = read (goal.at.returns-then-eq c).After-eq st rest h e in
    let is_colon = (slice_eq-Decides Decides-eqb _ _ _ c.eq.ensures).0 c.if-eq.true ∙ c.as_slice.ensures in
    let k =
    colon c.args.reader.now.tells_apart c.next_word-mark.result.piece.now c.next_word-mark.result.rest.now rest st r.0.marked is_colon in
    let b = c.behind_colon.ensures k.0 rest k.1 k.3 in
    (b.0 ∙ ap (λ t. property_of t k.0) r.1 ∙ sym k.2, b.1)

pub returns-then-eq-2 : goal.returns-then-eq-2
returns-then-eq-2 c st rest h e =
    let r = read (goal.at.returns-then-eq-2 c).After-eq st rest h e in
    let are_equals = (slice_eq-Decides Decides-eqb _ _ _ c.eq-2.ensures).0 c.if-eq-2.true ∙ c.as_slice-2.ensures in
    let k =
    equals c.args.reader.now.tells_apart c.next_word-mark.result.piece.now c.next_word-mark.result.rest.now rest st r.0.marked are_equals in
    IfOk-weaker c.behind_equals.result _ _ (λ o b. (b.0 ∙ ap (λ t. Requires (Equals t k.0)) r.1 ∙ sym k.2, b.1))
    (c.behind_equals.ensures k.0 rest k.1 k.3)

pub returns : goal.returns
returns c st rest h e =
    let r = read (goal.at.returns c).After-eq st rest h e in
    let one = slice_eq-Decides Decides-eqb _ _ _ c.eq.ensures in
    let two = slice_eq-Decides Decides-eqb _ _ _ c.eq-2.ensures in
    let k = neither c.args.reader.now.tells_apart c.next_word-mark.result.piece.now c.next_word-mark.result.rest.now rest st r.0.marked
    (λ m. true≢false (sym (one.1 (m ∙ sym c.as_slice.ensures)) ∙ c.if-eq.false))
    (λ m. true≢false (sym (two.1 (m ∙ sym c.as_slice-2.ensures)) ∙ c.if-eq-2.false)) in
    (ap IsValid r.1 ∙ sym k.0, k.1)

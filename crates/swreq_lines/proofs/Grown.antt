-- What stays the same in a table that begins with the old one.
use Rattle.std.proofs.Common.{◌≡◌, ◌∷◌, [], refl, ap, ap₂, List, map, Contains}
use Rattle.swreq_print.specs.swreq_derive.declared.lines.Line.{Line}
use Rattle.swreq_print.specs.swreq_derive.declared.requirements.Statement.{Statement}
use Rattle.swreq_print.specs.swreq_derive.declared.requirements.Statement.TheVariants.{Holds, Valid}
use Rattle.swreq_print.specs.swreq_derive.Derivation.TermStatement.{IsValid, Requires}
use Rattle.swreq_print.specs.swreq_derive.Facts.{statement_of}
use Rattle.swreq_print.specs.swreq_derive.Lines.{line_of}
use Rattle.swreq_print.specs.swreq_lexicon.Views.{LexiconView}
use Rattle.swreq_print.specs.swreq_param.Tables.{Extends}
use Rattle.swreq_print.specs.swreq_param.Terms.{Term}
use Rattle.swreq_print.proofs.swreq_lowering.Growing.{ids_stay, of_stays, requirement_stays}
use Rattle.swreq_print.proofs.swreq_lemmas.Members.{first_member, later_member}
use Rattle.swreq_lines.specs.LineTexts.{HasLineIds, HasStatementIds}

module _ (old new : List Term) (grown : Extends old new) where
  pub statement_still : (st : Statement) → HasStatementIds old st → statement_of new st ≡ statement_of old st
  statement_still (Valid t) h = ap IsValid (grown.stands t h)
  statement_still (Holds r) h = ap Requires (requirement_stays old new r grown h)

  statement_ids : (st : Statement) → HasStatementIds old st → HasStatementIds new st
  statement_ids (Valid t) h = of_stays old new t grown h
  statement_ids (Holds r) h = ids_stay old new r grown h

  pub line_ids : (x : LexiconView) (l : Line) → HasLineIds x old l → HasLineIds x new l
  line_ids x l h = (h.0, statement_ids l.statement h.1)

  pub line_still : (x : LexiconView) (l : Line) → HasLineIds x old l → line_of new l ≡ line_of old l
  line_still x l h = ap (λ st. record { rule = l.rule; premises = l.premises; statement = st }) (statement_still l.statement h.1)

  pub lines_still : (x : LexiconView) (ls : List Line) → ((l : Line) → Contains ls l → HasLineIds x old l)
      → map (line_of new) ls ≡ map (line_of old) ls
  lines_still x [] h = refl
  lines_still x (l ∷ ls) h =
      ap₂ (λ a b. a ∷ b) (line_still x l (h l (first_member l ls))) (lines_still x ls (λ k c. h k (later_member l k ls c)))

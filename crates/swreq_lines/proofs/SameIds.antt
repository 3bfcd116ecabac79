-- Lines over one table that stand for the same are the same.
use Rattle.std.proofs.Common.{◌≡◌, ◌∷◌, [], refl, ap, ap₂, List, map, Contains}
use Rattle.swreq_print.specs.swreq_derive.declared.lines.Line.{Line}
use Rattle.swreq_print.specs.swreq_derive.declared.requirements.Requirement.{Requirement}
use Rattle.swreq_print.specs.swreq_derive.declared.requirements.Requirement.TheVariants.{Conf, Layout, Same}
use Rattle.swreq_print.specs.swreq_derive.declared.requirements.Statement.{Statement}
use Rattle.swreq_print.specs.swreq_derive.declared.requirements.Statement.TheVariants.{Holds, Valid}
use Rattle.swreq_print.specs.swreq_derive.Facts.{requirement_of, statement_of}
use Rattle.swreq_print.specs.swreq_derive.Instances.{TermLine}
use Rattle.swreq_print.specs.swreq_derive.Lines.{line_of}
use Rattle.swreq_print.specs.swreq_lexicon.Views.{LexiconView}
use Rattle.swreq_print.specs.swreq_lowering.ByTable.{HasIdsOf}
use Rattle.swreq_print.proofs.swreq_lemmas.Members.{first_member, later_member}
use Rattle.swreq_print.specs.swreq_param.Tables.{AreDistinct, term_at}
use Rattle.swreq_print.specs.swreq_param.Terms.{Term}
use Rattle.swreq_lines.specs.LineTexts.{HasLineIds, HasStatementIds}

module _ (terms : List Term) (distinct : AreDistinct terms) where
  same_requirement : (r q : Requirement) → HasIdsOf terms r → HasIdsOf terms q → requirement_of terms r ≡ requirement_of terms q → r ≡ q
  same_requirement (Conf t p) (Conf u q) h k e =
      let subject : term_at terms t ≡ term_at terms u = cc in
      let proto : p ≡ q = cc in
      ap₂ Conf (distinct t u h k subject) proto
  same_requirement (Conf t p) (Layout u) h k e = cc
  same_requirement (Conf t p) (Same u v) h k e = cc
  same_requirement (Layout t) (Conf u q) h k e = cc
  same_requirement (Layout t) (Layout u) h k e =
      let subject : term_at terms t ≡ term_at terms u = cc in ap Layout (distinct t u h k subject)
  same_requirement (Layout t) (Same u v) h k e = cc
  same_requirement (Same t s) (Conf u q) h k e = cc
  same_requirement (Same t s) (Layout u) h k e = cc
  same_requirement (Same t s) (Same u v) h k e =
      let left : term_at terms t ≡ term_at terms u = cc in
      let right : term_at terms s ≡ term_at terms v = cc in
      ap₂ Same (distinct t u h.0 k.0 left) (distinct s v h.1 k.1 right)

  same_statement : (a b : Statement) → HasStatementIds terms a → HasStatementIds terms b
      → statement_of terms a ≡ statement_of terms b → a ≡ b
  same_statement (Valid t) (Valid u) h k e = let type : term_at terms t ≡ term_at terms u = cc in ap Valid (distinct t u h k type)
  same_statement (Valid t) (Holds r) h k e = cc
  same_statement (Holds r) (Valid u) h k e = cc
  same_statement (Holds r) (Holds q) h k e =
      let requirement : requirement_of terms r ≡ requirement_of terms q = cc in ap Holds (same_requirement r q h k requirement)

  module _ (x : LexiconView) where
    same_line : (l k : Line) → HasLineIds x terms l → HasLineIds x terms k → line_of terms l ≡ line_of terms k → l ≡ k
    same_line l k h j e =
        let rule = ap (λ (z : TermLine). z.rule) e in
        let premises = ap (λ (z : TermLine). z.premises) e in
        let statement = same_statement l.statement k.statement h.1 j.1 (ap (λ (z : TermLine). z.statement) e) in
        λ i. record { rule = rule i; premises = premises i; statement = statement i }

    pub same_lines : (ls ks : List Line) → ((l : Line) → Contains ls l → HasLineIds x terms l)
        → ((k : Line) → Contains ks k → HasLineIds x terms k)
        → map (line_of terms) ls ≡ map (line_of terms) ks → ls ≡ ks
    same_lines [] [] h j e = refl
    same_lines [] (k ∷ ks) h j e = cc
    same_lines (l ∷ ls) [] h j e = cc
    same_lines (l ∷ ls) (k ∷ ks) h j e =
        let first : line_of terms l ≡ line_of terms k = cc in
        let rest : map (line_of terms) ls ≡ map (line_of terms) ks = cc in
        ap₂ (λ a b. a ∷ b) (same_line l k (h l (first_member l ls)) (j k (first_member k ks)) first)
        (same_lines ls ks (λ q c. h q (later_member l q ls c)) (λ q c. j q (later_member k q ks c)) rest)

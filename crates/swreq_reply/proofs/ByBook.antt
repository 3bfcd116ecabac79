-- What is answered with the guard is answered by the book's rules.
use Rattle.std.proofs.Common.{◌↔◌, ℕ, true, false, List, [], ◌∷◌, map, Contains}
use Rattle.std.proofs.lemmas.List.Elements.{All-contains, Contains-get_or}
use Rattle.swreq_print.specs.swreq_derive.Derivation.{BookDerivable, Derivable, TermStatement}
use Rattle.swreq_print.specs.swreq_derive.WellFormed.{IsWellFormed}
use Rattle.swreq_valid.proofs.swreq_derive.Guard.{from_function}
use Rattle.swreq_print.proofs.swreq_lemmas.Members.{first_member, later_member, contains_map}
use Rattle.swreq_print.specs.Names.{Text}
use Rattle.swreq_print.specs.swreq_lowering.Queries.{TermAsks, TermQuery}
use Rattle.swreq_print.specs.swreq_lowering.Queries.TermAsks.{AsksSignature}
use Rattle.swreq_valid.specs.swreq_world.Closed.{IsClosed, IsQueryOf}
use Rattle.swreq_valid.specs.swreq_world.Worlds.{TextWorld, no_signature, signature_at}
use Rattle.swreq_valid.specs.swreq_symbols.Meaning.{facts_of}
use Rattle.swreq_query.specs.Answers.{Answer}
use Rattle.swreq_query.specs.Answers.Answer.{Invalid, Yes, No}
use Rattle.swreq_query.proofs.Along.{along}
use Rattle.swreq_valid.specs.swreq_world.FactsAt.{source_of}
use Rattle.swreq_check.specs.Lines.{Counted}
use Rattle.swreq_check.specs.declared.content.Backing.{Backing}
use Rattle.swreq_check.specs.declared.content.Backing.TheVariants.{Nothing}
use Rattle.swreq_check.specs.declared.content.Content.{Content}
use Rattle.swreq_check.specs.declared.content.Content.TheVariants.{Answers}
use Rattle.swreq_check.specs.declared.content.Shown.TheVariants.{Counts, Each}
use Rattle.swreq_reply.specs.Inputs.{Parts}
use Rattle.swreq_reply.specs.Outputs.{AnswersLast, ArePrinted, IsOutput}
use Rattle.swreq_check.specs.QueryLines.{HasAnswer, IsLineOf, IsLineWhere}
use Rattle.swreq_reply.proofs.Counted.{counted_by}
use Rattle.swreq_check.proofs.Lines.{lines_by}

-- ---- by the book's rules

-- and so its list is one of the text
pub asked_list : (w : TextWorld) (q : TermQuery) → IsQueryOf w q
    → Contains (map source_of w.signatures) (source_of (signature_at w q.f))
asked_list w q of =
    contains_map source_of w.signatures (signature_at w q.f) (Contains-get_or w.signatures q.f.place no_signature of.0)

module _ (w : TextWorld) (formed : IsWellFormed (facts_of w) (map source_of w.signatures)) where
  -- with the guard and without it a query has the same answer
  answer_by_book : (q : TermQuery) (a : Answer) → IsQueryOf w q → HasAnswer w true a q ↔ HasAnswer w false a q
  answer_by_book q a of = (
    along _ _ (λ st. (same st).1) (λ st. (same st).0) q.asks a,
    along _ _ (λ st. (same st).0) (λ st. (same st).1) q.asks a,
  )
    where
      same : (st : TermStatement) → BookDerivable (facts_of w) (source_of (signature_at w q.f)) st
          ↔ Derivable (facts_of w) (source_of (signature_at w q.f)) st
      same st = from_function (facts_of w) (map source_of w.signatures)
          (source_of (signature_at w q.f)) st formed (asked_list w q of)

  line_by_book : (b : Backing) (q : TermQuery) (piece : Text) → IsQueryOf w q → IsLineOf w true b q piece → IsLineOf w false b q piece
  line_by_book b q piece of = by q.asks
    where
      by : (a : TermAsks) → IsLineWhere w true a b q piece → IsLineWhere w false a b q piece
      by AsksSignature h = h
      by _ h = (h.0, h.1, (answer_by_book q h.0 of).0 h.2, h.3, h.4)

  module _ (closed : IsClosed w) where
    of_world : (q : TermQuery) → Contains w.queries q → IsQueryOf w q
    of_world q c = All-contains (IsQueryOf w) w.queries q closed.queries c

    last_by_book : (qs : List TermQuery) (line : Text) → ((q : TermQuery) → Contains qs q → IsQueryOf w q) → AnswersLast w true qs line
        → AnswersLast w false qs line
    last_by_book [] line of h = h
    last_by_book (q ∷ []) line of h = line_by_book Nothing q line (of q (first_member q [])) h
    last_by_book (q ∷ r ∷ qs) line of h = last_by_book (r ∷ qs) line (λ p c. of p (later_member q p (r ∷ qs) c)) h

    -- what is printed is by the book's rules
    printed_by_book : (c : Content) (parts : Parts) (pieces : List Text) → ArePrinted w true c parts pieces
        → ArePrinted w false c parts pieces
    printed_by_book (Answers (Each b)) parts pieces h =
        lines_by (IsLineOf w true b) (IsLineOf w false b) (λ q piece c is. line_by_book b q piece (of_world q c) is) h
    printed_by_book (Answers (Counts n)) parts pieces h = record {
      yes_count = h.yes_count;
      no_count = h.no_count;
      invalid_count = h.invalid_count;
      last = h.last;
      say_yes = counted Yes h.say_yes;
      say_no = counted No h.say_no;
      say_invalid = counted Invalid h.say_invalid;
      ends = last_by_book w.queries h.last of_world h.ends;
      pieces_are = h.pieces_are;
    }
      where
        counted : (a : Answer) {n : ℕ} → Counted (HasAnswer w true a) w.queries n → Counted (HasAnswer w false a) w.queries n
        counted a so = counted_by (HasAnswer w true a) (HasAnswer w false a) (λ q c. (answer_by_book q a (of_world q c)).0)
            (λ q c. (answer_by_book q a (of_world q c)).1) so
    printed_by_book _ parts pieces h = h

    pub by_book : (c : Content) (parts : Parts) (output : Text) → IsOutput w true c parts output → IsOutput w false c parts output
    by_book c parts output (pieces, h, e) = (pieces, printed_by_book c parts pieces h, e)

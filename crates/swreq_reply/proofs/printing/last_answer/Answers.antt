use Rattle.std.proofs.Common.{◌≡◌, ◌≢◌, ◌-◌, List, [], ◌∷◌, arith, get_or, length, refl, subst, suc, true, zero, ℕ}
use Rattle.swreq_print.specs.swreq_lowering.Queries.{TermQuery}
use Rattle.swreq_print.specs.Names.{Text}
use Rattle.swreq_valid.specs.swreq_world.Worlds.{TextWorld}
use Rattle.swreq_reply.specs.Outputs.{AnswersLast}
use Rattle.swreq_check.specs.QueryLines.{IsLineOf}
use Rattle.swreq_valid.specs.swreq_symbols.Texts.{world_of}
use Rattle.swreq_reply.specs.Pieces.{query_at}
use Rattle.swreq_check.specs.declared.content.Backing.{Backing}
use Rattle.swreq_check.specs.declared.content.Backing.TheVariants.{Nothing}
use Rattle.swreq_reply.proofs.Printed.{queries_counted}
use Rattle.swreq_reply.proofs.printing.last_answer.Goals as goal

-- the line of the query at the last place answers the last query
at_end : (w : TextWorld) (qs : List TermQuery) (d : TermQuery) (line : Text) (n : ℕ) → suc n ≡ length qs
    → IsLineOf w true Nothing (get_or qs n d) line
    → AnswersLast w true qs line
at_end w [] d line n e h = absurd (omega (arith, e))
at_end w (q ∷ []) d line n e h =
    let none : n ≡ 0 = omega (arith, e) in subst (λ (k : ℕ). IsLineOf w true Nothing (get_or (q ∷ []) k d) line) none h
at_end w (q ∷ r ∷ qs) d line zero e h = absurd (omega (arith, e))
at_end w (q ∷ r ∷ qs) d line (suc n) e h = at_end w (r ∷ qs) d line n (omega (arith, e)) h

none_asked : (w : TextWorld) (qs : List TermQuery) → length qs ≡ 0 → AnswersLast w true qs []
none_asked w [] e = refl
none_asked w (q ∷ qs) e = absurd (omega (arith, e))

pub returns-then-count-eq0 : goal.returns-then-count-eq0
returns-then-count-eq0 c =
    let m = c.args.m.now in
    none_asked (world_of m.text) (world_of m.text).queries
    (omega (arith, queries_counted _ _ c.m.view_is _ c.queries-count.ensures, c.if-count-eq0.true))

pub returns : goal.returns
returns c =
    let m = c.args.m.now in
    let count = length c.queries-count.result.now in
    at_end (world_of m.text) (world_of m.text).queries _ c.answer_at.result.now (count - 1)
    (some count (world_of m.text).queries c.if-count-eq0.false
    (queries_counted _ _ c.m.view_is _ c.queries-count.ensures))
    (subst (λ (b : Backing). IsLineOf (world_of m.text) true b (query_at m (count - 1)) c.answer_at.result.now)
    c.requires.plain c.answer_at.ensures)
  where
    some : (n : ℕ) (qs : List TermQuery) → n ≢ 0 → n ≡ length qs → suc (n - 1) ≡ length qs
    some n qs other same = omega (arith, other, same)

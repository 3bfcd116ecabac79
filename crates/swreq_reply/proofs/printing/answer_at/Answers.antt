use Rattle.std.proofs.Common.{◌≡◌, ◌∙◌, ◌<◌, List, Option, ap, get_or, length, subst, sym, true, ℕ}
use Rattle.swreq_print.specs.swreq_lowering.declared.ids.FuncId.{FuncId}
use Rattle.swreq_print.specs.swreq_lowering.declared.ids.Query.{Query}
use Rattle.swreq_check.specs.Contents.{backing_of}
use Rattle.swreq_check.specs.Made.{line_at, text_at}
use Rattle.swreq_check.specs.QueryLines.{IsLineOf}
use Rattle.swreq_valid.specs.swreq_symbols.Texts.{world_of}
use Rattle.swreq_reply.specs.Pieces.{IsWhole, MadeView, query_at}
use Rattle.swreq_check.specs.Wanted.{list_asked}
use Rattle.swreq_reply.proofs.Printed.{by_list, by_piece, has_place}
use Rattle.swreq_print.specs.swreq_lowering.ByTable.{no_query}
use Rattle.swreq_reply.proofs.printing.answer_at.Goals as goal

-- what the query at a place asks is asked of the text
asks : (v m : MadeView) (read : List Query) (k : ℕ) (found o : Option FuncId) → v ≡ m → read ≡ v.text.world.now.queries
    → found ≡ list_asked (get_or read k no_query)
    → found ≡ o → list_asked (get_or m.text.world.now.queries k no_query) ≡ o
asks v m read k found o opened same e is =
    sym (e ∙ ap (λ (all : List Query). list_asked (get_or all k no_query)) (same ∙ ap (λ (z : MadeView). z.text.world.now.queries) opened))
    ∙ is

pub line_at-requires : goal.line_at-requires
line_at-requires c =
    subst (λ (m : MadeView). c.in-Some.f.place < length m.lists) (sym c.m.view_is)
    (by_list c.args.m.now (subst IsWhole c.m.view_is c.m.invariant) c.requires.answers c.args.k c.requires.k c.in-Some.f
    (asks _ _ _ _ _ _ c.m.view_is c.queries.ensures c.list_asked.ensures c.in-Some.is)).0

pub returns-in-Some : goal.returns-in-Some
returns-in-Some c =
    let m = c.args.m.now in
    subst (IsLineOf (world_of m.text) true (backing_of m.content) (query_at m c.args.k))
    (sym (c.line_at.ensures ∙ ap (λ (z : MadeView). line_at z.lists c.in-Some.f.place) c.m.view_is))
    (by_list m (subst IsWhole c.m.view_is c.m.invariant) c.requires.answers c.args.k c.requires.k c.in-Some.f
    (asks _ _ _ _ _ _ c.m.view_is c.queries.ensures c.list_asked.ensures c.in-Some.is)).1

pub text_at-requires : goal.text_at-requires
text_at-requires c =
    subst (λ (m : MadeView). c.args.k < length m.pieces) (sym c.m.view_is)
    (has_place c.args.m.now (subst IsWhole c.m.view_is c.m.invariant) c.requires.answers c.args.k c.requires.k)

pub returns-in-None : goal.returns-in-None
returns-in-None c =
    let m = c.args.m.now in
    subst (IsLineOf (world_of m.text) true (backing_of m.content) (query_at m c.args.k))
    (sym (c.text_at.ensures ∙ ap (λ (z : MadeView). text_at z.pieces c.args.k) c.m.view_is))
    (by_piece m (subst IsWhole c.m.view_is c.m.invariant) c.requires.answers c.args.k c.requires.k
    (asks _ _ _ _ _ _ c.m.view_is c.queries.ensures c.list_asked.ensures c.in-None.is))

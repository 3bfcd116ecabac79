use Rattle.std.proofs.Common.{◌≡◌, ◌∙◌, List, Some, slice_get, Contains, sym, subst}
use Rattle.swreq_rank.proofs.Rising.{IsRising, rising_from_sorted}
use Rattle.swreq_rank.proofs.Search.{is_found, is_absent}
use Rattle.swreq_rank.proofs.ranked.Ranked.find.Goals as goal

pub returns-in-Ok : goal.returns-in-Ok
returns-in-Ok g c =
    let same = c.as_slice.ensures.value ∙ c.self.view_is in
    subst (λ (xs : List g.row.T.Denot). slice_get xs c.in-Ok.rank ≡ Some c.args.item.now) same
    (is_found g.T.Ord.cmp g.met.T.Ord.total c.requires c.as_slice.result.now (subst (IsRising g.T.Ord.cmp) (sym c.as_slice.ensures.value)
    (rising_from_sorted g.T.Ord.cmp c.self.inside.sorted.items c.self.invariant)) c.args.item.now c.in-Ok.rank
    c.in-Ok.ensures.bound c.in-Ok.ensures.ok)

pub returns-in-Err : goal.returns-in-Err
returns-in-Err g c =
    let same = c.as_slice.ensures.value ∙ c.self.view_is in
    subst (λ (xs : List g.row.T.Denot). Contains xs c.args.item.now → ⊥) same
    (is_absent g.T.Ord.cmp g.met.T.Ord.total c.requires c.as_slice.result.now (subst (IsRising g.T.Ord.cmp) (sym c.as_slice.ensures.value)
    (rising_from_sorted g.T.Ord.cmp c.self.inside.sorted.items c.self.invariant)) c.args.item.now c.in-Err.field-0
    c.in-Err.ensures.position)

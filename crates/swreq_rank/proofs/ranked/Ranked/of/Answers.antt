use Rattle.std.proofs.Common.{◌∙◌, ◌↔◌, List, Contains, sym, subst}
use Rattle.std.specs.List.Sorted.{IsStrictlySortedBy}
use Rattle.std.proofs.lemmas.List.Filters.{dedup_is}
use Rattle.std.proofs.lemmas.List.Kept.{IsStrictlySortedBy-dedup, Contains-dedup, Contains-from_dedup}
use Rattle.std.proofs.lemmas.List.Sorted.{IsPermutation-sym, Contains-permutation}
use Rattle.swreq_lemmas.proofs.Orderings.{is_equal}
use Rattle.swreq_rank.proofs.ranked.Ranked.of.Goals as goal

pub invariant_of-result : goal.invariant_of-result
invariant_of-result g c =
    let kept = dedup_is g.T.PartialEq.eq c.sort_unstable.new.self.items c.dedup.new.self.items c.dedup.ensures.filtered in
    subst (IsStrictlySortedBy g.T.Ord.cmp) (sym kept)
    (IsStrictlySortedBy-dedup g.met.T.Ord.total g.met.T.Ord.matches_eq c.sort_unstable.new.self.items c.sort_unstable.ensures.sorted)

pub returns-clause-same : goal.returns-clause-same
returns-clause-same g c =
    let sorted = c.sort_unstable.new.self.items in
    let kept = dedup_is g.T.PartialEq.eq sorted c.dedup.new.self.items c.dedup.ensures.filtered in
    subst (λ (xs : List g.row.T.Denot). (x : g.row.T.Denot) → Contains xs x ↔ Contains c.args.items.items x) (sym kept) (λ x. (
      λ h.
          Contains-permutation sorted c.args.items.items x (IsPermutation-sym c.args.items.items sorted c.sort_unstable.ensures.permutation)
          (Contains-from_dedup g.T.PartialEq.eq sorted x h),
      λ h. Contains-dedup g.met.T.Eq.laws
          (λ y z e. c.requires y z (is_equal (g.T.Ord.cmp y z) (sym (g.met.T.Ord.matches_eq y z) ∙ e))) sorted x
          (Contains-permutation c.args.items.items sorted x c.sort_unstable.ensures.permutation h),
    ))

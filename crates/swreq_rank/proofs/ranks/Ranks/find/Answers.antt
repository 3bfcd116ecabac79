use Rattle.std.proofs.Common.{◌≡◌, ◌∙◌, List, Some, slice_get, Contains, sym, subst, rules}
use Rattle.std.proofs.lemmas.Cmp.{nat_list_cmp_total}
use Rattle.std.proofs.lemmas.Fn.{always_returns_same}
use Rattle.swreq_rank.specs.Ranks.{Bytes, bytes_cmp}
use Rattle.swreq_rank.proofs.Names.{bytes_apart}
use Rattle.swreq_rank.proofs.Rising.{IsRising, rising_from_sorted}
use Rattle.swreq_rank.proofs.Search.{is_found, is_absent}
use Rattle.swreq_rank.proofs.ranks.Ranks.find.Goals as goal

pub returns-in-Ok : goal.returns-in-Ok
returns-in-Ok c =
    let names = c.items-names.result.now in
    let rising =
    subst (IsRising bytes_cmp) (sym c.items-names.ensures.items) (rising_from_sorted bytes_cmp _ c.items-names.ensures.sorted) in
    let at =
    c.in-Ok.ensures.position (λ probe. bytes_cmp probe c.args.name.now) (always_returns_same _ _ _ (λ a r g called. search rules)) in
    subst (λ (xs : List Bytes). slice_get xs c.in-Ok.rank ≡ Some c.args.name.now) (c.items-names.ensures.items ∙ c.self.view_is)
    (is_found bytes_cmp nat_list_cmp_total bytes_apart names rising c.args.name.now c.in-Ok.rank c.in-Ok.ensures.bound at)

pub returns-in-Err : goal.returns-in-Err
returns-in-Err c =
    let names = c.items-names.result.now in
    let rising =
    subst (IsRising bytes_cmp) (sym c.items-names.ensures.items) (rising_from_sorted bytes_cmp _ c.items-names.ensures.sorted) in
    let at =
    c.in-Err.ensures.position (λ probe. bytes_cmp probe c.args.name.now) (always_returns_same _ _ _ (λ a r g called. search rules)) in
    subst (λ (xs : List Bytes). Contains xs c.args.name.now → ⊥) (c.items-names.ensures.items ∙ c.self.view_is)
    (is_absent bytes_cmp nat_list_cmp_total bytes_apart names rising c.args.name.now c.in-Err.field-0 at)

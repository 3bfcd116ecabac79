use Rattle.std.proofs.Common.{◌-◌, ◌≤◌, ◌==◌, ℕ, length, drop, option_copied, sym, subst, Contains, arith}
use Rattle.std.proofs.lemmas.List.Filters.{dedup_is}
use Rattle.std.proofs.lemmas.Map.Keys.{IsStrictlyIncreasing-dedup}
use Rattle.std.specs.List.{dedup}
use Rattle.swreq_complete.specs.swreq_word.declared.symbols.Symbol.{Symbol}
use Rattle.swreq_map.specs.Follows.{AreConforming, IsKept, IsMapOf, MapView}
use Rattle.swreq_map.specs.Properties.{ArePropertiesOf}
use Rattle.swreq_map.proofs.Finding.{all_conforming, sorted_conforming}
use Rattle.swreq_map.proofs.map.PropertyMap.properties.Goals as goal

pub returns : goal.returns
returns c =
    let rules = c.args.rules.now in
    let u = c.args.u.now in
    let m : MapView = record { protocols = c.self.inside.protocols; below = option_copied c.self.inside.below; own = c.self.inside.own } in
    let symbols = c.in_ok-candidates.candidates.items in
    let sorted = c.sort_unstable.new.self.items in
    let once = dedup_is ◌==◌ sorted c.dedup.new.self.items c.dedup.ensures.filtered in
    let followers : (at : ℕ) (x : Symbol) → length u - c.longest-longest.result ≤ at
    → at ≤ length u → IsKept m (drop at u) x → Contains symbols x =
    λ at x from to kept. c.in_ok-candidates.ensures at x (omega (arith, from, c.saturating_sub-from.ensures)) to
    (subst (λ (n : MapView). IsKept n (drop at u) x) c.self.view_is kept) in
    let found = subst (λ xs. AreConforming rules m.protocols u xs c.in_ok-protocols.protocols.items) c.deref.ensures.value
    c.in_ok-protocols.ensures.found in
    let are =
    sorted_conforming rules m.protocols u symbols c.in_ok-protocols.protocols.items sorted found c.sort_unstable.ensures.permutation in
    subst (λ (n : MapView). ArePropertiesOf rules n.protocols u (record { protocols = c.new.result; layout = c.has-layout.result }))
    c.self.view_is
    (subst (λ ps. ArePropertiesOf rules m.protocols u (record { protocols = ps; layout = c.has-layout.result })) (sym c.new.ensures)
    (subst (λ ps. ArePropertiesOf rules m.protocols u (record { protocols = ps; layout = c.has-layout.result })) (sym once) (record {
      protocols_are = all_conforming rules c.count-complete.ensures.complete m
          (subst (IsMapOf rules) (sym c.self.view_is) c.requires.map) u c.requires.least
          c.longest-longest.result c.longest-longest.ensures symbols (dedup ◌==◌ sorted) followers are;
      ascending = IsStrictlyIncreasing-dedup sorted c.sort_unstable.ensures.sorted;
      layout_is = c.has-layout.ensures.answer;
    })))

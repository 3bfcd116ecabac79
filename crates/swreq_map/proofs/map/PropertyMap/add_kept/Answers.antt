use Rattle.std.proofs.Common.{◌≡◌, ◌++◌, inl, inr, Contains, List, sym, subst}
use Rattle.std.proofs.lemmas.List.Elements.{Contains-append_left, Contains-append_right}
use Rattle.swreq_complete.specs.swreq_word.declared.symbols.Symbol.{Symbol}
use Rattle.swreq_map.specs.Follows.{Follows, MapView}
use Rattle.swreq_map.proofs.map.PropertyMap.add_kept.Goals as goal

-- what stands in a list stands there after two lists have been put after it, and so does what stands in one of the two
module _ (old below own middle new : List Symbol) (x : Symbol) where
  all_kept : middle ≡ old ++ below → new ≡ middle ++ own → Contains old x → Contains new x
  all_kept m n h =
      subst (λ xs. Contains xs x) (sym n)
      (Contains-append_left middle own x (subst (λ xs. Contains xs x) (sym m) (Contains-append_left old below x h)))

  below_added : middle ≡ old ++ below → new ≡ middle ++ own → Contains below x → Contains new x
  below_added m n h =
      subst (λ xs. Contains xs x) (sym n)
      (Contains-append_left middle own x (subst (λ xs. Contains xs x) (sym m) (Contains-append_right old below x h)))

  own_added : new ≡ middle ++ own → Contains own x → Contains new x
  own_added n h = subst (λ xs. Contains xs x) (sym n) (Contains-append_right middle own x h)

pub returns-clause-added : goal.returns-clause-added
returns-clause-added c x kept = elim kept [
  | inl f ↦ below_added c.args.found.now.items c.below.result.now c.with.result.now c.extend_from_slice.new.self.items
      c.extend_from_slice-2.new.self.items x c.in_ok-extend_from_slice.ensures.items c.in_ok-extend_from_slice-2.ensures.items
      (c.below.ensures x f)
  | inr f ↦ (let inside = subst (λ (m : MapView). Follows m.own.words m.own.lists c.args.word.now x) (sym c.self.view_is) f in
      own_added c.args.found.now.items c.below.result.now c.with.result.now c.extend_from_slice.new.self.items
      c.extend_from_slice-2.new.self.items x c.in_ok-extend_from_slice-2.ensures.items (c.with.ensures x inside))
]

pub returns-clause-kept : goal.returns-clause-kept
returns-clause-kept c x f =
    all_kept c.args.found.now.items c.below.result.now c.with.result.now c.extend_from_slice.new.self.items
    c.extend_from_slice-2.new.self.items x c.in_ok-extend_from_slice.ensures.items c.in_ok-extend_from_slice-2.ensures.items f

use Rattle.std.proofs.Common.{◌≡◌, ◌∙◌, ◌⊎◌, ◌↔◌, ℕ, List, [], get_or, Contains, subst, refl}
use Rattle.swreq_names.proofs.Declaring.{names_more, no_names, all_names_in}
use Rattle.swreq_names.proofs.declarers.add_names.Goals as goal

pub loop-item-init : goal.loop-item-init
loop-item-init c = record {
  len = refl;
  added = λ r q is j. no_names c.args.items.now c.args.place j q;
}

pub loop-item-preserved : goal.loop-item-preserved
loop-item-preserved c = record {
  len = c.in_ok-add_name.ensures.len ∙ c.loop-item.invariant.len;
  added = λ r q is j.
      names_more c.args.items.now c.loop-item.item-index c.args.place j c.item-item.result q c.loop-item-test.true c.item-item.is
      (subst (λ (n : List ℕ). Contains (get_or c.add_name.new.lists r []) j
      ↔ (Contains (get_or c.loop-item.lists r []) j ⊎ ((j ≡ c.args.place) × (q ≡ n)))) c.items.ensures
      (c.in_ok-add_name.ensures.added r q is j))
      (c.loop-item.invariant.added r q is j);
}

pub returns-clause-added : goal.returns-clause-added
returns-clause-added c r q is j =
    all_names_in c.args.items.now c.loop-item.item-index c.args.place j q c.loop-item-test.false (c.loop-item.invariant.added r q is j)

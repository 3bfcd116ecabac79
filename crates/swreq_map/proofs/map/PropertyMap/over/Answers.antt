use Rattle.std.proofs.Common.{inl, inr, Contains, drop, subst, sym, take, take-append-drop}
use Rattle.std.proofs.lemmas.List.Elements.{Contains-append_cases}
use Rattle.swreq_map.proofs.map.PropertyMap.over.Goals as goal

pub returns-clause-map : goal.returns-clause-map
returns-clause-map c rule v x is e p =
    let rules = c.args.rules.now in
    let n = c.args.count in
    elim (Contains-append_cases (take n rules) (drop n rules) rule
    (subst (λ xs. Contains xs rule) (sym (take-append-drop n rules)) is)) [
      | inl i ↦ inl (c.requires.below rule v x i e p)
      | inr i ↦ inr (c.in_ok-own.ensures rule v x i e p)
    ]

use Rattle.std.proofs.Common.{◌≡◌, ◌<◌, ◌-◌, ◌∙◌, ◌++◌, ◌∷◌, [], length, rules, arith, ap, get_or}
use Rattle.swreq_homotopy.specs.swreq_word.declared.symbols.Symbol.TheVariants.{Proto}
use Rattle.swreq_minimal.proofs.Speaking.{front_differs, nothing_behind, with_last}
use Rattle.swreq_minimal.proofs.rule_requirement.behind.Goals as goal

pub returns-then-is_empty : goal.returns-then-is_empty
returns-then-is_empty c =
    let e : length c.args.left.now ≡ 0 = search rules in
    nothing_behind c.args.left.now c.args.right.now e

pub returns-then-are_same : goal.returns-then-are_same
returns-then-are_same c =
    let l : 0 < length c.args.left.now = search rules in
    with_last c.args.left.now (length c.args.left.now - 1) (Proto 0) (omega (arith, l))
    ∙ ap (λ z. z ++ get_or c.args.left.now (length c.args.left.now - 1) (Proto 0) ∷ []) (c.are_same.ensures.0 c.if-are_same.true)

pub returns-else-are_same : goal.returns-else-are_same
returns-else-are_same c =
    let l : 0 < length c.args.left.now = search rules in
    front_differs c.args.left.now c.args.right.now (length c.args.left.now - 1) (Proto 0) (omega (arith, l))
    (λ e. let a = c.are_same.ensures.1 e in let b = c.if-are_same.false in cc)

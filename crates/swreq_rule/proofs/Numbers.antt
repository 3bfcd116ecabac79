-- Rules by their numbers, counted from 1.
use Rattle.std.proofs.Common.{◌≡◌, ℕ, ◌+◌, ◌-◌, ◌<◌, ◌≤◌, refl, arith, List, length, Some}
use Rattle.std.specs.List.{slice_get}
use Rattle.std.proofs.Math.ListN.{get_or}
use Rattle.std.proofs.lemmas.Option.{slice_get_within, slice_get_read}
use Rattle.swreq_rule.specs.declared.rules.Rule.{Rule}
use Rattle.swreq_rule.specs.Steps.{RuleAt}

pub rule_at : (rules : List Rule) (k : ℕ) (r : Rule) → slice_get rules k ≡ Some r → RuleAt rules (k + 1) r
rule_at rules k r e = (k, omega arith, e)

-- the rule that the code reads
pub rule_read : (rules : List Rule) (n : ℕ) (r : Rule) → 0 < n → n ≤ length rules → r ≡ get_or rules (n - 1) r → RuleAt rules n r
rule_read rules n r a b e = (n - 1, omega arith, slice_get_read rules (length rules) (n - 1) r refl (omega arith) e)

-- a number is that of one rule, and of a rule of the list
pub one_rule : (rules : List Rule) (n : ℕ) (a b : Rule) → RuleAt rules n a → RuleAt rules n b → a ≡ b
one_rule rules n a b p q =
    let e : p.0 ≡ q.0 = (let f = p.1 in let g = q.1 in omega (arith, f, g)) in
    let f = p.2 in let g = q.2 in
    let h : slice_get rules p.0 ≡ Some b = rw e g in
    cc

pub number_some : (rules : List Rule) (n : ℕ) (r : Rule) → RuleAt rules n r → 0 < n
number_some rules n r a = let e = a.1 in omega (arith, e)

pub number_within : (rules : List Rule) (n : ℕ) (r : Rule) → RuleAt rules n r → n ≤ length rules
number_within rules n r a = let e = a.1 in let l = slice_get_within rules a.0 r a.2 in omega (arith, e, l)

-- what is read at the number of a rule is that rule
pub rule_there : (rules : List Rule) (n : ℕ) (q r : Rule) → RuleAt rules n q → r ≡ get_or rules (n - 1) r → RuleAt rules n r
rule_there rules n q r is = rule_read rules n r (number_some rules n q is) (number_within rules n q is)

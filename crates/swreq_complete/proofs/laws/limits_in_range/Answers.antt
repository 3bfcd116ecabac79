use Rattle.std.proofs.Common.{◌≤◌, ℕ, arith, refl}
use Rattle.swreq_complete.specs.declared.limit.Limits.{Limits}
use Rattle.swreq_complete.proofs.laws.limits_in_range.Goals as goal

-- this many rules, with this many symbols on the left
abbrev limits_of : (rules symbols : ℕ) → (1 ≤ rules) × (rules ≤ 100000) × (1 ≤ symbols) × (symbols ≤ 255) → Limits
limits_of rules symbols within = record { max_rules = rules; max_length = symbols; in_range = within }

pub returns-clause-least : goal.returns-clause-least
returns-clause-least c = (limits_of 1 1 (omega arith, omega arith, omega arith, omega arith), refl, refl)

pub returns-clause-greatest : goal.returns-clause-greatest
returns-clause-greatest c = (limits_of 100000 255 (omega arith, omega arith, omega arith, omega arith), refl, refl)

pub returns-clause-no_rules : goal.returns-clause-no_rules
returns-clause-no_rules c h = let l = h.0.in_range.0 in let e = h.1 in omega (arith, l, e)

pub returns-clause-no_symbols : goal.returns-clause-no_symbols
returns-clause-no_symbols c h = let l = h.0.in_range.2 in let e = h.2 in omega (arith, l, e)

pub returns-clause-too_many : goal.returns-clause-too_many
returns-clause-too_many c h = let l = h.0.in_range.1 in let e = h.1 in omega (arith, l, e)

pub returns-clause-too_long : goal.returns-clause-too_long
returns-clause-too_long c h = let l = h.0.in_range.3 in let e = h.2 in omega (arith, l, e)

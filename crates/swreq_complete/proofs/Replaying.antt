-- What is told of a completion, read back.
use Rattle.std.proofs.Common.{◌≡◌, ℕ, refl, sym, ◌∙◌, ap, arith, List, [], ◌∷◌, ◌++◌, length, map, drop, take-append-drop}
use Rattle.swreq_rule.specs.swreq_word.declared.symbols.Symbol.{Symbol}
use Rattle.swreq_rule.specs.declared.rules.Rule.{Rule}
use Rattle.swreq_watch.specs.declared.events.Event.{Event}
use Rattle.swreq_watch.specs.declared.events.Event.TheVariants.{Born, Start}
use Rattle.swreq_complete.specs.declared.limit.Limits.{Limits}
use Rattle.swreq_complete.specs.declared.limit.Which.TheVariants.{Length, Rules}
use Rattle.swreq_complete.specs.Laws.{EventsTellTraces, RulesComeFirst}
use Rattle.swreq_complete.specs.Reached.{BeginsWith}

pub rules_come_first : (limits : Limits) (base : ℕ) (given : List (List Symbol × List Symbol)) (trace : List Rule)
    → RulesComeFirst limits base given trace
rules_come_first limits base given trace Rules p more = refl
rules_come_first limits base given trace Length p more = let e = p.is_last in let few = p.passes.0 in absurd (omega (arith, e, few, more))

-- the rules that are born
born_in : List Event → List Rule
born_in [] = []
born_in (Start base ∷ events) = born_in events
born_in (Born rule ∷ events) = rule ∷ born_in events

born_in_all : (rules : List Rule) → born_in (map Born rules) ≡ rules
unfolding born_in
born_in_all [] = refl
born_in_all (rule ∷ rules) = ap (λ rs. rule ∷ rs) (born_in_all rules)

-- over how many rules the first event starts
start_in : List Event → ℕ
start_in [] = 0
start_in (Start base ∷ events) = base
start_in (Born rule ∷ events) = 0

base_and_rest : (base trace : List Rule) → BeginsWith base trace → base ++ drop (length base) trace ≡ trace
base_and_rest base trace h = ap (λ rs. rs ++ drop (length base) trace) (sym h) ∙ take-append-drop (length base) trace

pub events_tell_traces : (base trace other_base other : List Rule) → EventsTellTraces base trace other_base other
unfolding born_in start_in
events_tell_traces base trace other_base other begins begins_too same =
    let rest : drop (length base) trace ≡ drop (length other_base) other
    = sym (born_in_all (drop (length base) trace)) ∙ ap born_in same ∙ born_in_all (drop (length other_base) other) in (
      ap start_in same,
      λ e. sym (base_and_rest base trace begins) ∙ (λ i. e i ++ rest i) ∙ base_and_rest other_base other begins_too,
    )

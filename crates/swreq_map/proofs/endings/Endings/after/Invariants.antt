use Rattle.std.proofs.Common.{◌≡◌, ℕ, ◌<◌, ◌≤◌, List, [], ◌∷◌, ◌++◌, slice_get, Some}
use Rattle.swreq_complete.specs.swreq_word.declared.symbols.Symbol.{Symbol}
use Rattle.swreq_complete.specs.swreq_word.Interned.{AreDistinct}
use Rattle.swreq_complete.specs.swreq_rule.declared.rules.Rule.{Rule}
use Rattle.swreq_map.specs.Follows.{Follows}
use Rattle.swreq_map.specs.Properties.{IsProperty}
use Rattle.swreq_map.proofs.endings.Endings.after.Given as goal

abbrev pub invariant-loop-k : goal.invariant-loop-k
invariant-loop-k l = record {
  kept : (n : ℕ) (rule : Rule) (v : List Symbol) (x : Symbol) → l.from ≤ n → n < l.k → slice_get l.rules n ≡ Some rule
      → rule.left ≡ v ++ x ∷ [] → IsProperty l.protocols x → Follows l.words l.lists.items v x;
  distinct : AreDistinct l.words;
}

-- Parts of least words, and the associated type that is first after a word.
use Rattle.std.proofs.Common.{◌≡◌, inl, inr, sym, subst, List, ◌++◌, arith}
use Rattle.swreq_correspondence.specs.swreq_param.declared.ids.AssocId.{AssocId}
use Rattle.swreq_correspondence.specs.swreq_param.declared.ids.NameId.{NameId}
use Rattle.swreq_correspondence.specs.swreq_word.Order.{WordLess}
use Rattle.swreq_correspondence.proofs.swreq_word.Comparing.{less_after, not_below_itself, not_both_below, trichotomy}
use Rattle.swreq_complete.specs.swreq_rule.declared.rules.Rule.{Rule}
use Rattle.swreq_complete.proofs.swreq_rule.Context.{Linked-after}
use Rattle.swreq_world.specs.swreq_lexicon.Views.{LexiconView}
use Rattle.swreq_correspondence.specs.Symbols.{Word}
use Rattle.swreq_correspondence.proofs.OneType.{one_assoc}
use Rattle.swreq_symbols.specs.Vanishing.{IsFirstBehind, IsLeastBy}

-- the front of a least word is least
pub prefix_least : (rules : List Rule) (front rest : Word) → IsLeastBy rules (front ++ rest) → IsLeastBy rules front
prefix_least rules front rest least v l = elim (trichotomy v front) [
  | inl below ↦ absurd (elim (least (v ++ rest) (Linked-after rest l)) [
    | inl e ↦ not_below_itself (v ++ rest) (subst (λ z. WordLess (v ++ rest) z) (sym e) (less_after rest v front below))
    | inr h ↦ not_both_below (front ++ rest) (v ++ rest) h (less_after rest v front below)
  ])
  | inr k ↦ elim k [ inl e ↦ inl e | inr above ↦ inr above ]
]

-- there is one first associated type
pub one_first : (x : LexiconView) (rules : List Rule) (w : Word) (a : NameId) (d e : AssocId) → IsFirstBehind x rules w a d
    → IsFirstBehind x rules w a e → d ≡ e
one_first x rules w a d e h k =
    let l = h.first e k.given in
    let r = k.first d h.given in
    let same : d.rank ≡ e.rank = omega (arith, l, r) in
    one_assoc same

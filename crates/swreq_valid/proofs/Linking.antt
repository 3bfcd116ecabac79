-- Words are linked by their least words.
use Rattle.std.proofs.Common.{◌≡◌, sym, subst, Bool, List}
use Rattle.std.specs.Bool.{Decides}
use Rattle.swreq_complete.proofs.swreq_word.Chains.{linked_back, linked_on}
use Rattle.swreq_complete.specs.swreq_rule.declared.rules.Rule.{Rule}
use Rattle.swreq_rounds.specs.swreq_correspondence.Symbols.{Word}
use Rattle.swreq_symbols.specs.Vanishing.{IsLeastBy, Links}
use Rattle.swreq_symbols.proofs.Walking.{one_least}

-- words are linked where their least words are the same
pub linked_by_least : (rules : List Rule) (u v a b : Word) (r : Bool) → Links rules u a → Links rules v b
    → IsLeastBy rules a → IsLeastBy rules b
    → Decides r (a ≡ b) → Decides r (Links rules u v)
linked_by_least rules u v a b r p q l n d = (
  (λ e. linked_on p (linked_back (subst (λ z. Links rules v z) (sym (d.0 e)) q))),
  λ k. d.1 (one_least rules a b l n (linked_on (linked_back p) (linked_on k q))),
)

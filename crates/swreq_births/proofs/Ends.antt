-- Words that reduce to one, and where their reductions end.
use Rattle.std.proofs.Common.{◌≡◌, ◌∙◌, List, subst}
use Rattle.swreq_correspondence.specs.swreq_word.declared.symbols.Symbol.{Symbol}
use Rattle.swreq_complete.specs.{swreq_rule.{declared.rules.Rule.{Rule}, Reduction.{Reduces}}, Alike.{ReduceAlike}}
use Rattle.swreq_complete.specs.swreq_path.{declared.paths.Path.{Path}, Paths.{HasTarget}}
use Rattle.swreq_complete.proofs.{swreq_path.Leading.{one_end}, swreq_rule.Remaining.{one_result}}

pub alike_back : (rules : List Rule) (u v : List Symbol) → ReduceAlike rules u v → ReduceAlike rules v u
alike_back rules u v h = (h.0, h.2, h.1)

-- two words that reduce to one word reduce to no other
pub one_reduct : (rules : List Rule) (u v m n : List Symbol) → ReduceAlike rules u v → Reduces rules u m → Reduces rules v n → m ≡ n
one_reduct rules u v m n h p q = one_result rules u m h.0 p h.1 ∙ one_result rules v h.0 n h.2 q

-- the word that a path of reductions leads to is the word that its start reduces to
pub ends_at : {rules taken : List Rule} (path : Path) (u m end : List Symbol) → rules ≡ taken
    → (w : List Symbol) × HasTarget rules path w × Reduces rules u w → Reduces taken u m → HasTarget taken path end → m ≡ end
ends_at {rules} {taken} path u m end same h p q =
    one_result taken u m h.0 p (subst (λ z. Reduces z u h.0) same h.2)
    ∙ one_end taken path.steps path.start h.0 end (subst (λ z. HasTarget z path h.0) same h.1) q

-- What reduction shows of type parameters, from what the code decides.
use Rattle.std.proofs.Common.{◌≡◌, ◌↔◌, ◌∙◌, sym, subst, Bool, IsTrue, List, slice_get, Some, Result, Ok, Err, IfOk}
use Rattle.std.specs.declared.alloc.AllocError.{AllocError}
use Rattle.swreq_complete.proofs.swreq_lemmas.Elements.{get_contains}
use Rattle.swreq_rounds.specs.swreq_param.declared.ids.AssocId.{AssocId}
use Rattle.swreq_rounds.specs.swreq_param.declared.ids.NameId.{NameId}
use Rattle.swreq_rounds.specs.swreq_param.declared.ids.Step.{Step}
use Rattle.swreq_rounds.specs.swreq_param.declared.ids.Step.TheVariants.{Bound, Name}
use Rattle.swreq_rounds.specs.swreq_param.Terms.{Term}
use Rattle.swreq_rounds.specs.swreq_param.Terms.Term.{Member}
use Rattle.swreq_complete.specs.swreq_word.declared.symbols.Symbol.{Symbol}
use Rattle.swreq_complete.specs.swreq_rule.declared.rules.Rule.{Rule}
use Rattle.swreq_complete.specs.swreq_rule.Reduction.{Reduces}
use Rattle.swreq_complete.proofs.swreq_rule.Remaining.{one_result}
use Rattle.swreq_complete.specs.Alike.{ReduceAlike}
use Rattle.swreq_world.specs.swreq_lexicon.declared.pair.ProtocolName.{ProtocolName}
use Rattle.swreq_world.specs.swreq_lexicon.Views.{IsProtocol, LexiconView}
use Rattle.swreq_symbols.specs.declared.over.Over.{Over}
use Rattle.swreq_symbols.proofs.Giving.{assoc_answer, given_answer}
use Rattle.swreq_world.specs.Closed.{AreIds}
use Rattle.swreq_world.specs.Worlds.{TextWorld}
use Rattle.swreq_valid.specs.ByReduction.{HasStepOf, IsGivenOf, ReducesConformance, ReducesValid}

-- words reduce alike where their reducts are one
pub alike_by : (rules : List Rule) (u v m n : List Symbol) → Reduces rules u m → Reduces rules v n → (b : Bool) → IsTrue b ↔ (m ≡ n)
    → IsTrue b ↔ ReduceAlike rules u v
alike_by rules u v m n p q b e = (
  (λ h. (m, p, subst (Reduces rules v) (sym (e.0 h)) q)),
  λ a. e.1 (one_result rules u m a.0 p a.1 ∙ sym (one_result rules v n a.0 q a.2)),
)

-- ---- results

module _ (x : LexiconView) (rules : List Rule) (over : Over) (t : Term) where
  pub given_result : (a : NameId) (d : AssocId) (e : ProtocolName) (r : Result Bool AllocError) → slice_get x.associated d.rank ≡ Some e
      → e.name.rank ≡ a.rank → IfOk r (λ b. IsTrue b ↔ ReducesConformance x rules over t e.proto)
      → IfOk r (λ b. IsTrue b ↔ IsGivenOf x rules over t a d)
  given_result a d e (Ok b) at named h = given_answer x (ReducesConformance x rules over t) a d e b at named h
  given_result a d e (Err f) at named h = tt

  pub assoc_result : (d : AssocId) (e : ProtocolName) (r : Result Bool AllocError) → slice_get x.associated d.rank ≡ Some e
      → IfOk r (λ b. IsTrue b ↔ ReducesConformance x rules over t e.proto) → IfOk r (λ b. IsTrue b ↔ HasStepOf x rules over t (Bound d))
  assoc_result d e (Ok b) at h = assoc_answer x (ReducesConformance x rules over t) d e b at h
  assoc_result d e (Err f) at h = tt

-- the protocol of an associated type is of the text
pub in_text : (x : LexiconView) → AreIds x → (d : AssocId) (e : ProtocolName)
    → slice_get x.associated d.rank ≡ Some e → IsProtocol x e.proto
in_text x ids d e at = (ids.associated e (get_contains x.associated d.rank e at)).0

-- ---- members

module _ (w : TextWorld) (rules : List Rule) (over : Over) where
  member_valid : (t : Term) (s : Step) → ReducesValid w rules over t → HasStepOf w.lexicon rules over t s
      → ReducesValid w rules over (Member t s)
  member_valid t (Name a) v (d, (p, h, k)) = (v, (p, d, h, k))
  member_valid t (Bound d) v (a, (p, h, k)) = (v, (p, a, h, k))

  base_valid : (t : Term) (s : Step) → ReducesValid w rules over (Member t s) → ReducesValid w rules over t
  base_valid t (Name a) h = h.0
  base_valid t (Bound d) h = h.0

  valid_step : (t : Term) (s : Step) → ReducesValid w rules over (Member t s) → HasStepOf w.lexicon rules over t s
  valid_step t (Name a) (v, (p, d, h, k)) = (d, (p, h, k))
  valid_step t (Bound d) (v, (p, a, h, k)) = (a, (p, h, k))

  pub member_answer : (t u : Term) (s : Step) → t ≡ Member u s → (r : Bool) → ReducesValid w rules over u
      → IsTrue r ↔ HasStepOf w.lexicon rules over u s → IsTrue r ↔ ReducesValid w rules over t
  member_answer t u s e r v h = (
    (λ k. subst (ReducesValid w rules over) (sym e) (member_valid u s v (h.0 k))),
    λ k. h.1 (valid_step u s (subst (ReducesValid w rules over) e k)),
  )

  pub member_result : (t u : Term) (s : Step) → t ≡ Member u s → (r : Result Bool AllocError) → ReducesValid w rules over u
      → IfOk r (λ b. IsTrue b ↔ HasStepOf w.lexicon rules over u s) → IfOk r (λ b. IsTrue b ↔ ReducesValid w rules over t)
  member_result t u s e (Ok b) v h = member_answer t u s e b v h
  member_result t u s e (Err f) v h = tt

  pub no_member : (t u : Term) (s : Step) → t ≡ Member u s → (ReducesValid w rules over u → ⊥) → ReducesValid w rules over t → ⊥
  no_member t u s e n k = n (base_valid u s (subst (ReducesValid w rules over) e k))

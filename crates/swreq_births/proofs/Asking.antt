-- What words ask of the type parameter after which they are read.
use Rattle.std.proofs.Common.{◌≡◌, inl, inr, ℕ, ◌<◌, Bool, true, false, List, [], ◌∷◌, ◌++◌, length, take, slice_get, Some, Option, refl}
use Rattle.std.proofs.{Common.{sym, ap, subst, ◌∙◌, arith}, lemmas.Option.{same_Some}}
use Rattle.swreq_param.specs.{declared.ids.ProtoId.{ProtoId}, Terms.{Term}}
use Rattle.swreq_correspondence.specs.swreq_word.declared.symbols.Symbol.{Symbol, TheVariants.{Proto, Member, Param, Name, Layout}}
use Rattle.swreq_correspondence.{specs.swreq_word.Relations.{Chain, Chain.{done, more}}, proofs.swreq_derive.LineLemmas.{get_take}}
use Rattle.swreq_complete.specs.swreq_rule.{declared.rules.Rule.{Rule}, Reduction.{Reduces, ReductionStep}}
use Rattle.swreq_complete.specs.swreq_path.Paths.{replaced_side}
use Rattle.swreq_births.specs.{Systems.{ReducesTo}, Heads.{head_of, IsHeadStated}}
use Rattle.swreq_derivation.specs.{declared.derivation.Derivation.{Derivation}, Origins.{ConformsIfAny}}
use Rattle.swreq_readings.specs.{declared.alphabet.Alphabet.{Alphabet}, Readable.{AllowsWord}}

-- Both words ask the same of the type parameter after which they are read: that it conforms to a protocol, or nothing.
abbrev pub IsHeaded : Alphabet → List Symbol → List Symbol → Type 0
IsHeaded g u v = (h : Option ProtoId) × (head_of g u ≡ Some h) × (head_of g v ≡ Some h)

-- ---- what a word asks

-- a word asks what its front asks
pub head_front : (g : Alphabet) (u v : List Symbol) (h : Option ProtoId) → head_of g u ≡ Some h → head_of g (u ++ v) ≡ Some h
head_front g [] v h e = absurd cc
head_front g (Proto q ∷ u) v h e = e
head_front g (Member k ∷ u) v h e = e
head_front g (Param d i ∷ u) v h e = e
head_front g (Name a ∷ u) v h e = absurd cc
head_front g (Layout ∷ u) v h e = absurd cc

-- a word that asks something is not empty
pub head_some : (g : Alphabet) (u : List Symbol) (h : Option ProtoId) → head_of g u ≡ Some h → 0 < length u
head_some g [] h e = absurd cc
head_some g (x ∷ u) h e = omega arith

-- if lines allow a word, they state what it asks
pub asked_is_said : (g : Alphabet) (s : Derivation) (t : Term) (w : List Symbol) (h : Option ProtoId) → head_of g w ≡ Some h
    → AllowsWord g s t w → ConformsIfAny s t h
asked_is_said g s t [] h e r = absurd cc
asked_is_said g s t (Proto q ∷ w) h e r = subst (ConformsIfAny s t) (same_Some _ h e) r.0
asked_is_said g s t (Member k ∷ w) h e r = subst (ConformsIfAny s t) (same_Some _ h e) r.0.1
asked_is_said g s t (Param d i ∷ w) h e r = subst (ConformsIfAny s t) (same_Some _ h e) tt
asked_is_said g s t (Name a ∷ w) h e r = absurd cc
asked_is_said g s t (Layout ∷ w) h e r = absurd cc

-- both sides of a rule ask the same
pub asked_by_side : (g : Alphabet) (rule : Rule) (forward : Bool) (h : IsHeaded g rule.left rule.right)
    → head_of g (replaced_side forward rule) ≡ Some h.0
asked_by_side g rule true h = h.1
asked_by_side g rule false h = h.2

pub side_allows : (g : Alphabet) (s : Derivation) (t : Term) (rule : Rule) (forward : Bool) (after : List Symbol) → IsHeaded g rule.left
    rule.right
    → AllowsWord g s t (replaced_side forward rule ++ after) → IsHeadStated g s t rule.left
side_allows g s t rule forward after h w = (
  h.0,
  h.1,
  asked_is_said g s t (replaced_side forward rule ++ after) h.0
      (head_front g (replaced_side forward rule) after h.0 (asked_by_side g rule forward h)) w,
)

-- ---- what is asked stays the same along a reduction

-- what a word asks depends only on its first symbol
head_same : (g : Alphabet) (x : Symbol) (u v : List Symbol) → head_of g (x ∷ u) ≡ head_of g (x ∷ v)
head_same g (Proto q) u v = refl
head_same g (Member k) u v = refl
head_same g (Param d i) u v = refl
head_same g (Name a) u v = refl
head_same g Layout u v = refl

-- a front of a word that is not empty asks what the word asks
pub head_of_front : (g : Alphabet) (u v : List Symbol) (h : Option ProtoId) → 0 < length u → head_of g (u ++ v) ≡ Some h
    → head_of g u ≡ Some h
head_of_front g [] v h n e = absurd (omega arith)
head_of_front g (x ∷ u) v h n e = head_same g x u (u ++ v) ∙ e

pub head_put : (g : Alphabet) (before u v after : List Symbol) (h : Option ProtoId) → IsHeaded g u v
    → head_of g (before ++ (u ++ after)) ≡ Some h → head_of g (before ++ (v ++ after)) ≡ Some h
head_put g [] u v after h w e =
    let i : w.0 ≡ h = same_Some _ _ (sym (head_front g u after w.0 w.1) ∙ e) in
    head_front g v after h (w.2 ∙ ap Some i)
head_put g (x ∷ before) u v after h w e = head_same g x (before ++ (v ++ after)) (before ++ (u ++ after)) ∙ e

-- both sides of each of these rules ask the same
abbrev pub AreHeaded : Alphabet → List Rule → Type 0
AreHeaded g rules = (k : ℕ) (rule : Rule) → slice_get rules k ≡ Some rule → IsHeaded g rule.left rule.right

head_step : (g : Alphabet) (rules : List Rule) (u v : List Symbol) (h : Option ProtoId) → AreHeaded g rules → ReductionStep rules u v
    → head_of g u ≡ Some h → head_of g v ≡ Some h
head_step g rules u v h all r e =
    let rule = r.redex.chosen.rule in
    let at = r.redex.chosen.is_rule in
    let b = r.redex.chosen.begins in
    let from : u ≡ r.redex.before ++ (rule.left ++ b.0) = r.redex.cut ∙ ap (λ z. r.redex.before ++ z) b.1 in
    ap (head_of g) r.target ∙ head_put g r.redex.before rule.left rule.right b.0 h (all at.0 rule at.2) (sym (ap (head_of g) from) ∙ e)

head_chain : (g : Alphabet) (rules : List Rule) (u v : List Symbol) (h : Option ProtoId) → AreHeaded g rules
    → Chain (ReductionStep rules) u v → head_of g u ≡ Some h → head_of g v ≡ Some h
head_chain g rules u v h all done e = e
head_chain g rules u v h all (more {b = w} r c) e = head_chain g rules w v h all c (head_step g rules u w h all r e)

pub head_reduces : (g : Alphabet) (rules : List Rule) (u v : List Symbol) (h : Option ProtoId) → AreHeaded g rules → Reduces rules u v
    → head_of g u ≡ Some h → head_of g v ≡ Some h
head_reduces g rules u v h all r e = head_chain g rules u v h all r.steps e

-- A rule asks what the first of the two words that it is born of asks.
pub head_of_born : (g : Alphabet) (rules : List Rule) (k : ℕ) (left right : List Symbol) (rule : Rule) (h : Option ProtoId)
    → AreHeaded g rules → IsHeaded g rule.left rule.right
    → ReducesTo rules k left right rule → head_of g left ≡ Some h → head_of g rule.left ≡ Some h
head_of_born g rules k left right rule h all w r e =
    let first : head_of g r.first ≡ Some h = head_reduces g (take k rules) left r.first h
    (λ i x j. all i x (get_take k i rules x j).1) r.first_reduces e in
    elim r.oriented [
      | inl o ↦ ap (head_of g) o.0 ∙ first
      | inr o ↦ w.1 ∙ ap Some (same_Some _ _ (sym w.2 ∙ ap (head_of g) o.1 ∙ first))
    ]

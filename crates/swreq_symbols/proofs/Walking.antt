-- The walk along the members of a type parameter.
use Rattle.std.proofs.Common.{◌≡◌, ℕ, zero, suc, inl, inr, sym, subst, List, [], ◌∷◌, ◌++◌}
use Rattle.swreq_correspondence.specs.swreq_param.declared.ids.ParamId.{ParamId}
use Rattle.swreq_correspondence.specs.swreq_param.declared.ids.ProtoId.{ProtoId}
use Rattle.swreq_correspondence.specs.swreq_param.declared.ids.Step.{Step}
use Rattle.swreq_correspondence.specs.swreq_param.declared.ids.Step.TheVariants.{Bound, Name}
use Rattle.swreq_correspondence.specs.swreq_param.Terms.{Term, head, member_count}
use Rattle.swreq_correspondence.specs.swreq_param.Terms.Term.{Generic, Member}
use Rattle.swreq_correspondence.specs.swreq_word.declared.symbols.Symbol.{Symbol}
use Rattle.swreq_correspondence.specs.swreq_word.declared.symbols.Symbol.TheVariants.{Proto}
use Rattle.swreq_correspondence.proofs.swreq_word.Chains.{linked_back, linked_on}
use Rattle.swreq_correspondence.proofs.swreq_word.Comparing.{not_both_below}
use Rattle.swreq_complete.specs.swreq_rule.declared.rules.Rule.{Rule}
use Rattle.swreq_complete.proofs.swreq_rule.Context.{Linked-after}
use Rattle.swreq_correspondence.specs.swreq_derive.Derivation.{HasParam, Source}
use Rattle.swreq_world.specs.swreq_lexicon.Views.{LexiconView}
use Rattle.swreq_correspondence.specs.Shown.{ShowsConformance, ShowsValid}
use Rattle.swreq_correspondence.specs.Symbols.{Symbols, Word, start, symbol, word_of}
use Rattle.swreq_correspondence.proofs.Spelling.{spell-append}
use Rattle.swreq_world.specs.Worlds.{TextWorld}
use Rattle.swreq_symbols.specs.Fronts.{without}
use Rattle.swreq_symbols.specs.Meaning.{facts_of, symbols_of}
use Rattle.swreq_map.specs.Properties.{Vanishes}
use Rattle.swreq_symbols.specs.Vanishing.{HasStep, IsLeastBy, Links}
use Rattle.swreq_symbols.proofs.Fronts.{without_all}

-- least words of one class are one
pub one_least : (rules : List Rule) (u v : Word) → IsLeastBy rules u → IsLeastBy rules v → Links rules u v → u ≡ v
one_least rules u v a b l = elim (a v l) [
  | inl e ↦ sym e
  | inr h ↦ elim (b u (linked_back l)) [ inl e ↦ e | inr k ↦ absurd (not_both_below u v h k) ]
]

pub vanishes_same : (rules : List Rule) (u v : Word) (x : Symbol) → Links rules u v → Vanishes rules u x → Vanishes rules v x
vanishes_same rules u v x l h = linked_on (Linked-after (x ∷ []) (linked_back l)) (linked_on h l)

pub step_same : (x : LexiconView) (rules : List Rule) (u v : Word) (s : Step) → Links rules u v → HasStep x rules u s → HasStep x rules v s
step_same x rules u v (Name a) l (d, (p, h, k)) = (d, (p, h, vanishes_same rules u v (Proto p.rank) l k))
step_same x rules u v (Bound d) l (a, (p, h, k)) = (a, (p, h, vanishes_same rules u v (Proto p.rank) l k))

module _ (w : TextWorld) (s : Source) (rules : List Rule) where
  abbrev m : Symbols
  m = symbols_of w.lexicon

  abbrev Valid : Term → Type 0
  Valid t = ShowsValid m (facts_of w) s (Links rules) t

  vanish_shows : (t : Term) (p : ProtoId) → Vanishes rules (word_of m s t) (Proto p.rank) → ShowsConformance m s (Links rules) t p
  vanish_shows t p h = subst (λ z. Links rules z (word_of m s t)) (spell-append m s t [] (Proto p.rank ∷ [])) h

  shows_vanish : (t : Term) (p : ProtoId) → ShowsConformance m s (Links rules) t p → Vanishes rules (word_of m s t) (Proto p.rank)
  shows_vanish t p h = subst (λ z. Links rules z (word_of m s t)) (sym (spell-append m s t [] (Proto p.rank ∷ []))) h

  -- a member is valid where its base is and the step is there after the base's word
  member_valid : (t : Term) (x : Step) → Valid t → HasStep w.lexicon rules (word_of m s t) x → Valid (Member t x)
  member_valid t (Name a) v (d, (p, h, k)) = (v, (p, d, h, vanish_shows t p k))
  member_valid t (Bound d) v (a, (p, h, k)) = (v, (p, a, h, vanish_shows t p k))

  base_valid : (t : Term) (x : Step) → Valid (Member t x) → Valid t
  base_valid t (Name a) h = h.0
  base_valid t (Bound d) h = h.0

  valid_step : (t : Term) (x : Step) → Valid (Member t x) → HasStep w.lexicon rules (word_of m s t) x
  valid_step t (Name a) (v, (p, d, h, k)) = (d, (p, h, shows_vanish t p k))
  valid_step t (Bound d) (v, (p, a, h, k)) = (a, (p, h, shows_vanish t p k))

  -- a member is valid where its base is and the step is there after a word that is linked to the base's
  pub goes_on : (t u : Term) (x : Step) (v : Word) → t ≡ Member u x → Valid (without 1 t) → Links rules (word_of m s (without 1 t)) v
      → HasStep w.lexicon rules v x → Valid t
  goes_on t u x v e k l h =
      let of_base : Links rules (word_of m s u) v = subst (λ z. Links rules (word_of m s (without 1 z)) v) e l in
      subst Valid (sym e)
      (member_valid u x (subst (λ z. Valid (without 1 z)) e k) (step_same w.lexicon rules v (word_of m s u) x (linked_back of_base) h))

  pub stops : (t u : Term) (x : Step) (v : Word) → t ≡ Member u x → Links rules (word_of m s (without 1 t)) v
      → (HasStep w.lexicon rules v x → ⊥)
      → Valid t → ⊥
  stops t u x v e l n h =
      let of_base : Links rules (word_of m s u) v = subst (λ z. Links rules (word_of m s (without 1 z)) v) e l in
      n (step_same w.lexicon rules (word_of m s u) v x of_base (valid_step u x (subst Valid e h)))

  -- the word of a member is that of its base and the symbol of its step
  pub next_word : (t u : Term) (x : Step) (v r : Word) → t ≡ Member u x → Links rules (word_of m s (without 1 t)) v
      → Links rules (v ++ symbol m x ∷ []) r → Links rules (word_of m s t) r
  next_word t u x v r e l h =
      let of_base : Links rules (word_of m s u) v = subst (λ z. Links rules (word_of m s (without 1 z)) v) e l in
      let whole : Links rules (word_of m s u ++ symbol m x ∷ []) r = linked_on (Linked-after (symbol m x ∷ []) of_base) h in
      subst (λ z. Links rules (word_of m s z) r) (sym e) (subst (λ z. Links rules z r) (spell-append m s u [] (symbol m x ∷ [])) whole)

  -- where a type parameter is valid, so is what it begins with
  pub valid_without : (n : ℕ) (t : Term) → Valid t → Valid (without n t)
  valid_without zero t h = h
  valid_without (suc n) (Generic g) h = h
  valid_without (suc n) (Member t x) h = valid_without n t (base_valid t x h)

  pub head_valid : (t : Term) → Valid t → HasParam s (head t)
  head_valid t h = subst Valid (without_all t) (valid_without (member_count t) t h)

  -- where the walk begins
  pub begins_valid : (t : Term) (g : ParamId) → g ≡ head t → HasParam s g → Valid (without (member_count t) t)
  begins_valid t g e h = subst Valid (sym (without_all t)) (subst (HasParam s) e h)

  pub begins_linked : (t : Term) (g : ParamId) (v : Word) → g ≡ head t → Links rules (start s g ∷ []) v
      → Links rules (word_of m s (without (member_count t) t)) v
  begins_linked t g v e h =
      subst (λ z. Links rules (word_of m s z) v) (sym (without_all t)) (subst (λ z. Links rules (start s z ∷ []) v) e h)

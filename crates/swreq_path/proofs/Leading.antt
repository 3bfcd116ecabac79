-- Steps that lead on, one after the other: put together, cut, and the other way.
use Rattle.std.proofs.Common.{◌≡◌, ℕ, ◌+◌, ◌-◌, ◌<◌, refl, sym, ◌∙◌, ap, subst, arith, Bool, true, false, not, List, [], ◌∷◌, ◌++◌, length, map, reverse, take, get_or}
use Rattle.std.proofs.Math.Seq.{take-length}
use Rattle.std.proofs.lemmas.List.{map-append, reverse-append, take_more}
use Rattle.swreq_rule.specs.swreq_word.declared.symbols.Symbol.{Symbol}
use Rattle.swreq_rule.specs.declared.rules.Rule.{Rule}
use Rattle.swreq_rule.proofs.Numbers.{one_rule}
use Rattle.swreq_path.specs.declared.steps.RewriteStep.{RewriteStep}
use Rattle.swreq_path.specs.Inverse.{inverse_step, inverse}
use Rattle.swreq_path.specs.Paths.{replaced_side, put_side, StepLeads, StepsLead}

not_not : (b : Bool) → not (not b) ≡ b
not_not true = refl
not_not false = refl

-- the inverse of one step more
pub inverse_more : (x : RewriteStep) (xs : List RewriteStep) → inverse (x ∷ xs) ≡ inverse xs ++ inverse_step x ∷ []
inverse_more x xs = ap (map inverse_step) (reverse-append (x ∷ []) xs) ∙ map-append inverse_step (reverse xs) (x ∷ [])

-- a list and its last item
cut_last : (xs : List RewriteStep) (x : RewriteStep) → 0 < length xs → x ≡ get_or xs (length xs - 1) x
    → xs ≡ take (length xs - 1) xs ++ x ∷ []
cut_last xs x l e =
    let n : ℕ = length xs - 1 in
    let f : n + 1 ≡ length xs = omega arith in
    sym (take-length xs) ∙ ap (λ k. take k xs) (sym f) ∙ take_more xs n x (omega arith) ∙ ap (λ y. take n xs ++ y ∷ []) (sym e)

module _ (rules : List Rule) where
  -- a step from a word has one target, and so have steps
  pub one_target : (step : RewriteStep) (u v w : List Symbol) → StepLeads rules step u v → StepLeads rules step u w → v ≡ w
  one_target step u v w a b =
      let e = one_rule rules step.rule a.rule b.rule a.is_rule b.is_rule in
      a.target ∙ ap (λ (r : Rule). step.before ++ (put_side step.forward r ++ step.after)) e ∙ sym b.target

  pub one_end : (steps : List RewriteStep) (u v w : List Symbol) → StepsLead rules steps u v → StepsLead rules steps u w → v ≡ w
  one_end [] u v w a b = sym a ∙ b
  one_end (x ∷ steps) u v w a b =
      let e = one_target x u a.0 b.0 a.1 b.1 in
      one_end steps a.0 v w a.2 (subst (λ z. StepsLead rules steps z w) (sym e) b.2)

  -- some steps and then others
  pub lead_on : (xs ys : List RewriteStep) (u v w : List Symbol) → StepsLead rules xs u v → StepsLead rules ys v w
      → StepsLead rules (xs ++ ys) u w
  lead_on [] ys u v w e f = subst (λ z. StepsLead rules ys z w) (sym e) f
  lead_on (x ∷ xs) ys u v w h f = (h.0, h.1, lead_on xs ys h.0 v w h.2 f)

  pub lead_parts : (xs ys : List RewriteStep) (u w : List Symbol) → StepsLead rules (xs ++ ys) u w
      → (v : List Symbol) × StepsLead rules xs u v × StepsLead rules ys v w
  lead_parts [] ys u w h = (u, refl, h)
  lead_parts (x ∷ xs) ys u w h = let r = lead_parts xs ys h.0 w h.2 in (r.0, (h.0, h.1, r.1), r.2)

  -- the other way
  pub leads_back : (step : RewriteStep) (u v : List Symbol) → StepLeads rules step u v → StepLeads rules (inverse_step step) v u
  leads_back step u v l = record {
    rule = l.rule;
    is_rule = l.is_rule;
    source = l.target;
    target = subst (λ b. u ≡ step.before ++ (replaced_side b l.rule ++ step.after)) (sym (not_not step.forward)) l.source;
  }

  pub lead_back : (xs : List RewriteStep) (u v : List Symbol) → StepsLead rules xs u v → StepsLead rules (inverse xs) v u
  lead_back [] u v e = sym e
  lead_back (x ∷ xs) u v h =
      subst (λ s. StepsLead rules s v u) (sym (inverse_more x xs))
      (lead_on (inverse xs) (inverse_step x ∷ []) v h.0 u (lead_back xs h.0 v h.2) (u, leads_back x u h.0 h.1, refl))

  -- the last step ends where all steps end
  pub last_leads : (xs : List RewriteStep) (x : RewriteStep) (u v : List Symbol) → StepsLead rules (xs ++ x ∷ []) u v
      → (w : List Symbol) × StepLeads rules x w v
  last_leads xs x u v h =
      let r = lead_parts xs (x ∷ []) u v h in
      (r.0, subst (λ z. StepLeads rules x r.0 z) r.2.2 r.2.1)

  pub last_of : (given steps : List RewriteStep) (x : RewriteStep) (u v : List Symbol) → given ≡ steps → 0 < length given
      → x ≡ get_or given (length given - 1) x → StepsLead rules steps u v → (w : List Symbol) × StepLeads rules x w v
  last_of given steps x u v same l e h =
      last_leads (take (length given - 1) given) x u v (subst (λ s. StepsLead rules s u v) (sym same ∙ cut_last given x l e) h)

  -- the word that is found is where the steps end
  pub ends_with : (steps : List RewriteStep) (u v w : List Symbol) → w ≡ v → StepsLead rules steps u v → StepsLead rules steps u w
  ends_with steps u v w e h = subst (λ z. StepsLead rules steps u z) (sym e) h

-- What the ending of a least word tells of a symbol after the word.
use Rattle.std.proofs.Common.{◌≡◌, ℕ, suc, ◌+◌, ◌-◌, ◌≤◌, List, [], ◌∷◌, ◌++◌, append_assoc, append-nil, length, length-append, length-drop, take, drop, drop-drop, take-append-drop, true, false, refl, sym, ◌∙◌, ap, subst, arith}
use Rattle.std.specs.Bool.{Decides}
use Rattle.std.proofs.lemmas.Bool.{false≢true}
use Rattle.swreq_complete.specs.swreq_word.declared.symbols.Symbol.{Symbol}
use Rattle.swreq_complete.specs.swreq_word.Least.{IsLeast}
use Rattle.swreq_complete.specs.swreq_word.Relations.{Linked, IsIrreducible}
use Rattle.swreq_complete.specs.swreq_rule.declared.rules.Rule.{Rule}
use Rattle.swreq_complete.specs.swreq_rule.Search.{NoneLonger}
use Rattle.swreq_complete.specs.swreq_rule.Steps.{Step}
use Rattle.swreq_complete.proofs.swreq_rule.Context.{Linked-before, Step-before}
use Rattle.swreq_complete.proofs.swreq_pair.CriticalPairs.{locally}
use Rattle.swreq_complete.specs.Complete.{IsComplete}
use Rattle.swreq_complete.proofs.ReducedSystem.{irreducible_least, least_irreducible}
use Rattle.swreq_map.specs.Properties.{Vanishes}
use Rattle.swreq_map.proofs.Ending.{ends_left_side}

module _ (rules : List Rule) (complete : IsComplete rules) (u : List Symbol) (least : IsLeast (Linked (Step rules)) u) (from : ℕ) where
  whole : take from u ++ drop from u ≡ u
  whole = take-append-drop from u

  pub ending_least : IsLeast (Linked (Step rules)) (drop from u)
  ending_least = irreducible_least rules (locally rules complete.meet) (drop from u) none
    where
      none : IsIrreducible (Step rules) (drop from u)
      none v s =
          least_irreducible rules (locally rules complete.meet) u least (take from u ++ v)
          (subst (λ w. Step rules w (take from u ++ v)) whole (Step-before (take from u) s))

  -- what vanishes after the ending vanishes after the word
  pub vanishes_behind : (x : Symbol) → Vanishes rules (drop from u) x → Vanishes rules u x
  vanishes_behind x h =
      let longer = Linked-before (take from u) h in
      subst (λ w. Linked (Step rules) (w ++ x ∷ []) w) whole
      (subst (λ w. Linked (Step rules) w (take from u ++ drop from u)) (sym (append_assoc (take from u) (drop from u) (x ∷ []))) longer)

  -- where no left side that ends after the word reaches before the ending, what stays after the ending stays after the word
  pub stays_behind : (x : Symbol) → from ≤ length u → NoneLonger rules (length u - from)
      → IsLeast (Linked (Step rules)) (drop from u ++ x ∷ []) → Vanishes rules u x → ⊥
  stays_behind x within short stays h =
      let f = ends_left_side rules complete u least x h in
      let rule = f.1 in
      let at = f.2 in
      let left : rule.left ≡ drop at u ++ x ∷ [] = f.5 in
      let size = simp (length-append, length-drop) at (ap length left) in
      let most = short f.0 rule f.3 in
      let far : from + (at - from) ≡ at = omega (arith, size, most, within, f.4) in
      let parted : drop from u ≡ take (at - from) (drop from u) ++ drop at u
      = sym (take-append-drop (at - from) (drop from u))
      ∙ ap (λ v. take (at - from) (drop from u) ++ v) (drop-drop (at - from) from u ∙ ap (λ n. drop n u) far) in
      let before = take (at - from) (drop from u) in
      let source : drop from u ++ x ∷ [] ≡ before ++ (rule.left ++ [])
      = ap (λ v. v ++ x ∷ []) parted ∙ append_assoc before (drop at u) (x ∷ [])
      ∙ ap (λ v. before ++ v) (sym left ∙ sym (append-nil rule.left)) in
      least_irreducible rules (locally rules complete.meet) (drop from u ++ x ∷ []) stays (before ++ (rule.right ++ []))
      (record {
        rule = rule;
        number = suc f.0;
        is_rule = (f.0, refl, f.3);
        at = record { before = before; after = []; source = source; target = refl };
      })

  -- ---- what the reduced ending tells

  pub told_vanishing : (x : Symbol) (w end : List Symbol) → w ≡ drop from u ++ x ∷ [] → Linked (Step rules) w end → end ≡ drop from u
      → Decides true (Vanishes rules u x)
  told_vanishing x w end e l same = (
    (λ t. vanishes_behind x (subst (λ v. Linked (Step rules) v (drop from u)) e (subst (Linked (Step rules) w) same l))),
    (λ v. refl),
  )

  pub told_staying : (x : Symbol) → from ≤ length u → NoneLonger rules (length u - from) → (end : List Symbol)
      → IsLeast (Linked (Step rules)) end
      → end ≡ drop from u ++ x ∷ [] → Decides false (Vanishes rules u x)
  told_staying x within short end stays same = (
    (λ t. absurd (false≢true t)),
    (λ v. absurd (stays_behind x within short (subst (IsLeast (Linked (Step rules))) same stays) v)),
  )

-- What is printed of a signature is one.
use Rattle.std.proofs.Common.{◌≡◌, ◌∙◌, ◌++◌, ℕ, List, Some, ap, ap₂, codes, decimal, map, refl, subst₂, sym}
use Rattle.std.specs.List.{slice_get}
use Rattle.std.proofs.lemmas.List.{length-map}
use Rattle.std.proofs.lemmas.List.Folds.{flat_map-map}
use Rattle.swreq_print.proofs.swreq_lemmas.Elements.{get_map, get_of_map}
use Rattle.swreq_print.specs.swreq_word.declared.symbols.Symbol.{Symbol}
use Rattle.swreq_print.specs.swreq_word.Order.{WordLess}
use Rattle.swreq_print.proofs.swreq_word.Chains.{joined}
use Rattle.swreq_print.proofs.swreq_word.LeastWords.{one_least}
use Rattle.swreq_print.specs.swreq_rule.declared.rules.Birth.TheVariants.{Given}
use Rattle.swreq_print.specs.swreq_rule.declared.rules.Rule.{Rule}
use Rattle.swreq_print.proofs.swreq_rule.Same.{same_rule}
use Rattle.swreq_machine.specs.swreq_complete.Reduced.{IsReducedSystem, IsSorted}
use Rattle.swreq_machine.proofs.swreq_complete.OneReduced.{same_lists}
use Rattle.swreq_machine.specs.swreq_correspondence.Equations.{AreCongruent}
use Rattle.swreq_machine.proofs.swreq_correspondence.Chained.{turn_all}
use Rattle.swreq_print.specs.swreq_lowering.Requirements.{PlacedRequirement}
use Rattle.swreq_machine.specs.swreq_world.FactsAt.{source_of}
use Rattle.swreq_machine.specs.swreq_world.Worlds.{SignatureOver, TextWorld}
use Rattle.swreq_machine.specs.swreq_symbols.Meaning.{facts_of, symbols_of}
use Rattle.swreq_query.specs.Signatures.{IsMinimisedLine, IsNamedLine, full_name}
use Rattle.swreq_query.specs.Systems.{IsSystemText, rule_line, system_text}
use Rattle.swreq_query.proofs.PrintingAlike.{lines_alike}

-- ---- rules without their births

-- all rules with one birth: what is left of a rule are its sides
abbrev unborn : Rule → Rule
unborn r = record { left = r.left; right = r.right; birth = Given 0; down = r.down }

unborn_sorted : (a : List Rule) → IsSorted a → IsSorted (map unborn a)
unborn_sorted a sorted j k r s before x y =
    let p = get_of_map unborn a j r x in let q = get_of_map unborn a k s y in
    subst₂ WordLess (ap (λ (z : Rule). z.left) p.2) (ap (λ (z : Rule). z.left) q.2) (sorted j k p.0 q.0 before p.1 q.1)

-- A congruence has one reduced system, but for the births of its rules.
module _ (C : List Symbol → List Symbol → Type 0) (back : (u v : List Symbol) → C u v → C v u)
    (on : (u v z : List Symbol) → C u v → C v z → C u z) where
  unborn_members : (a b : List Rule) → IsReducedSystem C a → IsReducedSystem C b
      → (k : ℕ) (r : Rule) → slice_get (map unborn a) k ≡ Some r → (j : ℕ) × (slice_get (map unborn b) j ≡ Some r)
  unborn_members a b p q k r e =
      let m = get_of_map unborn a k r e in
      let x = p.each k m.0 m.1 in
      let y = q.all m.0.left x.0 in
      let z = q.each y.0 y.1 y.2 in
      let c : C y.1.right m.0.right
      = on y.1.right y.1.left m.0.right (back y.1.left y.1.right z.1) (subst₂ C (sym y.3) refl x.1) in
      let right = one_least C y.1.right m.0.right c (back y.1.right m.0.right c) z.2 x.2 in
      let same : unborn y.1 ≡ unborn m.0 = same_rule (unborn y.1) (unborn m.0) y.3 right refl in
      (y.0, get_map unborn b y.0 y.1 y.2 ∙ ap Some (same ∙ m.2))

  unborn_once : (a b : List Rule) → IsReducedSystem C a → IsReducedSystem C b → map unborn a ≡ map unborn b
  unborn_once a b p q =
      same_lists (map unborn a) (map unborn b) (unborn_sorted a p.sorted) (unborn_sorted b q.sorted)
      (unborn_members a b p q) (unborn_members b a q p)

-- ---- what is printed of a signature

module _ (w : TextWorld) (g : SignatureOver PlacedRequirement) where
  pub line_once : (line other : List ℕ) → IsMinimisedLine w g line → IsMinimisedLine w g other → line ≡ other
  line_once line other a b = lines_alike w g g line other refl (λ st. ((λ d. d), (λ d. d))) a b

  pub named_once : (line other : List ℕ) → IsNamedLine w g line → IsNamedLine w g other → line ≡ other
  named_once line other (mine, a, e) (yours, b, f) =
      e ∙ ap (λ (z : List ℕ). full_name w g ++ (codes ": " ++ z)) (line_once mine yours a b) ∙ sym f

  births_unprinted : (rules : List Rule) → system_text w g (map unborn rules) ≡ system_text w g rules
  births_unprinted rules =
      ap₂ (λ (n : ℕ) (z : List ℕ). full_name w g ++ (codes ": " ++ (decimal n ++ (codes " rules\n" ++ z))))
      (length-map rules unborn) (flat_map-map (rule_line w.lexicon) unborn rules)

  abbrev Class : List Symbol → List Symbol → Type 0
  Class = AreCongruent (symbols_of w.lexicon) (facts_of w) (source_of g)

  one_but_for_births : (a b : List Rule) → IsReducedSystem Class a → IsReducedSystem Class b → map unborn a ≡ map unborn b
  one_but_for_births = unborn_once Class (λ u v c. turn_all c) (λ u v z c d. joined c d)

  pub system_once : (text other : List ℕ) → IsSystemText w g text → IsSystemText w g other → text ≡ other
  system_once text other a b =
      a.text_is ∙ sym (births_unprinted a.rules)
      ∙ ap (system_text w g) (one_but_for_births a.rules b.rules a.reduced b.reduced)
      ∙ births_unprinted b.rules ∙ sym b.text_is

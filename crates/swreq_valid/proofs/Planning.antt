-- From what the code has of a plan to the plan.
use Rattle.std.proofs.lemmas.Option.{slice_get_read}
use Rattle.swreq_complete.proofs.swreq_lemmas.Elements.{take_one}
use Rattle.std.proofs.Common.{◌≡◌, suc, subst₂, refl, sym, ap, subst, ◌∙◌, ℕ, ◌<◌, ◌≤◌, ◌+◌, arith, Bool, List, [], ◌∷◌, ◌++◌, length, map, take, drop, get_or, append_assoc, vec_len}
use Rattle.std.specs.Bool.{if◌then◌else◌, Decides}
use Rattle.std.proofs.lemmas.List.{append-nil, drop_all, map-append, take_all}
use Rattle.std.proofs.lemmas.Simd.{map-map}
use Rattle.swreq_rounds.specs.swreq_param.Terms.{Term}
use Rattle.swreq_complete.specs.swreq_rule.declared.rules.Rule.{Rule}
use Rattle.swreq_complete.specs.Alike.{ReduceAlike}
use Rattle.swreq_rounds.specs.swreq_derive.Derivation.{TermRequirement, TermFacts}
use Rattle.swreq_rounds.specs.swreq_derive.Facts.{generic_params, requirement_of}
use Rattle.swreq_rounds.specs.swreq_correspondence.Symbols.{Word, Symbols}
use Rattle.swreq_rounds.specs.swreq_correspondence.Shown.{ShowsUsable, ShowsValid}
use Rattle.swreq_rounds.proofs.swreq_correspondence.Shown.{shown_by_params, usable_by_params}
use Rattle.swreq_rounds.specs.Plan.{AreShown, AreShownByReduction, Item, equation_of, given}
use Rattle.swreq_symbols.specs.declared.over.Over.{Over}
use Rattle.swreq_symbols.specs.declared.over.Over.TheVariants.{Signature, Protocol}
use Rattle.swreq_world.specs.swreq_lexicon.Views.{LexiconView}
use Rattle.swreq_symbols.specs.Known.{IsRequirementIn}
use Rattle.swreq_symbols.specs.Meaning.{facts_of, symbols_of}
use Rattle.swreq_symbols.specs.Overs.{source_over}
use Rattle.swreq_symbols.specs.Vanishing.{Links}
use Rattle.swreq_world.specs.ByTable.{world_by}
use Rattle.swreq_world.specs.Worlds.{IdWorld}
use Rattle.swreq_valid.specs.declared.wanted.RoundStart.{RoundStart}
use Rattle.swreq_valid.specs.declared.wanted.RoundRequirement.{RoundRequirement}
use Rattle.swreq_valid.specs.Flags.{chosen, Tells}
use Rattle.swreq_valid.specs.Plans.{AreWanted, item_of, items_of, plan_of, says, within}
use Rattle.swreq_valid.proofs.Flagged.{chosen_from, chosen_map, map_one_if, tells_to, tells_map, tells_one_more}

module _ (m : Symbols) (f : TermFacts) (rs : List TermRequirement) (C : Word → Word → Type 0) (r : TermRequirement) where
  pub to_list : (over : Over) → ShowsUsable m f (source_over over) C r → ShowsUsable m f (within rs over) C r
  to_list (Signature params) h = usable_by_params m f (generic_params params) [] rs C r h
  to_list (Protocol p) h = h

  pub from_list : (over : Over) → ShowsUsable m f (within rs over) C r → ShowsUsable m f (source_over over) C r
  from_list (Signature params) h = usable_by_params m f (generic_params params) rs [] C r h
  from_list (Protocol p) h = h

module _ (m : Symbols) (f : TermFacts) (rs : List TermRequirement) (C : Word → Word → Type 0) (t : Term) where
  pub valid_to_list : (over : Over) → ShowsValid m f (source_over over) C t → ShowsValid m f (within rs over) C t
  valid_to_list (Signature params) h = shown_by_params m f (generic_params params) [] rs C t h
  valid_to_list (Protocol p) h = h

  pub valid_from_list : (over : Over) → ShowsValid m f (within rs over) C t → ShowsValid m f (source_over over) C t
  valid_from_list (Signature params) h = shown_by_params m f (generic_params params) rs [] C t h
  valid_from_list (Protocol p) h = h

module _ (w : IdWorld) (terms : List Term) where
  abbrev m : Symbols
  m = symbols_of w.lexicon

  abbrev f : TermFacts
  f = facts_of (world_by terms w)

  -- the congruence shows the requirement usable
  abbrev pub IsToldBy : (Word → Word → Type 0) → RoundRequirement → Type 0
  IsToldBy C x = ShowsUsable m f (source_over x.over) C (requirement_of terms x.requirement)

  -- the rules show it usable
  abbrev pub IsTold : List Rule → RoundRequirement → Type 0
  IsTold rules x = IsToldBy (Links rules) x

  pub told_by : (start : RoundStart) (C : Word → Word → Type 0) (bs : List Bool) → Tells (IsToldBy C) start.all.items bs
      → Tells (λ (i : Item). ShowsUsable m f i.source C i.requirement) (items_of terms start.all.items) bs
  told_by start C bs t =
      let rs = says terms start.all.items in
      tells_map (λ (i : Item). ShowsUsable m f i.source C i.requirement) (item_of terms rs) start.all.items bs
      (tells_to (IsToldBy C) (λ x. ShowsUsable m f (item_of terms rs x).source C (item_of terms rs x).requirement)
      (λ x h. to_list m f rs C (requirement_of terms x.requirement) x.over h)
      (λ x h. from_list m f rs C (requirement_of terms x.requirement) x.over h)
      start.all.items bs t)

  pub told_shown : (start : RoundStart) (rules base : List Rule) (bs : List Bool) → Tells (IsTold rules) start.all.items bs
      → Tells (AreShown (plan_of w terms base start) rules) (items_of terms start.all.items) bs
  told_shown start rules base bs t = told_by start (Links rules) bs t

  pub told_reduced : (start : RoundStart) (rules base : List Rule) (bs : List Bool)
      → Tells (IsToldBy (ReduceAlike rules)) start.all.items bs
      → Tells (AreShownByReduction (plan_of w terms base start) rules) (items_of terms start.all.items) bs
  told_reduced start rules base bs t = told_by start (ReduceAlike rules) bs t

  -- the equation of what the code has of a requirement
  abbrev pub equation_for : RoundStart → RoundRequirement → Word × Word
  equation_for start x = equation_of m (item_of terms (says terms start.all.items) x)

  -- the equations of those that are left from a place on
  abbrev pub left_from : RoundStart → List Bool → ℕ → List (Word × Word)
  left_from start used k = map (equation_for start) (chosen (drop k start.all.items) (drop k used))

  pub joined_one : (start : RoundStart) (used : List Bool) (k : ℕ) (x d : RoundRequirement) (b c : Bool) (v v' : List (Word × Word))
      → k < length start.all.items → k < length used → get_or start.all.items k d ≡ x → get_or used k c ≡ b
      → v' ≡ v ++ (if b then equation_for start x ∷ [] else []) → v' ++ left_from start used (k + 1) ≡ v ++ left_from start used k
  joined_one start used k x d b c v v' l n e h g =
      ap (λ z. z ++ left_from start used (k + 1)) g
      ∙ append_assoc v (if b then equation_for start x ∷ [] else []) (left_from start used (k + 1))
      ∙ ap (λ z. v ++ z)
      (ap (λ z. z ++ left_from start used (k + 1)) (sym (map_one_if (equation_for start) b x))
      ∙ sym (map-append (equation_for start) (if b then x ∷ [] else []) (chosen (drop (k + 1) start.all.items) (drop (k + 1) used)))
      ∙ ap (map (equation_for start)) (sym (chosen_from start.all.items used k x d b c l n e h)))

  pub given_is : (start : RoundStart) (base : List Rule) (used : List Bool)
      → given (plan_of w terms base start) (chosen (items_of terms start.all.items) used) ≡ start.basic.items ++ left_from start used 0
  given_is start base used =
      let rs = says terms start.all.items in
      ap (λ z. start.basic.items ++ z)
      (ap (map (equation_of m)) (chosen_map (item_of terms rs) start.all.items used)
      ∙ map-map (equation_of m) (item_of terms rs) (chosen start.all.items used))

  -- past the end nothing is left
  pub none_left : (start : RoundStart) (used : List Bool) (k : ℕ) (v : List (Word × Word)) → length start.all.items ≤ k
      → v ≡ v ++ left_from start used k
  none_left start used k v l =
      sym (ap (λ z. v ++ map (equation_for start) (chosen z (drop k used))) (drop_all k start.all.items l) ∙ append-nil v)

-- a place before the end is of the list
pub place_within : (start : RoundStart) (k count : ℕ) → k < count → count ≡ vec_len start.all → k < length start.all.items
place_within start k count l e = let ok = start.all.ok in omega (arith, l, e, ok)

pub place_behind : (start : RoundStart) (k count : ℕ) → count ≤ k → count ≡ vec_len start.all → length start.all.items ≤ k
place_behind start k count l e = let ok = start.all.ok in omega (arith, l, e, ok)

-- the requirement at a place of the list is of the table and of the text
pub wanted_at : (terms : List Term) (x : LexiconView) (start : RoundStart) (k : ℕ) (want : RoundRequirement)
    → AreWanted terms x start.all.items → k < length start.all.items → want ≡ get_or start.all.items k want
    → IsRequirementIn terms x want.requirement
wanted_at terms x start k want all l is = all want (k, l, sym is)

-- flags of one more, and of all
pub told_more : (P : RoundRequirement → Type 0) (xs : List RoundRequirement) (k : ℕ) (x : RoundRequirement) (bs cs : List Bool) (b : Bool)
    → k < length xs → x ≡ get_or xs k x
    → cs ≡ bs ++ b ∷ [] → Tells P (take k xs) bs → Decides b (P x) → Tells P (take (k + 1) xs) cs
told_more P xs k x bs cs b l e f t d =
    let one : suc k ≡ k + 1 = omega arith in
    let g : take (k + 1) xs ≡ take k xs ++ x ∷ [] =
    subst (λ n. take n xs ≡ take k xs ++ x ∷ []) one (take_one xs k x (slice_get_read xs (length xs) k x refl l e)) in
    subst₂ (Tells P) (sym g) (sym f) (tells_one_more P (take k xs) bs x b t d)

pub told_all : (P : RoundRequirement → Type 0) (xs : List RoundRequirement) (k : ℕ) (bs : List Bool) → length xs ≤ k
    → Tells P (take k xs) bs → Tells P xs bs
told_all P xs k bs l t = subst (λ z. Tells P z bs) (take_all k xs l) t

pub items_length : (terms : List Term) (xs : List RoundRequirement) → length (items_of terms xs) ≡ length xs
items_length terms xs = go xs
  where
    go : (ys : List RoundRequirement) → length (map (item_of terms (says terms xs)) ys) ≡ length ys
    go [] = refl
    go (y ∷ ys) = ap suc (go ys)

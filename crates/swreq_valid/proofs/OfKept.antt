-- The plan of the protocols with the kept requirements, and which requirements are usable.
use Rattle.std.proofs.Common.{◌≡◌, ◌∙◌, inl, inr, refl, sym, ap, ap₂, subst, ℕ, zero, suc, ◌<◌, ◌≤◌, ◌+◌, arith, Bool, false, List, [], ◌∷◌, ◌++◌, length, map, take, drop, append_assoc, get_or, slice_get, Some, subst₂, Option, Result, Ok, Err, IfOk}
use Rattle.std.specs.Bool.{Decides, if◌then◌else◌}
use Rattle.std.proofs.lemmas.Bool.{cases_eq}
use Rattle.std.proofs.lemmas.List.{append-nil, map-append, drop_all, take_all}
use Rattle.std.proofs.lemmas.List.Elements.{Contains-append_cases}
use Rattle.std.proofs.lemmas.Option.{get_or_from_slice_get, slice_get-get_or, slice_get_within}
use Rattle.std.proofs.lemmas.Simd.{map-map}
use Rattle.swreq_complete.proofs.swreq_lemmas.Elements.{take_one}
use Rattle.swreq_rounds.specs.swreq_param.declared.ids.ProtoId.{ProtoId}
use Rattle.swreq_rounds.specs.swreq_param.Terms.{Term}
use Rattle.swreq_rounds.specs.swreq_derive.declared.requirements.Requirement.{Requirement}
use Rattle.swreq_rounds.specs.swreq_derive.Derivation.{TermFacts, TermRequirement}
use Rattle.swreq_rounds.specs.swreq_derive.Derivation.Source.{SelfOf}
use Rattle.swreq_rounds.specs.swreq_derive.Derivation.TermRequirement.{Conforms, IsAnyObject, Equals}
use Rattle.swreq_rounds.specs.swreq_derive.Facts.{requirement_of}
use Rattle.swreq_rounds.specs.swreq_derive.WellFormed.{HasValidSides}
use Rattle.swreq_complete.proofs.swreq_lemmas.Members.{no_member, contains_of_map}
use Rattle.swreq_complete.specs.swreq_rule.declared.rules.Rule.{Rule}
use Rattle.swreq_complete.specs.swreq_watch.declared.events.Event.{Event}
use Rattle.swreq_complete.specs.declared.limit.Failed.{Failed}
use Rattle.swreq_complete.specs.declared.limit.Limits.{Limits}
use Rattle.swreq_rounds.specs.swreq_correspondence.Shown.{ShowsUsable}
use Rattle.swreq_rounds.specs.swreq_correspondence.Symbols.{AreOfText, AreSymbolsOf, IsOfText, Symbols}
use Rattle.swreq_rounds.specs.Given.{basic_equations, items_of as items_from, of_self}
use Rattle.swreq_rounds.specs.Plan.{Plan}
use Rattle.swreq_rounds.specs.Presents.{AreProtocolRules}
use Rattle.swreq_rounds.proofs.LastRound.{protocols_law}
use Rattle.swreq_symbols.specs.Known.{IsRequirementIn, IsTextOver}
use Rattle.swreq_symbols.specs.Meaning.{facts_of, symbols_of}
use Rattle.swreq_symbols.specs.Vanishing.{Links}
use Rattle.swreq_symbols.proofs.Symbols.{symbols_law, text_law}
use Rattle.swreq_world.specs.ByTable.{world_by}
use Rattle.swreq_world.specs.Closed.{IsClosed}
use Rattle.swreq_world.specs.Worlds.{IdWorld, TextWorld, requirements_of}
use Rattle.swreq_world.specs.swreq_lowering.declared.ids.Written.{Written}
use Rattle.swreq_valid.specs.declared.wanted.RoundStart.{RoundStart}
use Rattle.swreq_valid.specs.declared.wanted.RoundRequirement.{RoundRequirement}
use Rattle.swreq_valid.specs.Answers.{Answers, IsOnlyOutcome}
use Rattle.swreq_valid.specs.Flags.{Tells, chosen}
use Rattle.swreq_valid.specs.Keeping.{AreFlags, IsUsableBy, TellEach, TellUsable, flags_of, kept_facts, kept_in, kept_plan}
use Rattle.swreq_valid.specs.Plans.{AreWanted, bare, in_protocol, item_of, items_of, plan_of, says}
use Rattle.swreq_valid.specs.Rounds.{AreRounds, RoundView, last_rules, rules_of}
use Rattle.swreq_valid.proofs.Deriving.{self_derivable, self_shown}
use Rattle.swreq_valid.proofs.Flagged.{chosen_from, chosen_in, chosen_map, map_one_if, tells_map, tells_one_more}
use Rattle.swreq_symbols.proofs.OfText.{own_requirements, protocol_written}
use Rattle.swreq_complete.proofs.swreq_lemmas.Elements.{drop_from}
use Rattle.swreq_valid.proofs.Once.{flags_at, once}
use Rattle.swreq_valid.proofs.Transfer.{answers_over, ok_rounds_over, only_over, usable_over, with_facts}

-- ---- the plan

module _ (w : IdWorld) (terms : List Term) (keep : List (List Bool)) where
  abbrev W : TextWorld
  W = world_by terms w

  abbrev g : TermFacts
  g = kept_facts W keep

  own_kept : (p : ProtoId) (flags : List Bool) → flags_of w.lexicon.written_order keep p ≡ flags
      → g.of_protocol p ≡ map (requirement_of terms) (chosen (bare (requirements_of w p)) flags)
  own_kept p flags e =
      ap (chosen ((facts_of W).of_protocol p)) e
      ∙ ap (λ z. chosen z flags) (own_requirements w terms p)
      ∙ chosen_map (requirement_of terms) (bare (requirements_of w p)) flags

  kept_items : (rs : List TermRequirement) (ps : List ProtoId) (ks : List (List Bool)) → length ks ≡ length ps
      → ((k : ℕ) (p : ProtoId) (flags : List Bool) → slice_get ps k ≡ Some p → slice_get ks k ≡ Some flags
      → flags_of w.lexicon.written_order keep p ≡ flags)
      → map (item_of terms rs) (kept_in w ps ks) ≡ items_from g ps
  kept_items rs [] ks l each = refl
  kept_items rs (p ∷ ps) [] l each = absurd (omega (arith, l))
  kept_items rs (p ∷ ps) (flags ∷ ks) l each =
      let these = chosen (bare (requirements_of w p)) flags in
      map-append (item_of terms rs) (map (in_protocol p) these) (kept_in w ps ks)
      ∙ ap₂ (λ a b. a ++ b)
      (map-map (item_of terms rs) (in_protocol p) these
      ∙ sym (ap (map (of_self p)) (own_kept p flags (each 0 p flags refl refl)) ∙ map-map (of_self p) (requirement_of terms) these))
      (kept_items rs ps ks (omega (arith, l)) (λ k q fs e h. each (suc k) q fs e h))

  module _ (text : IsTextOver terms w) (are : AreFlags w keep) where
    pub kept_plan_is : (base : List Rule) (start : RoundStart) → base ≡ [] → start.basic.items ≡ basic_equations (symbols_of w.lexicon)
        → start.all.items ≡ kept_in w w.lexicon.written_order keep → with_facts (plan_of w terms base start) g ≡ kept_plan W keep
    kept_plan_is base start none basic_is all_is =
        let order = w.lexicon.written_order in
        let items : items_of terms start.all.items ≡ items_from g order =
        ap (items_of terms) all_is
        ∙ kept_items (says terms (kept_in w order keep)) order keep are.protocols
        (λ k p flags e h. flags_at order keep k p flags (λ i q l f. once w.lexicon text.closed.ids i k q p l f e) e h) in
        λ i. record { symbols = symbols_of w.lexicon; facts = g; base = none i; basic = basic_is i; all = items i }

    -- what rounds over the kept requirements of these lists come to is of that plan
    module _ (start : RoundStart) (basic_is : start.basic.items ≡ basic_equations (symbols_of w.lexicon))
        (all_is : start.all.items ≡ kept_in w w.lexicon.written_order keep) where
      abbrev its_plan : Plan
      its_plan = plan_of w terms [] start

      same_plan : with_facts its_plan g ≡ kept_plan W keep
      same_plan = kept_plan_is [] start refl basic_is all_is

      pub kept_answers : (old new : Option (List Event)) (answer : Result (List Rule) Failed) → Answers start.limits its_plan old new answer
          → Answers start.limits (kept_plan W keep) old new answer
      kept_answers old new answer h =
          subst (λ p. Answers start.limits p old new answer) same_plan (answers_over start.limits its_plan g refl old new answer h)

      pub kept_only : (answer : Result (List Rule) Failed) → IsOnlyOutcome start.limits its_plan answer
          → IsOnlyOutcome start.limits (kept_plan W keep) answer
      kept_only answer h = subst (λ p. IsOnlyOutcome start.limits p answer) same_plan (only_over start.limits its_plan g refl answer h)

      pub kept_rounds : (answer : Result (List RoundView) Failed) → IfOk answer (AreRounds start.limits its_plan)
          → IfOk answer (AreRounds start.limits (kept_plan W keep))
      kept_rounds answer h =
          subst (λ p. IfOk answer (AreRounds start.limits p)) same_plan (ok_rounds_over start.limits its_plan g refl answer h)

    kept_wanted : (ps : List ProtoId) (ks : List (List Bool)) → AreWanted terms w.lexicon (kept_in w ps ks)
    kept_wanted [] ks x c = no_member x c
    kept_wanted (p ∷ ps) [] x c = no_member x c
    kept_wanted (p ∷ ps) (flags ∷ ks) x c =
        elim (Contains-append_cases (map (in_protocol p) (chosen (bare (requirements_of w p)) flags)) (kept_in w ps ks) x c) [
          | inl k ↦ (let r = contains_of_map (in_protocol p) (chosen (bare (requirements_of w p)) flags) x k in
              let q = contains_of_map (λ (z : Written). z.requirement) (requirements_of w p) r.0
              (chosen_in (bare (requirements_of w p)) flags r.0 r.1) in
              subst (λ (z : RoundRequirement). IsRequirementIn terms w.lexicon z.requirement) (sym r.2)
              (subst (IsRequirementIn terms w.lexicon) (sym q.2) (protocol_written w terms text p q.0 q.1)))
          | inr k ↦ kept_wanted ps ks x k
        ]

    pub kept_all_wanted : (all : List RoundRequirement) → all ≡ kept_in w w.lexicon.written_order keep → AreWanted terms w.lexicon all
    kept_all_wanted all e = subst (AreWanted terms w.lexicon) (sym e) (kept_wanted w.lexicon.written_order keep)

-- ---- the rules

pub kept_of_text : (w : TextWorld) → IsClosed w → (keep : List (List Bool)) → AreOfText (symbols_of w.lexicon) (kept_facts w keep)
kept_of_text w closed keep =
    let law = text_law w closed in record {
      owners = λ p r c. law.owners p r (chosen_in ((facts_of w).of_protocol p) (flags_of w.lexicon.written_order keep p) r c);
      members = law.members;
      protocols = λ p t q c.
          law.protocols p t q (chosen_in ((facts_of w).of_protocol p) (flags_of w.lexicon.written_order keep p) (Conforms t q) c);
    }

pub kept_rules : (w : TextWorld) → IsClosed w
    → (keep : List (List Bool)) (limits : Limits) (old new : Option (List Event)) (answer : Result (List RoundView) Failed)
    → Answers limits (kept_plan w keep) old new (rules_of answer)
    → IfOk answer (λ rounds. AreProtocolRules (symbols_of w.lexicon) (kept_facts w keep) (last_rules rounds))
kept_rules w closed keep limits old new (Ok rounds) a =
    protocols_law (symbols_of w.lexicon) (kept_facts w keep) (symbols_law w closed) (kept_of_text w closed keep) limits a.1.0
    (last_rules rounds) a.0 a.1.1
kept_rules w closed keep limits old new (Err failed) a = tt

-- ---- usable requirements

tells_at : {A : Type 0} (P : A → Type 0) (xs : List A) (bs : List Bool) (n : ℕ) (x : A) → Tells P xs bs → slice_get xs n ≡ Some x
    → Decides (get_or bs n false) (P x)
tells_at P [] bs n x t e = absurd cc
tells_at P (y ∷ xs) [] n x t e = absurd t
tells_at P (y ∷ xs) (b ∷ bs) zero x t e = let same : y ≡ x = cc in subst (λ z. Decides b (P z)) same t.0
tells_at P (y ∷ xs) (b ∷ bs) (suc n) x t e = tells_at P xs bs n x t.1 e

module _ (m : Symbols) (g : TermFacts) (fit : AreSymbolsOf m g) (ranges : AreOfText m g) (rules : List Rule)
    (are : AreProtocolRules m g rules) (p : ProtoId) (h : IsOfText m p) where
  to_derivable : (r : TermRequirement) → ShowsUsable m g (SelfOf p) (Links rules) r → HasValidSides g (SelfOf p) r
  to_derivable (Conforms t q) s = self_derivable m g fit ranges rules are p h t s
  to_derivable (IsAnyObject t) s = self_derivable m g fit ranges rules are p h t s
  to_derivable (Equals t u) s = (self_derivable m g fit ranges rules are p h t s.0, self_derivable m g fit ranges rules are p h u s.1)

  to_shown : (r : TermRequirement) → HasValidSides g (SelfOf p) r → ShowsUsable m g (SelfOf p) (Links rules) r
  to_shown (Conforms t q) s = self_shown m g fit ranges rules are p h t s
  to_shown (IsAnyObject t) s = self_shown m g fit ranges rules are p h t s
  to_shown (Equals t u) s = (self_shown m g fit ranges rules are p h t s.0, self_shown m g fit ranges rules are p h u s.1)

-- where the rules are those of these facts, the flags that tell what they show tell what is usable
pub tell_usable : (w : TextWorld) → IsClosed w → (g : TermFacts) → (facts_of w).associated_types ≡ g.associated_types
    → AreSymbolsOf (symbols_of w.lexicon) g
    → AreOfText (symbols_of w.lexicon) g → (rules : List Rule) → AreProtocolRules (symbols_of w.lexicon) g rules
    → (flags : List (List Bool))
    → TellEach w rules flags (length w.lexicon.protocols) → TellUsable w g flags
tell_usable w closed g same fit ranges rules are flags each p zero r e = absurd e
tell_usable w closed g same fit ranges rules are flags each p (suc n) r e =
    let m = symbols_of w.lexicon in
    let of : IsOfText m p = (text_law w closed).owners p r
    (n, slice_get_within ((facts_of w).of_protocol p) n r e, get_or_from_slice_get ((facts_of w).of_protocol p) n r r e) in
    let told = tells_at (IsUsableBy w rules p) ((facts_of w).of_protocol p) (get_or flags p.rank []) n r
    (each p.rank ((closed.ids.written_order p).0 of)) e in (
      (λ t. to_derivable m g fit ranges rules are p of r (usable_over m (facts_of w) g same (SelfOf p) (Links rules) r (told.0 t))),
      λ v. told.1 (usable_over m g (facts_of w) (sym same) (SelfOf p) (Links rules) r (to_shown m g fit ranges rules are p of r v)),
    )

-- ---- flags, one by one

module _ {A : Type 0} (P : A → Type 0) (xs : List A) where
  pub told_here : (k : ℕ) (d : A) (bs cs : List Bool) (b : Bool) → k < length xs → cs ≡ bs ++ b ∷ [] → Tells P (take k xs) bs
      → Decides b (P (get_or xs k d)) → Tells P (take (k + 1) xs) cs
  told_here k d bs cs b l f t h =
      let one : suc k ≡ k + 1 = omega arith in
      let cut : take (k + 1) xs ≡ take k xs ++ get_or xs k d ∷ [] =
      subst (λ n. take n xs ≡ take k xs ++ get_or xs k d ∷ []) one (take_one xs k (get_or xs k d) (slice_get-get_or xs k d l)) in
      subst₂ (Tells P) (sym cut) (sym f) (tells_one_more P (take k xs) bs (get_or xs k d) b t h)

  pub told_to_end : (k : ℕ) (bs : List Bool) → length xs ≤ k → Tells P (take k xs) bs → Tells P xs bs
  told_to_end k bs l t = subst (λ z. Tells P z bs) (take_all k xs l) t

-- the flags of the requirements of a protocol, over ids
pub told_of : (w : IdWorld) (terms : List Term) (rules : List Rule) (p : ProtoId) (list : List Requirement) (flags : List Bool)
    → list ≡ bare (requirements_of w p)
    → Tells (λ r. IsUsableBy (world_by terms w) rules p (requirement_of terms r)) list flags
    → Tells (IsUsableBy (world_by terms w) rules p) ((facts_of (world_by terms w)).of_protocol p) flags
told_of w terms rules p list flags e t =
    subst (λ z. Tells (IsUsableBy (world_by terms w) rules p) z flags)
    (sym (own_requirements w terms p ∙ ap (map (requirement_of terms)) (sym e)))
    (tells_map (IsUsableBy (world_by terms w) rules p) (requirement_of terms) list flags t)

pub tell_more : (w : TextWorld) (rules : List Rule) (k : ℕ) (old new : List (List Bool)) (flags : List Bool) → length old ≡ k
    → new ≡ old ++ flags ∷ [] → TellEach w rules old k
    → Tells (IsUsableBy w rules (record { rank = k })) ((facts_of w).of_protocol (record { rank = k })) flags → TellEach w rules new (k + 1)
tell_more w rules k old new flags n e each t j l = elim (cases_eq j k) [
  | inl s ↦ subst (λ (z : ℕ).
      Tells (IsUsableBy w rules (record { rank = z })) ((facts_of w).of_protocol (record { rank = z })) (get_or new z [])) (sym s)
      (subst (λ z. Tells (IsUsableBy w rules (record { rank = k })) ((facts_of w).of_protocol (record { rank = k })) z)
      (sym (ap (λ z. get_or z k []) e ∙ at_end old flags k n)) t)
  | inr d ↦ subst (λ z. Tells (IsUsableBy w rules (record { rank = j })) ((facts_of w).of_protocol (record { rank = j })) z)
      (sym (ap (λ z. get_or z j []) e ∙ before_end old flags j (omega (arith, n, l, d)))) (each j (omega (arith, l, d)))
]
  where
    at_end : (xs : List (List Bool)) (x : List Bool) (i : ℕ) → length xs ≡ i → get_or (xs ++ x ∷ []) i [] ≡ x
    at_end [] x zero h = refl
    at_end [] x (suc i) h = absurd (omega (arith, h))
    at_end (y ∷ xs) x zero h = absurd (omega (arith, h))
    at_end (y ∷ xs) x (suc i) h = at_end xs x i (omega (arith, h))

    before_end : (xs : List (List Bool)) (x : List Bool) (i : ℕ) → i < length xs → get_or (xs ++ x ∷ []) i [] ≡ get_or xs i []
    before_end [] x i h = absurd (omega (arith, h))
    before_end (y ∷ xs) x zero h = refl
    before_end (y ∷ xs) x (suc i) h = before_end xs x i (omega (arith, h))

-- ---- kept requirements, one by one

pub one_kept : {A B : Type 0} (g : A → B) (xs : List A) (bs : List Bool) (k : ℕ) (d : A) (c : Bool) (v w all : List B)
    → k < length xs → k < length bs
    → w ≡ v ++ (if get_or bs k c then g (get_or xs k d) ∷ [] else []) → v ++ map g (chosen (drop k xs) (drop k bs)) ≡ all
    → w ++ map g (chosen (drop (k + 1) xs) (drop (k + 1) bs)) ≡ all
one_kept g xs bs k d c v w all l m f h =
    let b = get_or bs k c in
    let x = get_or xs k d in
    let rest = chosen (drop (k + 1) xs) (drop (k + 1) bs) in
    ap (λ z. z ++ map g rest) f
    ∙ append_assoc v (if b then g x ∷ [] else []) (map g rest)
    ∙ ap (λ z. v ++ z)
    (ap (λ z. z ++ map g rest) (sym (map_one_if g b x))
    ∙ sym (map-append g (if b then x ∷ [] else []) rest)
    ∙ ap (map g) (sym (chosen_from xs bs k x d b c l m refl refl)))
    ∙ h

pub all_kept : {A B : Type 0} (g : A → B) (xs : List A) (bs : List Bool) (k : ℕ) (v all : List B) → length xs ≤ k
    → v ++ map g (chosen (drop k xs) (drop k bs)) ≡ all → v ≡ all
all_kept g xs bs k v all l h = sym (append-nil v) ∙ ap (λ z. v ++ map g (chosen z (drop k bs))) (sym (drop_all k xs l)) ∙ h

pub one_list : (w : IdWorld) (ps : List ProtoId) (ks : List (List Bool)) (k : ℕ) (p : ProtoId) (flags : List Bool)
    (v u all : List RoundRequirement)
    → slice_get ps k ≡ Some p → slice_get ks k ≡ Some flags → u ≡ v ++ map (in_protocol p) (chosen (bare (requirements_of w p)) flags)
    → v ++ kept_in w (drop k ps) (drop k ks) ≡ all → u ++ kept_in w (drop (k + 1) ps) (drop (k + 1) ks) ≡ all
one_list w ps ks k p flags v u all e h f i =
    let rest = kept_in w (drop (k + 1) ps) (drop (k + 1) ks) in
    ap (λ z. z ++ rest) f
    ∙ append_assoc v (map (in_protocol p) (chosen (bare (requirements_of w p)) flags)) rest
    ∙ ap (λ z. v ++ z) (sym (ap₂ (kept_in w) (drop_from ps k p e) (drop_from ks k flags h)))
    ∙ i

pub all_lists : (w : IdWorld) (ps : List ProtoId) (ks : List (List Bool)) (k : ℕ) (v all : List RoundRequirement) → length ps ≤ k
    → v ++ kept_in w (drop k ps) (drop k ks) ≡ all → v ≡ all
all_lists w ps ks k v all l h = sym (append-nil v) ∙ ap (λ z. v ++ kept_in w z (drop k ks)) (sym (drop_all k ps l)) ∙ h

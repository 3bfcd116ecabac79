-- The rules of a list while it grows: from a list that is settled, by one usable member more, to a list that is settled.
use Rattle.std.proofs.Common.{◌≡◌, ◌⊎◌, inl, inr, refl, sym, subst, subst₂, ◌<◌, ℕ, List, [], ◌∷◌, ◌++◌, get_or, length, Contains, Result, Ok, Err, IfOk}
use Rattle.std.specs.Prelude.{remove}
use Rattle.std.proofs.lemmas.List.{map-append}
use Rattle.std.proofs.lemmas.List.Elements.{Contains-append_cases, Contains-append_left, Contains-append_right, Contains-get_or, Contains-push_cases}
use Rattle.swreq_machine.proofs.swreq_lemmas.Members.{contains_map, contains_of_map, first_member, no_member}
use Rattle.swreq_machine.specs.swreq_derive.declared.requirements.Requirement.{Requirement}
use Rattle.swreq_machine.specs.swreq_derive.Derivation.{TermRequirement}
use Rattle.swreq_machine.specs.swreq_derive.Derivation.Source.{Written}
use Rattle.swreq_machine.specs.swreq_derive.Derivation.TermRequirement.{Conforms, Equals, IsAnyObject}
use Rattle.swreq_machine.specs.swreq_derive.WellFormed.{HasValidSides, IsUsable}
use Rattle.swreq_machine.proofs.swreq_derive.Monotone.{grows}
use Rattle.swreq_machine.specs.swreq_rule.declared.rules.Rule.{Rule}
use Rattle.swreq_machine.specs.swreq_complete.declared.limit.Failed.{Failed}
use Rattle.swreq_machine.specs.swreq_complete.Answers.{IsAnswer}
use Rattle.swreq_machine.specs.swreq_complete.Reached.{IsEnded}
use Rattle.swreq_machine.specs.swreq_correspondence.Symbols.{Word, left_side, right_side}
use Rattle.swreq_machine.specs.swreq_correspondence.Equations.Equation.{member, of_protocol, of_source, twice}
use Rattle.swreq_machine.specs.swreq_correspondence.Equations.{UsableEquation}
use Rattle.swreq_machine.specs.swreq_rounds.Presents.{ProtocolEquation}
use Rattle.swreq_machine.proofs.swreq_rounds.Presented.{presents_to}
use Rattle.swreq_machine.specs.swreq_valid.Checked.{base_of}
use Rattle.swreq_machine.specs.swreq_valid.Protocols.{AreRulesOf}
use Rattle.swreq_machine.proofs.swreq_symbols.OfTexts.{ids_over}
use Rattle.swreq_machine.proofs.Listing.{list_in_text}
use Rattle.swreq_list_rules.specs.declared.setting.Setting.{Setting}
use Rattle.swreq_list_rules.specs.ListRules.{AreCompletedBy, AreOfList, AreRulesOfList, AreShownBy, AreUnderway, ListRulesView}
use Rattle.swreq_list_rules.specs.Settings.{AreKnownIn, facts_in, params_in, said_in, says_in, source_in, symbols_in, text_in}
use Rattle.swreq_list_rules.proofs.ByEquation.{shown_valid, valid_shown}
use Rattle.swreq_list_rules.proofs.Extended.{all_on, extended}
use Rattle.swreq_list_rules.proofs.Parting.{AreParted, parted, said_before, said_still, was_there}
use Rattle.swreq_list_rules.proofs.Usable.{AreAllUsable, rules_down, rules_up, valid_down, valid_up}

module _ (s : Setting) where
  abbrev Usable : List TermRequirement → TermRequirement → Type 0
  Usable list q = IsUsable (facts_in s) (source_in s list) q

  abbrev AreAll : List TermRequirement → List TermRequirement → Type 0
  AreAll list some = AreAllUsable (facts_in s) (params_in s) list some

  -- ---- the list without members

  none_of : {A : Type 0} (q : TermRequirement) → Contains [] q → A
  none_of q h = no_member q h

  to_empty : (u v : Word) → ProtocolEquation (symbols_in s) (facts_in s) u v
      → UsableEquation (symbols_in s) (facts_in s) (source_in s []) u v
  to_empty u v (twice p h) = twice p h
  to_empty u v (member k h) = member k h
  to_empty u v (of_protocol p q h) = of_protocol p q h
  to_empty u v (of_source q h) = absurd h

  of_empty : (u v : Word) → UsableEquation (symbols_in s) (facts_in s) (source_in s []) u v
      → ProtocolEquation (symbols_in s) (facts_in s) u v
  of_empty u v (twice p h) = twice p h
  of_empty u v (member k h) = member k h
  of_empty u v (of_protocol p q h) = of_protocol p q h
  of_empty u v (of_source q h) = none_of q h.0

  pub empty_list : AreRulesOf (text_in s) (base_of s.checked) → AreOfList s [] (record { rules = base_of s.checked; waiting = [] })
  empty_list base = record {
    rules = record {
      rules = presents_to (base_of s.checked) (ProtocolEquation (symbols_in s) (facts_in s))
          (UsableEquation (symbols_in s) (facts_in s) (source_in s [])) to_empty of_empty base;
      in_text = λ t p h. none_of (Conforms t p) h;
    };
    known = λ r h. no_member r h;
    waits = λ q h. none_of q h;
    others = λ q h. none_of q h;
  }

  -- ---- a settled list, and members more

  module _ (list : List TermRequirement) (view : ListRulesView) (are : AreOfList s list view) where
    abbrev Waits : TermRequirement → Type 0
    Waits q = Contains (said_in s view.waiting) q

    pub usable_members : (some : List TermRequirement) × AreParted (Usable list) Waits list some
    usable_members = parted (Usable list) Waits list are.others

    abbrev some : List TermRequirement
    some = usable_members.0

    all_usable : AreAll list some
    all_usable = record {
      within = λ r h. (usable_members.1.within r h).0;
      whole = λ r h v. elim (usable_members.1.others r h) [
        | inl c ↦ c
        | inr w ↦ absurd ((are.waits r w).1 (more_valid r v))
      ];
    }
      where
        more_valid : (r : TermRequirement) → HasValidSides (facts_in s) (source_in s some) r → Usable list r
        more_valid (Conforms t p) h = grows (facts_in s) _ (params_in s) some list (λ r k. (usable_members.1.within r k).0) _ h
        more_valid (IsAnyObject t) h = grows (facts_in s) _ (params_in s) some list (λ r k. (usable_members.1.within r k).0) _ h
        more_valid (Equals t u) h = (
          grows (facts_in s) _ (params_in s) some list (λ r k. (usable_members.1.within r k).0) _ h.0,
          grows (facts_in s) _ (params_in s) some list (λ r k. (usable_members.1.within r k).0) _ h.1,
        )

    module _ (more : List Requirement) (known : AreKnownIn s more) where
      said_more : said_in s (view.waiting ++ more) ≡ said_in s view.waiting ++ said_in s more
      said_more = map-append (says_in s) view.waiting more

      waits_cases : (q : TermRequirement) → Contains (said_in s (view.waiting ++ more)) q
          → Contains (said_in s view.waiting) q ⊎ Contains (said_in s more) q
      waits_cases q h = Contains-append_cases (said_in s view.waiting) (said_in s more) q (subst (λ z. Contains z q) said_more h)

      waits_first : (q : TermRequirement) → Contains (said_in s view.waiting) q → Contains (said_in s (view.waiting ++ more)) q
      waits_first q h = subst (λ z. Contains z q) (sym said_more) (Contains-append_left (said_in s view.waiting) (said_in s more) q h)

      waits_last : (q : TermRequirement) → Contains (said_in s more) q → Contains (said_in s (view.waiting ++ more)) q
      waits_last q h = subst (λ z. Contains z q) (sym said_more) (Contains-append_right (said_in s view.waiting) (said_in s more) q h)

      pub begun : AreUnderway s (list ++ said_in s more) some view.rules (view.waiting ++ more)
      begun = record {
        rules = rules_down (symbols_in s) (facts_in s) (params_in s) list some all_usable view.rules are.rules.rules;
        usable = λ r h. valid_down (symbols_in s) (facts_in s) (params_in s) list some all_usable r (usable_members.1.within r h).1;
        in_text = λ t p h. elim (Contains-append_cases list (said_in s more) _ h) [
          | inl i ↦ are.rules.in_text t p i
          | inr i ↦
              let text = s.checked.text in
              list_in_text text.table.now text.world.now.lexicon (ids_over text) s.params more known t p i
        ];
        known = λ r h. elim (Contains-append_cases view.waiting more r h) [ inl i ↦ are.known r i | inr i ↦ known r i ];
        added_in = λ q h. Contains-append_left list (said_in s more) q (usable_members.1.within q h).0;
        waiting_in = λ q h. elim (waits_cases q h) [
          | inl i ↦ Contains-append_left list (said_in s more) q (are.waits q i).0
          | inr i ↦ Contains-append_right list (said_in s more) q i
        ];
        others_wait = λ q h. elim (Contains-append_cases list (said_in s more) q h) [
          | inl i ↦ elim (usable_members.1.others q i) [ inl c ↦ inl c | inr w ↦ inr (waits_first q w) ]
          | inr i ↦ inr (waits_last q i)
        ];
      }

  -- ---- a completion by one equation

  pub completed : (r : TermRequirement) (base : List Rule) (left right : Word) → left ≡ left_side (symbols_in s) (Written [] []) r
      → right ≡ right_side (symbols_in s) (Written [] []) r → (answer : Result (List Rule) Failed)
      → IsAnswer s.limits base ((left, right) ∷ []) answer → IfOk answer (AreCompletedBy s r base)
  completed r base left right l g (Ok rules) h = subst₂ (λ x y. IsAnswer s.limits base ((x, y) ∷ []) (Ok rules)) l g h
  completed r base left right l g (Err failed) h = tt

  -- ---- underway

  module _ (list added : List TermRequirement) (rules : List Rule) (waiting : List Requirement)
      (way : AreUnderway s list added rules waiting) where
    added_rules : AreRulesOfList s added rules
    added_rules = record { rules = way.rules; in_text = λ t p h. way.in_text t p (way.added_in _ h) }

    -- one that waits is usable
    module _ (k : ℕ) (d : Requirement) (l : k < length waiting) (new : List Rule) where
      abbrev r : TermRequirement
      r = says_in s (get_or waiting k d)

      pub one_more : AreShownBy s rules r → AreCompletedBy s r rules new → AreUnderway s list (added ++ r ∷ []) new (remove waiting k)
      one_more shown completed = record {
        rules = extended (symbols_in s) (facts_in s) (params_in s) added r way.usable valid rules new way.rules completed.0
            (subst₂ (λ x y. IsEnded (length rules) ((x, y) ∷ []) new) (left_is r) (right_is r) completed.1.ended);
        usable = all_on (symbols_in s) (facts_in s) (params_in s) added r way.usable valid;
        in_text = way.in_text;
        known = λ q h. way.known q (was_there waiting k d l q h);
        added_in = λ q h. elim (Contains-push_cases added r q h) [
          | inl i ↦ way.added_in q i
          | inr e ↦ subst (λ z. Contains list z) e
              (way.waiting_in r (contains_map (says_in s) waiting (get_or waiting k d) (Contains-get_or waiting k d l)))
        ];
        waiting_in = λ q h. way.waiting_in q (said_before waiting k d l (says_in s) q h);
        others_wait = λ q h. elim (way.others_wait q h) [
          | inl i ↦ inl (Contains-append_left added (r ∷ []) q i)
          | inr w ↦ elim (said_still waiting k d l (says_in s) q w) [
            | inl e ↦ inl (subst (λ z. Contains (added ++ r ∷ []) z) (sym e) (Contains-append_right added (r ∷ []) r (first_member r [])))
            | inr j ↦ inr j
          ]
        ];
      }
        where
          valid : HasValidSides (facts_in s) (source_in s added) r
          valid = shown_valid s added rules added_rules r shown

          left_is : (q : TermRequirement) → left_side (symbols_in s) (Written [] []) q ≡ left_side (symbols_in s) (source_in s added) q
          left_is (Conforms t p) = refl
          left_is (IsAnyObject t) = refl
          left_is (Equals t u) = refl

          right_is : (q : TermRequirement) → right_side (symbols_in s) (Written [] []) q ≡ right_side (symbols_in s) (source_in s added) q
          right_is (Conforms t p) = refl
          right_is (IsAnyObject t) = refl
          right_is (Equals t u) = refl

    -- none that waits is usable
    pub settled : ((r : Requirement) → Contains waiting r → AreShownBy s rules (says_in s r) → ⊥)
        → AreOfList s list (record { rules = rules; waiting = waiting })
    settled none = record {
      rules = record { rules = rules_up (symbols_in s) (facts_in s) (params_in s) list added all rules way.rules; in_text = way.in_text };
      known = way.known;
      waits = λ q h. (way.waiting_in q h, λ u. none_valid q h (valid_down (symbols_in s) (facts_in s) (params_in s) list added all q u));
      others = λ q h. elim (way.others_wait q h) [
        | inl c ↦ inl (valid_up (symbols_in s) (facts_in s) (params_in s) list added all q (way.usable q c))
        | inr w ↦ inr w
      ];
    }
      where
        none_valid : (q : TermRequirement) → Contains (said_in s waiting) q → HasValidSides (facts_in s) (source_in s added) q → ⊥
        none_valid q h v =
            let x = contains_of_map (says_in s) waiting q h in
            none x.0 x.1 (subst (λ z. AreShownBy s rules z) x.2 (valid_shown s added rules added_rules q v))

        all : AreAll list added
        all = record {
          within = way.added_in;
          whole = λ r h v. elim (way.others_wait r h) [ inl c ↦ c | inr w ↦ absurd (none_valid r w v) ];
        }

  -- ---- a list with the same members

  pub same_list : (list other : List TermRequirement) (view : ListRulesView) → ((q : TermRequirement) → Contains list q → Contains other q)
      → ((q : TermRequirement) → Contains other q → Contains list q) → AreOfList s list view → AreOfList s other view
  same_list list other view to back are = record {
    rules = record {
      rules = rules_up (symbols_in s) (facts_in s) (params_in s) other list all view.rules are.rules.rules;
      in_text = λ t p h. are.rules.in_text t p (back _ h);
    };
    known = are.known;
    waits =
        λ q h. (to q (are.waits q h).0, λ u. (are.waits q h).1 (valid_down (symbols_in s) (facts_in s) (params_in s) other list all q u));
    others = λ q h. elim (are.others q (back q h)) [
      | inl u ↦ inl (valid_up (symbols_in s) (facts_in s) (params_in s) other list all q u)
      | inr w ↦ inr w
    ];
  }
    where
      all : AreAll other list
      all = record { within = to; whole = λ r h v. back r h }

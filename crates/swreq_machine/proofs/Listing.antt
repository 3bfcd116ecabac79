-- The plan of a list, and the requirements that stand in it.
use Rattle.std.proofs.Common.{◌≡◌, sym, ap, ap₂, subst, ◌∙◌, List, [], map, Contains, Option, Ok}
use Rattle.std.proofs.lemmas.Simd.{map-map}
use Rattle.swreq_valid.specs.swreq_param.Terms.{Term}
use Rattle.swreq_valid.specs.swreq_derive.declared.known.Params.{Params}
use Rattle.swreq_valid.specs.swreq_derive.declared.requirements.Requirement.{Requirement}
use Rattle.swreq_valid.specs.swreq_derive.Derivation.{TermRequirement}
use Rattle.swreq_valid.specs.swreq_derive.Derivation.Source.{Written}
use Rattle.swreq_valid.specs.swreq_derive.Facts.{generic_params, requirement_of}
use Rattle.swreq_map.specs.swreq_rule.declared.rules.Rule.{Rule}
use Rattle.swreq_map.specs.swreq_watch.declared.events.Event.{Event}
use Rattle.swreq_map.specs.swreq_complete.declared.limit.Limits.{Limits}
use Rattle.swreq_valid.specs.swreq_correspondence.Symbols.{IsInText}
use Rattle.swreq_valid.specs.swreq_rounds.Given.{of_list}
use Rattle.swreq_valid.proofs.swreq_rounds.LastRound.{list_law}
use Rattle.swreq_map.proofs.swreq_lemmas.Members.{contains_of_map}
use Rattle.swreq_valid.specs.swreq_lexicon.Views.{LexiconView}
use Rattle.swreq_valid.specs.swreq_world.ByTable.{world_by}
use Rattle.swreq_valid.specs.swreq_world.Closed.{AreIds, IsClosed, IsRequirementOf}
use Rattle.swreq_valid.specs.swreq_world.Worlds.{IdWorld, TextWorld}
use Rattle.swreq_valid.specs.swreq_symbols.Known.{IsRequirementIn}
use Rattle.swreq_valid.specs.swreq_symbols.Meaning.{facts_of, symbols_of}
use Rattle.swreq_valid.proofs.swreq_symbols.Symbols as shown
use Rattle.swreq_valid.specs.declared.wanted.RoundStart.{RoundStart}
use Rattle.swreq_valid.specs.declared.wanted.RoundRequirement.{RoundRequirement}
use Rattle.swreq_valid.specs.Answers.{Answers}
use Rattle.swreq_valid.specs.Protocols.{AreRulesOf}
use Rattle.swreq_machine.specs.Machines.{IsMachineOf, list_of}
use Rattle.swreq_valid.specs.Plans.{AreKnown, AreWanted, in_signature, item_of, items_of, listed, plan_of, says}
use Rattle.swreq_valid.specs.Rounds.{RoundView, last_rules}

-- ---- the plan of a list

module _ (w : IdWorld) (terms : List Term) (base : List Rule) (start : RoundStart) (params : Params) (list : List Requirement)
    (basic_is : start.basic.items ≡ []) (all_is : start.all.items ≡ map (in_signature params) list) where
  abbrev rs : List TermRequirement
  rs = listed terms list

  says_list : says terms start.all.items ≡ rs
  says_list = ap (says terms) all_is ∙ map-map (λ (x : RoundRequirement). requirement_of terms x.requirement) (in_signature params) list

  items_list : items_of terms start.all.items ≡ map (of_list (generic_params params) rs) rs
  items_list =
      ap₂ (λ s xs. map (item_of terms s) xs) says_list all_is
      ∙ map-map (item_of terms rs) (in_signature params) list
      ∙ sym (map-map (of_list (generic_params params) rs) (requirement_of terms) list)

  pub list_plan_is : plan_of w terms base start ≡ list_of (world_by terms w) base params rs
  list_plan_is = λ i.
      record { symbols = symbols_of w.lexicon; facts = facts_of (world_by terms w); base = base; basic = basic_is i; all = items_list i }

  pub list_plan_over : (other : List Rule) → base ≡ other → plan_of w terms base start ≡ list_of (world_by terms w) other params rs
  list_plan_over other same = list_plan_is ∙ ap (λ z. list_of (world_by terms w) z params rs) same

  pub list_wanted : AreKnown terms w.lexicon list → AreWanted terms w.lexicon start.all.items
  list_wanted h x k =
      let r = contains_of_map (in_signature params) list x (subst (λ z. Contains z x) all_is k) in
      subst (λ (z : RoundRequirement). IsRequirementIn terms w.lexicon z.requirement) (sym r.2) (h r.0 r.1)

-- ---- the machine of a list

pub list_in_text : (terms : List Term) (x : LexiconView) → AreIds x → (params : Params) (list : List Requirement) → AreKnown terms x list
    → IsInText (symbols_of x) (Written (generic_params params) (listed terms list))
list_in_text terms x ids params list h = λ t p c.
    let r = contains_of_map (requirement_of terms) list _ c in
    (ids.written_order p).1 (subst (IsRequirementOf x) (sym r.2) (h r.0 r.1).1).1

module _ (w : TextWorld) (closed : IsClosed w) (limits : Limits) (base : List Rule) (params : Params) (list : List TermRequirement)
    (over : AreRulesOf w base) (n : IsInText (symbols_of w.lexicon) (Written (generic_params params) list)) where
  pub list_machine : (old new : Option (List Event)) (rounds : List RoundView)
      → Answers limits (list_of w base params list) old new (Ok (last_rules rounds))
      → IsMachineOf w list (record { params = params; rounds = rounds })
  list_machine old new rounds a = record {
    rules = list_law (symbols_of w.lexicon) (facts_of w) (shown.symbols_law w closed) (shown.text_law w closed) limits base over
        (generic_params params) list n
        a.1.0 (last_rules rounds) a.0 a.1.1;
    in_text = n;
  }

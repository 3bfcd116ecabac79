-- What building the machine of a written list answers of a text.
use Rattle.std.proofs.Common.{◌≡◌, sym, subst, List, Contains, Option, Result, Ok, Err}
use Rattle.swreq_valid.specs.swreq_param.Terms.{Term}
use Rattle.swreq_valid.specs.swreq_derive.declared.known.Params.{Params}
use Rattle.swreq_valid.specs.swreq_derive.declared.requirements.Requirement.{Requirement}
use Rattle.swreq_valid.specs.swreq_derive.Derivation.{TermRequirement}
use Rattle.swreq_valid.specs.swreq_derive.Derivation.Source.{Written as WrittenList}
use Rattle.swreq_valid.specs.swreq_derive.Facts.{generic_params}
use Rattle.swreq_map.specs.swreq_rule.declared.rules.Rule.{Rule}
use Rattle.swreq_map.specs.swreq_watch.declared.events.Event.{Event}
use Rattle.swreq_map.specs.swreq_complete.declared.limit.Failed.{Failed}
use Rattle.swreq_map.specs.swreq_complete.declared.limit.Limits.{Limits}
use Rattle.swreq_valid.specs.swreq_lowering.declared.ids.Written.{Written}
use Rattle.swreq_valid.specs.swreq_lowering.ByTable.{placed}
use Rattle.swreq_valid.specs.swreq_world.ByTable.{world_by}
use Rattle.swreq_valid.specs.swreq_world.Closed.{IsClosed}
use Rattle.swreq_valid.specs.swreq_world.Worlds.{IdWorld, TextWorld}
use Rattle.swreq_valid.specs.swreq_symbols.Meaning.{facts_of, symbols_of}
use Rattle.swreq_valid.specs.declared.refused.Refused.{Refused}
use Rattle.swreq_valid.specs.Answers.{Answers}
use Rattle.swreq_valid.specs.Built.{Builds, Judges, refusal}
use Rattle.swreq_machine.specs.Machines.{IsMachineOf, MachineView, built_rules, list_of}
use Rattle.swreq_valid.specs.Plans.{bare, listed}
use Rattle.swreq_valid.specs.Rounds.{last_rules}
use Rattle.swreq_valid.specs.Sides.{IsShownSide, sides}
use Rattle.swreq_valid.proofs.Building.{builds_failed, builds_judged}
use Rattle.swreq_machine.proofs.Shown.{side_shown, side_valid}

-- ---- the machine of a written list

module _ (w : IdWorld) (terms : List Term) (closed : IsClosed (world_by terms w)) (base : List Rule) (params : Params)
    (written : List Written) (list : List Requirement)
    (same : list ≡ bare written) (limits : Limits) (old new : Option (List Event)) where
  abbrev W : TextWorld
  W = world_by terms w

  abbrev rs : List TermRequirement
  rs = listed terms (bare written)

  pub machine_failed : (e : Failed) (r : Refused) → r ≡ refusal e
      → Answers limits (list_of W base params (listed terms list)) old new (Err e)
      → Builds limits (list_of W base params rs) (facts_of W)
      (sides (WrittenList (generic_params params) rs) (placed terms written)) old new (Err r)
  machine_failed e r k a =
      subst (λ z. Builds limits (list_of W base params rs) (facts_of W)
      (sides (WrittenList (generic_params params) rs) (placed terms written)) old new (Err z)) (sym k)
      (builds_failed limits (list_of W base params rs) (facts_of W)
      (sides (WrittenList (generic_params params) rs) (placed terms written)) e old new
      (subst (λ z. Answers limits (list_of W base params (listed terms z)) old new (Err e)) same a))

  pub machine_judged : (m : MachineView) (answer : Result MachineView Refused) → m.params ≡ params
      → Answers limits (list_of W base params (listed terms list)) old new (Ok (last_rules m.rounds)) → IsMachineOf W (listed terms list) m
      → ((qs : List TermRequirement) → Judges (IsShownSide (symbols_of w.lexicon) (facts_of W) (last_rules m.rounds))
      (sides (WrittenList (generic_params m.params) qs) (placed terms written))
      (last_rules m.rounds) (built_rules answer))
      → Builds limits (list_of W base params rs) (facts_of W)
      (sides (WrittenList (generic_params params) rs) (placed terms written)) old new (built_rules answer)
  machine_judged m answer e a is judged =
      let of : IsMachineOf W rs m = subst (λ z. IsMachineOf W (listed terms z) m) same is in
      builds_judged limits (list_of W base params rs) (facts_of W) (sides (WrittenList (generic_params params) rs) (placed terms written))
      (IsShownSide (symbols_of w.lexicon) (facts_of W) (last_rules m.rounds)) (last_rules m.rounds) (built_rules answer) old new
      (λ s c h. side_valid W closed m rs of (placed terms written) s
      (subst (λ p. Contains (sides (WrittenList (generic_params p) rs) (placed terms written)) s) (sym e) c) h)
      (λ s c h. side_shown W closed m rs of (placed terms written) s
      (subst (λ p. Contains (sides (WrittenList (generic_params p) rs) (placed terms written)) s) (sym e) c) h)
      (subst (λ z. Answers limits (list_of W base params (listed terms z)) old new (Ok (last_rules m.rounds))) same a)
      (subst (λ p. Judges (IsShownSide (symbols_of w.lexicon) (facts_of W) (last_rules m.rounds))
      (sides (WrittenList (generic_params p) rs) (placed terms written))
      (last_rules m.rounds) (built_rules answer)) e (judged rs))

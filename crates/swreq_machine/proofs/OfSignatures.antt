-- The list of a signature, as it is read from a world over ids and as its text means it.
use Rattle.std.proofs.Common.{◌≡◌, ◌<◌, List, Option, Result, length, sym, subst}
use Rattle.swreq_map.specs.swreq_complete.declared.limit.Limits.{Limits}
use Rattle.swreq_valid.specs.swreq_derive.Derivation.{TermRequirement}
use Rattle.swreq_valid.specs.swreq_derive.Derivation.Source.{Written as WrittenList}
use Rattle.swreq_valid.specs.swreq_derive.Facts.{generic_params}
use Rattle.swreq_valid.specs.swreq_derive.declared.known.Params.{Params}
use Rattle.swreq_valid.specs.swreq_param.Terms.{Term}
use Rattle.swreq_map.specs.swreq_rule.declared.rules.Rule.{Rule}
use Rattle.swreq_map.specs.swreq_watch.declared.events.Event.{Event}
use Rattle.swreq_valid.specs.swreq_lowering.ByTable.{placed}
use Rattle.swreq_valid.specs.swreq_lowering.declared.ids.FuncId.{FuncId}
use Rattle.swreq_valid.specs.swreq_lowering.declared.ids.Written.{Written}
use Rattle.swreq_valid.specs.swreq_lowering.Requirements.{PlacedRequirement}
use Rattle.swreq_valid.specs.swreq_world.ByTable.{world_by}
use Rattle.swreq_valid.specs.swreq_world.FactsAt.{written_list}
use Rattle.swreq_valid.specs.swreq_world.Worlds.{IdWorld, SignatureOver, signature_at}
use Rattle.swreq_valid.proofs.swreq_symbols.OfText.{requirements_placed, signature_is, signature_written}
use Rattle.swreq_valid.specs.swreq_symbols.Known.{IsTextOver}
use Rattle.swreq_valid.specs.swreq_symbols.Meaning.{facts_of}
use Rattle.swreq_valid.specs.Built.{Builds}
use Rattle.swreq_machine.specs.Machines.{list_of, machine_plan}
use Rattle.swreq_machine.specs.OfSignatures.{signature_plan, signature_sides}
use Rattle.swreq_valid.specs.Plans.{AreWritten, bare, listed}
use Rattle.swreq_valid.specs.Sides.{list_sides, sides}
use Rattle.swreq_valid.specs.declared.refused.Refused.{Refused}

module _ (terms : List Term) (w : IdWorld) (f : FuncId) (params : Params) (list : List Written)
    (params_are : params ≡ (signature_at w f).params) (list_is : list ≡ (signature_at w f).requirements) where
  abbrev meant : SignatureOver PlacedRequirement
  meant = signature_at (world_by terms w) f

  -- what holds of those that are read holds of those that are meant: of the parameters, and of the list without and with its places
  pub as_meant : (P : Params → List TermRequirement → List PlacedRequirement → Type 0)
      → P params (listed terms (bare list)) (placed terms list) → P meant.params (written_list meant) meant.requirements
  as_meant P h =
      subst (λ g. P g.params (written_list g) g.requirements) (sym (signature_is w terms f))
      (rw (← params_are, ← list_is) (subst (λ rs. P params rs (placed terms list)) (requirements_placed terms list) h))

  -- and the other way round
  pub as_read : (P : Params → List TermRequirement → List PlacedRequirement → Type 0)
      → P meant.params (written_list meant) meant.requirements → P params (listed terms (bare list)) (placed terms list)
  as_read P h = as_meant (λ p rs qs. P p rs qs → P params (listed terms (bare list)) (placed terms list)) (λ k. k) h

  -- so what is built of the read ones is built of the signature
  pub builds : (limits : Limits) (base : List Rule) (old new : Option (List Event)) (answer : Result (List Rule) Refused)
      → Builds limits (machine_plan terms w base params (bare list)) (facts_of (world_by terms w))
      (list_sides terms params list) old new answer
      → Builds limits (signature_plan (world_by terms w) base meant) (facts_of (world_by terms w)) (signature_sides meant) old new answer
  builds limits base old new answer = as_meant (λ p rs qs. Builds limits (list_of (world_by terms w) base p rs)
      (facts_of (world_by terms w)) (sides (WrittenList (generic_params p) rs) qs) old new answer)

  -- the list is of the table and of the text
  pub list_written : IsTextOver terms w → f.place < length w.signatures → AreWritten terms w.lexicon list
  list_written text l r c = signature_written w terms text f l r (rw list_is at c)

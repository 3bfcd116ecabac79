-- What the rules of a family tell, by the flags of all requirements.
use Rattle.std.proofs.Common.{◌≡◌, ◌∙◌, ◌↔◌, ap, sym, subst, Bool, IsTrue, List}
use Rattle.swreq_valid.specs.swreq_param.declared.ids.ProtoId.{ProtoId}
use Rattle.swreq_valid.specs.swreq_param.Terms.{Term}
use Rattle.swreq_valid.specs.swreq_derive.Derivation.{Derivable, TermRequirement}
use Rattle.swreq_valid.specs.swreq_derive.Derivation.Source.{SelfOf}
use Rattle.swreq_valid.specs.swreq_derive.Derivation.TermStatement.{Requires}
use Rattle.swreq_valid.specs.swreq_derive.Kept.{owned_facts}
use Rattle.swreq_valid.specs.swreq_symbols.Known.{IsTextOver}
use Rattle.swreq_valid.specs.Keeping.{kept_facts, kept_plan}
use Rattle.swreq_valid.specs.swreq_world.ByTable.{world_by}
use Rattle.swreq_valid.specs.swreq_world.Worlds.{IdWorld}
use Rattle.swreq_reqsig.specs.Families.{associated_types_of, family_of, family_plan, flag_lists}
use Rattle.swreq_reqsig.proofs.InLists.{flag_lists_by}
use Rattle.swreq_reqsig.proofs.OfWorld.{kept_derivable}

module _ (w : IdWorld) (terms : List Term) where
  lists_by : (lists : List (List Bool)) (flags : List Bool) → lists ≡ flag_lists w flags → lists ≡ flag_lists (world_by terms w) flags
  lists_by lists flags e = e ∙ sym (flag_lists_by w terms flags)

  pub plan_by : (lists : List (List Bool)) (flags : List Bool) → lists ≡ flag_lists w flags
      → kept_plan (world_by terms w) lists ≡ family_plan (world_by terms w) flags
  plan_by lists flags e = ap (kept_plan (world_by terms w)) (lists_by lists flags e)

  pub follows_by : IsTextOver terms w → (lists : List (List Bool)) (flags : List Bool) → lists ≡ flag_lists w flags
      → (p : ProtoId) (r : TermRequirement) (b : Bool)
      → IsTrue b ↔ Derivable (kept_facts (world_by terms w) lists) (SelfOf p) (Requires r)
      → IsTrue b
      ↔ Derivable (owned_facts (associated_types_of (world_by terms w)) (family_of (world_by terms w) flags)) (SelfOf p) (Requires r)
  follows_by text lists flags e p r b d =
      let law = kept_derivable (world_by terms w) text.closed flags p (Requires r) in
      let here = subst (λ (z : List (List Bool)). IsTrue b ↔ Derivable (kept_facts (world_by terms w) z) (SelfOf p) (Requires r))
      (lists_by lists flags e) d in
      ((λ t. law.0 (here.0 t)), λ k. here.1 (law.1 k))

-- Which requirements of a signature fail where it is called.
use Rattle.std.specs.Prelude.{◌≡◌, ◌⊎◌, ℕ, ◌≤◌, List, All, Contains, Some, length, map}
use Rattle.std.specs.List.Sorted.{IsStrictlyIncreasing}
use Rattle.swreq_machine.specs.swreq_derive.declared.known.Params.{Params}
use Rattle.swreq_machine.specs.swreq_derive.declared.requirements.Requirement.{Requirement}
use Rattle.swreq_machine.specs.swreq_derive.Derivation.{TermFacts, TermRequirement, Source, Derivable}
use Rattle.swreq_machine.specs.swreq_derive.Derivation.TermStatement.{Requires}
use Rattle.swreq_machine.specs.swreq_derive.Instances.{HasNumber}
use Rattle.swreq_machine.specs.swreq_param.Terms.{Term}
use Rattle.swreq_machine.specs.swreq_symbols.Known.{IsRequirementIn, IsTextOver, IsTypeIn}
use Rattle.swreq_machine.specs.swreq_world.ByTable.{world_by}
use Rattle.swreq_machine.specs.swreq_world.FactsAt.{facts_of, source_of, written_list}
use Rattle.swreq_machine.specs.swreq_world.Worlds.{TextWorld, signature_at}
use Rattle.swreq_subst.specs.declared.failures.Judging.{Judging}
use Rattle.swreq_subst.specs.Arguments.{IsOverArguments, requirement_with}
use Rattle.swreq_subst.specs.Calls.{TermCall}

-- from: the caller's list. params, args: the generic parameters of the callee, and the types in their places.
module _ (f : TermFacts) (from : Source) (params : Params) (args : List Term) where
  -- The requirement holds: with the types in place of the generic parameters it is derivable.
  abbrev pub Holds : TermRequirement → Type 0
  Holds r = Derivable f from (Requires (requirement_with params args r))

  -- The requirement with this number fails: it does not hold.
  abbrev pub FailsAt : List TermRequirement → ℕ → Type 0
  FailsAt rs n = (r : TermRequirement) × HasNumber n rs r × (Holds r → ⊥)

  -- Among the first `count` requirements, those with these numbers fail, and all others hold. The numbers are ascending.
  pub record AreFailingUpTo (rs : List TermRequirement) (count : ℕ) (ns : List ℕ) : Type 0 where
    pub fail : (n : ℕ) → Contains ns n → (n ≤ count) × FailsAt rs n
    pub others : (n : ℕ) (r : TermRequirement) → n ≤ count → HasNumber n rs r → Contains ns n ⊎ Holds r
    pub ascending : IsStrictlyIncreasing ns

  -- These are exactly the numbers of the failing requirements, ascending.
  abbrev pub AreFailing : List TermRequirement → List ℕ → Type 0
  AreFailing rs ns = AreFailingUpTo rs (length rs) ns

-- These are exactly the numbers of the failing requirements of the callee, by the caller's list and these types of the call.
abbrev pub AreFailingWith : TextWorld → TermCall → List Term → List ℕ → Type 0
AreFailingWith w c ts ns =
    (c.args ≡ map (λ (t : Term). Some t) ts)
    × AreFailing (facts_of w) (source_of (signature_at w c.f)) (signature_at w c.g).params ts (written_list (signature_at w c.g)) ns

-- Where each type of the call is there, these are exactly the numbers of the failing requirements of the callee.
abbrev pub AreFailingIn : TextWorld → TermCall → List ℕ → Type 0
AreFailingIn w c ns = (ts : List Term) × AreFailingWith w c ts ns

-- ---- by what requirements are judged, over the ids of a table

-- the world that it is about
abbrev pub judged_in : List Term → Judging → TextWorld
judged_in terms by = world_by terms by.world.now

-- The text and the table belong together, and the types are of the text.
pub record IsJudgingOver (terms : List Term) (by : Judging) : Type 0 where
  pub text : IsTextOver terms by.world.now
  pub args : All (IsTypeIn terms by.world.now.lexicon) by.args.now

-- The requirement is of the text, and there is a type for each generic parameter in it.
abbrev pub CanBeJudged : List Term → Judging → Requirement → Type 0
CanBeJudged terms by r = IsRequirementIn terms by.world.now.lexicon r × IsOverArguments terms by.params by.args.now r

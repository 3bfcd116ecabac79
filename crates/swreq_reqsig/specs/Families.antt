-- The requirements of the protocols of a world in one list, and families of requirement signatures.
use Rattle.std.specs.Prelude.{◌≡◌, ◌↔◌, ℕ, ◌-◌, suc, Bool, true, false, List, [], ◌∷◌, ◌++◌, Contains, length, map, take, drop}
use Rattle.swreq_valid.specs.swreq_param.declared.ids.ProtoId.{ProtoId}
use Rattle.swreq_valid.specs.swreq_derive.Derivation.{AssociatedType, Derivable, TermRequirement, TermStatement}
use Rattle.swreq_valid.specs.swreq_derive.Derivation.Source.{SelfOf}
use Rattle.swreq_valid.specs.swreq_derive.Derivation.TermStatement.{Requires}
use Rattle.swreq_valid.specs.swreq_derive.Kept.{Owned, owned_facts}
use Rattle.swreq_valid.specs.swreq_lowering.Heads.{IsOverSelf}
use Rattle.swreq_valid.specs.swreq_rounds.Plan.{Plan}
use Rattle.swreq_valid.specs.swreq_rounds.Presents.{AreProtocolRules}
use Rattle.swreq_valid.specs.swreq_symbols.Meaning.{facts_of, symbols_of}
use Rattle.swreq_valid.specs.Flags.{chosen}
use Rattle.swreq_valid.specs.Keeping.{TellUsable, kept_facts, kept_plan}
use Rattle.swreq_valid.specs.Protocols.{ProtocolsView}
use Rattle.swreq_valid.specs.Rounds.{last_rules}
use Rattle.swreq_valid.specs.swreq_world.Worlds.{TextWorld, WorldOver, requirements_of}
use Rattle.swreq_reqsig.specs.GoingThrough.{AreGiven}

-- ---- the requirements of all protocols

abbrev pub own : ProtoId → TermRequirement → Owned
own p r = record { proto = p; requirement = r }

-- the requirements of these protocols
abbrev pub owned_in : TextWorld → List ProtoId → List Owned
owned_in w [] = []
owned_in w (p ∷ ps) = map (own p) ((facts_of w).of_protocol p) ++ owned_in w ps

-- the requirements of all protocols, protocols and requirements in written order
abbrev pub owned : TextWorld → List Owned
owned w = owned_in w w.lexicon.written_order

abbrev pub associated_types_of : TextWorld → List AssociatedType
associated_types_of w = (facts_of w).associated_types

-- ---- families of requirement signatures

-- with this family in place of the lists of the protocols, the statement is derivable from [τ_0_0 : P]
abbrev pub DerivesWith : TextWorld → List Owned → ProtoId → TermStatement → Type 0
DerivesWith w family p st = Derivable (owned_facts (associated_types_of w) family) (SelfOf p) st

-- A family gives each protocol a list of requirements over τ_0_0: these requirements, each with the protocol that has it. It is a family
-- of requirement signatures where the same is derivable from [τ_0_0 : P] with its lists in place of the protocols' lists, for every P, and
-- with any member left out the protocol that has it loses what the member requires.
pub record AreRequirementSignatures (w : TextWorld) (family : List Owned) : Type 0 where
  pub over_self : (o : Owned) → Contains family o → IsOverSelf o.requirement
  pub same : (p : ProtoId) (st : TermStatement) → DerivesWith w family p st ↔ Derivable (facts_of w) (SelfOf p) st
  pub derived : (o : Owned) → Contains family o → DerivesWith w family o.proto (Requires o.requirement)
  pub lost : (before after : List Owned) (o : Owned) → family ≡ before ++ (o ∷ after)
      → DerivesWith w (before ++ after) o.proto (Requires o.requirement) → ⊥

-- ---- flags for the requirements, and numbers

-- the flags of the requirements of these protocols, in a list for each of them
abbrev pub in_lists : {R Q : Type 0} → WorldOver R Q → List ProtoId → List Bool → List (List Bool)
in_lists w [] flags = []
in_lists w (p ∷ ps) flags = take (length (requirements_of w p)) flags ∷ in_lists w ps (drop (length (requirements_of w p)) flags)

abbrev pub flag_lists : {R Q : Type 0} → WorldOver R Q → List Bool → List (List Bool)
flag_lists w flags = in_lists w w.lexicon.written_order flags

-- the family of those requirements whose flags are set
abbrev pub family_of : TextWorld → List Bool → List Owned
family_of w flags = chosen (owned w) flags

-- the numbers of those whose flags are set, where the first has this number
abbrev pub numbers_from : ℕ → List Bool → List ℕ
numbers_from n [] = []
numbers_from n (true ∷ flags) = n ∷ numbers_from (suc n) flags
numbers_from n (false ∷ flags) = numbers_from (suc n) flags

-- for each protocol, in written order, the numbers of the requirements whose flags are set, from 1, ascending
abbrev pub numbers : {R Q : Type 0} → WorldOver R Q → List Bool → List (List ℕ)
numbers w flags = map (numbers_from 1) (flag_lists w flags)

-- These are for each protocol, in written order, the numbers of the requirements that are left where one has gone through all of them.
abbrev pub IsGivenFamily : TextWorld → List (List ℕ) → Type 0
IsGivenFamily w kept = (flags : List Bool) × AreGiven (associated_types_of w) (owned w) flags × (kept ≡ numbers w flags)

-- those with these numbers, from 1
abbrev pub numbered : {A : Type 0} → List A → List ℕ → List A
numbered xs [] = []
numbered xs (n ∷ ns) = take 1 (drop (n - 1) xs) ++ numbered xs ns

-- the requirements of these protocols that have the numbers in the lists
abbrev pub members_in : TextWorld → List ProtoId → List (List ℕ) → List Owned
members_in w [] kept = []
members_in w (p ∷ ps) [] = []
members_in w (p ∷ ps) (ns ∷ kept) = map (own p) (numbered ((facts_of w).of_protocol p) ns) ++ members_in w ps kept

-- the members of a family that has for each protocol, in written order, these numbers
abbrev pub members : TextWorld → List (List ℕ) → List Owned
members w kept = members_in w w.lexicon.written_order kept

-- ---- rounds

-- the rounds of the protocols with those requirements alone whose flags are set
abbrev pub family_plan : TextWorld → List Bool → Plan
family_plan w flags = kept_plan w (flag_lists w flags)

-- The rules are those of the kept requirements, and it is told which requirements are usable by these.
pub record AreRulesOfKept (w : TextWorld) (keep : List (List Bool)) (p : ProtocolsView) : Type 0 where
  pub rules : AreProtocolRules (symbols_of w.lexicon) (kept_facts w keep) (last_rules p.rounds)
  pub usable : TellUsable w (kept_facts w keep) p.usable

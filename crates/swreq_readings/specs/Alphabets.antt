-- What words are read by: the world of a text, and the generic parameters of a list.
use Rattle.std.specs.Prelude.{◌≡◌, ◌+◌, ℕ, Some, List, get_or, slice_get}
use Rattle.swreq_derive.specs.{declared.requirements.Requirement.{Requirement}, swreq_param.Terms.{self}}
use Rattle.swreq_derive.specs.{swreq_param.declared.ids.{NameId.{NameId}, ProtoId.{ProtoId}}, Derivation.{Declares}}
use Rattle.swreq_derive.specs.{Derivation.TermRequirement.{Conforms}, Facts.{generic_params}, Instances.{HasNumber}}
use Rattle.swreq_derivation.specs.UnderWay.{Assumptions}
use Rattle.swreq_world.specs.swreq_lexicon.{declared.pair.ProtocolName.{ProtocolName}, Lexicons.{pair}, Views.{LexiconView}}
use Rattle.swreq_readings.specs.Inherited.{IsDeclaredIn, IsMemberIn, IsParentIn, written_in}
use Rattle.swreq_readings.specs.declared.alphabet.Alphabet.{Alphabet}

abbrev pub lexicon : Alphabet → LexiconView
lexicon g = g.world.now.lexicon

-- the protocol and the name of a member symbol, by its rank
abbrev pub member_at : Alphabet → ℕ → ProtocolName
member_at g k = get_or (lexicon g).symbols k (pair (record { rank = 0 }) (record { rank = 0 }))

-- P declares A.
abbrev pub IsDeclared : Alphabet → ProtoId → NameId → Type 0
IsDeclared g = IsDeclaredIn (lexicon g)

-- A is a member name of P.
abbrev pub IsMember : Alphabet → ProtoId → NameId → Type 0
IsMember g = IsMemberIn (lexicon g)

-- the requirements of P, over ids
abbrev pub written_at : Alphabet → ProtoId → List Requirement
written_at g = written_in g.world.now

-- The requirement of P at the place k, counted from 0, is `[Self : Q]`.
abbrev pub IsParentAt : Alphabet → ProtoId → ℕ → ProtoId → Type 0
IsParentAt g = IsParentIn g.world.now g.self_id

-- At the place k P inherits Q, which has the member name A.
abbrev pub IsParentFor : Alphabet → ProtoId → NameId → ℕ → ProtoId → Type 0
IsParentFor g p a k q = IsParentAt g p k q × IsMember g q a

-- A is a member name of P, and P does not declare A.
abbrev pub IsFromAbove : Alphabet → ProtoId → NameId → Type 0
IsFromAbove g p a = IsMember g p a × (IsDeclared g p a → ⊥)

-- Each associated type is the one of the facts with the same rank. What a protocol is written to inherit is one of its requirements in the
-- facts. The generic parameters are those of the list.
pub record Fits (g : Alphabet) (b : Assumptions) : Type 0 where
  pub associated : (k : ℕ) (n : ProtocolName) → slice_get (lexicon g).associated k ≡ Some n
      → Declares b.facts n.proto n.name (record { rank = k })
  pub parents : (p q : ProtoId) (k : ℕ) → IsParentAt g p k q → HasNumber (k + 1) (b.facts.of_protocol p) (Conforms self q)
  pub params : b.params ≡ generic_params g.params

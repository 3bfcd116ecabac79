-- The written inheritance of the protocols of a world.
use Rattle.std.specs.Prelude.{◌≡◌, ◌⊎◌, ◌<◌, ◌^◌, ℕ, Some, List, Option, length, map, slice_get}
use Rattle.swreq_derive.specs.declared.requirements.Requirement.{Requirement, TheVariants.{Conf}}
use Rattle.swreq_derive.specs.swreq_param.declared.ids.{NameId.{NameId}, ProtoId.{ProtoId}, TermId.{TermId}}
use Rattle.swreq_world.specs.swreq_lexicon.{Lexicons.{pair}, Views.{IsProtocol, LexiconView, depth}}
use Rattle.swreq_world.specs.Worlds.{IdWorld, requirements_of}

-- P declares A.
abbrev pub IsDeclaredIn : LexiconView → ProtoId → NameId → Type 0
IsDeclaredIn x p a = (k : ℕ) × (slice_get x.associated k ≡ Some (pair p a))

-- A is a member name of P.
abbrev pub IsMemberIn : LexiconView → ProtoId → NameId → Type 0
IsMemberIn x p a = (k : ℕ) × (slice_get x.symbols k ≡ Some (pair p a))

-- the requirements of P, over ids
abbrev pub written_in : IdWorld → ProtoId → List Requirement
written_in w p = map (λ r. r.requirement) (requirements_of w p)

-- The requirement is `[Self : Q]`, where this is the id of `Self`.
abbrev pub IsParentBy : Option TermId → Requirement → ProtoId → Type 0
IsParentBy id r q = (s : TermId) × (id ≡ Some s) × (r ≡ Conf s q)

-- The requirement of P at the place k, counted from 0, is `[Self : Q]`.
abbrev pub IsParentIn : IdWorld → Option TermId → ProtoId → ℕ → ProtoId → Type 0
IsParentIn w id p k q = (s : TermId) × (id ≡ Some s) × (slice_get (written_in w p) k ≡ Some (Conf s q))

-- Numbers of 32 bits count the requirements of each protocol. The depth of a protocol is greater than that of each protocol that it is
-- written to inherit. If A is a member name of P, then P is a protocol of the text, and it declares A, or is written to inherit a protocol
-- with the member name A. The id is that of `Self`.
pub record IsInherited (w : IdWorld) (id : Option TermId) : Type 0 where
  pub short : (p : ProtoId) → length (written_in w p) < 2 ^ 32
  pub goes_down : (p q : ProtoId) (k : ℕ) → IsParentIn w id p k q → depth w.lexicon q < depth w.lexicon p
  pub of_text : (p : ProtoId) (a : NameId) → IsMemberIn w.lexicon p a → IsProtocol w.lexicon p
  pub from : (p : ProtoId) (a : NameId) → IsMemberIn w.lexicon p a
      → IsDeclaredIn w.lexicon p a ⊎ ((k : ℕ) × (q : ProtoId) × IsParentIn w id p k q × IsMemberIn w.lexicon q a)

-- Tables of type parameters, as contracts see them: lists, in which an id is a place.
use Rattle.std.specs.Prelude.{◌≡◌, ◌⊎◌, ◌<◌, ◌≤◌, List, [], ◌∷◌, ◌++◌, length, slice_index_or, Option, Some, None, Contains}
use Rattle.swreq_param.specs.declared.ids.TermId.{TermId}
use Rattle.swreq_param.specs.declared.ids.Step.{Step}
use Rattle.swreq_param.specs.Terms.{Term, self, head}
use Rattle.swreq_param.specs.Terms.Term.{Generic, Member}

-- The id is of the table.
abbrev pub IsOf : List Term → TermId → Type 0
IsOf terms id = id.place < length terms

-- the type parameter with this id
abbrev pub term_at : List Term → TermId → Term
term_at terms id = slice_index_or terms id.place self

-- Ids of the table are equal where their type parameters are.
abbrev pub AreDistinct : List Term → Type 0
AreDistinct terms = (a b : TermId) → IsOf terms a → IsOf terms b → term_at terms a ≡ term_at terms b → a ≡ b

-- With each member the table has its base.
abbrev pub HasBases : List Term → Type 0
HasBases terms = (t : Term) (x : Step) → Contains terms (Member t x) → Contains terms t

-- The new table begins with the old one: each id of the old table is one of the new, and stands for the same type parameter.
pub record Extends (old new : List Term) : Type 0 where
  pub longer : length old ≤ length new
  pub stands : (t : TermId) → IsOf old t → term_at new t ≡ term_at old t

-- The id stands for t in the new table, which is the old one where t was there, and else the old one with t at its end.
pub record Interned (old new : List Term) (t : Term) (id : TermId) : Type 0 where
  pub is_of : IsOf new id
  pub stands : term_at new id ≡ t
  pub grown : (new ≡ old) ⊎ ((Contains old t → ⊥) × (new ≡ old ++ t ∷ []))

-- This is the base and the last step of the type parameter, or None for a generic parameter.
abbrev pub IsSplit : List Term → Term → Option (TermId × Step) → Type 0
IsSplit terms t None = t ≡ Generic (head t)
IsSplit terms t (Some p) = IsOf terms p.0 × (t ≡ Member (term_at terms p.0) p.1)

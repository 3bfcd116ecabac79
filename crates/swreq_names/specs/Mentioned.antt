-- The names of the world: those of the associated types that protocols declare, and those of the members in written types.
use Rattle.std.specs.Prelude.{ℕ, List, ◌++◌, map}
use Rattle.std.specs.List.{flat_map}
use Rattle.swreq_decl.specs.declared.skeleton.Span.{Span}
use Rattle.swreq_decl.specs.declared.skeleton.StepDecl.{StepDecl}
use Rattle.swreq_decl.specs.declared.skeleton.StepDecl.TheVariants as steps
use Rattle.swreq_decl.specs.declared.skeleton.TypeDecl.{TypeDecl}
use Rattle.swreq_decl.specs.declared.skeleton.ProtocolDecl.{ProtocolDecl}
use Rattle.swreq_decl.specs.declared.skeleton.Skeleton.{Skeleton}
use Rattle.swreq_names.specs.Parts.{types}
use Rattle.swreq_names.specs.Spaces.{word}

-- the name of a member
abbrev pub member_of : StepDecl → Span
member_of (steps.Plain a) = a
member_of (steps.Bound p a) = a

module _ (text : List ℕ) where
  -- the names of the associated types that a protocol declares
  abbrev pub declared_by : ProtocolDecl → List (List ℕ)
  declared_by p = map (λ m. word text m.name) p.members

  -- the names of the members in a type
  abbrev pub members_in : TypeDecl → List (List ℕ)
  members_in t = map (λ s. word text (member_of s)) t.steps

  abbrev pub mentioned : Skeleton → List (List ℕ)
  mentioned s = flat_map declared_by s.protocols ++ flat_map (λ t. members_in t.1) (types s)

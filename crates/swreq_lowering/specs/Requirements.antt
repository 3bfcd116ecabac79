-- The requirements that are written in protocols and signatures, in written order, with the places of their sides.
--
--     protocol P: Q             [Self : Q], at the name of P
--     protocol P: AnyObject     [Self : AnyObject], at the name of P
--     associatedtype A: Q       [Self.A : Q], at the name A
--     <T: Q>                    [T : Q], at the name T
--     T: P & Q                  [T : P], then [T : Q], at the first word of T
--     T: AnyObject              [T : AnyObject], at the first word of T
--     T: P<U, V>                [T : P], then [T.A == U] and [T.B == V], where A and B are the primary names of P; the place of the left
--                               side of an equality is that of the name P, and the place of its right side is that of the argument
--     T == U                    [T == U], at the first words of T and of U
--
-- What stands in the table on the left of `:` stands also before the arguments of an inheritance entry.
use Rattle.std.specs.Prelude.{ℕ, cond, List, [], ◌∷◌, ◌++◌}
use Rattle.std.specs.List.{flat_map}
use Rattle.swreq_param.specs.Terms.{Term, self}
use Rattle.swreq_param.specs.Terms.Term.{Generic}
use Rattle.swreq_lexicon.specs.swreq_derive.Derivation.{TermRequirement}
use Rattle.swreq_lexicon.specs.swreq_derive.Derivation.TermRequirement.{Conforms, IsAnyObject, Equals}
use Rattle.swreq_lexicon.specs.swreq_decl.declared.skeleton.Span.{Span}
use Rattle.swreq_lexicon.specs.swreq_decl.declared.skeleton.Entity.{Entity}
use Rattle.swreq_lexicon.specs.swreq_decl.declared.skeleton.TypeDecl.{TypeDecl}
use Rattle.swreq_lexicon.specs.swreq_decl.declared.skeleton.ReqDecl.{ReqDecl}
use Rattle.swreq_lexicon.specs.swreq_decl.declared.skeleton.ParamDecl.{ParamDecl}
use Rattle.swreq_lexicon.specs.swreq_decl.declared.skeleton.ProtocolDecl.{ProtocolDecl}
use Rattle.swreq_lexicon.specs.swreq_decl.declared.skeleton.FunctionDecl.{FunctionDecl}
use Rattle.swreq_lexicon.specs.swreq_decl.declared.skeleton.StructDecl.{StructDecl}
use Rattle.swreq_lexicon.specs.swreq_names.declared.signature.Signature.{Signature}
use Rattle.swreq_lexicon.specs.swreq_names.declared.signature.Signature.TheVariants.{Struct, Function, Nested}
use Rattle.swreq_lexicon.specs.swreq_names.declared.signature.Param.TheVariants.{Own}
use Rattle.swreq_lexicon.specs.swreq_names.Parts as parts
use Rattle.swreq_lexicon.specs.swreq_names.Parts.{Subject, Constraint}
use Rattle.swreq_lexicon.specs.swreq_names.Parts.Subject.{self_of, associated, parameter, written}
use Rattle.swreq_lexicon.specs.swreq_names.Parts.Constraint.{bound, same}
use Rattle.swreq_lowering.specs.declared.context.Context.{Context}
use Rattle.swreq_lowering.specs.declared.context.Context.TheVariants as contexts
use Rattle.swreq_lowering.specs.Signatures.{own_depth}
use Rattle.swreq_lowering.specs.Words.{WordsView, proto_of, primaries_named}
use Rattle.swreq_lowering.specs.Types.{member_named, param_id, type_in}

-- a requirement with the offsets of its sides in the text; a conformance or a layout has one side
pub record PlacedRequirement : Type 0 where
  pub requirement : TermRequirement
  pub left_at : ℕ
  pub right_at : ℕ

abbrev pub of_one_side : TermRequirement → ℕ → PlacedRequirement
of_one_side r at = record { requirement = r; left_at = at; right_at = at }

abbrev pub equality : Term → ℕ → Term → ℕ → PlacedRequirement
equality t at u place = record { requirement = Equals t u; left_at = at; right_at = place }

-- where the subject of a constraint is written
abbrev pub subject_at : Subject → ℕ
subject_at (self_of p) = p.start
subject_at (associated a) = a.start
subject_at (parameter k g) = g.start
subject_at (written t) = t.head.start

module _ (w : WordsView) where
  -- the depth of generic parameters that are declared in a context
  abbrev pub depth_in : Context → ℕ
  depth_in contexts.Protocol = 0
  depth_in (contexts.Signature g) = own_depth w.skeleton g

  -- `T: P` or `T: AnyObject`
  abbrev pub bound_of : Term → Entity → TermRequirement
  bound_of t e = cond e.layout (IsAnyObject t) (Conforms t (proto_of w e.span))

  module _ (context : Context) where
    -- the equality of an argument with a primary associated type of T, which is bound at an offset
    abbrev pub argument : Term → ℕ → Span → TypeDecl → PlacedRequirement
    argument t at a u = equality (member_named w t a) at (type_in w context u) u.head.start

    -- the equalities of these arguments with these primary associated types, in order
    abbrev pub arguments : Term → ℕ → List Span → List TypeDecl → List PlacedRequirement
    arguments t at [] us = []
    arguments t at (a ∷ names) [] = []
    arguments t at (a ∷ names) (u ∷ us) = argument t at a u ∷ arguments t at names us

    -- what one bound of T requires, where T stands at this offset
    abbrev pub in_bound : Term → ℕ → Entity → List PlacedRequirement
    in_bound t at e = of_one_side (bound_of t e) at ∷ arguments t e.span.start (primaries_named w e.span) e.args

    abbrev pub in_bounds : Term → ℕ → List Entity → List PlacedRequirement
    in_bounds t at bounds = flat_map (in_bound t at) bounds

    -- the type parameter that a constraint is on
    abbrev pub subject_of : Subject → Term
    subject_of (self_of p) = self
    subject_of (associated a) = member_named w self a
    subject_of (parameter k g) = Generic (param_id (depth_in context) (Own k))
    subject_of (written t) = type_in w context t

    -- what a constraint requires
    abbrev pub of_constraint : Constraint → List PlacedRequirement
    of_constraint (bound subject bounds) = in_bounds (subject_of subject) (subject_at subject) bounds
    of_constraint (same t u) = equality (type_in w context t) t.head.start (type_in w context u) u.head.start ∷ []

  -- the requirements of a protocol
  abbrev pub in_protocol : ProtocolDecl → List PlacedRequirement
  in_protocol p = flat_map (of_constraint contexts.Protocol) (parts.of_protocol p)

  -- what is written in a signature with these generic parameters of its own and this clause
  abbrev pub in_signature : Signature → List ParamDecl → List ReqDecl → List PlacedRequirement
  in_signature g params clause = flat_map (of_constraint (contexts.Signature g)) (parts.of_signature params clause)

  -- the list of the i-th struct
  abbrev pub in_struct : ℕ → StructDecl → List PlacedRequirement
  in_struct i s = in_signature (Struct i) s.params s.clause

  -- the list of the i-th function at the top
  abbrev pub in_function : ℕ → FunctionDecl → List PlacedRequirement
  in_function i f = in_signature (Function i) f.params f.clause

  -- what is written in the j-th function of the i-th struct itself
  abbrev pub in_inner : ℕ → ℕ → FunctionDecl → List PlacedRequirement
  in_inner i j f = in_signature (Nested i j) f.params f.clause

  -- the list of the j-th function of the i-th struct: the struct's list, followed by its own requirements
  abbrev pub in_nested : ℕ → StructDecl → ℕ → FunctionDecl → List PlacedRequirement
  in_nested i s j f = in_struct i s ++ in_inner i j f

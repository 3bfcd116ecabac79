-- What is written in constraints, where their names resolve: it is of the world, and begins with the generic parameters that stand there.
use Rattle.std.proofs.Common.{◌≡◌, ℕ, Bool, true, false, cond, not, List, [], ◌∷◌, ◌++◌, Option, Some, None, length, map, refl, sym, subst}
use Rattle.std.proofs.lemmas.List.Elements.{All-nil, All-cons, All-head, All-tail, All-weaker}
use Rattle.std.specs.List.{All, flat_map}
use Rattle.swreq_lexicon.specs.swreq_decl.declared.skeleton.Entity.{Entity}
use Rattle.swreq_lexicon.specs.swreq_decl.declared.skeleton.ReqDecl.{ReqDecl}
use Rattle.swreq_lexicon.specs.swreq_decl.declared.skeleton.ReqDecl.TheVariants as requirements
use Rattle.swreq_lexicon.specs.swreq_decl.declared.skeleton.Span.{Span}
use Rattle.swreq_lexicon.specs.swreq_decl.declared.skeleton.StepDecl.{StepDecl}
use Rattle.swreq_lexicon.specs.swreq_decl.declared.skeleton.StepDecl.TheVariants.{Plain, Bound}
use Rattle.swreq_lexicon.specs.swreq_decl.declared.skeleton.TypeDecl.{TypeDecl}
use Rattle.swreq_lexicon.specs.swreq_derive.Derivation.TermRequirement.{Conforms, IsAnyObject}
use Rattle.swreq_resolve.specs.declared.refusal.Fault.TheVariants.{NotAProtocol, ConcreteType, NoSuchMember}
use Rattle.swreq_resolve.specs.declared.refusal.Refusal.{Refusal}
use Rattle.swreq_resolve.specs.First.{when}
use Rattle.swreq_lexicon.specs.swreq_names.Walk as names
use Rattle.swreq_resolve.specs.Refusals.{of_bound, of_step, of_named, of_protocol_name, of_type, of_entity, of_requirement}
use Rattle.swreq_lexicon.specs.swreq_names.Spaces.{word, protocol_of, declares}
use Rattle.swreq_param.specs.declared.ids.ParamId.{ParamId}
use Rattle.swreq_param.specs.Terms.{Term, head, with_steps}
use Rattle.swreq_param.specs.Terms.Term.{Member}
use Rattle.swreq_lexicon.specs.swreq_rank.Ranks.{Bytes}
use Rattle.swreq_lexicon.specs.Views.{IsProtocol, IsName}
use Rattle.swreq_lowering.specs.declared.context.Context.{Context}
use Rattle.swreq_lowering.specs.Heads.{IsOver}
use Rattle.swreq_lowering.specs.Requirements.{PlacedRequirement, of_one_side, equality, bound_of, argument, arguments, in_bound, in_bounds}
use Rattle.swreq_lowering.specs.Walk.{in_requirement, in_clause}
use Rattle.swreq_lowering.specs.Types.{step_of, head_in, type_in}
use Rattle.swreq_lowering.specs.Words.{WordsView, declared, proto_of, name_of, primaries_named}
use Rattle.swreq_param.specs.OwnedLaws.{heads_same}
use Rattle.swreq_world.specs.Closed.{IsStepOf, IsTermOf, IsRequirementOf}
use Rattle.swreq_world.proofs.Everywhere.{all_left, all_right, all_in_pieces, each_piece}
use Rattle.swreq_world.proofs.Resolving.{Never, IsRanked, Refers, Resolved, passes, refused}

module _ (w : WordsView) where
  -- the parts of what is resolved, and what follows what alone is refused
  pub parts : (rs qs : List Refusal) (ns ms : List Bytes) → Resolved w (rs ++ qs) (ns ++ ms) → Resolved w rs ns × Resolved w qs ms
  parts rs qs ns ms h =
      ((all_left Never rs qs h.0, all_left (IsRanked w) ns ms h.1), (all_right Never rs qs h.0, all_right (IsRanked w) ns ms h.1))

  pub after : (rs qs : List Refusal) (ns : List Bytes) → Resolved w (rs ++ qs) ns → Resolved w qs ns
  after rs qs ns h = (all_right Never rs qs h.0, h.1)

  pub each : {A : Type 0} (f : A → List Refusal) (g : A → List Bytes) (xs : List A) → Resolved w (flat_map f xs) (flat_map g xs)
      → All (λ x. Resolved w (f x) (g x)) xs
  each f g xs h k d l = (each_piece Never f xs h.0 k d l, each_piece (IsRanked w) g xs h.1 k d l)

module _ (w : WordsView) (refers : Refers w) where
  -- ---- steps

  bound_is : (p a : Span) (o : Option ℕ) → protocol_of (declared w) (word w.text p) ≡ o → All Never (of_bound w.text (declared w) p a o)
      → IsStepOf w.lexicon (step_of w (Bound p a))
  bound_is p a None e h = absurd (refused NotAProtocol p.start h)
  bound_is p a (Some k) e h = refers.associated p a k e (passes (declares (declared w) k (word w.text a)) NoSuchMember a.start h)

  step_is : (s : StepDecl) → Resolved w (of_step w.text (declared w) s) (names.in_step w.text s) → IsStepOf w.lexicon (step_of w s)
  step_is (Plain a) h = All-head (IsRanked w) (word w.text a) [] h.1
  step_is (Bound p a) h = bound_is p a (protocol_of (declared w) (word w.text p)) refl h.0

  steps_are : (t : Term) (ss : List StepDecl) → IsTermOf w.lexicon t
      → Resolved w (flat_map (of_step w.text (declared w)) ss) (flat_map (names.in_step w.text) ss)
      → IsTermOf w.lexicon (with_steps t (map (step_of w) ss))
  steps_are t [] i h = i
  steps_are t (s ∷ ss) i h =
      let p = parts w (of_step w.text (declared w) s) (flat_map (of_step w.text (declared w)) ss) (names.in_step w.text s)
      (flat_map (names.in_step w.text) ss) h in
      steps_are (Member t (step_of w s)) ss (i, step_is s p.0) p.1

  -- ---- protocols

  pub named_is : (p : Span) (count : ℕ) (o : Option ℕ) → protocol_of (declared w) (word w.text p) ≡ o
      → All Never (of_protocol_name (declared w) p count o) → IsProtocol w.lexicon (proto_of w p)
  named_is p count None e h = absurd (refused NotAProtocol p.start h)
  named_is p count (Some k) e h = refers.protocol p k e

  -- ---- where types begin with such words, and stand for type parameters over these generic parameters

  module _ (context : Context) (begins : Bytes → Bool) (IsHead : ParamId → Type 0) where
    -- The type parameter is of the world, and begins with such a generic parameter.
    abbrev pub IsSubject : Term → Type 0
    IsSubject t = IsTermOf w.lexicon t × IsHead (head t)

    abbrev IsTyped : TypeDecl → Type 0
    IsTyped t = IsSubject (type_in w context t)

    abbrev IsNamed : Span → Type 0
    IsNamed a = IsName w.lexicon (name_of w a)

    -- The requirement is of the world, and over such generic parameters.
    abbrev pub IsWithin : PlacedRequirement → Type 0
    IsWithin r = IsRequirementOf w.lexicon r.requirement × IsOver IsHead r.requirement

    module _ (starts : (s : Span) → begins (word w.text s) ≡ true → IsSubject (head_in w context s)) where
      pub type_is : (t : TypeDecl) → Resolved w (of_type w.text (declared w) begins t) (names.in_type w.text t)
          → IsSubject (type_in w context t)
      type_is t h =
          let of_head = when (not (begins (word w.text t.head))) ConcreteType t.head.start in
          let of_steps = flat_map (of_step w.text (declared w)) t.steps in
          let i = starts t.head (passes (begins (word w.text t.head)) ConcreteType t.head.start (all_left Never of_head of_steps h.0)) in (
            steps_are (head_in w context t.head) t.steps i.0 (after w of_head of_steps (names.in_type w.text t) h),
            subst IsHead (sym (heads_same (head_in w context t.head) (map (step_of w) t.steps))) i.1,
          )

      types_are : (us : List TypeDecl)
          → Resolved w (flat_map (of_type w.text (declared w) begins) us) (flat_map (names.in_type w.text) us) → All IsTyped us
      types_are us h =
          All-weaker (λ u. Resolved w (of_type w.text (declared w) begins u) (names.in_type w.text u)) IsTyped type_is us
          (each w (of_type w.text (declared w) begins) (names.in_type w.text) us h)

      bound_by : (t : Term) (e : Entity) (b : Bool) → IsSubject t
          → All Never (cond b [] (of_protocol_name (declared w) e.span (length e.args) (protocol_of (declared w) (word w.text e.span))))
          → IsRequirementOf w.lexicon (cond b (IsAnyObject t) (Conforms t (proto_of w e.span)))
          × IsOver IsHead (cond b (IsAnyObject t) (Conforms t (proto_of w e.span)))
      bound_by t e true i h = i
      bound_by t e false i h = ((i.0, named_is e.span (length e.args) (protocol_of (declared w) (word w.text e.span)) refl h), i.1)

      arguments_are : (t : Term) (at : ℕ) (ns : List Span) (us : List TypeDecl) → IsSubject t → All IsNamed ns → All IsTyped us
          → All IsWithin (arguments w context t at ns us)
      arguments_are t at [] us i h g = All-nil IsWithin
      arguments_are t at (a ∷ ns) [] i h g = All-nil IsWithin
      arguments_are t at (a ∷ ns) (u ∷ us) i h g =
          let n = All-head IsNamed a ns h in
          let v = All-head IsTyped u us g in
          All-cons IsWithin (argument w context t at a u) (arguments w context t at ns us) (((i.0, n), v.0), (i.1, v.1))
          (arguments_are t at ns us i (All-tail IsNamed a ns h) (All-tail IsTyped u us g))

      entity_is : (t : Term) (at : ℕ) (e : Entity) → IsSubject t
          → Resolved w (of_entity w.text (declared w) begins e) (names.in_entity w.text e) → All IsWithin (in_bound w context t at e)
      entity_is t at e i h =
          let of_args = flat_map (of_type w.text (declared w) begins) e.args in
          let p = after w (of_named w.text (declared w) e) of_args (names.in_entity w.text e) h in
          All-cons IsWithin (of_one_side (bound_of w t e) at) (arguments w context t e.span.start (primaries_named w e.span) e.args)
          (bound_by t e e.layout i (all_left Never (of_named w.text (declared w) e) of_args h.0))
          (arguments_are t e.span.start (primaries_named w e.span) e.args i (refers.primaries e.span)
          (types_are e.args p))

      pub bounds_are : (t : Term) (at : ℕ) (es : List Entity) → IsSubject t
          → Resolved w (flat_map (of_entity w.text (declared w) begins) es) (names.in_bounds w.text es)
          → All IsWithin (in_bounds w context t at es)
      bounds_are t at es i h =
          all_in_pieces IsWithin (λ e. Resolved w (of_entity w.text (declared w) begins e) (names.in_entity w.text e))
          (in_bound w context t at) es (λ e r. entity_is t at e i r)
          (each w (of_entity w.text (declared w) begins) (names.in_entity w.text) es h)

      requirement_is : (r : ReqDecl) → Resolved w (of_requirement w.text (declared w) begins r) (names.in_requirement w.text r)
          → All IsWithin (in_requirement w context r)
      requirement_is (requirements.Bound t bounds) h =
          let p = parts w (of_type w.text (declared w) begins t) (flat_map (of_entity w.text (declared w) begins) bounds)
          (names.in_type w.text t) (names.in_bounds w.text bounds) h in
          bounds_are (type_in w context t) t.head.start bounds (type_is t p.0) p.1
      requirement_is (requirements.Same t u) h =
          let p = parts w (of_type w.text (declared w) begins t) (of_type w.text (declared w) begins u) (names.in_type w.text t)
          (names.in_type w.text u) h in
          let i = type_is t p.0 in
          let j = type_is u p.1 in
          All-cons IsWithin (equality (type_in w context t) t.head.start (type_in w context u) u.head.start) []
          ((i.0, j.0), (i.1, j.1)) (All-nil IsWithin)

      pub clause_is : (rs : List ReqDecl) → Resolved w (flat_map (of_requirement w.text (declared w) begins) rs) (names.in_clause w.text rs)
          → All IsWithin (in_clause w context rs)
      clause_is rs h =
          all_in_pieces IsWithin (λ r. Resolved w (of_requirement w.text (declared w) begins r) (names.in_requirement w.text r))
          (in_requirement w context) rs requirement_is
          (each w (of_requirement w.text (declared w) begins) (names.in_requirement w.text) rs h)

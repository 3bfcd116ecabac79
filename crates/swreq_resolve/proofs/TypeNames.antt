-- The refused names of one type on a signature.
use Rattle.std.proofs.Common.{◌≡◌, ⊎_elim, ℕ, not, List, [], Option, None, Some, Contains, refl, sym, subst}
use Rattle.std.specs.List.{flat_map}
use Rattle.std.proofs.lemmas.List.Elements.{Contains-append_left, Contains-append_right, Contains-append_cases}
use Rattle.swreq_names.proofs.swreq_lemmas.Members.{no_member, first_member, only_member}
use Rattle.swreq_decl.specs.declared.skeleton.Span.{Span}
use Rattle.swreq_decl.specs.declared.skeleton.StepDecl.{StepDecl}
use Rattle.swreq_decl.specs.declared.skeleton.StepDecl.TheVariants as steps
use Rattle.swreq_decl.specs.declared.skeleton.TypeDecl.{TypeDecl}
use Rattle.swreq_decl.specs.declared.skeleton.Skeleton.{Skeleton}
use Rattle.swreq_names.specs.declared.signature.Signature.{Signature}
use Rattle.swreq_names.specs.Parts.{Scope}
use Rattle.swreq_names.specs.Spaces.{word, protocol_of, declares, Spaces, spaces}
use Rattle.swreq_resolve.specs.declared.refusal.Fault.TheVariants.{NotAProtocol, ConcreteType, NoSuchMember}
use Rattle.swreq_resolve.specs.declared.refusal.Refusal.{Refusal}
use Rattle.swreq_resolve.specs.First.{when}
use Rattle.swreq_resolve.specs.Refused.{DeclaresName, HasParameter, HasType, MeansProtocol, IsRefused, IsScopeOf, refused, no_protocol_in_brackets, concrete_in_signature, no_such_member}
use Rattle.swreq_resolve.specs.RefusedTypes.{IsRefusedOn, concrete, no_protocol_before, no_member_of, of_type_on}
use Rattle.swreq_resolve.specs.Refusals.{begins_in_signature, of_bound, of_step}
use Rattle.swreq_resolve.proofs.SameMembers.{in_pieces, from_pieces}
use Rattle.swreq_resolve.proofs.Meaning.{IsInOrder, declares_to, declares_from, parameter_to, parameter_from}
use Rattle.swreq_resolve.proofs.References.{Answers, none_to, none_from, protocol_named}
use Rattle.swreq_resolve.proofs.Duplicates.{when_to, when_from, refuted, denied}

module _ (text : List ℕ) (s : Skeleton) (order : IsInOrder (spaces text s)) (g : Signature) (written : List ℕ) (t : TypeDecl) where
  abbrev d : Spaces
  d = spaces text s

  abbrev Refused : Refusal → Type 0
  Refused r = IsRefusedOn text s g written t r

  abbrev names : (p : Span) → Answers (protocol_of d (word written p)) (MeansProtocol text s (word written p))
  names p = protocol_named text s order (word written p)

  abbrev first : List Refusal
  first = when (not (begins_in_signature d g (word written t.head))) ConcreteType t.head.start

  abbrev others : List Refusal
  others = flat_map (of_step written d) t.steps

  -- ---- what the list has is refused

  turned : (q r : Refusal) → r ≡ q → Refused q → Refused r
  turned q r e h = subst Refused (sym e) h

  first_to : (r : Refusal) → Contains first r → Refused r
  first_to r c =
      let name = word written t.head in
      let e = when_to (not (begins_in_signature d g name)) ConcreteType t.head.start r c in
      turned (refused ConcreteType t.head.start) r e.1
      (concrete (refuted (begins_in_signature d g name) (HasParameter text s g name) (parameter_from text s g name) e.0))

  bound_to : (p a : Span) → Contains t.steps (steps.Bound p a) → (o : Option ℕ) → protocol_of d (word written p) ≡ o
      → (r : Refusal) → Contains (of_bound written d p a o) r → Refused r
  bound_to p a c None h r k =
      turned (refused NotAProtocol p.start) r (only_member (refused NotAProtocol p.start) r k)
      (no_protocol_before c (none_to (protocol_of d (word written p)) (MeansProtocol text s (word written p)) (names p) h))
  bound_to p a c (Some i) h r k =
      let name = word written a in
      let e = when_to (not (declares d i name)) NoSuchMember a.start r k in
      turned (refused NoSuchMember a.start) r e.1
      (no_member_of c ((names p).to i h) (refuted (declares d i name) (DeclaresName text s i name) (declares_from text s i name) e.0))

  step_to : (step : StepDecl) → Contains t.steps step → (r : Refusal) → Contains (of_step written d step) r → Refused r
  step_to (steps.Plain a) c r k = no_member r k
  step_to (steps.Bound p a) c r k = bound_to p a c (protocol_of d (word written p)) refl r k

  pub type_to : (r : Refusal) → Contains (of_type_on d g written t) r → Refused r
  type_to r c =
      ⊎_elim (first_to r) (λ k. let q = from_pieces (of_step written d) t.steps r k in step_to q.0 q.1 r q.2)
      (Contains-append_cases first others r c)

  -- ---- what is refused the list has

  bound_from : (p a : Span) → Contains t.steps (steps.Bound p a) → (o : Option ℕ) → protocol_of d (word written p) ≡ o
      → (r : Refusal) → Contains (of_bound written d p a o) r → Contains (of_type_on d g written t) r
  bound_from p a c o h r k =
      Contains-append_right first others r
      (in_pieces (of_step written d) t.steps (steps.Bound p a) r c
      (subst (λ (q : Option ℕ). Contains (of_bound written d p a q) r) (sym h) k))

  pub type_from : (r : Refusal) → Refused r → Contains (of_type_on d g written t) r
  type_from r (concrete lacks) =
      let name = word written t.head in
      Contains-append_left first others (refused ConcreteType t.head.start)
      (when_from (not (begins_in_signature d g name)) ConcreteType t.head.start
      (denied (begins_in_signature d g name) (HasParameter text s g name) (parameter_to text s g name) lacks))
  type_from r (no_protocol_before {p} {a} c lacks) =
      let none = none_from (protocol_of d (word written p)) (MeansProtocol text s (word written p)) (names p) lacks in
      bound_from p a c None none (refused NotAProtocol p.start) (first_member (refused NotAProtocol p.start) [])
  type_from r (no_member_of {p} {a} {i} c m lacks) =
      let name = word written a in
      bound_from p a c (Some i) ((names p).from i m) (refused NoSuchMember a.start)
      (when_from (not (declares d i name)) NoSuchMember a.start
      (denied (declares d i name) (DeclaresName text s i name) (declares_to text s i name) lacks))

-- What is refused of a type of the text itself is refused of the text.
pub of_the_text : (text : List ℕ) (s : Skeleton) (scope : Scope) (g : Signature) (t : TypeDecl)
    → HasType text s scope t → IsScopeOf text s g scope → (r : Refusal) → IsRefusedOn text s g text t r → IsRefused text s r
of_the_text text s scope g t w is r (concrete lacks) = concrete_in_signature g w is lacks
of_the_text text s scope g t w is r (no_protocol_before c lacks) = no_protocol_in_brackets w c lacks
of_the_text text s scope g t w is r (no_member_of c m lacks) = no_such_member w c m lacks

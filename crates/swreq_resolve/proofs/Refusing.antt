-- Each name that the walk refuses is refused.
use Rattle.std.proofs.Common.{◌≡◌, ◌⊎◌, inl, inr, ⊎_elim, ℕ, Bool, true, false, cond, not, ◌||◌, List, [], ◌++◌, length, get_or, slice_get, Option, None, Some, Contains, refl, sym, ap, subst, ◌∙◌, nat_eq}
use Rattle.std.specs.List.{flat_map}
use Rattle.std.specs.Option.{option_map}
use Rattle.std.proofs.lemmas.Bool.{eqb-false}
use Rattle.std.proofs.lemmas.List.Elements.{Contains-append_cases}
use Rattle.swreq_names.proofs.swreq_lemmas.Members.{no_member, only_member}
use Rattle.swreq_decl.specs.declared.skeleton.Span.{Span}
use Rattle.swreq_decl.specs.declared.skeleton.Entity.{Entity}
use Rattle.swreq_decl.specs.declared.skeleton.StepDecl.{StepDecl}
use Rattle.swreq_decl.specs.declared.skeleton.StepDecl.TheVariants as steps
use Rattle.swreq_decl.specs.declared.skeleton.TypeDecl.{TypeDecl}
use Rattle.swreq_decl.specs.declared.skeleton.StructDecl.{StructDecl}
use Rattle.swreq_decl.specs.declared.skeleton.QueryDecl.{QueryDecl}
use Rattle.swreq_decl.specs.declared.skeleton.Skeleton.{Skeleton}
use Rattle.swreq_names.specs.declared.directory.Declaration.{Declaration}
use Rattle.swreq_names.specs.declared.signature.Signature.{Signature}
use Rattle.swreq_names.specs.declared.signature.Signature.TheVariants.{Struct, Function, Nested}
use Rattle.swreq_names.specs.Inheritance.{TellsInheritance}
use Rattle.swreq_names.specs.Parts.{Scope, in_protocol, in_signature, in_query, numbered, entities, types}
use Rattle.swreq_names.specs.Spaces.{word, place, self_bytes, protocol_of, struct_of, function_of, outer_params, own_params, declares, has_member, Spaces, spaces}
use Rattle.swreq_resolve.specs.declared.refusal.Fault.TheVariants.{Duplicate, NotAProtocol, ConcreteType, NoSuchMember, UnknownSignature, WrongArity}
use Rattle.swreq_resolve.specs.declared.refusal.Refusal.{Refusal}
use Rattle.swreq_resolve.specs.First.{when}
use Rattle.swreq_resolve.specs.Refused.{Space, protocols_and_structs, structs_and_functions, functions_of, associated_types_of, primary_names_of, parameters_of, declarations_of, told_apart, HasEarlier, NamesProtocol, NamesStruct, NamesFunction, NamesInner, DeclaresName, HasMemberName, HasParameter, IsScopeOf, IsLookedAt, HasType, HasEntity, refused, IsRefused, declared_again, no_protocol, no_protocol_in_brackets, wrong_arguments, concrete_in_protocol, concrete_in_signature, no_such_member, no_such_primary, no_signature, no_struct, no_function}
use Rattle.swreq_resolve.specs.Refusals.{duplicates, of_space, of_spaces, begins_in_protocol, begins_in_signature, of_protocol_name, primary_of, of_bound, of_step, refusals}
use Rattle.swreq_resolve.proofs.SameMembers.{from_pieces}
use Rattle.swreq_resolve.proofs.Meaning.{IsInOrder, earlier_left, earlier_right, declares_from, parameter_from, member_from, begins_from}
use Rattle.swreq_resolve.proofs.References.{none_to, protocol, struct, function, inner, signature}
use Rattle.swreq_resolve.proofs.Gathered.{signature_asked, begins_at, named_by, typed_by, named_at, typed_at, again_in_protocol, primaries_in_protocol, own_of_protocol, again_in_signature, again_in_function, again_in_nested, again_in_struct, unknown_signature, unknown_struct, unknown_in, unknown, own, asked, of_entities, of_types, all_gathered}
use Rattle.swreq_resolve.proofs.Duplicates.{when_to, refuted, duplicates_to, of_space_to}

module _ (text : List ℕ) (s : Skeleton) (inherits : ℕ → ℕ → Bool) (tells : TellsInheritance text s inherits)
    (order : IsInOrder (spaces text s)) where
  abbrev d : Spaces
  d = spaces text s

  abbrev own_names : List Refusal
  own_names = own text s inherits

  abbrev asked_names : List Refusal
  asked_names = asked text s inherits

  abbrev entity_names : List Refusal
  entity_names = of_entities text s inherits

  abbrev type_names : List Refusal
  type_names = of_types text s inherits

  -- ---- declarations

  turned : (q r : Refusal) → r ≡ q → IsRefused text s q → IsRefused text s r
  turned q r e h = subst (IsRefused text s) (sym e) h

  again_in : (space : Space) (r : Refusal)
      → (x : Declaration) × Contains (declarations_of d space) x × HasEarlier (told_apart d space) x.name x.at
      × (r ≡ refused Duplicate x.at)
      → IsRefused text s r
  again_in space r p = turned (refused Duplicate p.0.at) r p.3 (declared_again space p.1 p.2)

  spaces_to : (r : Refusal) → Contains (of_spaces d) r → IsRefused text s r
  spaces_to r c =
      ⊎_elim (λ h. again_in protocols_and_structs r (of_space_to d.protocols d.structs r h))
      (λ h. again_in structs_and_functions r (of_space_to d.structs d.functions r h))
      (Contains-append_cases (of_space d.protocols d.structs) (of_space d.structs d.functions) r c)

  protocol_to : (i : ℕ) (r : Refusal) → Contains (again_in_protocol text s inherits i ++ primaries_in_protocol text s inherits i) r
      → IsRefused text s r
  protocol_to i r c =
      let primaries = get_or d.primaries i [] in
      let members = get_or d.members i [] in
      ⊎_elim
      (λ k. ⊎_elim (λ h. again_in (primary_names_of i) r (duplicates_to primaries primaries r h))
      (λ h. again_in (associated_types_of i) r (duplicates_to members members r h))
      (Contains-append_cases (duplicates primaries primaries) (duplicates members members) r k))
      (λ k. let p = from_pieces (primary_of d inherits i) primaries r k in
      let w = when_to (not (has_member d inherits i p.0.name)) NoSuchMember p.0.at r p.2 in
      turned (refused NoSuchMember p.0.at) r w.1
      (no_such_primary p.1
      (refuted (has_member d inherits i p.0.name) (HasMemberName text s i p.0.name) (member_from text s inherits tells i p.0.name) w.0)))
      (Contains-append_cases (again_in_protocol text s inherits i) (primaries_in_protocol text s inherits i) r c)

  signature_to : (g : Signature) (r : Refusal) → Contains (again_in_signature text s inherits g) r → IsRefused text s r
  signature_to g r c =
      let mine = own_params d g in
      let around = outer_params d g in
      ⊎_elim
      (λ h.
      let p = duplicates_to mine mine r h in again_in (parameters_of g) r (p.0, p.1, earlier_right around mine p.0.name p.0.at p.2, p.3))
      (λ h.
      let p = duplicates_to around mine r h in again_in (parameters_of g) r (p.0, p.1, earlier_left around mine p.0.name p.0.at p.2, p.3))
      (Contains-append_cases (duplicates mine mine) (duplicates around mine) r c)

  struct_to : (t : ℕ × StructDecl) (r : Refusal) → Contains (again_in_struct text s inherits t) r → IsRefused text s r
  struct_to t r c =
      let inner = get_or d.nested t.0 [] in
      let params = flat_map (again_in_nested text s inherits t.0) (numbered 0 t.1.functions) in
      ⊎_elim (signature_to (Struct t.0) r)
      (λ k. ⊎_elim (λ h. again_in (functions_of t.0) r (duplicates_to inner inner r h))
      (λ h.
      let f = from_pieces (again_in_nested text s inherits t.0) (numbered 0 t.1.functions) r h in signature_to (Nested t.0 f.0.0) r f.2)
      (Contains-append_cases (duplicates inner inner) params r k))
      (Contains-append_cases (again_in_signature text s inherits (Struct t.0)) (duplicates inner inner ++ params) r c)

  own_to : (r : Refusal) → Contains own_names r → IsRefused text s r
  own_to r c =
      let ps = flat_map (own_of_protocol text s inherits) (numbered 0 s.protocols) in
      let ss = flat_map (again_in_struct text s inherits) (numbered 0 s.structs) in
      let fs = flat_map (again_in_function text s inherits) (numbered 0 s.functions) in
      ⊎_elim
      (λ h. let p = from_pieces (own_of_protocol text s inherits) (numbered 0 s.protocols) r h in protocol_to p.0.0 r p.2)
      (λ k. ⊎_elim
      (λ h. let p = from_pieces (again_in_struct text s inherits) (numbered 0 s.structs) r h in struct_to p.0 r p.2)
      (λ h. let p = from_pieces (again_in_function text s inherits) (numbered 0 s.functions) r h in signature_to (Function p.0.0) r p.2)
      (Contains-append_cases ss fs r k))
      (Contains-append_cases ps (ss ++ fs) r c)

  -- ---- queries

  module _ (q : QueryDecl) (c : Contains s.queries q) (r : Refusal) where
    top_to : q.outer ≡ None → (a b : Option ℕ) → struct_of d (word text q.function) ≡ a → function_of d (word text q.function) ≡ b
        → Contains (unknown_signature text s inherits q
        (elim a as (λ _. Option Signature) [ None ↦ option_map Function b | Some i ↦ Some (Struct i) ])) r
        → IsRefused text s r
    top_to e None None f g k =
        let no_structs = none_to (struct_of d (word text q.function)) (NamesStruct text s q.function) (struct text s order q.function) f in
        let no_functions =
        none_to (function_of d (word text q.function)) (NamesFunction text s q.function) (function text s order q.function) g in
        turned (refused UnknownSignature q.function.start) r (only_member (refused UnknownSignature q.function.start) r k)
        (no_signature c e no_structs no_functions)
    top_to e None (Some j) f g k = no_member r k
    top_to e (Some i) b f g k = no_member r k

    inner_to : (outer : Span) → q.outer ≡ Some outer → (i : ℕ) → NamesStruct text s outer i → (o : Option ℕ)
        → place (get_or d.nested i []) (word text q.function) ≡ o
        → Contains (unknown_signature text s inherits q (option_map (Nested i) o)) r
        → IsRefused text s r
    inner_to outer e i f None h k =
        let none = none_to (place (get_or d.nested i []) (word text q.function)) (NamesInner text s i q.function)
        (inner text s order i q.function) h in
        turned (refused UnknownSignature q.function.start) r (only_member (refused UnknownSignature q.function.start) r k)
        (no_function c e f none)
    inner_to outer e i f (Some j) h k = no_member r k

    outer_to : (outer : Span) → q.outer ≡ Some outer → (o : Option ℕ) → struct_of d (word text outer) ≡ o
        → Contains (unknown_struct text s inherits q outer o) r → IsRefused text s r
    outer_to outer e None h k =
        turned (refused UnknownSignature outer.start) r (only_member (refused UnknownSignature outer.start) r k)
        (no_struct c e (none_to (struct_of d (word text outer)) (NamesStruct text s outer) (struct text s order outer) h))
    outer_to outer e (Some i) h k =
        inner_to outer e i ((struct text s order outer).to i h) (place (get_or d.nested i []) (word text q.function)) refl k

    query_to : (o : Option Span) → q.outer ≡ o → Contains (unknown_in text s inherits q o) r → IsRefused text s r
    query_to None e k = top_to e (struct_of d (word text q.function)) (function_of d (word text q.function)) refl refl k
    query_to (Some outer) e k = outer_to outer e (struct_of d (word text outer)) refl k

  asked_to : (r : Refusal) → Contains asked_names r → IsRefused text s r
  asked_to r c = let p = from_pieces (unknown text s inherits) s.queries r c in query_to p.0 p.1 r p.0.outer refl p.2

  -- ---- scopes

  abbrev Begins : Type 0
  Begins = List ℕ → Bool

  -- a scope of a signature
  asked_begins : (k : ℕ) (p : Option QueryDecl) → slice_get s.queries k ≡ p → (o : Option Signature)
      → elim p [ None ↦ None | Some q ↦ signature_asked text s q.outer q.function ] ≡ o
      → (b : Begins) → option_map (begins_in_signature d) o ≡ Some b
      → (g : Signature) × IsScopeOf text s g (in_query k) × (begins_in_signature d g ≡ b)
  asked_begins k p e None f b h = absurd cc
  asked_begins k None e (Some g) f b h = absurd cc
  asked_begins k (Some q) e (Some g) f b h =
      (g, (q, e, (signature text s order q.outer q.function).to g f), same_begins (begins_in_signature d g) b h)
    where
      same_begins : (a b : Begins) → Some a ≡ Some b → a ≡ b
      same_begins a b e = cc

  looked_at : (scope : Scope) (b : Begins) → begins_at text s inherits scope ≡ Some b → IsLookedAt text s scope
  looked_at (in_protocol i) b e = tt
  looked_at (in_signature g) b e = tt
  looked_at (in_query k) b e = let r = asked_begins k (slice_get s.queries k) refl _ refl b e in (r.0, r.1)

  -- ---- entities

  module _ (scope : Scope) (e : Entity) (there : Contains (entities s) (scope, e)) (looked : IsLookedAt text s scope) (r : Refusal) where
    abbrev stands : e.layout ≡ false → HasEntity text s scope e
    stands n = record { written = there; looked_at = looked; named = n }

    wrong_to : e.layout ≡ false → (i : ℕ) → protocol_of d (word text e.span) ≡ Some i → (a b : Bool) → nat_eq (length e.args) 0 ≡ a
        → nat_eq (length e.args) (length (get_or d.primaries i [])) ≡ b
        → Contains (when (not (a || b)) WrongArity e.span.start) r → IsRefused text s r
    wrong_to n i h true b f g c = no_member r c
    wrong_to n i h false true f g c = no_member r c
    wrong_to n i h false false f g c =
        turned (refused WrongArity e.span.start) r (only_member (refused WrongArity e.span.start) r c)
        (wrong_arguments (stands n) ((protocol text s order e.span).to i h) (eqb-false (length e.args) 0 f)
        (eqb-false (length e.args) (length (get_or d.primaries i [])) g))

    protocol_name_to : e.layout ≡ false → (o : Option ℕ) → protocol_of d (word text e.span) ≡ o
        → Contains (of_protocol_name d e.span (length e.args) o) r → IsRefused text s r
    protocol_name_to n None h c =
        turned (refused NotAProtocol e.span.start) r (only_member (refused NotAProtocol e.span.start) r c)
        (no_protocol (stands n) (none_to (protocol_of d (word text e.span)) (NamesProtocol text s e.span) (protocol text s order e.span) h))
    protocol_name_to n (Some i) h c =
        wrong_to n i h (nat_eq (length e.args) 0) (nat_eq (length e.args) (length (get_or d.primaries i []))) refl refl c

    named_to : (l : Bool) → e.layout ≡ l
        → Contains (cond l [] (of_protocol_name d e.span (length e.args) (protocol_of d (word text e.span)))) r
        → IsRefused text s r
    named_to true n c = no_member r c
    named_to false n c = protocol_name_to n (protocol_of d (word text e.span)) refl c

  entity_to : (p : Scope × Entity) → Contains (entities s) p → (o : Option Begins) → begins_at text s inherits p.0 ≡ o
      → (r : Refusal) → Contains (named_by text s inherits o p.1) r → IsRefused text s r
  entity_to p c None h r k = no_member r k
  entity_to p c (Some b) h r k = named_to p.0 p.1 c (looked_at p.0 b h) r p.1.layout refl k

  entities_to : (r : Refusal) → Contains entity_names r → IsRefused text s r
  entities_to r c =
      let p = from_pieces (named_at text s inherits) (entities s) r c in entity_to p.0 p.1 (begins_at text s inherits p.0.0) refl r p.2

  -- ---- types

  same_begins : (a b : Begins) → Some a ≡ Some b → a ≡ b
  same_begins a b e = cc

  concrete_to : (scope : Scope) (t : TypeDecl) → HasType text s scope t → (b : Begins) → begins_at text s inherits scope ≡ Some b
      → not (b (word text t.head)) ≡ true → IsRefused text s (refused ConcreteType t.head.start)
  concrete_to (in_protocol i) t w b h n =
      let name : List ℕ = word text t.head in
      let begins : Begins = begins_in_protocol d inherits i in
      let fails : not (begins name) ≡ true = ap (λ (f : Begins). not (f name)) (same_begins begins b h) ∙ n in
      let no : (name ≡ self_bytes) ⊎ HasMemberName text s i name → ⊥
      = refuted (begins name) ((name ≡ self_bytes) ⊎ HasMemberName text s i name) (begins_from text s inherits tells i name) fails in
      concrete_in_protocol w (λ e. no (inl e)) (λ m. no (inr m))
  concrete_to (in_signature g) t w b h n =
      let name : List ℕ = word text t.head in
      let begins : Begins = begins_in_signature d g in
      let fails : not (begins name) ≡ true = ap (λ (f : Begins). not (f name)) (same_begins begins b h) ∙ n in
      concrete_in_signature g w refl (refuted (begins name) (HasParameter text s g name) (parameter_from text s g name) fails)
  concrete_to (in_query k) t w b h n =
      let r = asked_begins k (slice_get s.queries k) refl _ refl b h in
      let name : List ℕ = word text t.head in
      let begins : Begins = begins_in_signature d r.0 in
      let fails : not (begins name) ≡ true = ap (λ (f : Begins). not (f name)) r.2 ∙ n in
      concrete_in_signature r.0 w r.1 (refuted (begins name) (HasParameter text s r.0 name) (parameter_from text s r.0 name) fails)

  bound_to : (scope : Scope) (t : TypeDecl) → HasType text s scope t → (p a : Span) → Contains t.steps (steps.Bound p a)
      → (o : Option ℕ) → protocol_of d (word text p) ≡ o → (r : Refusal) → Contains (of_bound text d p a o) r → IsRefused text s r
  bound_to scope t w p a c None h r k =
      turned (refused NotAProtocol p.start) r (only_member (refused NotAProtocol p.start) r k)
      (no_protocol_in_brackets w c (none_to (protocol_of d (word text p)) (NamesProtocol text s p) (protocol text s order p) h))
  bound_to scope t w p a c (Some i) h r k =
      let e = when_to (not (declares d i (word text a))) NoSuchMember a.start r k in
      turned (refused NoSuchMember a.start) r e.1
      (no_such_member w c ((protocol text s order p).to i h)
      (refuted (declares d i (word text a)) (DeclaresName text s i (word text a)) (declares_from text s i (word text a)) e.0))

  step_to : (scope : Scope) (t : TypeDecl) → HasType text s scope t → (step : StepDecl) → Contains t.steps step
      → (r : Refusal) → Contains (of_step text d step) r → IsRefused text s r
  step_to scope t w (steps.Plain a) c r k = no_member r k
  step_to scope t w (steps.Bound p a) c r k = bound_to scope t w p a c (protocol_of d (word text p)) refl r k

  type_to : (p : Scope × TypeDecl) → Contains (types s) p → (o : Option Begins) → begins_at text s inherits p.0 ≡ o
      → (r : Refusal) → Contains (typed_by text s inherits o p.1) r → IsRefused text s r
  type_to p c None h r k = no_member r k
  type_to p c (Some b) h r k =
      let w : HasType text s p.0 p.1 = record { written = c; looked_at = looked_at p.0 b h } in
      let first : List Refusal = when (not (b (word text p.1.head))) ConcreteType p.1.head.start in
      ⊎_elim
      (λ l. let e = when_to (not (b (word text p.1.head))) ConcreteType p.1.head.start r l in
      turned (refused ConcreteType p.1.head.start) r e.1 (concrete_to p.0 p.1 w b h e.0))
      (λ l. let q = from_pieces (of_step text d) p.1.steps r l in step_to p.0 p.1 w q.0 q.1 r q.2)
      (Contains-append_cases first (flat_map (of_step text d) p.1.steps) r k)

  types_to : (r : Refusal) → Contains type_names r → IsRefused text s r
  types_to r c =
      let p = from_pieces (typed_at text s inherits) (types s) r c in type_to p.0 p.1 (begins_at text s inherits p.0.0) refl r p.2

  pub refusals_to : (r : Refusal) → Contains (refusals text inherits s) r → IsRefused text s r
  refusals_to r c =
      ⊎_elim (spaces_to r)
      (λ k. ⊎_elim (own_to r)
      (λ l. ⊎_elim (asked_to r)
      (λ m. ⊎_elim (entities_to r) (types_to r)
      (Contains-append_cases entity_names type_names r m))
      (Contains-append_cases asked_names (entity_names ++ type_names) r l))
      (Contains-append_cases own_names (asked_names ++ (entity_names ++ type_names)) r k))
      (Contains-append_cases (of_spaces d) (own_names ++ (asked_names ++ (entity_names ++ type_names))) r
      ((all_gathered text s inherits).to r c))

-- The walk refuses each name that is refused.
use Rattle.std.proofs.Common.{◌≡◌, ◌⊎◌, ⊎_elim, ℕ, zero, suc, Bool, true, cond, not, List, [], ◌∷◌, ◌++◌, length, map, get_or, slice_get, Option, None, Some, Contains, refl, sym, ap, subst, ◌∙◌, nat_eq}
use Rattle.std.specs.List.{flat_map}
use Rattle.std.specs.Option.{option_map}
use Rattle.std.proofs.lemmas.Bool.{ne_eqb, or_from}
use Rattle.std.proofs.lemmas.List.Elements.{Contains-append_left, Contains-append_right}
use Rattle.swreq_names.proofs.swreq_lemmas.Members.{no_member, first_member}
use Rattle.swreq_decl.specs.declared.skeleton.Span.{Span}
use Rattle.swreq_decl.specs.declared.skeleton.Entity.{Entity}
use Rattle.swreq_decl.specs.declared.skeleton.StepDecl.{StepDecl}
use Rattle.swreq_decl.specs.declared.skeleton.StepDecl.TheVariants as steps
use Rattle.swreq_decl.specs.declared.skeleton.TypeDecl.{TypeDecl}
use Rattle.swreq_decl.specs.declared.skeleton.AssocDecl.{AssocDecl}
use Rattle.swreq_decl.specs.declared.skeleton.ProtocolDecl.{ProtocolDecl}
use Rattle.swreq_decl.specs.declared.skeleton.StructDecl.{StructDecl}
use Rattle.swreq_decl.specs.declared.skeleton.FunctionDecl.{FunctionDecl}
use Rattle.swreq_decl.specs.declared.skeleton.QueryDecl.{QueryDecl}
use Rattle.swreq_decl.specs.declared.skeleton.Skeleton.{Skeleton}
use Rattle.swreq_names.specs.declared.directory.Declaration.{Declaration}
use Rattle.swreq_names.specs.declared.signature.Signature.{Signature}
use Rattle.swreq_names.specs.declared.signature.Signature.TheVariants.{Struct, Function, Nested}
use Rattle.swreq_names.specs.Inheritance.{TellsInheritance}
use Rattle.swreq_names.specs.Parts.{Scope, in_protocol, in_signature, in_query, numbered, entities, types}
use Rattle.swreq_names.specs.Spaces.{word, declarations, of_params, place, self_bytes, protocol_of, struct_of, function_of, signature_of, nested_in, outer_params, own_params, declares, has_member, Spaces, spaces}
use Rattle.swreq_resolve.specs.declared.refusal.Fault.TheVariants.{Duplicate, NotAProtocol, ConcreteType, NoSuchMember, UnknownSignature, WrongArity}
use Rattle.swreq_resolve.specs.declared.refusal.Refusal.{Refusal}
use Rattle.swreq_resolve.specs.First.{when}
use Rattle.swreq_resolve.specs.Refused.{Space, protocols_and_structs, structs_and_functions, functions_of, associated_types_of, primary_names_of, parameters_of, declarations_of, told_apart, HasEarlier, NamesProtocol, NamesStruct, NamesFunction, NamesInner, DeclaresName, HasMemberName, HasParameter, IsScopeOf, IsLookedAt, HasType, HasEntity, refused, IsRefused, declared_again, no_protocol, no_protocol_in_brackets, wrong_arguments, concrete_in_protocol, concrete_in_signature, no_such_member, no_such_primary, no_signature, no_struct, no_function}
use Rattle.swreq_resolve.specs.Refusals.{duplicates, of_space, of_spaces, begins_in_protocol, begins_in_signature, has_arity, of_protocol_name, primary_of, of_bound, of_step, of_named, of_type, refusals}
use Rattle.swreq_resolve.proofs.SameMembers.{in_pieces, has_number}
use Rattle.swreq_resolve.proofs.Meaning.{IsInOrder, earlier_cases, declares_to, parameter_to, member_to, begins_to}
use Rattle.swreq_resolve.proofs.References.{none_from, protocol, struct, function, inner, signature}
use Rattle.swreq_resolve.proofs.Gathered.{signature_asked, begins_at, named_by, typed_by, named_at, typed_at, again_in_protocol, primaries_in_protocol, own_of_protocol, again_in_signature, again_in_function, again_in_nested, again_in_struct, unknown_signature, unknown_struct, unknown_in, unknown, own, asked, of_entities, of_types, all_gathered}
use Rattle.swreq_resolve.proofs.Duplicates.{when_from, denied, duplicates_from, of_space_from}

-- ---- what stands within

within_map : {A B : Type 0} (f : A → List B) (xs : List A) (i : ℕ) (y : B) → Contains (get_or (map f xs) i []) y
    → (x : A) × (slice_get xs i ≡ Some x) × Contains (f x) y
within_map f [] i y c = no_member y c
within_map f (x ∷ xs) zero y c = (x, refl, c)
within_map f (x ∷ xs) (suc i) y c = within_map f xs i y c

within_inner : {A B : Type 0} (f : A → List (List B)) (xs : List A) (i j : ℕ) (y : B) → Contains (get_or (get_or (map f xs) i []) j []) y
    → (x : A) × (slice_get xs i ≡ Some x) × Contains (get_or (f x) j []) y
within_inner f [] i j y c = no_member y c
within_inner f (x ∷ xs) zero j y c = (x, refl, c)
within_inner f (x ∷ xs) (suc i) j y c = within_inner f xs i j y c

module _ (text : List ℕ) (s : Skeleton) (inherits : ℕ → ℕ → Bool) (tells : TellsInheritance text s inherits)
    (order : IsInOrder (spaces text s)) where
  abbrev d : Spaces
  d = spaces text s

  abbrev own_names : List Refusal
  own_names = own text s inherits

  abbrev asked_names : List Refusal
  asked_names = asked text s inherits

  abbrev entity_names : List Refusal
  entity_names = of_entities text s inherits

  abbrev type_names : List Refusal
  type_names = of_types text s inherits

  abbrev Begins : Type 0
  Begins = List ℕ → Bool

  abbrev IsFound : Refusal → Type 0
  IsFound r = Contains (refusals text inherits s) r

  found : (r : Refusal) → Contains (of_spaces d ++ (own_names ++ (asked_names ++ (entity_names ++ type_names)))) r → IsFound r
  found r c = (all_gathered text s inherits).from r c

  found_own : (r : Refusal) → Contains own_names r → IsFound r
  found_own r c =
      found r (Contains-append_right (of_spaces d) (own_names ++ (asked_names ++ (entity_names ++ type_names))) r
      (Contains-append_left own_names (asked_names ++ (entity_names ++ type_names)) r c))

  found_asked : (r : Refusal) → Contains (asked_names ++ (entity_names ++ type_names)) r → IsFound r
  found_asked r c =
      found r (Contains-append_right (of_spaces d) (own_names ++ (asked_names ++ (entity_names ++ type_names))) r
      (Contains-append_right own_names (asked_names ++ (entity_names ++ type_names)) r c))

  found_query : (q : QueryDecl) → Contains s.queries q → (r : Refusal) → Contains (unknown text s inherits q) r → IsFound r
  found_query q c r k =
      found_asked r
      (Contains-append_left asked_names (entity_names ++ type_names) r (in_pieces (unknown text s inherits) s.queries q r c k))

  found_entity : (p : Scope × Entity) → Contains (entities s) p → (r : Refusal) → Contains (named_at text s inherits p) r → IsFound r
  found_entity p c r k =
      found_asked r (Contains-append_right asked_names (entity_names ++ type_names) r
      (Contains-append_left entity_names type_names r (in_pieces (named_at text s inherits) (entities s) p r c k)))

  found_type : (p : Scope × TypeDecl) → Contains (types s) p → (r : Refusal) → Contains (typed_at text s inherits p) r → IsFound r
  found_type p c r k =
      found_asked r (Contains-append_right asked_names (entity_names ++ type_names) r
      (Contains-append_right entity_names type_names r (in_pieces (typed_at text s inherits) (types s) p r c k)))

  abbrev of_protocols : List Refusal
  of_protocols = flat_map (own_of_protocol text s inherits) (numbered 0 s.protocols)

  abbrev of_structs : List Refusal
  of_structs = flat_map (again_in_struct text s inherits) (numbered 0 s.structs)

  abbrev of_functions : List Refusal
  of_functions = flat_map (again_in_function text s inherits) (numbered 0 s.functions)

  found_protocol : (i : ℕ) (p : ProtocolDecl) → slice_get s.protocols i ≡ Some p → (r : Refusal)
      → Contains (own_of_protocol text s inherits (i, p)) r → IsFound r
  found_protocol i p e r c =
      found_own r (Contains-append_left of_protocols (of_structs ++ of_functions) r
      (in_pieces (own_of_protocol text s inherits) (numbered 0 s.protocols) (i, p) r (has_number i s.protocols p e) c))

  found_struct : (i : ℕ) (t : StructDecl) → slice_get s.structs i ≡ Some t → (r : Refusal)
      → Contains (again_in_struct text s inherits (i, t)) r → IsFound r
  found_struct i t e r c =
      found_own r (Contains-append_right of_protocols (of_structs ++ of_functions) r (Contains-append_left of_structs of_functions r
      (in_pieces (again_in_struct text s inherits) (numbered 0 s.structs) (i, t) r (has_number i s.structs t e) c)))

  found_function : (i : ℕ) (f : FunctionDecl) → slice_get s.functions i ≡ Some f → (r : Refusal)
      → Contains (again_in_function text s inherits (i, f)) r → IsFound r
  found_function i f e r c =
      found_own r (Contains-append_right of_protocols (of_structs ++ of_functions) r (Contains-append_right of_structs of_functions r
      (in_pieces (again_in_function text s inherits) (numbered 0 s.functions) (i, f) r (has_number i s.functions f e) c)))

  -- ---- declarations

  module _ (x : Declaration) where
    abbrev again : Refusal
    again = refused Duplicate x.at

    parameter_found : (g : Signature) → Contains (own_params d g) x → HasEarlier (outer_params d g ++ own_params d g) x.name x.at
        → Contains (again_in_signature text s inherits g) again
    parameter_found g c h =
        let mine = own_params d g in
        let around = outer_params d g in
        ⊎_elim
        (λ a.
        Contains-append_right (duplicates mine mine) (duplicates around mine) again (duplicates_from around (order.outer g) mine x c a))
        (λ a. Contains-append_left (duplicates mine mine) (duplicates around mine) again (duplicates_from mine (order.own g) mine x c a))
        (earlier_cases around mine x.name x.at h)

    parameters_found : (g : Signature) → Contains (own_params d g) x
        → HasEarlier (outer_params d g ++ own_params d g) x.name x.at → IsFound again
    parameters_found (Struct i) c h =
        let t = within_map (λ (t : StructDecl). of_params text t.params) s.structs i x c in
        let first = again_in_signature text s inherits (Struct i) in
        let inner = get_or d.nested i [] in
        let params = flat_map (again_in_nested text s inherits i) (numbered 0 t.0.functions) in
        found_struct i t.0 t.1 again (Contains-append_left first (duplicates inner inner ++ params) again (parameter_found (Struct i) c h))
    parameters_found (Function i) c h =
        let f = within_map (λ (f : FunctionDecl). of_params text f.params) s.functions i x c in
        found_function i f.0 f.1 again (parameter_found (Function i) c h)
    parameters_found (Nested i j) c h =
        let t = within_inner (λ (t : StructDecl). map (λ (f : FunctionDecl). of_params text f.params) t.functions) s.structs i j x c in
        let f = within_map (λ (f : FunctionDecl). of_params text f.params) t.0.functions j x t.2 in
        let first = again_in_signature text s inherits (Struct i) in
        let inner = get_or d.nested i [] in
        let params = flat_map (again_in_nested text s inherits i) (numbered 0 t.0.functions) in
        found_struct i t.0 t.1 again
        (Contains-append_right first (duplicates inner inner ++ params) again
        (Contains-append_right (duplicates inner inner) params again
        (in_pieces (again_in_nested text s inherits i) (numbered 0 t.0.functions) (j, f.0) again (has_number j t.0.functions f.0 f.1)
        (parameter_found (Nested i j) c h))))

    functions_found : (i : ℕ) → Contains (get_or d.nested i []) x → HasEarlier (get_or d.nested i []) x.name x.at → IsFound again
    functions_found i c h =
        let t = within_map (λ (t : StructDecl). declarations text (map (λ (f : FunctionDecl). f.name) t.functions)) s.structs i x c in
        let first = again_in_signature text s inherits (Struct i) in
        let inner = get_or d.nested i [] in
        let params = flat_map (again_in_nested text s inherits i) (numbered 0 t.0.functions) in
        found_struct i t.0 t.1 again
        (Contains-append_right first (duplicates inner inner ++ params) again
        (Contains-append_left (duplicates inner inner) params again (duplicates_from inner (order.nested i) inner x c h)))

    members_found : (i : ℕ) → Contains (get_or d.members i []) x → HasEarlier (get_or d.members i []) x.name x.at → IsFound again
    members_found i c h =
        let p = within_map (λ (p : ProtocolDecl). declarations text (map (λ (m : AssocDecl). m.name) p.members)) s.protocols i x c in
        let primaries = get_or d.primaries i [] in
        let members = get_or d.members i [] in
        found_protocol i p.0 p.1 again
        (Contains-append_left (again_in_protocol text s inherits i) (primaries_in_protocol text s inherits i) again
        (Contains-append_right (duplicates primaries primaries) (duplicates members members) again
        (duplicates_from members (order.members i) members x c h)))

    primaries_found : (i : ℕ) → Contains (get_or d.primaries i []) x → HasEarlier (get_or d.primaries i []) x.name x.at → IsFound again
    primaries_found i c h =
        let p = within_map (λ (p : ProtocolDecl). declarations text p.primaries) s.protocols i x c in
        let primaries = get_or d.primaries i [] in
        let members = get_or d.members i [] in
        found_protocol i p.0 p.1 again
        (Contains-append_left (again_in_protocol text s inherits i) (primaries_in_protocol text s inherits i) again
        (Contains-append_left (duplicates primaries primaries) (duplicates members members) again
        (duplicates_from primaries (order.primaries i) primaries x c h)))

    again_found : (space : Space) → Contains (declarations_of d space) x → HasEarlier (told_apart d space) x.name x.at → IsFound again
    again_found protocols_and_structs c h =
        found again (Contains-append_left (of_spaces d) (own_names ++ (asked_names ++ (entity_names ++ type_names))) again
        (Contains-append_left (of_space d.protocols d.structs) (of_space d.structs d.functions) again
        (of_space_from d.protocols d.structs order.protocols order.structs x c h)))
    again_found structs_and_functions c h =
        found again (Contains-append_left (of_spaces d) (own_names ++ (asked_names ++ (entity_names ++ type_names))) again
        (Contains-append_right (of_space d.protocols d.structs) (of_space d.structs d.functions) again
        (of_space_from d.structs d.functions order.structs order.functions x c h)))
    again_found (functions_of i) c h = functions_found i c h
    again_found (associated_types_of i) c h = members_found i c h
    again_found (primary_names_of i) c h = primaries_found i c h
    again_found (parameters_of g) c h = parameters_found g c h

  primary_found : (i : ℕ) (x : Declaration) → Contains (get_or d.primaries i []) x → (HasMemberName text s i x.name → ⊥)
      → IsFound (refused NoSuchMember x.at)
  primary_found i x c n =
      let p = within_map (λ (p : ProtocolDecl). declarations text p.primaries) s.protocols i x c in
      let r = refused NoSuchMember x.at in
      let lacks : not (has_member d inherits i x.name) ≡ true
      = denied (has_member d inherits i x.name) (HasMemberName text s i x.name) (member_to text s inherits tells i x.name) n in
      found_protocol i p.0 p.1 r
      (Contains-append_right (again_in_protocol text s inherits i) (primaries_in_protocol text s inherits i) r
      (in_pieces (primary_of d inherits i) (get_or d.primaries i []) x r c
      (when_from (not (has_member d inherits i x.name)) NoSuchMember x.at lacks)))

  -- ---- queries

  -- what is found of a query whose parts are these
  module _ (q : QueryDecl) (c : Contains s.queries q) where
    abbrev here : Refusal
    here = refused UnknownSignature q.function.start

    query_found : (o : Option Span) → q.outer ≡ o → (r : Refusal) → Contains (unknown_in text s inherits q o) r → IsFound r
    query_found o e r k = found_query q c r (subst (λ (p : Option Span). Contains (unknown_in text s inherits q p) r) (sym e) k)

    signature_found : q.outer ≡ None → ((i : ℕ) → NamesStruct text s q.function i → ⊥)
        → ((i : ℕ) → NamesFunction text s q.function i → ⊥) → IsFound here
    signature_found e no_structs no_functions =
        let f : struct_of d (word text q.function) ≡ None
        = none_from (struct_of d (word text q.function)) (NamesStruct text s q.function) (struct text s order q.function) no_structs in
        let g : function_of d (word text q.function) ≡ None
        = none_from (function_of d (word text q.function)) (NamesFunction text s q.function)
        (function text s order q.function) no_functions in
        let h : signature_of d (word text q.function) ≡ None
        = ap (λ a. elim a
        as (λ _. Option Signature) [ None ↦ option_map Function (function_of d (word text q.function)) | Some i ↦ Some (Struct i) ]) f
        ∙ ap (option_map Function) g in
        query_found None e here
        (subst (λ (o : Option Signature). Contains (unknown_signature text s inherits q o) here) (sym h) (first_member here []))

    struct_found : (outer : Span) → q.outer ≡ Some outer → ((i : ℕ) → NamesStruct text s outer i → ⊥)
        → IsFound (refused UnknownSignature outer.start)
    struct_found outer e n =
        let r = refused UnknownSignature outer.start in
        let h : struct_of d (word text outer) ≡ None
        = none_from (struct_of d (word text outer)) (NamesStruct text s outer) (struct text s order outer) n in
        query_found (Some outer) e r
        (subst (λ (o : Option ℕ). Contains (unknown_struct text s inherits q outer o) r) (sym h) (first_member r []))

    inner_found : (outer : Span) → q.outer ≡ Some outer → (i : ℕ) → NamesStruct text s outer i
        → ((j : ℕ) → NamesInner text s i q.function j → ⊥)
        → IsFound here
    inner_found outer e i m n =
        let f : struct_of d (word text outer) ≡ Some i = (struct text s order outer).from i m in
        let h : nested_in d i (word text q.function) ≡ None
        = ap (option_map (Nested i))
        (none_from (place (get_or d.nested i []) (word text q.function)) (NamesInner text s i q.function)
        (inner text s order i q.function) n) in
        query_found (Some outer) e here
        (subst (λ (o : Option ℕ). Contains (unknown_struct text s inherits q outer o) here) (sym f)
        (subst (λ (o : Option Signature). Contains (unknown_signature text s inherits q o) here) (sym h) (first_member here [])))

  -- ---- scopes

  scope_begins : (g : Signature) (scope : Scope) → IsScopeOf text s g scope
      → begins_at text s inherits scope ≡ Some (begins_in_signature d g)
  scope_begins g (in_protocol i) h = absurd h
  scope_begins g (in_signature f) e = ap (λ (x : Signature). Some (begins_in_signature d x)) e
  scope_begins g (in_query k) (q, e, m) =
      let h = (signature text s order q.outer q.function).from g m in
      ap (λ (p : Option QueryDecl). option_map (begins_in_signature d)
      (elim p as (λ _. Option Signature) [ None ↦ None | Some q ↦ signature_asked text s q.outer q.function ])) e
      ∙ ap (option_map (begins_in_signature d)) h

  some_begins : (scope : Scope) → IsLookedAt text s scope → (b : Begins) × (begins_at text s inherits scope ≡ Some b)
  some_begins (in_protocol i) l = (begins_in_protocol d inherits i, refl)
  some_begins (in_signature g) l = (begins_in_signature d g, refl)
  some_begins (in_query k) l = (begins_in_signature d l.0, scope_begins l.0 (in_query k) l.1)

  -- ---- entities

  entity_found : (scope : Scope) (e : Entity) → HasEntity text s scope e → (o : Option ℕ)
      → protocol_of d (word text e.span) ≡ o → (r : Refusal)
      → Contains (of_protocol_name d e.span (length e.args) o) r → IsFound r
  entity_found scope e w o h r c =
      let b = some_begins scope w.looked_at in
      let named : Contains (of_named text d e) r
      = subst (λ (l : Bool). Contains (cond l [] (of_protocol_name d e.span (length e.args) (protocol_of d (word text e.span)))) r)
      (sym w.named)
      (subst (λ (p : Option ℕ). Contains (of_protocol_name d e.span (length e.args) p) r) (sym h) c) in
      found_entity (scope, e) w.written r (subst (λ (p : Option Begins). Contains (named_by text s inherits p e) r) (sym b.1) named)

  wrong_found : (scope : Scope) (e : Entity) (i : ℕ) → HasEntity text s scope e → NamesProtocol text s e.span i
      → (length e.args ≡ 0 → ⊥) → (length e.args ≡ length (get_or d.primaries i []) → ⊥) → IsFound (refused WrongArity e.span.start)
  wrong_found scope e i w m some differ =
      let h : protocol_of d (word text e.span) ≡ Some i = (protocol text s order e.span).from i m in
      let count = length e.args in
      let wrong : not (has_arity d i count) ≡ true
      = ap not (or_from (nat_eq count 0) (nat_eq count (length (get_or d.primaries i [])))
      (ne_eqb count 0 some) (ne_eqb count (length (get_or d.primaries i [])) differ)) in
      entity_found scope e w (Some i) h (refused WrongArity e.span.start)
      (when_from (not (has_arity d i count)) WrongArity e.span.start wrong)

  -- ---- types

  type_found : (scope : Scope) (t : TypeDecl) → HasType text s scope t → (b : Begins)
      → begins_at text s inherits scope ≡ Some b → (r : Refusal)
      → Contains (of_type text d b t) r → IsFound r
  type_found scope t w b h r c =
      found_type (scope, t) w.written r (subst (λ (p : Option Begins). Contains (typed_by text s inherits p t) r) (sym h) c)

  head_found : (scope : Scope) (t : TypeDecl) → HasType text s scope t → (b : Begins) → begins_at text s inherits scope ≡ Some b
      → not (b (word text t.head)) ≡ true → IsFound (refused ConcreteType t.head.start)
  head_found scope t w b h n =
      let r = refused ConcreteType t.head.start in
      type_found scope t w b h r
      (Contains-append_left (when (not (b (word text t.head))) ConcreteType t.head.start) (flat_map (of_step text d) t.steps) r
      (when_from (not (b (word text t.head))) ConcreteType t.head.start n))

  step_found : (scope : Scope) (t : TypeDecl) → HasType text s scope t → (step : StepDecl) → Contains t.steps step → (r : Refusal)
      → Contains (of_step text d step) r → IsFound r
  step_found scope t w step c r k =
      let b = some_begins scope w.looked_at in
      type_found scope t w b.0 b.1 r
      (Contains-append_right (when (not (b.0 (word text t.head))) ConcreteType t.head.start) (flat_map (of_step text d) t.steps) r
      (in_pieces (of_step text d) t.steps step r c k))

  bound_found : (scope : Scope) (t : TypeDecl) → HasType text s scope t → (p a : Span) → Contains t.steps (steps.Bound p a)
      → (o : Option ℕ) → protocol_of d (word text p) ≡ o → (r : Refusal) → Contains (of_bound text d p a o) r → IsFound r
  bound_found scope t w p a c o h r k =
      step_found scope t w (steps.Bound p a) c r (subst (λ (x : Option ℕ). Contains (of_bound text d p a x) r) (sym h) k)

  undeclared_found : (scope : Scope) (t : TypeDecl) → HasType text s scope t → (p a : Span) → Contains t.steps (steps.Bound p a)
      → (i : ℕ) → NamesProtocol text s p i → (DeclaresName text s i (word text a) → ⊥) → IsFound (refused NoSuchMember a.start)
  undeclared_found scope t w p a c i m n =
      let h : protocol_of d (word text p) ≡ Some i = (protocol text s order p).from i m in
      let name : List ℕ = word text a in
      bound_found scope t w p a c (Some i) h (refused NoSuchMember a.start)
      (when_from (not (declares d i name)) NoSuchMember a.start
      (denied (declares d i name) (DeclaresName text s i name) (declares_to text s i name) n))

  in_protocol_found : (i : ℕ) (t : TypeDecl) → HasType text s (in_protocol i) t → (word text t.head ≡ self_bytes → ⊥)
      → (HasMemberName text s i (word text t.head) → ⊥) → IsFound (refused ConcreteType t.head.start)
  in_protocol_found i t w self member =
      let name : List ℕ = word text t.head in
      let begins : Begins = begins_in_protocol d inherits i in
      head_found (in_protocol i) t w begins refl
      (denied (begins name) ((name ≡ self_bytes) ⊎ HasMemberName text s i name) (begins_to text s inherits tells i name)
      (λ h. ⊎_elim self member h))

  in_signature_found : (scope : Scope) (g : Signature) (t : TypeDecl) → HasType text s scope t → IsScopeOf text s g scope
      → (HasParameter text s g (word text t.head) → ⊥) → IsFound (refused ConcreteType t.head.start)
  in_signature_found scope g t w h n =
      let name : List ℕ = word text t.head in
      let begins : Begins = begins_in_signature d g in
      head_found scope t w begins (scope_begins g scope h)
      (denied (begins name) (HasParameter text s g name) (parameter_to text s g name) n)

  no_protocols : (p : Span) → ((i : ℕ) → NamesProtocol text s p i → ⊥) → protocol_of d (word text p) ≡ None
  no_protocols p n = none_from (protocol_of d (word text p)) (NamesProtocol text s p) (protocol text s order p) n

  pub refusals_from : (r : Refusal) → IsRefused text s r → Contains (refusals text inherits s) r
  refusals_from _ (declared_again space {d = x} c h) = again_found x space c h
  refusals_from _ (no_protocol {scope} {e} w n) =
      let r = refused NotAProtocol e.span.start in entity_found scope e w None (no_protocols e.span n) r (first_member r [])
  refusals_from _ (no_protocol_in_brackets {scope} {t} {p} {a} w c n) =
      let r = refused NotAProtocol p.start in bound_found scope t w p a c None (no_protocols p n) r (first_member r [])
  refusals_from _ (wrong_arguments {scope} {e} {i} w m some differ) = wrong_found scope e i w m some differ
  refusals_from _ (concrete_in_protocol {i} {t} w self member) = in_protocol_found i t w self member
  refusals_from _ (concrete_in_signature {scope} g {t} w h n) = in_signature_found scope g t w h n
  refusals_from _ (no_such_member {scope} {t} {p} {a} {i} w c m n) = undeclared_found scope t w p a c i m n
  refusals_from _ (no_such_primary {i} {d = x} c n) = primary_found i x c n
  refusals_from _ (no_signature {q} c e n m) = signature_found q c e n m
  refusals_from _ (no_struct {q} {outer} c e n) = struct_found q c outer e n
  refusals_from _ (no_function {q} {outer} {i} c e m n) = inner_found q c outer e i m n

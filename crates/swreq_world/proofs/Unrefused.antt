-- The parts of a text of which no name is refused.
use Rattle.std.proofs.Common.{◌≡◌, ⊎_elim, ℕ, Bool, true, false, cond, not, List, [], ◌++◌, length, get_or, Option, Some, None, slice_get, Contains, refl, sym, ap, subst, ◌∙◌}
use Rattle.std.proofs.lemmas.List.Elements.{All-contains, Contains-append_cases, Contains-get_or}
use Rattle.std.specs.List.{All, flat_map}
use Rattle.std.specs.Option.{option_map}
use Rattle.swreq_param.proofs.swreq_lemmas.Elements.{get_contains}
use Rattle.swreq_param.proofs.swreq_lemmas.Members.{no_member, contains_map, contains_of_map}
use Rattle.swreq_lexicon.specs.swreq_decl.declared.skeleton.Entity.{Entity}
use Rattle.swreq_lexicon.specs.swreq_decl.declared.skeleton.ProtocolDecl.{ProtocolDecl}
use Rattle.swreq_lexicon.specs.swreq_decl.declared.skeleton.QueryDecl.{QueryDecl}
use Rattle.swreq_lexicon.specs.swreq_decl.declared.skeleton.Skeleton.{Skeleton}
use Rattle.swreq_lexicon.specs.swreq_decl.declared.skeleton.Span.{Span}
use Rattle.swreq_lexicon.specs.swreq_decl.declared.skeleton.StepDecl.{StepDecl}
use Rattle.swreq_lexicon.specs.swreq_decl.declared.skeleton.TypeDecl.{TypeDecl}
use Rattle.swreq_lexicon.specs.swreq_names.declared.signature.Signature.{Signature}
use Rattle.swreq_lexicon.specs.swreq_names.Parts as parts
use Rattle.swreq_lexicon.specs.swreq_names.Parts.{Scope, Constraint, bound, same, in_protocol, in_signature, in_query, numbered, standing, constraints, types, entities}
use Rattle.swreq_lexicon.specs.swreq_names.Spaces.{Spaces, spaces, word, declaration, declarations, protocol_of, struct_of, signature_of, nested_in, has_member}
use Rattle.swreq_lexicon.proofs.swreq_names.Pieces.{from_pieces}
use Rattle.swreq_resolve.specs.declared.refusal.Fault.TheVariants.{ConcreteType, NoSuchMember, NotAProtocol, UnknownSignature}
use Rattle.swreq_resolve.specs.declared.refusal.Refusal.{Refusal}
use Rattle.swreq_resolve.specs.First.{when}
use Rattle.swreq_resolve.specs.Refusals.{begins_in_protocol, begins_in_signature, of_named, of_protocol_name, of_spaces, of_step, of_type, primary_of}
use Rattle.swreq_resolve.specs.Resolving.{HasNames}
use Rattle.swreq_resolve.proofs.Gathered.{again_in_function, again_in_protocol, again_in_struct, all_gathered, asked, begins_at, named_at, named_by, of_entities, of_types, own, own_of_protocol, signature_asked, typed_at, typed_by, unknown, unknown_in, unknown_signature, unknown_struct}
use Rattle.swreq_resolve.proofs.SameMembers.{has_number, number_of}
use Rattle.swreq_lexicon.specs.swreq_rank.Ranks.{Bytes}
use Rattle.swreq_world.proofs.Everywhere.{all_left, all_right, at_mapped, each_piece}
use Rattle.swreq_world.proofs.Resolving.{Never, passes, refused}
use Rattle.swreq_world.proofs.Subjects.{StandsIn, stands_in}

-- all parts of a scope stand in it
scope_of : {A : Type 0} (scope : Scope) (xs : List A) (c : Scope × A) → Contains (standing scope xs) c → c.0 ≡ scope
scope_of {A} scope xs c h = ap (λ (p : Scope × A). p.0) (contains_of_map (λ x. (scope, x)) xs c h).2

-- ---- where no name is refused

module _ (text : Bytes) (s : Skeleton) (names : HasNames text s) where
  abbrev d : Spaces
  d = spaces text s

  abbrev in_declarations : List Refusal
  in_declarations = own text s names.inherits

  abbrev in_queries : List Refusal
  in_queries = asked text s names.inherits

  abbrev in_entities : List Refusal
  in_entities = of_entities text s names.inherits

  abbrev in_types : List Refusal
  in_types = of_types text s names.inherits

  none : All Never (of_spaces d ++ (in_declarations ++ (in_queries ++ (in_entities ++ in_types))))
  none k r l =
      let all : List Refusal = of_spaces d ++ (in_declarations ++ (in_queries ++ (in_entities ++ in_types))) in
      let c = (all_gathered text s names.inherits).from (get_or all k r) (Contains-get_or all k r l) in
      no_member (get_or all k r) (subst (λ rs. Contains rs (get_or all k r)) names.none c)

  none_of_parts : All Never (in_declarations ++ (in_queries ++ (in_entities ++ in_types)))
  none_of_parts = all_right Never (of_spaces d) (in_declarations ++ (in_queries ++ (in_entities ++ in_types))) none

  none_after : All Never (in_queries ++ (in_entities ++ in_types))
  none_after = all_right Never in_declarations (in_queries ++ (in_entities ++ in_types)) none_of_parts

  none_last : All Never (in_entities ++ in_types)
  none_last = all_right Never in_queries (in_entities ++ in_types) none_after

  -- nothing is refused of a part
  of_part : {A : Type 0} (f : A → List Refusal) (xs : List A) → All Never (flat_map f xs) → (x : A) → Contains xs x → All Never (f x)
  of_part f xs h x c = All-contains (λ y. All Never (f y)) xs x (each_piece Never f xs h) c

  -- ---- protocols

  -- A primary name is a member name of its protocol.
  pub primary_is_member : (i : ℕ) (p : ProtocolDecl) → slice_get s.protocols i ≡ Some p → (a : Span) → Contains p.primaries a
      → has_member d names.inherits i (word text a) ≡ true
  primary_is_member i p at a c =
      passes (has_member d names.inherits i (word text a)) NoSuchMember a.start
      (of_part (primary_of d names.inherits i) (declarations text p.primaries) each (declaration text a)
      (contains_map (declaration text) p.primaries a c))
    where
      protocols : List Refusal
      protocols = flat_map (own_of_protocol text s names.inherits) (numbered 0 s.protocols)

      signatures : List Refusal
      signatures = flat_map (again_in_struct text s names.inherits) (numbered 0 s.structs)
          ++ flat_map (again_in_function text s names.inherits) (numbered 0 s.functions)

      own_names : All Never (own_of_protocol text s names.inherits (i, p))
      own_names =
          of_part (own_of_protocol text s names.inherits) (numbered 0 s.protocols)
          (all_left Never protocols signatures (all_left Never in_declarations (in_queries ++ (in_entities ++ in_types)) none_of_parts))
          (i, p) (has_number i s.protocols p at)

      same : get_or d.primaries i [] ≡ declarations text p.primaries
      same = at_mapped (λ (q : ProtocolDecl). declarations text q.primaries) s.protocols i p [] at

      each : All Never (flat_map (primary_of d names.inherits i) (declarations text p.primaries))
      each =
          subst (λ ds. All Never (flat_map (primary_of d names.inherits i) ds)) same
          (all_right Never (again_in_protocol text s names.inherits i)
          (flat_map (primary_of d names.inherits i) (get_or d.primaries i [])) own_names)

  -- ---- types

  module _ (scope : Scope) (t : TypeDecl) (c : Contains (types s) (scope, t)) (begins : Bytes → Bool)
      (starts : begins_at text s names.inherits scope ≡ Some begins) where
    abbrev of_head : List Refusal
    of_head = when (not (begins (word text t.head))) ConcreteType t.head.start

    none_of_type : All Never (of_type text d begins t)
    none_of_type =
        subst (λ o. All Never (typed_by text s names.inherits o t)) starts
        (of_part (typed_at text s names.inherits) (types s) (all_right Never in_entities in_types none_last) (scope, t) c)

    -- The first word is one with which a type begins there.
    pub begins_so : begins (word text t.head) ≡ true
    begins_so = passes (begins (word text t.head)) ConcreteType t.head.start
        (all_left Never of_head (flat_map (of_step text d) t.steps) none_of_type)

    pub none_of_step : (y : StepDecl) → Contains t.steps y → All Never (of_step text d y)
    none_of_step y k = of_part (of_step text d) t.steps (all_right Never of_head (flat_map (of_step text d) t.steps) none_of_type) y k

  -- ---- queries

  -- A query asks a signature.
  pub asks : (q : QueryDecl) → Contains s.queries q → (g : Signature) × (signature_asked text s q.outer q.function ≡ Some g)
  asks q c =
      by q.outer (of_part (unknown text s names.inherits) s.queries (all_left Never in_queries (in_entities ++ in_types) none_after) q c)
    where
      some : (o : Option Signature) → All Never (unknown_signature text s names.inherits q o) → (g : Signature) × (o ≡ Some g)
      some None h = absurd (refused UnknownSignature q.function.start h)
      some (Some g) h = (g, refl)

      some_within : (outer : Span) (o : Option ℕ) → All Never (unknown_struct text s names.inherits q outer o)
          → (g : Signature) × ((elim o as (λ _. Option Signature) [ None ↦ None | Some i ↦ nested_in d i (word text q.function) ]) ≡ Some g)
      some_within outer None h = absurd (refused UnknownSignature outer.start h)
      some_within outer (Some i) h = some (nested_in d i (word text q.function)) h

      by : (o : Option Span) → All Never (unknown_in text s names.inherits q o)
          → (g : Signature) × (signature_asked text s o q.function ≡ Some g)
      by None h = some (signature_of d (word text q.function)) h
      by (Some outer) h = some_within outer (struct_of d (word text outer)) h

  -- A type in it begins with a generic parameter of that signature.
  pub begins_asked : (k : ℕ) (q : QueryDecl) (g : Signature) → slice_get s.queries k ≡ Some q
      → signature_asked text s q.outer q.function ≡ Some g
      → begins_at text s names.inherits (in_query k) ≡ Some (begins_in_signature d g)
  begins_asked k q g at e =
      ap (λ p. option_map (begins_in_signature d)
      (elim p as (λ _. Option Signature) [ None ↦ None | Some q ↦ signature_asked text s q.outer q.function ])) at
      ∙ ap (option_map (begins_in_signature d)) e

  -- ---- entities

  abbrev IsLookedAt : Scope → Type 0
  IsLookedAt scope = (begins : Bytes → Bool) × (begins_at text s names.inherits scope ≡ Some begins)

  declaration_looked_at : (scope : Scope) (k : Constraint) → StandsIn s scope k → IsLookedAt scope
  declaration_looked_at (in_protocol i) k h = (begins_in_protocol d names.inherits i, refl)
  declaration_looked_at (in_signature g) k h = (begins_in_signature d g, refl)
  declaration_looked_at (in_query j) (bound y bounds) h = absurd h
  declaration_looked_at (in_query j) (same t u) h = absurd h

  -- The entities of each scope are looked at.
  looked_at : (scope : Scope) (e : Entity) → Contains (entities s) (scope, e) → IsLookedAt scope
  looked_at scope e c =
      ⊎_elim
      (λ h. let (p, n, k) = from_pieces parts.entities_at (constraints s) (scope, e) h in
      subst IsLookedAt (sym (scope_of p.0 (parts.entities_of p.1) (scope, e) k)) (declaration_looked_at p.0 p.1 (stands_in s p.0 p.1 n)))
      (λ h. let (q, n, k) = from_pieces parts.asked_entities_at (numbered 0 s.queries) (scope, e) h in
      let at = number_of s.queries q n in
      let (g, a) = asks q.1 (get_contains s.queries q.0 q.1 at) in
      subst IsLookedAt (sym (scope_of (in_query q.0) (parts.entities_of_ask q.1.ask) (scope, e) k))
      (begins_in_signature d g, begins_asked q.0 q.1 g at a))
      (Contains-append_cases (flat_map parts.entities_at (constraints s))
      (flat_map parts.asked_entities_at (numbered 0 s.queries)) (scope, e) c)

  -- What stands on the right of a colon, and is not the layout, is the name of a protocol.
  pub is_protocol : (scope : Scope) (e : Entity) → Contains (entities s) (scope, e) → e.layout ≡ false
      → (k : ℕ) × (protocol_of d (word text e.span) ≡ Some k)
  is_protocol scope e c no_layout = by (protocol_of d (word text e.span)) refl (subst (λ l.
      All Never (cond l [] (of_protocol_name d e.span (length e.args) (protocol_of d (word text e.span))))) no_layout none_of_entity)
    where
      none_of_entity : All Never (of_named text d e)
      none_of_entity =
          let (begins, starts) = looked_at scope e c in
          subst (λ o. All Never (named_by text s names.inherits o e)) starts
          (of_part (named_at text s names.inherits) (entities s) (all_left Never in_entities in_types none_last) (scope, e) c)

      by : (o : Option ℕ) → protocol_of d (word text e.span) ≡ o → All Never (of_protocol_name d e.span (length e.args) o)
          → (k : ℕ) × (protocol_of d (word text e.span) ≡ Some k)
      by None n h = absurd (refused NotAProtocol e.span.start h)
      by (Some k) n h = (k, n)

-- The refusals of a text, gathered by the parts of the text that they are of.
use Rattle.std.proofs.Common.{◌≡◌, ℕ, ◌+◌, Bool, true, List, [], ◌∷◌, ◌++◌, map, get_or, Option, None, Some, refl, sym, ap, ◌∙◌, append_assoc}
use Rattle.std.specs.List.{flat_map, slice_get}
use Rattle.std.specs.Option.{option_map}
use Rattle.std.proofs.lemmas.List.{append-nil}
use Rattle.std.proofs.lemmas.List.Concat.{flat_map-append}
use Rattle.std.proofs.lemmas.List.Folds.{flat_map-map}
use Rattle.swreq_decl.specs.declared.skeleton.Span.{Span}
use Rattle.swreq_decl.specs.declared.skeleton.Entity.{Entity}
use Rattle.swreq_decl.specs.declared.skeleton.TypeDecl.{TypeDecl}
use Rattle.swreq_decl.specs.declared.skeleton.ReqDecl.{ReqDecl}
use Rattle.swreq_decl.specs.declared.skeleton.ReqDecl.TheVariants as requirements
use Rattle.swreq_decl.specs.declared.skeleton.AssocDecl.{AssocDecl}
use Rattle.swreq_decl.specs.declared.skeleton.ProtocolDecl.{ProtocolDecl}
use Rattle.swreq_decl.specs.declared.skeleton.ParamDecl.{ParamDecl}
use Rattle.swreq_decl.specs.declared.skeleton.FunctionDecl.{FunctionDecl}
use Rattle.swreq_decl.specs.declared.skeleton.StructDecl.{StructDecl}
use Rattle.swreq_decl.specs.declared.skeleton.Ask.{Ask}
use Rattle.swreq_decl.specs.declared.skeleton.Ask.TheVariants as asks
use Rattle.swreq_decl.specs.declared.skeleton.QueryDecl.{QueryDecl}
use Rattle.swreq_decl.specs.declared.skeleton.Skeleton.{Skeleton}
use Rattle.swreq_names.specs.declared.signature.Signature.{Signature}
use Rattle.swreq_names.specs.declared.signature.Signature.TheVariants.{Struct, Function, Nested}
use Rattle.swreq_names.specs.Parts as parts
use Rattle.swreq_names.specs.Parts.{Constraint, bound, Scope, in_protocol, in_signature, in_query, numbered, standing, constraints, entities, types}
use Rattle.swreq_names.specs.Spaces.{word, struct_of, signature_of, nested_in, nested_of, outer_params, own_params, Spaces, spaces}
use Rattle.swreq_resolve.specs.declared.refusal.Refusal.{Refusal}
use Rattle.swreq_resolve.specs.declared.refusal.Fault.TheVariants.{UnknownSignature}
use Rattle.swreq_resolve.specs.First.{when}
use Rattle.swreq_resolve.specs.Refusals.{by_place, duplicates, begins_in_protocol, begins_in_signature, primary_of, of_named, of_type, of_entity, of_requirement, of_member, of_param, of_ask, of_protocol, of_signature, of_function, of_nested, of_struct, of_asked, of_nested_query, of_query_in, of_query, of_spaces, of_signatures, refusals}
use Rattle.swreq_names.proofs.Pieces.{pieces_of_pieces}
use Rattle.swreq_resolve.proofs.SameMembers.{Same, equal, itself, then, both, moved, parted, each, split, by_number, unnumbered, number_of}

-- ---- constraints

module _ (text : List ℕ) (d : Spaces) (begins : List ℕ → Bool) where
  -- what is refused of the entities and of the types of a part
  abbrev pub of_parts : List Entity → List TypeDecl → List Refusal
  of_parts es ts = flat_map (of_named text d) es ++ flat_map (of_type text d begins) ts

  abbrev said : Constraint → List Refusal
  said c = of_parts (parts.entities_of c) (parts.types_of c)

  entities_same : (es : List Entity) → Same (flat_map (of_entity text d begins) es) (of_parts es (flat_map parts.types_of_entity es))
  entities_same es =
      then (split (of_named text d) (λ (e : Entity). flat_map (of_type text d begins) e.args) es)
      (both (itself (flat_map (of_named text d) es))
      (equal (flat_map (λ (e : Entity). flat_map (of_type text d begins) e.args) es)
      (flat_map (of_type text d begins) (flat_map parts.types_of_entity es))
      (sym (pieces_of_pieces (of_type text d begins) parts.types_of_entity es))))

  requirement_same : (r : ReqDecl) → Same (of_requirement text d begins r) (said (parts.of_requirement r))
  requirement_same (requirements.Bound t bounds) =
      then (both (itself (of_type text d begins t)) (entities_same bounds))
      (moved (of_type text d begins t) (flat_map (of_named text d) bounds)
      (flat_map (of_type text d begins) (flat_map parts.types_of_entity bounds)))
  requirement_same (requirements.Same t u) =
      equal (of_type text d begins t ++ of_type text d begins u) (of_type text d begins t ++ (of_type text d begins u ++ []))
      (ap (λ rs. of_type text d begins t ++ rs) (sym (append-nil (of_type text d begins u))))

  clause_same : (rs : List ReqDecl) → Same (flat_map (of_requirement text d begins) rs) (flat_map said (parts.of_clause rs))
  clause_same rs =
      then (each (of_requirement text d begins) (λ r. said (parts.of_requirement r)) rs (λ r c. requirement_same r))
      (equal (flat_map (λ r. said (parts.of_requirement r)) rs) (flat_map said (parts.of_clause rs))
      (sym (flat_map-map said parts.of_requirement rs)))

  member_same : (m : AssocDecl) → Same (of_member text d begins m) (flat_map said (parts.of_member m))
  member_same m = both (entities_same m.inherits) (clause_same m.clause)

  members_same : (ms : List AssocDecl) → Same (flat_map (of_member text d begins) ms) (flat_map said (flat_map parts.of_member ms))
  members_same ms =
      then (each (of_member text d begins) (λ m. flat_map said (parts.of_member m)) ms (λ m c. member_same m))
      (equal (flat_map (λ m. flat_map said (parts.of_member m)) ms) (flat_map said (flat_map parts.of_member ms))
      (sym (pieces_of_pieces said parts.of_member ms)))

  protocol_same : (p : ProtocolDecl)
      → Same (flat_map (of_entity text d begins) p.inherits
      ++ (flat_map (of_requirement text d begins) p.clause ++ flat_map (of_member text d begins) p.members))
      (flat_map said (parts.of_protocol p))
  protocol_same p =
      both (entities_same p.inherits)
      (then (both (clause_same p.clause) (members_same p.members))
      (equal (flat_map said (parts.of_clause p.clause) ++ flat_map said (flat_map parts.of_member p.members))
      (flat_map said (parts.of_clause p.clause ++ flat_map parts.of_member p.members))
      (sym (flat_map-append said (parts.of_clause p.clause) (flat_map parts.of_member p.members)))))

  params_same : (i : ℕ) (gs : List ParamDecl)
      → Same (flat_map (of_param text d begins) gs) (flat_map said (map parts.of_param (numbered i gs)))
  params_same i [] = itself []
  params_same i (g ∷ gs) = both (entities_same g.bounds) (params_same (i + 1) gs)

  signature_same : (gs : List ParamDecl) (rs : List ReqDecl)
      → Same (flat_map (of_param text d begins) gs ++ flat_map (of_requirement text d begins) rs) (flat_map said (parts.of_signature gs rs))
  signature_same gs rs =
      then (both (params_same 0 gs) (clause_same rs))
      (equal (flat_map said (map parts.of_param (numbered 0 gs)) ++ flat_map said (parts.of_clause rs))
      (flat_map said (map parts.of_param (numbered 0 gs) ++ parts.of_clause rs))
      (sym (flat_map-append said (map parts.of_param (numbered 0 gs)) (parts.of_clause rs))))

  ask_same : (a : Ask) → Same (of_ask text d begins a) (of_parts (parts.entities_of_ask a) (parts.types_of_ask a))
  ask_same asks.Signature = itself []
  ask_same (asks.Reduced t) = equal (of_type text d begins t) (of_type text d begins t ++ []) (sym (append-nil (of_type text d begins t)))
  ask_same (asks.Is t e) =
      then (moved (of_type text d begins t) (of_named text d e) (flat_map (of_type text d begins) e.args))
      (equal (of_named text d e ++ (of_type text d begins t ++ flat_map (of_type text d begins) e.args))
      ((of_named text d e ++ []) ++ (of_type text d begins t ++ flat_map (of_type text d begins) e.args))
      (ap (λ rs. rs ++ (of_type text d begins t ++ flat_map (of_type text d begins) e.args)) (sym (append-nil (of_named text d e)))))
  ask_same (asks.Same t u) =
      equal (of_type text d begins t ++ of_type text d begins u) (of_type text d begins t ++ (of_type text d begins u ++ []))
      (ap (λ rs. of_type text d begins t ++ rs) (sym (append-nil (of_type text d begins u))))

-- ---- parts in their scopes

-- the signature that a query `S(..)` or `S.f(..)` is on, if there is one
abbrev pub signature_asked : List ℕ → Skeleton → Option Span → Span → Option Signature
signature_asked text s None p = signature_of (spaces text s) (word text p)
signature_asked text s (Some outer) p = nested_of (spaces text s) (word text outer) (word text p)

module _ (text : List ℕ) (s : Skeleton) (inherits : ℕ → ℕ → Bool) where
  abbrev d : Spaces
  d = spaces text s

  abbrev asked_by : Option QueryDecl → Option Signature
  asked_by None = None
  asked_by (Some q) = signature_asked text s q.outer q.function

  -- what a type may begin with in a scope that is looked at
  abbrev pub begins_at : Scope → Option (List ℕ → Bool)
  begins_at (in_protocol i) = Some (begins_in_protocol d inherits i)
  begins_at (in_signature g) = Some (begins_in_signature d g)
  begins_at (in_query k) = option_map (begins_in_signature d) (asked_by (slice_get s.queries k))

  abbrev pub named_by : Option (List ℕ → Bool) → Entity → List Refusal
  named_by None e = []
  named_by (Some begins) e = of_named text d e

  abbrev pub typed_by : Option (List ℕ → Bool) → TypeDecl → List Refusal
  typed_by None t = []
  typed_by (Some begins) t = of_type text d begins t

  abbrev pub named_at : Scope × Entity → List Refusal
  named_at e = named_by (begins_at e.0) e.1

  abbrev pub typed_at : Scope × TypeDecl → List Refusal
  typed_at t = typed_by (begins_at t.0) t.1

  abbrev both_by : Option (List ℕ → Bool) → List Entity → List TypeDecl → List Refusal
  both_by o es ts = flat_map (named_by o) es ++ flat_map (typed_by o) ts

  abbrev said_at : Scope × Constraint → List Refusal
  said_at c = both_by (begins_at c.0) (parts.entities_of c.1) (parts.types_of c.1)

  stands : (scope : Scope) (cs : List Constraint)
      → flat_map (λ c. both_by (begins_at scope) (parts.entities_of c) (parts.types_of c)) cs ≡ flat_map said_at (standing scope cs)
  stands scope cs = sym (flat_map-map said_at (λ c. (scope, c)) cs)

  -- constraints in one scope, by what they say
  constraints_same : (cs : List (Scope × Constraint))
      → Same (flat_map said_at cs) (flat_map named_at (flat_map parts.entities_at cs) ++ flat_map typed_at (flat_map parts.types_at cs))
  constraints_same cs =
      let named = λ (c : Scope × Constraint). flat_map (named_by (begins_at c.0)) (parts.entities_of c.1) in
      let typed = λ (c : Scope × Constraint). flat_map (typed_by (begins_at c.0)) (parts.types_of c.1) in
      then (split named typed cs)
      (both
      (then (each named (λ c. flat_map named_at (parts.entities_at c)) cs
      (λ c h.
      equal (named c) (flat_map named_at (parts.entities_at c)) (sym (flat_map-map named_at (λ e. (c.0, e)) (parts.entities_of c.1)))))
      (equal (flat_map (λ c. flat_map named_at (parts.entities_at c)) cs) (flat_map named_at (flat_map parts.entities_at cs))
      (sym (pieces_of_pieces named_at parts.entities_at cs))))
      (then (each typed (λ c. flat_map typed_at (parts.types_at c)) cs
      (λ c h. equal (typed c) (flat_map typed_at (parts.types_at c)) (sym (flat_map-map typed_at (λ t. (c.0, t)) (parts.types_of c.1)))))
      (equal (flat_map (λ c. flat_map typed_at (parts.types_at c)) cs) (flat_map typed_at (flat_map parts.types_at cs))
      (sym (pieces_of_pieces typed_at parts.types_at cs)))))

  -- ---- protocols

  abbrev pub again_in_protocol : ℕ → List Refusal
  again_in_protocol i =
      duplicates (get_or d.primaries i []) (get_or d.primaries i []) ++ duplicates (get_or d.members i []) (get_or d.members i [])

  abbrev pub primaries_in_protocol : ℕ → List Refusal
  primaries_in_protocol i = flat_map (primary_of d inherits i) (get_or d.primaries i [])

  -- what is refused of the names that a protocol declares
  abbrev pub own_of_protocol : ℕ × ProtocolDecl → List Refusal
  own_of_protocol p = again_in_protocol p.0 ++ primaries_in_protocol p.0

  one_protocol : (p : ℕ × ProtocolDecl)
      → Same (of_protocol text d inherits p.0 p.1) (own_of_protocol p ++ flat_map said_at (parts.in_protocol_at p))
  one_protocol p =
      let begins : List ℕ → Bool = begins_in_protocol d inherits p.0 in
      let again : List Refusal = duplicates (get_or d.primaries p.0 []) (get_or d.primaries p.0 []) in
      let more : List Refusal = duplicates (get_or d.members p.0 []) (get_or d.members p.0 []) in
      let lacking : List Refusal = primaries_in_protocol p.0 in
      let es : List Refusal = flat_map (of_entity text d begins) p.1.inherits in
      let rs : List Refusal = flat_map (of_requirement text d begins) p.1.clause in
      let ms : List Refusal = flat_map (of_member text d begins) p.1.members in
      let says : List Refusal = flat_map said_at (parts.in_protocol_at p) in
      let front : Same (es ++ (rs ++ (more ++ ms))) (more ++ (es ++ (rs ++ ms))) =
      then (both (itself es) (moved rs more ms)) (moved es more (rs ++ ms)) in
      then (both (itself (again ++ lacking)) front)
      (then (parted again lacking more (es ++ (rs ++ ms)))
      (then (equal ((again ++ more) ++ (lacking ++ (es ++ (rs ++ ms)))) (((again ++ more) ++ lacking) ++ (es ++ (rs ++ ms)))
      (sym (append_assoc (again ++ more) lacking (es ++ (rs ++ ms)))))
      (both (itself ((again ++ more) ++ lacking))
      (then (protocol_same text d begins p.1)
      (equal (flat_map (said text d begins) (parts.of_protocol p.1)) says (stands (in_protocol p.0) (parts.of_protocol p.1)))))))

  -- ---- signatures

  abbrev pub again_in_signature : Signature → List Refusal
  again_in_signature g = duplicates (own_params d g) (own_params d g) ++ duplicates (outer_params d g) (own_params d g)

  one_signature : (g : Signature) (gs : List ParamDecl) (rs : List ReqDecl)
      → Same (of_signature text d g gs rs) (again_in_signature g ++ flat_map said_at (standing (in_signature g) (parts.of_signature gs rs)))
  one_signature g gs rs =
      let begins : List ℕ → Bool = begins_in_signature d g in
      let own : List Refusal = duplicates (own_params d g) (own_params d g) in
      let outer : List Refusal = duplicates (outer_params d g) (own_params d g) in
      let ps : List Refusal = flat_map (of_param text d begins) gs in
      let cs : List Refusal = flat_map (of_requirement text d begins) rs in
      then (equal (own ++ (outer ++ (ps ++ cs))) ((own ++ outer) ++ (ps ++ cs)) (sym (append_assoc own outer (ps ++ cs))))
      (both (itself (own ++ outer))
      (then (signature_same text d begins gs rs)
      (equal (flat_map (said text d begins) (parts.of_signature gs rs))
      (flat_map said_at (standing (in_signature g) (parts.of_signature gs rs)))
      (stands (in_signature g) (parts.of_signature gs rs)))))

  abbrev pub again_in_function : ℕ × FunctionDecl → List Refusal
  again_in_function f = again_in_signature (Function f.0)

  one_function : (f : ℕ × FunctionDecl)
      → Same (of_function text d f.0 f.1) (again_in_function f ++ flat_map said_at (parts.in_function_at f))
  one_function f = one_signature (Function f.0) f.1.params f.1.clause

  abbrev pub again_in_nested : ℕ → ℕ × FunctionDecl → List Refusal
  again_in_nested i f = again_in_signature (Nested i f.0)

  one_nested : (i : ℕ) (f : ℕ × FunctionDecl)
      → Same (of_nested text d i f.0 f.1) (again_in_nested i f ++ flat_map said_at (parts.in_nested_at i f))
  one_nested i f = one_signature (Nested i f.0) f.1.params f.1.clause

  all_nested : (i : ℕ) (fs : List FunctionDecl)
      → Same (by_place (of_nested text d i) 0 fs)
      (flat_map (again_in_nested i) (numbered 0 fs) ++ flat_map said_at (flat_map (parts.in_nested_at i) (numbered 0 fs)))
  all_nested i fs =
      let ns = numbered 0 fs in
      then (equal (by_place (of_nested text d i) 0 fs) (flat_map (λ f. of_nested text d i f.0 f.1) ns)
      (by_number (of_nested text d i) 0 fs))
      (then (each (λ f. of_nested text d i f.0 f.1) (λ f. again_in_nested i f ++ flat_map said_at (parts.in_nested_at i f)) ns
      (λ f c. one_nested i f))
      (then (split (again_in_nested i) (λ f. flat_map said_at (parts.in_nested_at i f)) ns)
      (both (itself (flat_map (again_in_nested i) ns))
      (equal (flat_map (λ f. flat_map said_at (parts.in_nested_at i f)) ns) (flat_map said_at (flat_map (parts.in_nested_at i) ns))
      (sym (pieces_of_pieces said_at (parts.in_nested_at i) ns))))))

  abbrev pub again_in_struct : ℕ × StructDecl → List Refusal
  again_in_struct t =
      again_in_signature (Struct t.0)
      ++ (duplicates (get_or d.nested t.0 []) (get_or d.nested t.0 []) ++ flat_map (again_in_nested t.0) (numbered 0 t.1.functions))

  one_struct : (t : ℕ × StructDecl) → Same (of_struct text d t.0 t.1) (again_in_struct t ++ flat_map said_at (parts.in_struct_at t))
  one_struct t =
      let first : List Refusal = again_in_signature (Struct t.0) in
      let says : List Refusal = flat_map said_at (standing (in_signature (Struct t.0)) (parts.of_signature t.1.params t.1.clause)) in
      let again : List Refusal = duplicates (get_or d.nested t.0 []) (get_or d.nested t.0 []) in
      let inner : List Refusal = flat_map (again_in_nested t.0) (numbered 0 t.1.functions) in
      let more : List Refusal = flat_map said_at (flat_map (parts.in_nested_at t.0) (numbered 0 t.1.functions)) in
      then (both (one_signature (Struct t.0) t.1.params t.1.clause) (both (itself again) (all_nested t.0 t.1.functions)))
      (then (both (itself (first ++ says))
      (equal (again ++ (inner ++ more)) ((again ++ inner) ++ more) (sym (append_assoc again inner more))))
      (then (parted first says (again ++ inner) more)
      (both (itself (first ++ (again ++ inner)))
      (equal (says ++ more) (flat_map said_at (parts.in_struct_at t))
      (sym (flat_map-append said_at (standing (in_signature (Struct t.0)) (parts.of_signature t.1.params t.1.clause))
      (flat_map (parts.in_nested_at t.0) (numbered 0 t.1.functions))))))))

  -- ---- items of a kind

  gathered : {A : Type 0} (f : ℕ → A → List Refusal) (g : ℕ × A → List Refusal) (h : ℕ × A → List (Scope × Constraint)) (xs : List A)
      → ((x : ℕ × A) → Same (f x.0 x.1) (g x ++ flat_map said_at (h x)))
      → Same (by_place f 0 xs) (flat_map g (numbered 0 xs) ++ flat_map said_at (flat_map h (numbered 0 xs)))
  gathered f g h xs one =
      let ns = numbered 0 xs in
      then (equal (by_place f 0 xs) (flat_map (λ x. f x.0 x.1) ns) (by_number f 0 xs))
      (then (each (λ x. f x.0 x.1) (λ x. g x ++ flat_map said_at (h x)) ns (λ x c. one x))
      (then (split g (λ x. flat_map said_at (h x)) ns)
      (both (itself (flat_map g ns))
      (equal (flat_map (λ x. flat_map said_at (h x)) ns) (flat_map said_at (flat_map h ns)) (sym (pieces_of_pieces said_at h ns))))))

  -- ---- queries

  abbrev pub unknown_signature : QueryDecl → Option Signature → List Refusal
  unknown_signature q None = when true UnknownSignature q.function.start
  unknown_signature q (Some g) = []

  abbrev pub unknown_struct : QueryDecl → Span → Option ℕ → List Refusal
  unknown_struct q outer None = when true UnknownSignature outer.start
  unknown_struct q outer (Some i) = unknown_signature q (nested_in d i (word text q.function))

  abbrev pub unknown_in : QueryDecl → Option Span → List Refusal
  unknown_in q None = unknown_signature q (signature_of d (word text q.function))
  unknown_in q (Some outer) = unknown_struct q outer (struct_of d (word text outer))

  -- what is refused of the name of the signature of a query
  abbrev pub unknown : QueryDecl → List Refusal
  unknown q = unknown_in q q.outer

  abbrev ask_by : Option Signature → Ask → List Refusal
  ask_by None a = []
  ask_by (Some g) a = of_ask text d (begins_in_signature d g) a

  asked_is : (q : QueryDecl) (o : Option Signature) → of_asked text d q o ≡ unknown_signature q o ++ ask_by o q.ask
  asked_is q None = refl
  asked_is q (Some g) = refl

  nested_is : (q : QueryDecl) (outer : Span) (o : Option ℕ)
      → of_nested_query text d q outer o
      ≡ unknown_struct q outer o ++ ask_by (elim o [ None ↦ None | Some i ↦ nested_in d i (word text q.function) ]) q.ask
  nested_is q outer None = refl
  nested_is q outer (Some i) = asked_is q (nested_in d i (word text q.function))

  query_is : (q : QueryDecl) (o : Option Span)
      → of_query_in text d q o ≡ unknown_in q o ++ ask_by (signature_asked text s o q.function) q.ask
  query_is q None = asked_is q (signature_of d (word text q.function))
  query_is q (Some outer) = nested_is q outer (struct_of d (word text outer))

  nothing : {A : Type 0} (xs : List A) → flat_map (λ x. let none : List Refusal = [] in none) xs ≡ []
  nothing [] = refl
  nothing (x ∷ xs) = nothing xs

  asked_same : (o : Option Signature) (a : Ask)
      → Same (ask_by o a) (both_by (option_map (begins_in_signature d) o) (parts.entities_of_ask a) (parts.types_of_ask a))
  asked_same None a =
      equal [] (both_by None (parts.entities_of_ask a) (parts.types_of_ask a))
      (sym (λ i. nothing (parts.entities_of_ask a) i ++ nothing (parts.types_of_ask a) i))
  asked_same (Some g) a = ask_same text d (begins_in_signature d g) a

  abbrev asks_at : ℕ × QueryDecl → List Refusal
  asks_at q = flat_map named_at (parts.asked_entities_at q) ++ flat_map typed_at (parts.asked_at q)

  one_query : (q : ℕ × QueryDecl) → slice_get s.queries q.0 ≡ Some q.1 → Same (of_query text d q.1) (unknown q.1 ++ asks_at q)
  one_query q e =
      let o : Option Signature = signature_asked text s q.1.outer q.1.function in
      let es : List Entity = parts.entities_of_ask q.1.ask in
      let ts : List TypeDecl = parts.types_of_ask q.1.ask in
      let begins : begins_at (in_query q.0) ≡ option_map (begins_in_signature d) o =
      ap (λ p. option_map (begins_in_signature d) (asked_by p)) e in
      then (equal (of_query text d q.1) (unknown q.1 ++ ask_by o q.1.ask) (query_is q.1 q.1.outer))
      (both (itself (unknown q.1))
      (then (asked_same o q.1.ask)
      (equal (both_by (option_map (begins_in_signature d) o) es ts) (asks_at q)
      (ap (λ b. both_by b es ts) (sym begins)
      ∙ (λ i. sym (flat_map-map named_at (λ (x : Entity). (in_query q.0, x)) es) i
      ++ sym (flat_map-map typed_at (λ (x : TypeDecl). (in_query q.0, x)) ts) i)))))

  abbrev asked_named : List Refusal
  asked_named = flat_map named_at (flat_map parts.asked_entities_at (numbered 0 s.queries))

  abbrev asked_typed : List Refusal
  asked_typed = flat_map typed_at (flat_map parts.asked_at (numbered 0 s.queries))

  queries_same : Same (flat_map (of_query text d) s.queries) (flat_map unknown s.queries ++ (asked_named ++ asked_typed))
  queries_same =
      let ns : List (ℕ × QueryDecl) = numbered 0 s.queries in
      let named = λ (q : ℕ × QueryDecl). flat_map named_at (parts.asked_entities_at q) in
      let typed = λ (q : ℕ × QueryDecl). flat_map typed_at (parts.asked_at q) in
      then (equal (flat_map (of_query text d) s.queries) (flat_map (λ q. of_query text d q.1) ns)
      (sym (unnumbered (of_query text d) 0 s.queries)))
      (then (each (λ q. of_query text d q.1) (λ q. unknown q.1 ++ asks_at q) ns (λ q c. one_query q (number_of s.queries q c)))
      (then (split (λ (q : ℕ × QueryDecl). unknown q.1) asks_at ns)
      (both (equal (flat_map (λ q. unknown q.1) ns) (flat_map unknown s.queries) (unnumbered unknown 0 s.queries))
      (then (split named typed ns)
      (equal (flat_map named ns ++ flat_map typed ns) (asked_named ++ asked_typed)
      (λ i. sym (pieces_of_pieces named_at parts.asked_entities_at ns) i ++ sym (pieces_of_pieces typed_at parts.asked_at ns) i))))))

  -- ---- all

  -- what is refused of the names that protocols, structs and functions declare
  abbrev pub own : List Refusal
  own = flat_map own_of_protocol (numbered 0 s.protocols)
      ++ (flat_map again_in_struct (numbered 0 s.structs) ++ flat_map again_in_function (numbered 0 s.functions))

  abbrev pub asked : List Refusal
  asked = flat_map unknown s.queries

  abbrev pub of_entities : List Refusal
  of_entities = flat_map named_at (entities s)

  abbrev pub of_types : List Refusal
  of_types = flat_map typed_at (types s)

  abbrev says_protocols : List Refusal
  says_protocols = flat_map said_at (flat_map parts.in_protocol_at (numbered 0 s.protocols))

  abbrev says_structs : List Refusal
  says_structs = flat_map said_at (flat_map parts.in_struct_at (numbered 0 s.structs))

  abbrev says_functions : List Refusal
  says_functions = flat_map said_at (flat_map parts.in_function_at (numbered 0 s.functions))

  -- the declarations, by what is refused of the names that they declare and by what their constraints say
  declarations_same : Same (by_place (of_protocol text d inherits) 0 s.protocols ++ of_signatures text d s)
      (own ++ flat_map said_at (constraints s))
  declarations_same =
      let ps : List Refusal = flat_map own_of_protocol (numbered 0 s.protocols) in
      let ss : List Refusal = flat_map again_in_struct (numbered 0 s.structs) in
      let fs : List Refusal = flat_map again_in_function (numbered 0 s.functions) in
      then
      (both (gathered (of_protocol text d inherits) own_of_protocol parts.in_protocol_at s.protocols one_protocol)
      (then
      (both (gathered (of_struct text d) again_in_struct parts.in_struct_at s.structs one_struct)
      (gathered (of_function text d) again_in_function parts.in_function_at s.functions one_function))
      (parted ss says_structs fs says_functions)))
      (then (parted ps says_protocols (ss ++ fs) (says_structs ++ says_functions))
      (both (itself (ps ++ (ss ++ fs)))
      (equal (says_protocols ++ (says_structs ++ says_functions)) (flat_map said_at (constraints s)) (sym says))))
    where
      says : flat_map said_at (constraints s) ≡ says_protocols ++ (says_structs ++ says_functions)
      says =
          let cs = flat_map parts.in_protocol_at (numbered 0 s.protocols) in
          let es = flat_map parts.in_struct_at (numbered 0 s.structs) in
          let gs = flat_map parts.in_function_at (numbered 0 s.functions) in
          flat_map-append said_at cs (es ++ gs) ∙ ap (λ rs. says_protocols ++ rs) (flat_map-append said_at es gs)

  -- what constraints and queries say, by entities and types
  said_same : Same (flat_map said_at (constraints s) ++ flat_map (of_query text d) s.queries) (asked ++ (of_entities ++ of_types))
  said_same =
      let es : List (Scope × Entity) = flat_map parts.entities_at (constraints s) in
      let ts : List (Scope × TypeDecl) = flat_map parts.types_at (constraints s) in
      let named : List Refusal = flat_map named_at es in
      let typed : List Refusal = flat_map typed_at ts in
      then (both (constraints_same (constraints s)) queries_same)
      (then (moved (named ++ typed) asked (asked_named ++ asked_typed))
      (both (itself asked)
      (then (parted named typed asked_named asked_typed)
      (both
      (equal (named ++ asked_named) of_entities
      (sym (flat_map-append named_at es (flat_map parts.asked_entities_at (numbered 0 s.queries)))))
      (equal (typed ++ asked_typed) of_types (sym (flat_map-append typed_at ts (flat_map parts.asked_at (numbered 0 s.queries)))))))))

  pub all_gathered : Same (refusals text inherits s) (of_spaces d ++ (own ++ (asked ++ (of_entities ++ of_types))))
  all_gathered =
      let ps : List Refusal = by_place (of_protocol text d inherits) 0 s.protocols in
      let ss : List Refusal = of_signatures text d s in
      let qs : List Refusal = flat_map (of_query text d) s.queries in
      let cs : List Refusal = flat_map said_at (constraints s) in
      both (itself (of_spaces d))
      (then (equal (ps ++ (ss ++ qs)) ((ps ++ ss) ++ qs) (sym (append_assoc ps ss qs)))
      (then (both declarations_same (itself qs))
      (then (equal ((own ++ cs) ++ qs) (own ++ (cs ++ qs)) (append_assoc own cs qs))
      (both (itself own) said_same))))

-- What a walk of a text answers is what the parts of the text say: the same names, and for each protocol the same that it inherits.
use Rattle.std.proofs.Common.{◌≡◌, ◌∙◌, ◌↔◌, ℕ, ◌+◌, List, [], ◌∷◌, ◌++◌, Contains, map, refl, sym, ap, subst, append_assoc, append-nil}
use Rattle.std.specs.List.{flat_map}
use Rattle.std.specs.List.Sorted.{IsPermutation}
use Rattle.std.proofs.lemmas.List.Concat.{flat_map_single, flat_map-append}
use Rattle.std.proofs.lemmas.List.Folds.{flat_map-map}
use Rattle.std.proofs.lemmas.List.Sorted.{Contains-permutation, IsPermutation-append_comm, IsPermutation-append_left, IsPermutation-append_right, IsPermutation-refl, IsPermutation-sym, IsPermutation-trans}
use Rattle.swreq_decl.specs.declared.skeleton.Entity.{Entity}
use Rattle.swreq_decl.specs.declared.skeleton.TypeDecl.{TypeDecl}
use Rattle.swreq_decl.specs.declared.skeleton.ReqDecl.{ReqDecl}
use Rattle.swreq_decl.specs.declared.skeleton.ReqDecl.TheVariants as requirements
use Rattle.swreq_decl.specs.declared.skeleton.AssocDecl.{AssocDecl}
use Rattle.swreq_decl.specs.declared.skeleton.ProtocolDecl.{ProtocolDecl}
use Rattle.swreq_decl.specs.declared.skeleton.ParamDecl.{ParamDecl}
use Rattle.swreq_decl.specs.declared.skeleton.FunctionDecl.{FunctionDecl}
use Rattle.swreq_decl.specs.declared.skeleton.StructDecl.{StructDecl}
use Rattle.swreq_decl.specs.declared.skeleton.Ask.{Ask}
use Rattle.swreq_decl.specs.declared.skeleton.Ask.TheVariants as asks
use Rattle.swreq_decl.specs.declared.skeleton.QueryDecl.{QueryDecl}
use Rattle.swreq_decl.specs.declared.skeleton.Skeleton.{Skeleton}
use Rattle.swreq_names.specs.declared.signature.Signature.TheVariants.{Struct, Function, Nested}
use Rattle.swreq_names.specs.Inheritance.{direct, inherited_by, named_in}
use Rattle.swreq_names.specs.Mentioned.{declared_by, member_of, members_in, mentioned}
use Rattle.swreq_names.specs.Parts.{Constraint, Scope, asked_at, constraints, in_function_at, in_nested_at, in_protocol_at, in_struct_at, numbered, of_clause, of_member, of_param, of_protocol, of_requirement, of_signature, standing, types, types_at, types_of, types_of_ask, types_of_entity}
use Rattle.swreq_names.specs.Parts.Scope.{in_protocol, in_query, in_signature}
use Rattle.swreq_names.specs.Spaces.{Spaces, word}
use Rattle.swreq_names.proofs.Pieces.{pieces_of_pieces}
use Rattle.swreq_names.specs.Walk as walk
use Rattle.swreq_names.specs.Walk.{walked, walked_direct}

-- ---- pieces

-- the pieces of numbered items, if no piece depends on the number
pieces_numbered : {A B C : Type 0} (f : B → List C) (g : ℕ × A → List B) (h : A → List C)
    → ((x : ℕ × A) → flat_map f (g x) ≡ h x.1) → (i : ℕ) (xs : List A) → flat_map f (flat_map g (numbered i xs)) ≡ flat_map h xs
pieces_numbered f g h each i [] = refl
pieces_numbered f g h each i (x ∷ xs) =
    flat_map-append f (g (i, x)) (flat_map g (numbered (i + 1) xs)) ∙ (λ k. each (i, x) k ++ pieces_numbered f g h each (i + 1) xs k)

-- the pieces of parts with their scopes, if no piece depends on the scope
pieces_standing : {A B : Type 0} (f : A → List B) (scope : Scope) (parts : List A)
    → flat_map (λ (x : Scope × A). f x.1) (standing scope parts) ≡ flat_map f parts
pieces_standing f scope parts = flat_map-map (λ x. f x.1) (λ part. (scope, part)) parts

-- ---- permutations

swapped : {A : Type 0} (xs ys zs : List A) → IsPermutation (xs ++ (ys ++ zs)) (ys ++ (xs ++ zs))
swapped xs ys zs =
    let first = IsPermutation-append_left zs (xs ++ ys) (ys ++ xs) (IsPermutation-append_comm xs ys) in
    subst (λ l. IsPermutation l (ys ++ (xs ++ zs))) (append_assoc xs ys zs)
    (subst (IsPermutation ((xs ++ ys) ++ zs)) (append_assoc ys xs zs) first)

each_permuted : {A B : Type 0} (f g : A → List B) → ((x : A) → IsPermutation (f x) (g x))
    → (xs : List A) → IsPermutation (flat_map f xs) (flat_map g xs)
each_permuted f g each [] = IsPermutation-refl []
each_permuted f g each (x ∷ xs) =
    IsPermutation-trans (f x ++ flat_map f xs) (g x ++ flat_map f xs) (g x ++ flat_map g xs)
    (IsPermutation-append_left (flat_map f xs) (f x) (g x) (each x))
    (IsPermutation-append_right (g x) (flat_map f xs) (flat_map g xs) (each_permuted f g each xs))

-- pieces of two parts each are a permutation of all first parts and then all second parts
parted : {A B : Type 0} (f g : A → List B) (xs : List A)
    → IsPermutation (flat_map (λ x. f x ++ g x) xs) (flat_map f xs ++ flat_map g xs)
parted f g [] = IsPermutation-refl []
parted f g (x ∷ xs) =
    let rest = flat_map (λ x. f x ++ g x) xs in
    let firsts = flat_map f xs in
    let seconds = flat_map g xs in
    subst (λ l. IsPermutation l ((f x ++ firsts) ++ (g x ++ seconds))) (sym (append_assoc (f x) (g x) rest))
    (subst (IsPermutation (f x ++ (g x ++ rest))) (sym (append_assoc (f x) firsts (g x ++ seconds)))
    (IsPermutation-append_right (f x) (g x ++ rest) (firsts ++ (g x ++ seconds))
    (IsPermutation-trans (g x ++ rest) (g x ++ (firsts ++ seconds)) (firsts ++ (g x ++ seconds))
    (IsPermutation-append_right (g x) rest (firsts ++ seconds) (parted f g xs)) (swapped (g x) firsts seconds))))

-- ---- names

module _ (text : List ℕ) where
  abbrev in_types : List TypeDecl → List (List ℕ)
  in_types ts = flat_map (walk.in_type text) ts

  abbrev in_constraint : Constraint → List (List ℕ)
  in_constraint c = in_types (types_of c)

  bounds_named : (es : List Entity) → in_types (flat_map types_of_entity es) ≡ walk.in_bounds text es
  bounds_named es = pieces_of_pieces (walk.in_type text) types_of_entity es

  requirement_named : (r : ReqDecl) → in_constraint (of_requirement r) ≡ walk.in_requirement text r
  requirement_named (requirements.Bound t bounds) = ap (λ ys. walk.in_type text t ++ ys) (bounds_named bounds)
  requirement_named (requirements.Same t u) = ap (λ ys. walk.in_type text t ++ ys) (append-nil (walk.in_type text u))

  clause_named : (rs : List ReqDecl) → flat_map in_constraint (of_clause rs) ≡ walk.in_clause text rs
  clause_named rs = flat_map-map in_constraint of_requirement rs ∙ (λ i. flat_map (λ r. requirement_named r i) rs)

  param_named : (g : ℕ × ParamDecl) → in_constraint (of_param g) ≡ walk.in_param text g.1
  param_named g = bounds_named g.1.bounds

  signature_named : (params : List ParamDecl) (clause : List ReqDecl)
      → flat_map in_constraint (of_signature params clause) ≡ flat_map (walk.in_param text) params ++ walk.in_clause text clause
  signature_named params clause =
      flat_map-append in_constraint (map of_param (numbered 0 params)) (of_clause clause) ∙ (λ i. all_params i ++ clause_named clause i)
    where
      all_params : flat_map in_constraint (map of_param (numbered 0 params)) ≡ flat_map (walk.in_param text) params
      all_params =
          ap (flat_map in_constraint) (sym (flat_map_single of_param (numbered 0 params)))
          ∙ pieces_numbered in_constraint (λ g. of_param g ∷ []) (walk.in_param text)
          (λ g. append-nil (in_constraint (of_param g)) ∙ param_named g) 0 params

  ask_named : (a : Ask) → in_types (types_of_ask a) ≡ walk.in_ask text a
  ask_named asks.Signature = refl
  ask_named (asks.Reduced t) = append-nil (walk.in_type text t)
  ask_named (asks.Is t e) = refl
  ask_named (asks.Same t u) = ap (λ ys. walk.in_type text t ++ ys) (append-nil (walk.in_type text u))

  -- ---- scopes

  abbrev in_standing : Scope × Constraint → List (List ℕ)
  in_standing c = in_constraint c.1

  abbrev in_standing_type : Scope × TypeDecl → List (List ℕ)
  in_standing_type t = walk.in_type text t.1

  standing_named : (scope : Scope) (params : List ParamDecl) (clause : List ReqDecl)
      → flat_map in_standing (standing scope (of_signature params clause))
      ≡ flat_map (walk.in_param text) params ++ walk.in_clause text clause
  standing_named scope params clause = pieces_standing in_constraint scope (of_signature params clause) ∙ signature_named params clause

  functions_named : (fs : List FunctionDecl)
      → flat_map in_standing (flat_map in_function_at (numbered 0 fs)) ≡ flat_map (walk.in_function text) fs
  functions_named fs =
      pieces_numbered in_standing in_function_at (walk.in_function text)
      (λ f. standing_named (in_signature (Function f.0)) f.1.params f.1.clause) 0 fs

  nested_named : (i : ℕ) (fs : List FunctionDecl)
      → flat_map in_standing (flat_map (in_nested_at i) (numbered 0 fs)) ≡ flat_map (walk.in_function text) fs
  nested_named i fs =
      pieces_numbered in_standing (in_nested_at i) (walk.in_function text)
      (λ f. standing_named (in_signature (Nested i f.0)) f.1.params f.1.clause) 0 fs

  struct_named : (t : ℕ × StructDecl) → flat_map in_standing (in_struct_at t) ≡ walk.in_struct text t.1
  struct_named t =
      let own = standing_named (in_signature (Struct t.0)) t.1.params t.1.clause in
      let nested = nested_named t.0 t.1.functions in
      flat_map-append in_standing (standing (in_signature (Struct t.0)) (of_signature t.1.params t.1.clause))
      (flat_map (in_nested_at t.0) (numbered 0 t.1.functions))
      ∙ (λ i. own i ++ nested i)
      ∙ append_assoc (flat_map (walk.in_param text) t.1.params) (walk.in_clause text t.1.clause)
      (flat_map (walk.in_function text) t.1.functions)

  structs_named : (ts : List StructDecl)
      → flat_map in_standing (flat_map in_struct_at (numbered 0 ts)) ≡ flat_map (walk.in_struct text) ts
  structs_named ts = pieces_numbered in_standing in_struct_at (walk.in_struct text) struct_named 0 ts

  queries_named : (qs : List QueryDecl)
      → flat_map in_standing_type (flat_map asked_at (numbered 0 qs)) ≡ flat_map (walk.in_query text) qs
  queries_named qs =
      pieces_numbered in_standing_type asked_at (walk.in_query text)
      (λ q. pieces_standing (walk.in_type text) (in_query q.0) (types_of_ask q.1.ask) ∙ ask_named q.1.ask) 0 qs

  -- ---- protocols

  -- the names in the types of a member, and in those of a protocol
  abbrev in_member_types : AssocDecl → List (List ℕ)
  in_member_types m = walk.in_bounds text m.inherits ++ walk.in_clause text m.clause

  abbrev in_protocol_types : ProtocolDecl → List (List ℕ)
  in_protocol_types p = walk.in_bounds text p.inherits ++ (walk.in_clause text p.clause ++ flat_map in_member_types p.members)

  member_named : (m : AssocDecl) → flat_map in_constraint (of_member m) ≡ in_member_types m
  member_named m = λ i. bounds_named m.inherits i ++ clause_named m.clause i

  protocol_named : (p : ProtocolDecl) → flat_map in_constraint (of_protocol p) ≡ in_protocol_types p
  protocol_named p =
      let members = pieces_of_pieces in_constraint of_member p.members ∙ (λ i. flat_map (λ m. member_named m i) p.members) in
      let clause = clause_named p.clause in
      let rest = flat_map-append in_constraint (of_clause p.clause) (flat_map of_member p.members) ∙ (λ i. clause i ++ members i) in
      λ i. bounds_named p.inherits i ++ rest i

  protocols_named : (ps : List ProtocolDecl)
      → flat_map in_standing (flat_map in_protocol_at (numbered 0 ps)) ≡ flat_map in_protocol_types ps
  protocols_named ps =
      pieces_numbered in_standing in_protocol_at in_protocol_types
      (λ p. pieces_standing in_constraint (in_protocol p.0) (of_protocol p.1) ∙ protocol_named p.1) 0 ps

  members_permuted : (ms : List AssocDecl)
      → IsPermutation (flat_map (walk.in_member text) ms) (map (λ m. word text m.name) ms ++ flat_map in_member_types ms)
  members_permuted ms =
      subst (λ l. IsPermutation (flat_map (walk.in_member text) ms) (l ++ flat_map in_member_types ms))
      (flat_map_single (λ (m : AssocDecl). word text m.name) ms)
      (parted (λ (m : AssocDecl). word text m.name ∷ []) in_member_types ms)

  protocol_permuted : (p : ProtocolDecl) → IsPermutation (walk.in_protocol text p) (declared_by text p ++ in_protocol_types p)
  protocol_permuted p =
      let bounds = walk.in_bounds text p.inherits in
      let clause = walk.in_clause text p.clause in
      let members = flat_map (walk.in_member text) p.members in
      let declared = declared_by text p in
      let rest = flat_map in_member_types p.members in
      IsPermutation-trans (bounds ++ (clause ++ members)) (bounds ++ (declared ++ (clause ++ rest)))
      (declared ++ (bounds ++ (clause ++ rest)))
      (IsPermutation-append_right bounds (clause ++ members) (declared ++ (clause ++ rest))
      (IsPermutation-trans (clause ++ members) (clause ++ (declared ++ rest)) (declared ++ (clause ++ rest))
      (IsPermutation-append_right clause members (declared ++ rest) (members_permuted p.members)) (swapped clause declared rest)))
      (swapped bounds declared (clause ++ rest))

  protocols_permuted : (ps : List ProtocolDecl)
      → IsPermutation (flat_map (walk.in_protocol text) ps) (flat_map (declared_by text) ps ++ flat_map in_protocol_types ps)
  protocols_permuted ps =
      let both = λ (p : ProtocolDecl). declared_by text p ++ in_protocol_types p in
      IsPermutation-trans (flat_map (walk.in_protocol text) ps) (flat_map both ps)
      (flat_map (declared_by text) ps ++ flat_map in_protocol_types ps)
      (each_permuted (walk.in_protocol text) both protocol_permuted ps) (parted (declared_by text) in_protocol_types ps)

  -- ---- texts

  module _ (s : Skeleton) where
    abbrev in_protocols : List (List ℕ)
    in_protocols = flat_map in_protocol_types s.protocols

    abbrev in_structs : List (List ℕ)
    in_structs = flat_map (walk.in_struct text) s.structs

    abbrev in_functions : List (List ℕ)
    in_functions = flat_map (walk.in_function text) s.functions

    abbrev in_queries : List (List ℕ)
    in_queries = flat_map (walk.in_query text) s.queries

    constraints_named : flat_map in_standing (constraints s) ≡ in_protocols ++ (in_structs ++ in_functions)
    constraints_named =
        let of_protocols = flat_map in_protocol_at (numbered 0 s.protocols) in
        let of_structs = flat_map in_struct_at (numbered 0 s.structs) in
        let of_functions = flat_map in_function_at (numbered 0 s.functions) in
        flat_map-append in_standing of_protocols (of_structs ++ of_functions)
        ∙ ap (λ ys. flat_map in_standing of_protocols ++ ys) (flat_map-append in_standing of_structs of_functions)
        ∙ (λ i. protocols_named s.protocols i ++ (structs_named s.structs i ++ functions_named s.functions i))

    constrained_named : flat_map in_standing_type (flat_map types_at (constraints s)) ≡ in_protocols ++ (in_structs ++ in_functions)
    constrained_named =
        pieces_of_pieces in_standing_type types_at (constraints s)
        ∙ (λ i. flat_map (λ c. pieces_standing (walk.in_type text) c.0 (types_of c.1) i) (constraints s)) ∙ constraints_named

    types_named : flat_map (λ t. members_in text t.1) (types s) ≡ in_protocols ++ (in_structs ++ (in_functions ++ in_queries))
    types_named =
        sym (λ i. flat_map (λ t. flat_map_single (λ m. word text (member_of m)) t.1.steps i) (types s))
        ∙ flat_map-append in_standing_type (flat_map types_at (constraints s)) (flat_map asked_at (numbered 0 s.queries))
        ∙ (λ i. constrained_named i ++ queries_named s.queries i)
        ∙ append_assoc in_protocols (in_structs ++ in_functions) in_queries
        ∙ ap (λ ys. in_protocols ++ ys) (append_assoc in_structs in_functions in_queries)

    names_permuted : IsPermutation (walked text s) (mentioned text s)
    names_permuted =
        let declared = flat_map (declared_by text) s.protocols in
        let rest = in_structs ++ (in_functions ++ in_queries) in
        subst (IsPermutation (walked text s)) (append_assoc declared in_protocols rest ∙ ap (λ ys. declared ++ ys) (sym types_named))
        (IsPermutation-append_left rest (flat_map (walk.in_protocol text) s.protocols) (declared ++ in_protocols)
        (protocols_permuted s.protocols))

    -- A walk of a text has the names that its parts mention.
    pub same_names : (name : List ℕ) → Contains (walked text s) name ↔ Contains (mentioned text s) name
    same_names name = (
      Contains-permutation (walked text s) (mentioned text s) name names_permuted,
      Contains-permutation (mentioned text s) (walked text s) name
          (IsPermutation-sym (walked text s) (mentioned text s) names_permuted),
    )

-- ---- inheritance

module _ (text : List ℕ) (d : Spaces) where
  requirement_inherits : (r : ReqDecl) → inherited_by text d (of_requirement r) ≡ walk.inherited_in text d r
  requirement_inherits (requirements.Bound t bounds) = refl
  requirement_inherits (requirements.Same t u) = refl

  clause_inherits : (rs : List ReqDecl) → flat_map (inherited_by text d) (of_clause rs) ≡ walk.inherited_in_clause text d rs
  clause_inherits rs = flat_map-map (inherited_by text d) of_requirement rs ∙ (λ i. flat_map (λ r. requirement_inherits r i) rs)

  -- A walk of a protocol has what its constraints make it inherit.
  pub same_direct : (p : ProtocolDecl) → walked_direct text d p ≡ direct text d p
  same_direct p =
      let by = inherited_by text d in
      let members = pieces_of_pieces by of_member p.members ∙ (λ i. flat_map (λ (m : AssocDecl). clause_inherits m.clause i) p.members) in
      let clause = clause_inherits p.clause in
      let rest = flat_map-append by (of_clause p.clause) (flat_map of_member p.members) ∙ (λ i. clause i ++ members i) in
      sym (ap (λ ys. named_in text d p.inherits ++ ys) rest)

  pub same_inheritance : (ps : List ProtocolDecl) → map (walked_direct text d) ps ≡ map (direct text d) ps
  same_inheritance ps = λ i. map (λ p. same_direct p i) ps

-- What the constraints of a text are on, by the scopes in which they stand.
use Rattle.std.proofs.Common.{◌≡◌, ⊎_elim, ℕ, List, ◌++◌, map, Some, slice_get, Contains, refl, sym, ap, subst, ◌∙◌}
use Rattle.std.proofs.lemmas.List.Elements.{Contains-append_cases}
use Rattle.std.specs.List.{flat_map}
use Rattle.swreq_param.proofs.swreq_lemmas.Elements.{get_contains}
use Rattle.swreq_param.proofs.swreq_lemmas.Members.{contains_of_map, member_cases}
use Rattle.swreq_lexicon.specs.swreq_decl.declared.skeleton.AssocDecl.{AssocDecl}
use Rattle.swreq_lexicon.specs.swreq_decl.declared.skeleton.FunctionDecl.{FunctionDecl}
use Rattle.swreq_lexicon.specs.swreq_decl.declared.skeleton.ParamDecl.{ParamDecl}
use Rattle.swreq_lexicon.specs.swreq_decl.declared.skeleton.ProtocolDecl.{ProtocolDecl}
use Rattle.swreq_lexicon.specs.swreq_decl.declared.skeleton.ReqDecl.{ReqDecl}
use Rattle.swreq_lexicon.specs.swreq_decl.declared.skeleton.ReqDecl.TheVariants as requirements
use Rattle.swreq_lexicon.specs.swreq_decl.declared.skeleton.Skeleton.{Skeleton}
use Rattle.swreq_lexicon.specs.swreq_decl.declared.skeleton.StructDecl.{StructDecl}
use Rattle.swreq_lexicon.specs.swreq_decl.declared.skeleton.TypeDecl.{TypeDecl}
use Rattle.swreq_lexicon.specs.swreq_names.declared.signature.Signature.{Signature}
use Rattle.swreq_lexicon.specs.swreq_names.declared.signature.Signature.TheVariants.{Struct, Function, Nested}
use Rattle.swreq_lexicon.specs.swreq_names.Parts as parts
use Rattle.swreq_lexicon.specs.swreq_names.Parts.{Subject, self_of, associated, parameter, written, Constraint, bound, same, Scope, in_protocol, in_signature, in_query, numbered, standing, constraints}
use Rattle.swreq_lexicon.proofs.swreq_names.Pieces.{from_pieces}
use Rattle.swreq_resolve.proofs.SameMembers.{number_of}
use Rattle.swreq_lowering.specs.Signatures.{functions_of, own_param_decls, params_of_function, params_of_struct}

-- The scope is a protocol or a signature.
abbrev pub IsDeclaration : Scope → Type 0
IsDeclaration (in_query k) = ⊥
IsDeclaration _ = Unit {0}

module _ (s : Skeleton) where
  -- An associated type is of a protocol, and a generic parameter of the signature stands at its place.
  abbrev pub IsDeclaredIn : Scope → Subject → Type 0
  IsDeclaredIn (in_protocol i) (associated a) =
      (p : ProtocolDecl) × (m : AssocDecl) × Contains s.protocols p × Contains p.members m × (m.name ≡ a)
  IsDeclaredIn (in_protocol i) (parameter k p) = ⊥
  IsDeclaredIn (in_signature g) (parameter k p) = (q : ParamDecl) × (slice_get (own_param_decls s g) k ≡ Some q) × (q.name ≡ p)
  IsDeclaredIn (in_signature g) (associated a) = ⊥
  IsDeclaredIn (in_query k) y = ⊥
  IsDeclaredIn _ _ = Unit {0}

  abbrev pub StandsIn : Scope → Constraint → Type 0
  StandsIn scope (bound y bounds) = IsDeclaredIn scope y
  StandsIn scope (same t u) = IsDeclaration scope

  abbrev Stands : Scope × Constraint → Type 0
  Stands c = StandsIn c.0 c.1

  all_stand : (scope : Scope) (cs : List Constraint) → ((k : Constraint) → Contains cs k → StandsIn scope k) → (c : Scope × Constraint)
      → Contains (standing scope cs) c → Stands c
  all_stand scope cs f c h = let (k, n, e) = contains_of_map (λ (x : Constraint). (scope, x)) cs c h in subst Stands (sym e) (f k n)

  -- ---- clauses

  written_in : (scope : Scope) → IsDeclaration scope → (t : TypeDecl) → IsDeclaredIn scope (written t)
  written_in (in_protocol i) d t = tt
  written_in (in_signature g) d t = tt
  written_in (in_query k) d t = absurd d

  of_requirement : (scope : Scope) → IsDeclaration scope → (r : ReqDecl) → StandsIn scope (parts.of_requirement r)
  of_requirement scope d (requirements.Bound t bounds) = written_in scope d t
  of_requirement scope d (requirements.Same t u) = d

  of_clause : (scope : Scope) → IsDeclaration scope → (rs : List ReqDecl) (k : Constraint)
      → Contains (parts.of_clause rs) k → StandsIn scope k
  of_clause scope d rs k h =
      let (r, n, e) = contains_of_map parts.of_requirement rs k h in subst (StandsIn scope) (sym e) (of_requirement scope d r)

  -- ---- protocols

  of_protocol : (i : ℕ) (p : ProtocolDecl) → Contains s.protocols p → (k : Constraint) → Contains (parts.of_protocol p) k
      → StandsIn (in_protocol i) k
  of_protocol i p c k h =
      ⊎_elim (λ e. subst (StandsIn (in_protocol i)) (sym e) tt)
      (λ l. ⊎_elim (of_clause (in_protocol i) tt p.clause k) (λ m. of_member (from_pieces parts.of_member p.members k m))
      (Contains-append_cases (parts.of_clause p.clause) (flat_map parts.of_member p.members) k l))
      (member_cases (bound (self_of p.name) p.inherits) k (parts.of_clause p.clause ++ flat_map parts.of_member p.members) h)
    where
      of_member : (m : AssocDecl) × Contains p.members m × Contains (parts.of_member m) k → StandsIn (in_protocol i) k
      of_member (m, n, l) =
          ⊎_elim (λ e. subst (StandsIn (in_protocol i)) (sym e) (p, m, c, n, refl)) (of_clause (in_protocol i) tt m.clause k)
          (member_cases (bound (associated m.name) m.inherits) k (parts.of_clause m.clause) l)

  -- ---- signatures

  of_signature : (g : Signature) (ps : List ParamDecl) (rs : List ReqDecl) → own_param_decls s g ≡ ps → (k : Constraint)
      → Contains (parts.of_signature ps rs) k → StandsIn (in_signature g) k
  of_signature g ps rs own k h =
      ⊎_elim
      (λ l. let (q, n, e) = contains_of_map parts.of_param (numbered 0 ps) k l in
      subst (StandsIn (in_signature g)) (sym e) (q.1, ap (λ xs. slice_get xs q.0) own ∙ number_of ps q n, refl))
      (of_clause (in_signature g) tt rs k)
      (Contains-append_cases (map parts.of_param (numbered 0 ps)) (parts.of_clause rs) k h)

  of_struct : (t : ℕ × StructDecl) → Contains (numbered 0 s.structs) t → (c : Scope × Constraint)
      → Contains (parts.in_struct_at t) c → Stands c
  of_struct t n c h =
      ⊎_elim (all_stand (in_signature (Struct t.0)) mine (of_signature (Struct t.0) t.1.params t.1.clause (ap params_of_struct at)) c)
      (λ l. of_nested (from_pieces (parts.in_nested_at t.0) (numbered 0 t.1.functions) c l))
      (Contains-append_cases (standing (in_signature (Struct t.0)) mine) (flat_map (parts.in_nested_at t.0) (numbered 0 t.1.functions)) c h)
    where
      mine : List Constraint
      mine = parts.of_signature t.1.params t.1.clause

      at : slice_get s.structs t.0 ≡ Some t.1
      at = number_of s.structs t n

      of_nested : (f : ℕ × FunctionDecl) × Contains (numbered 0 t.1.functions) f × Contains (parts.in_nested_at t.0 f) c → Stands c
      of_nested (f, m, l) =
          all_stand (in_signature (Nested t.0 f.0)) (parts.of_signature f.1.params f.1.clause)
          (of_signature (Nested t.0 f.0) f.1.params f.1.clause
          (ap (λ o. params_of_function (slice_get (functions_of o) f.0)) at ∙ ap params_of_function (number_of t.1.functions f m))) c l

  of_function : (f : ℕ × FunctionDecl) → Contains (numbered 0 s.functions) f → (c : Scope × Constraint)
      → Contains (parts.in_function_at f) c → Stands c
  of_function f n =
      all_stand (in_signature (Function f.0)) (parts.of_signature f.1.params f.1.clause)
      (of_signature (Function f.0) f.1.params f.1.clause (ap params_of_function (number_of s.functions f n)))

  -- ---- all constraints

  pub stands_in : (scope : Scope) (k : Constraint) → Contains (constraints s) (scope, k) → StandsIn scope k
  stands_in scope k h =
      ⊎_elim
      (λ l. let (p, n, m) = from_pieces parts.in_protocol_at (numbered 0 s.protocols) c l in
      all_stand (in_protocol p.0) (parts.of_protocol p.1)
      (of_protocol p.0 p.1 (get_contains s.protocols p.0 p.1 (number_of s.protocols p n))) c m)
      (λ l. ⊎_elim (λ m. let (t, n, o) = from_pieces parts.in_struct_at (numbered 0 s.structs) c m in of_struct t n c o)
      (λ m. let (f, n, o) = from_pieces parts.in_function_at (numbered 0 s.functions) c m in of_function f n c o)
      (Contains-append_cases structs functions c l))
      (Contains-append_cases (flat_map parts.in_protocol_at (numbered 0 s.protocols)) (structs ++ functions) c h)
    where
      c : Scope × Constraint
      c = (scope, k)

      structs : List (Scope × Constraint)
      structs = flat_map parts.in_struct_at (numbered 0 s.structs)

      functions : List (Scope × Constraint)
      functions = flat_map parts.in_function_at (numbered 0 s.functions)

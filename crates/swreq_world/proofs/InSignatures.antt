-- What is written in a signature, where its names resolve.
use Rattle.std.proofs.Common.{◌≡◌, ℕ, ◌+◌, ◌≤◌, Bool, true, List, [], ◌∷◌, ◌++◌, Option, Some, None, length, get_or, map, slice_get, refl, subst, sym, ap, ◌∙◌, arith}
use Rattle.std.proofs.lemmas.List.Elements.{All-nil, All-append, All-weaker, All-map}
use Rattle.std.specs.List.{All, flat_map}
use Rattle.swreq_lexicon.specs.swreq_decl.declared.skeleton.FunctionDecl.{FunctionDecl}
use Rattle.swreq_lexicon.specs.swreq_decl.declared.skeleton.ParamDecl.{ParamDecl}
use Rattle.swreq_lexicon.specs.swreq_decl.declared.skeleton.ReqDecl.{ReqDecl}
use Rattle.swreq_lexicon.specs.swreq_decl.declared.skeleton.Span.{Span}
use Rattle.swreq_lexicon.specs.swreq_decl.declared.skeleton.StructDecl.{StructDecl}
use Rattle.swreq_lexicon.specs.swreq_derive.Derivation.{TermRequirement}
use Rattle.swreq_lexicon.specs.swreq_derive.Derivation.TermRequirement.{Conforms, IsAnyObject, Equals}
use Rattle.swreq_resolve.specs.declared.refusal.Refusal.{Refusal}
use Rattle.swreq_lexicon.specs.swreq_names.declared.signature.Param.TheVariants.{Own}
use Rattle.swreq_lexicon.specs.swreq_names.declared.signature.Signature.{Signature}
use Rattle.swreq_lexicon.specs.swreq_names.declared.signature.Signature.TheVariants.{Struct, Function, Nested}
use Rattle.swreq_lexicon.specs.swreq_names.Walk as names
use Rattle.swreq_resolve.specs.Refusals.{begins_in_signature, duplicates, of_param, of_requirement, of_signature, by_place}
use Rattle.swreq_resolve.specs.Refusals as refusals
use Rattle.swreq_lexicon.specs.swreq_names.Spaces.{Spaces, spaces, word, declaration, of_params, param_of}
use Rattle.swreq_lexicon.specs.swreq_names.Spaces as declarations
use Rattle.swreq_param.specs.declared.ids.ParamId.{ParamId}
use Rattle.swreq_param.specs.Terms.{head}
use Rattle.swreq_param.specs.Terms.Term.{Generic}
use Rattle.swreq_lexicon.specs.swreq_rank.Ranks.{Bytes}
use Rattle.swreq_lowering.specs.declared.context.Context.TheVariants as contexts
use Rattle.swreq_lowering.specs.Heads.{IsOver}
use Rattle.swreq_lowering.specs.Requirements.{PlacedRequirement, in_signature, in_struct, in_nested}
use Rattle.swreq_lowering.specs.Walk.{in_clause, in_param, in_params}
use Rattle.swreq_lowering.proofs.Walked.{signature_walked}
use Rattle.swreq_lowering.specs.Signatures.{params_of_struct, params_of_function, functions_of, outer_param_decls, own_param_decls, own_depth, params_of}
use Rattle.swreq_lowering.specs.Types.{param_id, signature_head}
use Rattle.swreq_lowering.specs.Words.{WordsView, declared}
use Rattle.swreq_world.specs.Closed.{IsTermOf, IsParamOf, IsOfSignature, HasOwn}
use Rattle.swreq_world.specs.Text.{of_struct, of_function, of_nested, of_nested_in, list_of, signature_in}
use Rattle.swreq_world.proofs.Everywhere.{all_left, all_right, all_at, each_piece, placed_piece}
use Rattle.swreq_world.proofs.GenericParams.{own_is, of_struct_too, named_is}
use Rattle.swreq_world.proofs.Resolving.{Never, IsRanked, AreResolved, Resolved}
use Rattle.swreq_world.proofs.Constraints.{parts, bounds_are, clause_is}

over_more : (P Q : ParamId → Type 0) → ((g : ParamId) → P g → Q g) → (r : TermRequirement) → IsOver P r → IsOver Q r
over_more P Q f (Conforms t p) h = f (head t) h
over_more P Q f (IsAnyObject t) h = f (head t) h
over_more P Q f (Equals t u) h = (f (head t) h.0, f (head u) h.1)

module _ (w : WordsView) (inherits : ℕ → ℕ → Bool) (are : AreResolved w inherits) (same : declared w ≡ spaces w.text w.skeleton) where
  -- The requirement is of the world, and over the generic parameters of the signature.
  abbrev IsWithin : Signature → PlacedRequirement → Type 0
  IsWithin g = IsOfSignature w.lexicon (params_of w.skeleton g)

  module _ (g : Signature) where
    abbrev pub begins : Bytes → Bool
    begins = begins_in_signature (declared w) g

    abbrev pub IsParam : ParamId → Type 0
    IsParam = IsParamOf (params_of w.skeleton g)

    pub starts : (s : Span) → begins (word w.text s) ≡ true
        → IsTermOf w.lexicon (signature_head w g s) × IsParam (head (signature_head w g s))
    starts s e = (tt, named_is w same g (word w.text s) e)

    params_are : (k : ℕ) (ps : List ParamDecl) → k + length ps ≤ length (own_param_decls w.skeleton g)
        → Resolved w (flat_map (of_param w.text (declared w) begins) ps) (flat_map (names.in_param w.text) ps)
        → All (IsWithin g) (in_params w g k ps)
    params_are k [] l h = All-nil (IsWithin g)
    params_are k (p ∷ ps) l h =
        let of_rest = flat_map (of_param w.text (declared w) begins) ps in
        let in_rest = flat_map (names.in_param w.text) ps in
        let own = own_is (outer_param_decls w.skeleton g) (own_param_decls w.skeleton g) k (omega arith) in
        let q = parts w (of_param w.text (declared w) begins p) of_rest (names.in_param w.text p) in_rest h in
        All-append (IsWithin g) (in_param w g k p) (in_params w g (k + 1) ps)
        (bounds_are w are.refers (contexts.Signature g) begins IsParam starts
        (Generic (param_id (own_depth w.skeleton g) (Own k))) p.name.start p.bounds (tt, own) q.0)
        (params_are (k + 1) ps (omega arith) q.1)

    signature_is : (ps : List ParamDecl) (clause : List ReqDecl) → ps ≡ own_param_decls w.skeleton g
        → All Never (of_signature w.text (declared w) g ps clause)
        → All (IsRanked w) (flat_map (names.in_param w.text) ps) → All (IsRanked w) (names.in_clause w.text clause)
        → All (IsWithin g) (in_signature w g ps clause)
    signature_is ps clause e h n m =
        let own = declarations.own_params (declared w) g in
        let outer = declarations.outer_params (declared w) g in
        let of_each = flat_map (of_param w.text (declared w) begins) ps in
        let of_clause = flat_map (of_requirement w.text (declared w) begins) clause in
        let parts = all_right Never (duplicates outer own) (of_each ++ of_clause)
        (all_right Never (duplicates own own) (duplicates outer own ++ (of_each ++ of_clause)) h) in
        let l = ap length e in
        subst (All (IsWithin g)) (sym (signature_walked w g ps clause))
        (All-append (IsWithin g) (in_params w g 0 ps) (in_clause w (contexts.Signature g) clause)
        (params_are 0 ps (omega arith) (all_left Never of_each of_clause parts, n))
        (clause_is w are.refers (contexts.Signature g) begins IsParam starts clause (all_right Never of_each of_clause parts, m)))

  -- ---- the signatures of the text

  module _ (i : ℕ) (t : StructDecl) (e : slice_get w.skeleton.structs i ≡ Some t) where
    abbrev of_itself : List Refusal
    of_itself = of_signature w.text (declared w) (Struct i) t.params t.clause

    abbrev of_names : List Refusal
    of_names = duplicates (get_or (declared w).nested i []) (get_or (declared w).nested i [])

    abbrev of_its_functions : List Refusal
    of_its_functions = by_place (refusals.of_nested w.text (declared w) i) 0 t.functions

    abbrev in_its_params : List Bytes
    in_its_params = flat_map (names.in_param w.text) t.params

    abbrev in_its_functions : List Bytes
    in_its_functions = flat_map (names.in_function w.text) t.functions

    in_struct_is : All (IsWithin (Struct i)) (in_struct w i t)
    in_struct_is =
        let h = are.struct_at i t e in
        let later = all_right (IsRanked w) in_its_params (names.in_clause w.text t.clause ++ in_its_functions) h.1 in
        signature_is (Struct i) t.params t.clause (sym (ap params_of_struct e))
        (all_left Never of_itself (of_names ++ of_its_functions) h.0)
        (all_left (IsRanked w) in_its_params (names.in_clause w.text t.clause ++ in_its_functions) h.1)
        (all_left (IsRanked w) (names.in_clause w.text t.clause) in_its_functions later)

    in_nested_is : (j : ℕ) (f : FunctionDecl) → slice_get t.functions j ≡ Some f → All (IsWithin (Nested i j)) (in_nested w i t j f)
    in_nested_is j f n =
        let h = are.struct_at i t e in
        let zero_first : 0 + j ≡ j = omega arith in
        let none = placed_piece Never (refusals.of_nested w.text (declared w) i) 0 t.functions j j f zero_first n
        (all_right Never of_names of_its_functions (all_right Never of_itself (of_names ++ of_its_functions) h.0)) in
        let later = all_right (IsRanked w) in_its_params (names.in_clause w.text t.clause ++ in_its_functions) h.1 in
        let ranked = all_at (λ k. All (IsRanked w) (names.in_function w.text k)) t.functions j f
        (each_piece (IsRanked w) (names.in_function w.text) t.functions
        (all_right (IsRanked w) (names.in_clause w.text t.clause) in_its_functions later)) n in
        let in_params_of_it = flat_map (names.in_param w.text) f.params in
        All-append (IsWithin (Nested i j)) (in_struct w i t) (in_signature w (Nested i j) f.params f.clause)
        (All-weaker (IsWithin (Struct i)) (IsWithin (Nested i j))
        (λ r g. (g.0, wider r.requirement g.1)) (in_struct w i t) in_struct_is)
        (signature_is (Nested i j) f.params f.clause
        (sym (ap (λ o. params_of_function (slice_get (functions_of o) j)) e ∙ ap params_of_function n)) none
        (all_left (IsRanked w) in_params_of_it (names.in_clause w.text f.clause) ranked)
        (all_right (IsRanked w) in_params_of_it (names.in_clause w.text f.clause) ranked))
      where
        wider : (r : TermRequirement) → IsOver (IsParamOf (params_of w.skeleton (Struct i))) r
            → IsOver (IsParamOf (params_of w.skeleton (Nested i j))) r
        wider =
            over_more (IsParamOf (params_of w.skeleton (Struct i))) (IsParamOf (params_of w.skeleton (Nested i j)))
            (of_struct_too (params_of_struct (slice_get w.skeleton.structs i)) (own_param_decls w.skeleton (Nested i j)))

    nested_is : (j : ℕ) (o : Option FunctionDecl) → slice_get t.functions j ≡ o → All (IsWithin (Nested i j)) (of_nested w i j t o)
    nested_is j None n = All-nil (IsWithin (Nested i j))
    nested_is j (Some f) n = in_nested_is j f n

  struct_is : (i : ℕ) (o : Option StructDecl) → slice_get w.skeleton.structs i ≡ o → All (IsWithin (Struct i)) (of_struct w i o)
  struct_is i None e = All-nil (IsWithin (Struct i))
  struct_is i (Some t) e = in_struct_is i t e

  function_is : (i : ℕ) (o : Option FunctionDecl) → slice_get w.skeleton.functions i ≡ o → All (IsWithin (Function i)) (of_function w i o)
  function_is i None e = All-nil (IsWithin (Function i))
  function_is i (Some f) e =
      let h = are.function_at i f e in
      let in_its_params = flat_map (names.in_param w.text) f.params in
      signature_is (Function i) f.params f.clause (sym (ap params_of_function e)) h.0
      (all_left (IsRanked w) in_its_params (names.in_clause w.text f.clause) h.1)
      (all_right (IsRanked w) in_its_params (names.in_clause w.text f.clause) h.1)

  function_of_struct_is : (i j : ℕ) (o : Option StructDecl) → slice_get w.skeleton.structs i ≡ o
      → All (IsWithin (Nested i j)) (of_nested_in w i j o)
  function_of_struct_is i j None e = All-nil (IsWithin (Nested i j))
  function_of_struct_is i j (Some t) e = nested_is i t e j (slice_get t.functions j) refl

  list_is : (g : Signature) → All (IsWithin g) (list_of w g)
  list_is (Struct i) = struct_is i (slice_get w.skeleton.structs i) refl
  list_is (Function i) = function_is i (slice_get w.skeleton.functions i) refl
  list_is (Nested i j) = function_of_struct_is i j (slice_get w.skeleton.structs i) refl

  pub signatures_are : (order gs : List Signature) → All (HasOwn w.lexicon) (map (signature_in w order) gs)
  signatures_are order gs = All-map (HasOwn w.lexicon) (signature_in w order) gs (λ k g l. list_is (get_or gs k g))

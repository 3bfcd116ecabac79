-- A text has no more requirements than tokens.
use Rattle.std.proofs.Common.{ℕ, ◌+◌, ◌≤◌, List, [], ◌∷◌, ◌++◌, length, get_or, map, sum_by, arith, length-append}
use Rattle.std.proofs.lemmas.List.Sums.{sum_by-append, sum_by-cons}
use Rattle.std.specs.List.{flat_map}
use Rattle.std.specs.Str.{chars}
use Rattle.swreq_lex.specs.declared.token.Token as lexed
use Rattle.swreq_lex.specs.Slices.{AreSlices}
use Rattle.swreq_lex.specs.Tokens.{HasTokens, first_offset}
use Rattle.swreq_param.specs.Terms.{Term}
use Rattle.swreq_lexicon.specs.swreq_decl.declared.skeleton.Span.{Span}
use Rattle.swreq_lexicon.specs.swreq_decl.declared.skeleton.Entity.{Entity}
use Rattle.swreq_lexicon.specs.swreq_decl.declared.skeleton.TypeDecl.{TypeDecl}
use Rattle.swreq_lexicon.specs.swreq_decl.declared.skeleton.ReqDecl.{ReqDecl}
use Rattle.swreq_lexicon.specs.swreq_decl.declared.skeleton.ReqDecl.TheVariants as requirements
use Rattle.swreq_lexicon.specs.swreq_decl.declared.skeleton.AssocDecl.{AssocDecl}
use Rattle.swreq_lexicon.specs.swreq_decl.declared.skeleton.ProtocolDecl.{ProtocolDecl}
use Rattle.swreq_lexicon.specs.swreq_decl.declared.skeleton.ParamDecl.{ParamDecl}
use Rattle.swreq_lexicon.specs.swreq_decl.declared.skeleton.FunctionDecl.{FunctionDecl}
use Rattle.swreq_lexicon.specs.swreq_decl.declared.skeleton.StructDecl.{StructDecl}
use Rattle.swreq_lexicon.specs.swreq_decl.Skeletons.{StandsFor}
use Rattle.swreq_lexicon.specs.swreq_names.declared.signature.Signature.{Signature}
use Rattle.swreq_lexicon.specs.swreq_names.declared.signature.Signature.TheVariants.{Struct, Function, Nested}
use Rattle.swreq_lexicon.specs.swreq_names.Parts as parts
use Rattle.swreq_lexicon.specs.swreq_names.Parts.{Constraint}
use Rattle.swreq_lexicon.specs.swreq_names.Parts.Constraint.{bound, same}
use Rattle.swreq_lowering.specs.declared.context.Context.{Context}
use Rattle.swreq_lowering.specs.declared.context.Context.TheVariants as contexts
use Rattle.swreq_lowering.specs.Requirements.{arguments, in_bound, of_constraint, subject_of, subject_at, in_protocol, in_signature, in_struct}
use Rattle.swreq_lowering.specs.Short.{HasFewRequirements}
use Rattle.swreq_lowering.specs.Words.{WordsView, primaries_named}
use Rattle.swreq_lowering.proofs.Shorter.{count_sum, one_sum, pieces_sum, skeleton_size, skeleton_within}
use Rattle.swreq_lowering.proofs.Sizes.{type_size, entity_size, bounds_size, requirement_size, clause_size, member_size, protocol_size, param_size, function_size, struct_size, query_size}

-- ---- constraints

abbrev constraint_size : Constraint → ℕ
constraint_size (bound subject bounds) = bounds_size bounds
constraint_size (same t u) = type_size t + type_size u

requirement_total : (r : ReqDecl) → constraint_size (parts.of_requirement r) ≤ requirement_size r
requirement_total (requirements.Bound t bounds) = omega arith
requirement_total (requirements.Same t u) = omega arith

clause_total : (rs : List ReqDecl) → sum_by constraint_size (parts.of_clause rs) ≤ clause_size rs
clause_total [] = omega arith
clause_total (r ∷ rs) =
    let i = requirement_total r in
    let j = clause_total rs in
    let k = sum_by-cons constraint_size (parts.of_requirement r) (parts.of_clause rs) in
    let l = sum_by-cons requirement_size r rs in
    omega arith

member_total : (m : AssocDecl) → sum_by constraint_size (parts.of_member m) ≤ member_size m
member_total m =
    let i = clause_total m.clause in
    let j = sum_by-cons constraint_size (bound (parts.Subject.associated m.name) m.inherits) (parts.of_clause m.clause) in
    omega arith

members_total : (ms : List AssocDecl) → sum_by constraint_size (flat_map parts.of_member ms) ≤ sum_by member_size ms
members_total [] = omega arith
members_total (m ∷ ms) =
    let i = member_total m in
    let j = members_total ms in
    let k = sum_by-append constraint_size (parts.of_member m) (flat_map parts.of_member ms) in
    let l = sum_by-cons member_size m ms in
    omega arith

protocol_total : (p : ProtocolDecl) → sum_by constraint_size (parts.of_protocol p) ≤ protocol_size p
protocol_total p =
    let clause = parts.of_clause p.clause in
    let members = flat_map parts.of_member p.members in
    let i = sum_by-cons constraint_size (bound (parts.Subject.self_of p.name) p.inherits) (clause ++ members) in
    let j = sum_by-append constraint_size clause members in
    let k = clause_total p.clause in
    let l = members_total p.members in
    omega arith

params_total : (i : ℕ) (gs : List ParamDecl) → sum_by constraint_size (map parts.of_param (parts.numbered i gs)) ≤ sum_by param_size gs
params_total i [] = omega arith
params_total i (g ∷ gs) =
    let j = params_total (i + 1) gs in
    let k = sum_by-cons constraint_size (parts.of_param (i, g)) (map parts.of_param (parts.numbered (i + 1) gs)) in
    let l = sum_by-cons param_size g gs in
    omega arith

signature_total : (params : List ParamDecl) (clause : List ReqDecl)
    → sum_by constraint_size (parts.of_signature params clause) ≤ sum_by param_size params + clause_size clause
signature_total params clause =
    let i = params_total 0 params in
    let j = clause_total clause in
    let k = sum_by-append constraint_size (map parts.of_param (parts.numbered 0 params)) (parts.of_clause clause) in
    omega arith

-- ---- requirements

module _ (w : WordsView) where
  module _ (context : Context) where
    arguments_count : (t : Term) (at : ℕ) (names : List Span) (us : List TypeDecl)
        → length (arguments w context t at names us) ≤ sum_by type_size us
    arguments_count t at [] us = omega arith
    arguments_count t at (a ∷ names) [] = omega arith
    arguments_count t at (a ∷ names) (u ∷ us) =
        let i = arguments_count t at names us in let j = sum_by-cons type_size u us in omega arith

    bound_count : (t : Term) (at : ℕ) (e : Entity) → length (in_bound w context t at e) ≤ entity_size e
    bound_count t at e = let i = arguments_count t e.span.start (primaries_named w e.span) e.args in omega arith

    constraint_count : (c : Constraint) → length (of_constraint w context c) ≤ constraint_size c
    constraint_count (bound subject bounds) =
        pieces_sum (in_bound w context (subject_of w context subject) (subject_at subject)) entity_size bounds
        (bound_count (subject_of w context subject) (subject_at subject))
    constraint_count (same t u) = omega arith

    constraints_count : (cs : List Constraint) → length (flat_map (of_constraint w context) cs) ≤ sum_by constraint_size cs
    constraints_count cs = pieces_sum (of_constraint w context) constraint_size cs constraint_count

  protocol_count : (p : ProtocolDecl) → length (in_protocol w p) ≤ protocol_size p
  protocol_count p = let i = constraints_count contexts.Protocol (parts.of_protocol p) in let j = protocol_total p in omega arith

  signature_count : (g : Signature) (params : List ParamDecl) (clause : List ReqDecl)
      → length (in_signature w g params clause) ≤ sum_by param_size params + clause_size clause
  signature_count g params clause =
      let i = constraints_count (contexts.Signature g) (parts.of_signature params clause) in
      let j = signature_total params clause in omega arith

  function_count : (g : Signature) (f : FunctionDecl) → length (in_signature w g f.params f.clause) ≤ function_size f
  function_count g f = let i = signature_count g f.params f.clause in omega arith

  struct_count : (i : ℕ) (s : StructDecl) → length (in_struct w i s) ≤ sum_by param_size s.params + clause_size s.clause
  struct_count i s = signature_count (Struct i) s.params s.clause

  few : skeleton_size w.skeleton ≤ 1048576 → HasFewRequirements w
  unfolding skeleton_size
  few h = record {
    protocols = λ k d l.
        let i = one_sum protocol_size w.skeleton.protocols k d l in let j = protocol_count (get_or w.skeleton.protocols k d) in omega arith;
    structs = λ n k d l.
        let i = one_sum struct_size w.skeleton.structs k d l in let j = struct_count n (get_or w.skeleton.structs k d) in omega arith;
    functions = λ n k d l. let i = one_sum function_size w.skeleton.functions k d l in
        let j = function_count (Function n) (get_or w.skeleton.functions k d) in omega arith;
    nested = λ n m k d l q e o.
        let s = get_or w.skeleton.structs k d in
        let f = get_or s.functions q e in
        let i = one_sum struct_size w.skeleton.structs k d l in
        let j = one_sum function_size s.functions q e o in
        let a = length-append (in_struct w n s) (in_signature w (Nested n m) f.params f.clause) in
        let b = struct_count n s in
        let c = function_count (Nested n m) f in
        omega arith;
    queries = let i = count_sum query_size w.skeleton.queries (λ q. omega arith) in omega arith;
  }

pub few_requirements : (text : List ℕ) (w : WordsView)
    → ((ts : List lexed.Token) → HasTokens text ts → AreSlices text (first_offset (chars text)) ts)
    → length text ≤ 1048576 → StandsFor text w.skeleton → HasFewRequirements w
few_requirements text w slices limit stands = few w (let i = skeleton_within text w.skeleton slices stands in omega arith)

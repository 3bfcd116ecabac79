-- The lists of a skeleton are no longer than its text.
use Rattle.std.proofs.Common.{◌≡◌, ℕ, zero, suc, ◌+◌, ◌≤◌, ◌<◌, ◌^◌, Bool, true, false, cond, List, [], ◌∷◌, ◌++◌, Option, Some, None, length, get_or, slice_get, map, drop, sum_by, refl, ap, ◌∙◌, arith, length-append, length-drop}
use Rattle.std.proofs.lemmas.List.{length-map}
use Rattle.std.proofs.lemmas.List.Concat.{length-flat_map}
use Rattle.std.proofs.lemmas.List.Sums.{sum_by-cons, sum_by-le-sum_by}
use Rattle.std.specs.List.{All, filter_map, flat_map, prefix_len}
use Rattle.std.specs.Str.{chars}
use Rattle.swreq_lex.specs.declared.token.Token as lexed
use Rattle.swreq_lex.specs.Slices.{AreSlices, last, next}
use Rattle.swreq_lex.specs.Tokens.{HasTokens, first_offset}
use Rattle.swreq_lexicon.specs.swreq_decl.declared.skeleton.Entity.{Entity}
use Rattle.swreq_lexicon.specs.swreq_decl.declared.skeleton.TypeDecl.{TypeDecl}
use Rattle.swreq_lexicon.specs.swreq_decl.declared.skeleton.ReqDecl.{ReqDecl}
use Rattle.swreq_lexicon.specs.swreq_decl.declared.skeleton.ReqDecl.TheVariants as requirements
use Rattle.swreq_lexicon.specs.swreq_decl.declared.skeleton.AssocDecl.{AssocDecl}
use Rattle.swreq_lexicon.specs.swreq_decl.declared.skeleton.ProtocolDecl.{ProtocolDecl}
use Rattle.swreq_lexicon.specs.swreq_decl.declared.skeleton.ParamDecl.{ParamDecl}
use Rattle.swreq_lexicon.specs.swreq_decl.declared.skeleton.FunctionDecl.{FunctionDecl}
use Rattle.swreq_lexicon.specs.swreq_decl.declared.skeleton.StructDecl.{StructDecl}
use Rattle.swreq_lexicon.specs.swreq_decl.declared.skeleton.Ask.{Ask}
use Rattle.swreq_lexicon.specs.swreq_decl.declared.skeleton.Ask.TheVariants as asks
use Rattle.swreq_lexicon.specs.swreq_decl.declared.skeleton.QueryDecl.{QueryDecl}
use Rattle.swreq_lexicon.specs.swreq_decl.declared.skeleton.Skeleton.{Skeleton}
use Rattle.swreq_lexicon.specs.swreq_decl.declared.skeleton.Item.{Item}
use Rattle.swreq_lexicon.specs.swreq_decl.declared.skeleton.Item.TheVariants as items
use Rattle.swreq_lexicon.specs.swreq_decl.Terminals.{with_terminals}
use Rattle.swreq_lexicon.specs.swreq_decl.Signatures.{stands_before}
use Rattle.swreq_lexicon.specs.swreq_decl.Skeletons.{StandsFor, skeleton_of, protocol_of, struct_of, function_of, query_of}
use Rattle.swreq_lexicon.specs.swreq_names.declared.directory.Declaration.{Declaration}
use Rattle.swreq_lexicon.specs.swreq_names.declared.signature.Signature.{Signature}
use Rattle.swreq_lexicon.specs.swreq_names.declared.signature.Signature.TheVariants.{Struct, Function, Nested}
use Rattle.swreq_lexicon.specs.swreq_names.Walk as names
use Rattle.swreq_lexicon.proofs.swreq_names.Walked.{same_names}
use Rattle.swreq_lexicon.specs.swreq_names.Spaces.{spaces, declaration, declarations, of_params, outer_params as declared_outer, own_params as declared_own}
use Rattle.swreq_lexicon.specs.swreq_rank.Ranks.{bytes_cmp}
use Rattle.swreq_lexicon.specs.Texts.{IsSmall}
use Rattle.swreq_lexicon.proofs.swreq_rank.Names.{few_names}
use Rattle.swreq_lexicon.proofs.swreq_rank.Rising.{rising_from_sorted}
use Rattle.swreq_lowering.specs.Short.{HasShortLists}
use Rattle.swreq_lowering.specs.Signatures.{params_of_struct, params_of_function, functions_of, outer_param_decls, own_param_decls, nested_from, functions_from, with_nested, merged_from, in_order}
use Rattle.swreq_lowering.proofs.Sizes.{type_size, entity_size, bounds_size, requirement_size, clause_size, member_size, protocol_size, param_size, function_size, struct_size, ask_size, query_size, item_size, parts_bound}

-- ---- sums

module _ {A : Type 0} where
  pub count_sum : (f : A → ℕ) (xs : List A) → ((x : A) → 1 ≤ f x) → length xs ≤ sum_by f xs
  count_sum f [] h = omega arith
  count_sum f (x ∷ xs) h = let i = h x in let j = count_sum f xs h in let k = sum_by-cons f x xs in omega arith

  pub one_sum : (f : A → ℕ) (xs : List A) (k : ℕ) (d : A) → k < length xs → f (get_or xs k d) ≤ sum_by f xs
  one_sum f [] k d h = absurd (omega arith)
  one_sum f (x ∷ xs) zero d h = let k = sum_by-cons f x xs in omega arith
  one_sum f (x ∷ xs) (suc k) d h = let i = one_sum f xs k d (omega arith) in let j = sum_by-cons f x xs in omega arith

  pub pieces_sum : {B : Type 0} (f : A → List B) (size : A → ℕ) (xs : List A) → ((x : A) → length (f x) ≤ size x)
      → length (flat_map f xs) ≤ sum_by size xs
  pieces_sum f size xs h = let e = length-flat_map f xs in let k = sum_by-le-sum_by (λ x. length (f x)) size xs h in omega arith

-- ---- the parts of a text

unfoldable pub skeleton_size : Skeleton → ℕ
skeleton_size s =
    sum_by protocol_size s.protocols + (sum_by struct_size s.structs + (sum_by function_size s.functions + sum_by query_size s.queries))

size_of_parts : (parts : List Item) → skeleton_size (skeleton_of parts) ≡ sum_by item_size parts
unfolding skeleton_size
size_of_parts [] = refl
size_of_parts (items.Protocol p ∷ vs) =
    let i = size_of_parts vs in let j = sum_by-cons item_size (items.Protocol p) vs in
    let k = sum_by-cons protocol_size p (filter_map protocol_of vs) in omega arith
size_of_parts (items.Struct s ∷ vs) =
    let i = size_of_parts vs in let j = sum_by-cons item_size (items.Struct s) vs in
    let k = sum_by-cons struct_size s (filter_map struct_of vs) in omega arith
size_of_parts (items.Function f ∷ vs) =
    let i = size_of_parts vs in let j = sum_by-cons item_size (items.Function f) vs in
    let k = sum_by-cons function_size f (filter_map function_of vs) in omega arith
size_of_parts (items.Query q ∷ vs) =
    let i = size_of_parts vs in let j = sum_by-cons item_size (items.Query q) vs in
    let k = sum_by-cons query_size q (filter_map query_of vs) in omega arith

tokens_within : (text : List ℕ) (from : ℕ) (ts : List lexed.Token) → AreSlices text from ts → from + length ts ≤ length text
tokens_within text from [] (last h b) = omega arith
tokens_within text from (t ∷ ts) (next a b c d e s) = let i = tokens_within text t.end ts s in omega arith

length_terminals : (text : List ℕ) (ts : List lexed.Token) → length (with_terminals text ts) ≡ length ts
length_terminals text [] = refl
length_terminals text (t ∷ ts) = ap suc (length_terminals text ts)

pub skeleton_within : (text : List ℕ) (s : Skeleton) → ((ts : List lexed.Token) → HasTokens text ts
    → AreSlices text (first_offset (chars text)) ts) → StandsFor text s → skeleton_size s ≤ length text
skeleton_within text s slices (found, tokens, (parts, m, e)) =
    let i = tokens_within text (first_offset (chars text)) found (slices found tokens) in
    let j = parts_bound (with_terminals text found) parts m in
    let k = length_terminals text found in
    let l = ap skeleton_size e ∙ size_of_parts parts in
    omega arith

-- ---- names

module _ (text : List ℕ) where
  type_names : (t : TypeDecl) → length (names.in_type text t) ≤ type_size t
  type_names t = let i = pieces_sum (names.in_step text) (λ s. 1) t.steps (λ s. omega arith) in omega arith

  entity_names : (e : Entity) → length (names.in_entity text e) ≤ entity_size e
  entity_names e = let i = pieces_sum (names.in_type text) type_size e.args type_names in omega arith

  bounds_names : (es : List Entity) → length (names.in_bounds text es) ≤ bounds_size es
  bounds_names es = pieces_sum (names.in_entity text) entity_size es entity_names

  requirement_names : (r : ReqDecl) → length (names.in_requirement text r) ≤ requirement_size r
  requirement_names (requirements.Bound t bounds) = let i = length-append (names.in_type text t) (names.in_bounds text bounds) in
      let j = type_names t in let k = bounds_names bounds in omega arith
  requirement_names (requirements.Same t u) =
      let i = length-append (names.in_type text t) (names.in_type text u) in let j = type_names t in let k = type_names u in omega arith

  clause_names : (rs : List ReqDecl) → length (names.in_clause text rs) ≤ clause_size rs
  clause_names rs = pieces_sum (names.in_requirement text) requirement_size rs requirement_names

  member_names : (m : AssocDecl) → length (names.in_member text m) ≤ member_size m
  member_names m =
      let i = length-append (names.in_bounds text m.inherits) (names.in_clause text m.clause) in
      let j = bounds_names m.inherits in let k = clause_names m.clause in omega arith

  protocol_names : (p : ProtocolDecl) → length (names.in_protocol text p) ≤ protocol_size p
  protocol_names p =
      let i =
      length-append (names.in_bounds text p.inherits) (names.in_clause text p.clause ++ flat_map (names.in_member text) p.members) in
      let j = length-append (names.in_clause text p.clause) (flat_map (names.in_member text) p.members) in
      let k = bounds_names p.inherits in let l = clause_names p.clause in
      let m = pieces_sum (names.in_member text) member_size p.members member_names in omega arith

  param_names : (g : ParamDecl) → length (names.in_param text g) ≤ param_size g
  param_names g = let i = bounds_names g.bounds in omega arith

  function_names : (f : FunctionDecl) → length (names.in_function text f) ≤ function_size f
  function_names f =
      let i = length-append (flat_map (names.in_param text) f.params) (names.in_clause text f.clause) in
      let j = pieces_sum (names.in_param text) param_size f.params param_names in
      let k = clause_names f.clause in omega arith

  struct_names : (s : StructDecl) → length (names.in_struct text s) ≤ struct_size s
  struct_names s =
      let i = length-append (flat_map (names.in_param text) s.params)
      (names.in_clause text s.clause ++ flat_map (names.in_function text) s.functions) in
      let j = length-append (names.in_clause text s.clause) (flat_map (names.in_function text) s.functions) in
      let k = pieces_sum (names.in_param text) param_size s.params param_names in
      let l = clause_names s.clause in
      let m = pieces_sum (names.in_function text) function_size s.functions function_names in omega arith

  ask_names : (a : Ask) → length (names.in_ask text a) ≤ ask_size a
  ask_names asks.Signature = omega arith
  ask_names (asks.Reduced t) = type_names t
  ask_names (asks.Is t bound) = let i = length-append (names.in_type text t) (names.in_entity text bound) in let j = type_names t in
      let k = entity_names bound in omega arith
  ask_names (asks.Same t u) =
      let i = length-append (names.in_type text t) (names.in_type text u) in let j = type_names t in let k = type_names u in omega arith

  query_names : (q : QueryDecl) → length (names.in_query text q) ≤ query_size q
  query_names q = let i = ask_names q.ask in omega arith

  all_names : (s : Skeleton) → length (names.walked text s) ≤ skeleton_size s
  unfolding skeleton_size
  all_names s =
      let ps = flat_map (names.in_protocol text) s.protocols in
      let ts = flat_map (names.in_struct text) s.structs in
      let fs = flat_map (names.in_function text) s.functions in
      let qs = flat_map (names.in_query text) s.queries in
      let i = length-append ps (ts ++ (fs ++ qs)) in let j = length-append ts (fs ++ qs) in let k = length-append fs qs in
      let l = pieces_sum (names.in_protocol text) protocol_size s.protocols protocol_names in
      let m = pieces_sum (names.in_struct text) struct_size s.structs struct_names in
      let n = pieces_sum (names.in_function text) function_size s.functions function_names in
      let o = pieces_sum (names.in_query text) query_size s.queries query_names in
      omega arith

-- ---- generic parameters

module _ {A B : Type 0} (measure : B → ℕ) (size : A → ℕ) where
  -- what stands at a place counts no more than all
  mapped_sum : (f : A → B) (xs : List A) (i : ℕ) (none : B) → measure none ≡ 0 → ((x : A) → measure (f x) ≤ size x)
      → measure (get_or (map f xs) i none) ≤ sum_by size xs
  mapped_sum f [] i none z h = omega arith
  mapped_sum f (x ∷ xs) zero none z h = let j = h x in let k = sum_by-cons size x xs in omega arith
  mapped_sum f (x ∷ xs) (suc i) none z h = let j = mapped_sum f xs i none z h in let k = sum_by-cons size x xs in omega arith

  found_sum : (f : Option A → B) (xs : List A) (i : ℕ) → measure (f None) ≡ 0 → ((x : A) → measure (f (Some x)) ≤ size x)
      → measure (f (slice_get xs i)) ≤ sum_by size xs
  found_sum f [] i z h = omega arith
  found_sum f (x ∷ xs) zero z h = let j = h x in let k = sum_by-cons size x xs in omega arith
  found_sum f (x ∷ xs) (suc i) z h = let j = found_sum f xs i z h in let k = sum_by-cons size x xs in omega arith

pub nested_count : (i j n : ℕ) → length (nested_from i j n) ≡ n
nested_count i j zero = refl
nested_count i j (suc n) = ap suc (nested_count i (j + 1) n)

params_count : (ps : List ParamDecl) → length ps ≤ sum_by param_size ps
params_count ps = count_sum param_size ps (λ p. omega arith)

struct_count : (s : StructDecl) → length s.params ≤ struct_size s
struct_count s = let i = params_count s.params in omega arith

function_count : (f : FunctionDecl) → length f.params ≤ function_size f
function_count f = let i = params_count f.params in omega arith

declared_count : (text : List ℕ) (ps : List ParamDecl) → length (of_params text ps) ≡ length ps
declared_count text ps = length-map (map (λ g. g.name) ps) (declaration text) ∙ length-map ps (λ (g : ParamDecl). g.name)

module _ (text : List ℕ) (s : Skeleton) where
  struct_declared : (i : ℕ) → length (get_or (spaces text s).struct_params i []) ≤ sum_by struct_size s.structs
  struct_declared i = mapped_sum length struct_size (λ t. of_params text t.params) s.structs i [] refl
      (λ t. let j = declared_count text t.params in let k = struct_count t in omega arith)

  function_declared : (i : ℕ) → length (get_or (spaces text s).params i []) ≤ sum_by function_size s.functions
  function_declared i = mapped_sum length function_size (λ f. of_params text f.params) s.functions i [] refl
      (λ f. let j = declared_count text f.params in let k = function_count f in omega arith)

  within_struct : (j : ℕ) (t : StructDecl) → length (get_or (map (λ f. of_params text f.params) t.functions) j []) ≤ struct_size t
  within_struct j t =
      let i = mapped_sum length function_size (λ f. of_params text f.params) t.functions j [] refl
      (λ f. let k = declared_count text f.params in let l = function_count f in omega arith) in
      omega arith

  nested_declared : (i j : ℕ) → length (get_or (get_or (spaces text s).nested_params i []) j []) ≤ sum_by struct_size s.structs
  nested_declared i j = mapped_sum (λ (l : List (List Declaration)). length (get_or l j [])) struct_size
      (λ t. map (λ f. of_params text f.params) t.functions) s.structs i [] refl (within_struct j)

  few_outer : skeleton_size s ≤ 1048576 → (g : Signature) → length (declared_outer (spaces text s) g) < 2 ^ 32
  unfolding skeleton_size
  few_outer h (Struct i) = omega arith
  few_outer h (Function i) = omega arith
  few_outer h (Nested i j) = let k = struct_declared i in omega arith

  few_own : skeleton_size s ≤ 1048576 → (g : Signature) → length (declared_own (spaces text s) g) < 2 ^ 32
  unfolding skeleton_size
  few_own h (Struct i) = let k = struct_declared i in omega arith
  few_own h (Function i) = let k = function_declared i in omega arith
  few_own h (Nested i j) = let k = nested_declared i j in omega arith

  short_nested_names : skeleton_size s ≤ 1048576 → (i : ℕ) → length (get_or (spaces text s).nested i []) ≤ 1048576
  unfolding skeleton_size
  short_nested_names h i =
      let j = mapped_sum length struct_size (λ t. declarations text (map (λ f. f.name) t.functions)) s.structs i [] refl nested_names in
      omega arith
    where
      nested_names : (t : StructDecl) → length (declarations text (map (λ f. f.name) t.functions)) ≤ struct_size t
      nested_names t =
          let k = length-map (map (λ (f : FunctionDecl). f.name) t.functions) (declaration text) in
          let l = length-map t.functions (λ (f : FunctionDecl). f.name) in
          let m = count_sum function_size t.functions (λ f. omega arith) in omega arith

  -- ---- of the skeleton itself

  struct_at : (i : ℕ) → length (params_of_struct (slice_get s.structs i)) ≤ sum_by struct_size s.structs
  struct_at i = found_sum length struct_size params_of_struct s.structs i refl struct_count

  nested_within : (j : ℕ) (t : StructDecl) → length (params_of_function (slice_get t.functions j)) ≤ struct_size t
  nested_within j t = let i = found_sum length function_size params_of_function t.functions j refl function_count in omega arith

  short_outer : skeleton_size s ≤ 1048576 → (g : Signature) → length (outer_param_decls s g) ≤ 1048576
  unfolding skeleton_size
  short_outer h (Struct i) = omega arith
  short_outer h (Function i) = omega arith
  short_outer h (Nested i j) = let k = struct_at i in omega arith

  short_own : skeleton_size s ≤ 1048576 → (g : Signature) → length (own_param_decls s g) ≤ 1048576
  unfolding skeleton_size
  short_own h (Struct i) = let k = struct_at i in omega arith
  short_own h (Function i) = let k = found_sum length function_size params_of_function s.functions i refl function_count in omega arith
  short_own h (Nested i j) =
      let k = found_sum (λ (fs : List FunctionDecl). length (params_of_function (slice_get fs j))) struct_size functions_of s.structs i refl
      (nested_within j) in omega arith

  -- ---- signatures

  from_count : (k n : ℕ) → length (functions_from k n) ≡ n
  from_count k zero = refl
  from_count k (suc n) = ap suc (from_count (k + 1) n)

  front_count : {A : Type 0} (p : A → Bool) (xs : List A) → prefix_len p xs ≤ length xs
  front_count p [] = omega arith
  front_count p (x ∷ xs) = by (p x) (front_count p xs)
    where
      by : (b : Bool) → prefix_len p xs ≤ length xs → cond b (1 + prefix_len p xs) 0 ≤ suc (length xs)
      by true h = omega arith
      by false h = omega arith

  functions_count : (t : StructDecl) → 1 + length t.functions ≤ struct_size t
  functions_count t = let i = count_sum function_size t.functions (λ f. omega arith) in omega arith

  merged_count : (i : ℕ) (ts : List StructDecl) (k : ℕ) (fs : List FunctionDecl)
      → length (merged_from i ts k fs) ≤ sum_by struct_size ts + length fs
  merged_count i [] k fs = let j = from_count k (length fs) in omega arith
  merged_count i (t ∷ ts) k fs =
      let n = prefix_len (stands_before t) fs in
      let rest = drop n fs in
      let a = length-append (functions_from k n) (with_nested i t ++ merged_from (i + 1) ts (k + n) rest) in
      let b = length-append (with_nested i t) (merged_from (i + 1) ts (k + n) rest) in
      let c = from_count k n in
      let d = nested_count i 0 (length t.functions) in
      let e = merged_count (i + 1) ts (k + n) rest in
      let f = length-drop n fs in
      let g = front_count (stands_before t) fs in
      let h = functions_count t in
      let l = sum_by-cons struct_size t ts in
      omega arith

  short_order : skeleton_size s ≤ 1048576 → length (in_order s) ≤ 1048576
  unfolding skeleton_size
  short_order h =
      let i = merged_count 0 s.structs 0 s.functions in let j = count_sum function_size s.functions (λ f. omega arith) in omega arith

  short_structs : skeleton_size s ≤ 1048576 → All (λ t. length t.params ≤ 1048576) s.structs
  unfolding skeleton_size
  short_structs h k d l = let i = one_sum struct_size s.structs k d l in let j = struct_count (get_or s.structs k d) in omega arith

  short_functions : skeleton_size s ≤ 1048576 → All (λ f. length f.params ≤ 1048576) s.functions
  unfolding skeleton_size
  short_functions h k d l =
      let i = one_sum function_size s.functions k d l in let j = function_count (get_or s.functions k d) in omega arith

  short_nested : skeleton_size s ≤ 1048576 → All (λ t. All (λ f. length f.params ≤ 1048576) t.functions) s.structs
  unfolding skeleton_size
  short_nested h k d l m e n =
      let t = get_or s.structs k d in
      let i = one_sum struct_size s.structs k d l in
      let j = one_sum function_size t.functions m e n in
      let o = function_count (get_or t.functions m e) in omega arith

  small : skeleton_size s ≤ 1048576 → IsSmall text s
  unfolding skeleton_size
  small h = record {
    protocols = let i = count_sum protocol_size s.protocols (λ p. omega arith) in omega arith;
    associated = let i = pieces_sum (λ (p : ProtocolDecl). p.members) protocol_size s.protocols
        (λ p. let j = count_sum member_size p.members (λ m. omega arith) in omega arith) in omega arith;
    names = λ ranking are.
        let i = all_names text s in
        let j = few_names ranking (names.walked text s) (rising_from_sorted bytes_cmp ranking are.sorted)
        (λ q h. (same_names text s q).1 ((are.same q).0 h)) in
        omega arith;
  }

  pub short_lists : ((ts : List lexed.Token) → HasTokens text ts → AreSlices text (first_offset (chars text)) ts) → length text ≤ 1048576
      → StandsFor text s → HasShortLists text s
  short_lists slices limit stands =
      let h : skeleton_size s ≤ 1048576 = let i = skeleton_within text s slices stands in omega arith in
      record {
        lexicon = small h;
        declared = record { outer = few_outer h; own = few_own h };
        functions_of = short_nested_names h;
        signatures = short_order h;
        outer = short_outer h;
        own = short_own h;
        structs = short_structs h;
        functions = short_functions h;
        nested = short_nested h;
      }

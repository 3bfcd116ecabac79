-- The lists of a world are as short as those of its text.
use Rattle.std.proofs.Common.{◌≡◌, ℕ, zero, suc, ◌≤◌, ◌<◌, ◌^◌, List, [], ◌∷◌, Option, None, Some, length, get_or, map, slice_get, refl, ap, sym, subst, ◌∙◌, arith}
use Rattle.std.specs.Prelude.{All}
use Rattle.std.proofs.lemmas.List.{length-map}
use Rattle.std.proofs.lemmas.List.Elements.{All-map, All-contains}
use Rattle.swreq_param.proofs.swreq_lemmas.Elements.{get_contains}
use Rattle.swreq_param.specs.Terms.{Term}
use Rattle.swreq_lexicon.specs.swreq_decl.declared.skeleton.ProtocolDecl.{ProtocolDecl}
use Rattle.swreq_lexicon.specs.swreq_decl.declared.skeleton.FunctionDecl.{FunctionDecl}
use Rattle.swreq_lexicon.specs.swreq_decl.declared.skeleton.StructDecl.{StructDecl}
use Rattle.swreq_lexicon.specs.swreq_decl.declared.skeleton.Skeleton.{Skeleton}
use Rattle.swreq_lexicon.specs.swreq_names.declared.signature.Signature.{Signature}
use Rattle.swreq_lexicon.specs.swreq_names.declared.signature.Signature.TheVariants.{Struct, Function, Nested}
use Rattle.swreq_lexicon.specs.swreq_names.Spaces.{protocol_of}
use Rattle.swreq_lowering.specs.declared.ids.Written.{Written}
use Rattle.swreq_lowering.specs.ByTable.{placed, placed_by, query_by}
use Rattle.swreq_lowering.specs.Queries.{query_of}
use Rattle.swreq_lowering.specs.Requirements.{PlacedRequirement, in_protocol, in_struct, in_function, in_nested}
use Rattle.swreq_lowering.specs.Short.{HasFewRequirements, HasShortLists}
use Rattle.swreq_lowering.specs.Signatures.{in_order}
use Rattle.swreq_lowering.specs.Words.{WordsView, declared}
use Rattle.swreq_world.specs.ByTable.{signature_by, world_by}
use Rattle.swreq_world.specs.Short.{IsShort}
use Rattle.swreq_world.specs.Text.{list_of, of_function, of_nested, of_nested_in, of_place, of_protocol, of_struct, requirements_named, signature_in}
use Rattle.swreq_world.specs.WorldOf.{IsWorldOf, words_of}
use Rattle.swreq_world.specs.Worlds.{IdWorld, SignatureOver, TextWorld}

-- ---- what stands at a place

module _ (w : WordsView) (few : HasFewRequirements w) where
  protocol_at : (i : ℕ) (o : Option ProtocolDecl) → slice_get w.skeleton.protocols i ≡ o → length (of_protocol w o) ≤ 1048576
  protocol_at i None e = omega arith
  protocol_at i (Some p) e =
      All-contains (λ (q : ProtocolDecl). length (in_protocol w q) ≤ 1048576) w.skeleton.protocols p few.protocols
      (get_contains w.skeleton.protocols i p e)

  at_place : (o : Option ℕ) → length (of_place w o) ≤ 1048576
  at_place None = omega arith
  at_place (Some i) = protocol_at i (slice_get w.skeleton.protocols i) refl

  struct_at : (i : ℕ) (o : Option StructDecl) → slice_get w.skeleton.structs i ≡ o → length (of_struct w i o) ≤ 1048576
  struct_at i None e = omega arith
  struct_at i (Some s) e =
      All-contains (λ (t : StructDecl). length (in_struct w i t) ≤ 1048576) w.skeleton.structs s (few.structs i)
      (get_contains w.skeleton.structs i s e)

  function_at : (i : ℕ) (o : Option FunctionDecl) → slice_get w.skeleton.functions i ≡ o → length (of_function w i o) ≤ 1048576
  function_at i None e = omega arith
  function_at i (Some f) e =
      All-contains (λ (g : FunctionDecl). length (in_function w i g) ≤ 1048576) w.skeleton.functions f (few.functions i)
      (get_contains w.skeleton.functions i f e)

  module _ (i j : ℕ) where
    abbrev IsFew : StructDecl → FunctionDecl → Type 0
    IsFew s f = length (in_nested w i s j f) ≤ 1048576

    nested_at : (s : StructDecl) → All (IsFew s) s.functions → (o : Option FunctionDecl) → slice_get s.functions j ≡ o
        → length (of_nested w i j s o) ≤ 1048576
    nested_at s all None e = omega arith
    nested_at s all (Some f) e = All-contains (IsFew s) s.functions f all (get_contains s.functions j f e)

    nested_in : (o : Option StructDecl) → slice_get w.skeleton.structs i ≡ o → length (of_nested_in w i j o) ≤ 1048576
    nested_in None e = omega arith
    nested_in (Some s) e =
        let all = All-contains (λ (t : StructDecl). All (IsFew t) t.functions) w.skeleton.structs s (few.nested i j)
        (get_contains w.skeleton.structs i s e) in
        nested_at s all (slice_get s.functions j) refl

  list_count : (g : Signature) → length (list_of w g) ≤ 1048576
  list_count (Struct i) = struct_at i (slice_get w.skeleton.structs i) refl
  list_count (Function i) = function_at i (slice_get w.skeleton.functions i) refl
  list_count (Nested i j) = nested_in i j (slice_get w.skeleton.structs i) refl

-- ---- the lists of a world

module _ (text : List ℕ) (s : Skeleton) (w : TextWorld) (is : IsWorldOf text s w) (short : HasShortLists text s)
    (few : HasFewRequirements (words_of text s w)) where
  abbrev words : WordsView
  words = words_of text s w

  abbrev Few : List PlacedRequirement → Type 0
  Few rs = length rs < 2 ^ 32

  abbrev HasFew : SignatureOver PlacedRequirement → Type 0
  HasFew g = length g.requirements < 2 ^ 32

  pub short_world : IsShort w
  short_world = record {
    protocols = subst (All Few) (sym is.requirements)
        (All-map Few (requirements_named words) w.lexicon.protocols
        (λ k d l. let i = at_place words few (protocol_of (declared words) (get_or w.lexicon.protocols k d)) in omega arith));
    lists = subst (All HasFew) (sym is.signatures)
        (All-map HasFew (signature_in words (in_order s)) (in_order s)
        (λ k d l. let i = list_count words few (get_or (in_order s) k d) in omega arith));
    signatures =
        let i = ap length is.signatures ∙ length-map (in_order s) (signature_in words (in_order s)) in
        let j = short.signatures in omega arith;
    queries =
        let i = ap length is.queries ∙ length-map s.queries (query_of words (in_order s)) in
        let j = few.queries in omega arith;
  }

-- ---- over the ids of a table

all_of_map : {A B : Type 0} (P : B → Type 0) (f : A → B) (xs : List A) → All P (map f xs) → All (λ x. P (f x)) xs
all_of_map P f [] h k d l = absurd (omega arith)
all_of_map P f (x ∷ xs) h zero d l = h 0 (f d) (omega arith)
all_of_map P f (x ∷ xs) h (suc k) d l = all_of_map P f xs (λ j e m. h (suc j) e (omega arith)) k d (omega arith)

pub short_by_table : (terms : List Term) (w : IdWorld) → IsShort (world_by terms w) → IsShort w
short_by_table terms w h = record {
  protocols = λ k d l.
      let rs : List Written = get_or w.requirements k d in
      let i = all_of_map (λ (qs : List PlacedRequirement). length qs < 2 ^ 32) (placed terms) w.requirements h.protocols k d l in
      let j = length-map rs (placed_by terms) in omega arith;
  lists = λ k d l.
      let rs : List Written = (get_or w.signatures k d).requirements in
      let i = all_of_map (λ (g : SignatureOver PlacedRequirement). length g.requirements < 2 ^ 32)
      (signature_by terms) w.signatures h.lists k d l in
      let j = length-map rs (placed_by terms) in omega arith;
  signatures = let i = length-map w.signatures (signature_by terms) in let j = h.signatures in omega arith;
  queries = let i = length-map w.queries (query_by terms) in let j = h.queries in omega arith;
}

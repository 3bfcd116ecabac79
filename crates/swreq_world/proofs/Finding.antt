-- What the look-ups of a world find.
use Rattle.std.proofs.Common.{◌≡◌, ◌↔◌, ℕ, zero, suc, ◌<◌, List, [], ◌∷◌, Option, Some, None, length, get_or, map, slice_get, Contains, refl, sym, ap, subst, ◌∙◌, arith}
use Rattle.std.proofs.lemmas.List.{length-map}
use Rattle.std.proofs.lemmas.Option.{slice_get_within, get_or_from_slice_get, same_Some}
use Rattle.std.specs.Option.{option_map}
use Rattle.swreq_param.proofs.swreq_lemmas.Elements.{there_is}
use Rattle.swreq_lexicon.specs.swreq_decl.declared.skeleton.FunctionDecl.{FunctionDecl}
use Rattle.swreq_lexicon.specs.swreq_decl.declared.skeleton.Skeleton.{Skeleton}
use Rattle.swreq_lexicon.specs.swreq_decl.declared.skeleton.StructDecl.{StructDecl}
use Rattle.swreq_lexicon.specs.swreq_names.declared.signature.Signature.{Signature}
use Rattle.swreq_lexicon.specs.swreq_names.declared.signature.Signature.TheVariants.{Struct, Function, Nested}
use Rattle.swreq_lexicon.specs.swreq_names.Spaces.{Spaces, param_of}
use Rattle.swreq_param.specs.declared.ids.ParamId.{ParamId}
use Rattle.swreq_param.specs.Terms.{Term}
use Rattle.swreq_resolve.specs.Resolving.{HasNames}
use Rattle.swreq_lexicon.specs.swreq_rank.Ranks.{Bytes}
use Rattle.swreq_lowering.specs.declared.ids.FuncId.{FuncId}
use Rattle.swreq_lowering.specs.declared.ids.Written.{Written}
use Rattle.swreq_lowering.specs.Requirements.{PlacedRequirement}
use Rattle.swreq_lowering.specs.Signatures.{func_id, in_order, own_depth}
use Rattle.swreq_lowering.specs.Types.{param_id}
use Rattle.swreq_lowering.specs.Words.{WordsView}
use Rattle.swreq_world.specs.ByTable.{signature_by, world_by}
use Rattle.swreq_world.specs.Declarations.{HasSignature}
use Rattle.swreq_lowering.specs.Queries.{signature_named}
use Rattle.swreq_world.specs.Lookups.{func_named, order_of, outer_name, param_of_signature, IsNamedAt, IsParamNamed}
use Rattle.swreq_world.specs.Text.{outer_of, signature_in}
use Rattle.swreq_world.specs.WorldOf.{IsWorldOf, words_of}
use Rattle.swreq_world.specs.Worlds.{IdWorld, SignatureOver, TextWorld, no_signature, signature_at}
use Rattle.swreq_world.proofs.EachOnce.{own_place}
use Rattle.swreq_world.proofs.Named.{IsNamed, found, is_found, outer_name_of}
use Rattle.swreq_world.proofs.OneNamed.{StandApart, one}
use Rattle.swreq_world.proofs.Offsets.{AreRising}
use Rattle.swreq_world.proofs.ParamNames.{meant, param_named, told_apart}
use Rattle.swreq_world.proofs.ParamsApart.{AreParamsInOrder, param_start}
use Rattle.swreq_world.proofs.Standing.{IsIn, is_in, signature_stands, stands}

module _ (text : Bytes) (s : Skeleton) (v : TextWorld) (is : IsWorldOf text s v) where
  abbrev words : WordsView
  words = words_of text s v

  abbrev order : List Signature
  order = in_order s

  -- the signature that stands at a place
  pub at_place : (f : FuncId) (g : Signature) → slice_get order f.place ≡ Some g → signature_at v f ≡ signature_in words order g
  at_place f g e = get_or_from_slice_get v.signatures f.place (signature_in words order g) no_signature
      (signature_stands words v.signatures is.signatures f g e)

  -- ---- signatures

  signatures_back : (gs : List Signature) → map (λ h. h.signature) (map (signature_in words order) gs) ≡ gs
  signatures_back [] = refl
  signatures_back (g ∷ gs) = ap (λ hs. g ∷ hs) (signatures_back gs)

  order_same : order_of v ≡ order
  order_same = ap (map (λ h. h.signature)) is.signatures ∙ signatures_back order

  outer_is : (g : Signature) → IsIn s g → outer_name v (outer_of order g) ≡ outer_name_of words g
  outer_is (Struct i) h = refl
  outer_is (Function k) h = refl
  outer_is (Nested i j) (t, at, l) =
      ap (λ (h : SignatureOver PlacedRequirement). Some h.name)
      (at_place (func_id order (Struct i)) (Struct i) (stands s (Struct i) (slice_get_within s.structs i t at)))

  -- A signature has its names at its place.
  pub named_at : (outer : Option Bytes) (name : Bytes) (g : Signature) → IsNamed words outer name g
      → IsNamedAt v outer name (func_id order g)
  named_at outer name g named =
      let there = stands s g named.is_in in
      let e = at_place (func_id order g) g there in (
        slice_get_within v.signatures (func_id order g).place (signature_in words order g)
            (signature_stands words v.signatures is.signatures (func_id order g) g there),
        ap (λ (h : SignatureOver PlacedRequirement). h.name) e ∙ named.called,
        ap (λ (h : SignatureOver PlacedRequirement). outer_name v h.outer) e ∙ outer_is g named.is_in ∙ named.around,
      )

  found_named : (outer : Option Bytes) (name : Bytes) (f : FuncId) → func_named v outer name ≡ Some f → IsNamedAt v outer name f
  found_named outer name f e = by (signature_named v.lexicon.resolved.declared outer name) refl e
    where
      by : (o : Option Signature) → signature_named v.lexicon.resolved.declared outer name ≡ o
          → option_map (func_id (order_of v)) o ≡ Some f → IsNamedAt v outer name f
      by None n h = absurd cc
      by (Some g) n h =
          subst (IsNamedAt v outer name) (ap (λ gs. func_id gs g) (sym order_same) ∙ same_Some (func_id (order_of v) g) f h)
          (named_at outer name g (found words is.lexicon.resolved.declared outer name g n))

  module _ (names : HasNames text s) (stand : StandApart words)
      (has : (k : ℕ) (g : Signature) → slice_get order k ≡ Some g → HasSignature s g) where
    named_back : (outer : Option Bytes) (name : Bytes) (f : FuncId) → IsNamedAt v outer name f
        → (g : Signature) × (slice_get order f.place ≡ Some g) × IsNamed words outer name g
    named_back outer name f (within, called, around) =
        let count = ap length is.signatures ∙ length-map order (signature_in words order) in
        let (g, at) = there_is order f.place (omega (arith, within, count)) in
        let e = at_place f g at in
        let there = is_in s g (has f.place g at) in (
          g,
          at,
          record {
            is_in = there;
            called = sym (ap (λ (h : SignatureOver PlacedRequirement). h.name) e) ∙ called;
            around = sym (outer_is g there) ∙ sym (ap (λ (h : SignatureOver PlacedRequirement). outer_name v h.outer) e) ∙ around;
          },
        )

    named_found : (outer : Option Bytes) (name : Bytes) (f : FuncId) → IsNamedAt v outer name f → func_named v outer name ≡ Some f
    named_found outer name f at =
        let (g, there, named) = named_back outer name f at in
        let (h, finds) = is_found words names stand.from stand.structs outer name g named in
        let so = ap (λ (d : Spaces). signature_named d outer name) is.lexicon.resolved.declared ∙ finds in
        let same = one words names stand outer name h g (found words is.lexicon.resolved.declared outer name h so) named in
        let place = own_place s g f.place named.is_in there in
        ap (option_map (func_id (order_of v))) so ∙ ap (λ gs. Some (func_id gs h)) order_same ∙ ap (λ k. Some (func_id order k)) same
        ∙ (λ i. Some (record { place = place i }))

    pub found_in_text : (outer : Option Bytes) (name : Bytes) (f : FuncId) → (func_named v outer name ≡ Some f) ↔ IsNamedAt v outer name f
    found_in_text outer name f = (found_named outer name f, named_found outer name f)

  -- ---- generic parameters

  param_meant : (f : FuncId) (g : Signature) → slice_get order f.place ≡ Some g → (name : Bytes)
      → param_of_signature v f name ≡ meant text s g name
  param_meant f g at name =
      ap (λ (h : SignatureOver PlacedRequirement).
      option_map (param_id h.own_depth) (param_of v.lexicon.resolved.declared h.signature name)) (at_place f g at)
      ∙ ap (λ (d : Spaces). option_map (param_id (own_depth s g)) (param_of d g name)) is.lexicon.resolved.declared

-- ---- the same over ids

module _ (terms : List Term) (w : IdWorld) where
  by_table : (gs : List (SignatureOver Written)) (k : ℕ)
      → get_or (map (signature_by terms) gs) k no_signature ≡ signature_by terms (get_or gs k no_signature)
  by_table [] k = refl
  by_table (g ∷ gs) zero = refl
  by_table (g ∷ gs) (suc k) = by_table gs k

  order_by : (gs : List (SignatureOver Written)) → map (λ h. h.signature) (map (signature_by terms) gs) ≡ map (λ h. h.signature) gs
  order_by [] = refl
  order_by (g ∷ gs) = ap (λ hs. g.signature ∷ hs) (order_by gs)

  pub func_by : (outer : Option Bytes) (name : Bytes) → func_named (world_by terms w) outer name ≡ func_named w outer name
  func_by outer name = ap (λ gs. option_map (func_id gs) (signature_named w.lexicon.resolved.declared outer name)) (order_by w.signatures)

  pub outer_by : (o : Option FuncId) → outer_name (world_by terms w) o ≡ outer_name w o
  outer_by None = refl
  outer_by (Some f) = ap (λ (h : SignatureOver PlacedRequirement). Some h.name) (by_table w.signatures f.place)

  -- A signature has the same names.
  named_by : (outer : Option Bytes) (name : Bytes) (f : FuncId) → IsNamedAt (world_by terms w) outer name f → IsNamedAt w outer name f
  named_by outer name f (within, called, around) =
      let e = by_table w.signatures f.place in
      let count = length-map w.signatures (signature_by terms) in (
        omega (arith, within, count),
        sym (ap (λ (h : SignatureOver PlacedRequirement). h.name) e) ∙ called,
        sym (ap (λ (h : SignatureOver PlacedRequirement). outer_name (world_by terms w) h.outer) e ∙ outer_by (signature_at w f).outer)
            ∙ around,
      )

  pub named_from : (outer : Option Bytes) (name : Bytes) (f : FuncId) → IsNamedAt w outer name f → IsNamedAt (world_by terms w) outer name f
  named_from outer name f (within, called, around) =
      let e = by_table w.signatures f.place in
      let count = length-map w.signatures (signature_by terms) in (
        omega (arith, within, count),
        ap (λ (h : SignatureOver PlacedRequirement). h.name) e ∙ called,
        ap (λ (h : SignatureOver PlacedRequirement). outer_name (world_by terms w) h.outer) e ∙ outer_by (signature_at w f).outer ∙ around,
      )

  pub param_by : (f : FuncId) (name : Bytes) → param_of_signature (world_by terms w) f name ≡ param_of_signature w f name
  param_by f name =
      ap (λ (h : SignatureOver PlacedRequirement).
      option_map (param_id h.own_depth) (param_of w.lexicon.resolved.declared h.signature name)) (by_table w.signatures f.place)

  module _ (text : Bytes) (s : Skeleton) (is : IsWorldOf text s (world_by terms w)) where
    pub signature_found : HasNames text s → StandApart (words_of text s (world_by terms w))
        → ((k : ℕ) (g : Signature) → slice_get (in_order s) k ≡ Some g → HasSignature s g)
        → (outer : Option Bytes) (name : Bytes) (f : FuncId) → (func_named w outer name ≡ Some f) ↔ IsNamedAt w outer name f
    signature_found names stand has outer name f =
        let found = found_in_text text s (world_by terms w) is names stand has outer name f in (
          λ e. named_by outer name f (found.0 (func_by outer name ∙ e)),
          λ at. sym (func_by outer name) ∙ found.1 (named_from outer name f at),
        )

    -- the signature that stands at a place
    signature_here : (f : FuncId) → f.place < length w.signatures
        → (g : Signature) × (slice_get (in_order s) f.place ≡ Some g) × (g ≡ (signature_at w f).signature)
    signature_here f within =
        let words = words_of text s (world_by terms w) in
        let count = sym (length-map w.signatures (signature_by terms)) ∙ ap length is.signatures
        ∙ length-map (in_order s) (signature_in words (in_order s)) in
        let (g, at) = there_is (in_order s) f.place (omega (arith, within, count)) in
        let signature = λ (h : SignatureOver PlacedRequirement). h.signature in
        (g, at, sym (ap signature (at_place text s (world_by terms w) is f g at)) ∙ ap signature (by_table w.signatures f.place))

    pub param_found : HasNames text s → ((t : StructDecl) → Contains s.structs t → AreParamsInOrder t)
        → ((f : FunctionDecl) → Contains s.functions f → (from : ℕ) × AreRising param_start from f.params)
        → ((k : ℕ) (g : Signature) → slice_get (in_order s) k ≡ Some g → HasSignature s g)
        → (f : FuncId) → f.place < length w.signatures → (name : Bytes) (p : ParamId)
        → (param_of_signature w f name ≡ Some p) ↔ IsParamNamed text s (signature_at w f).signature name p
    param_found names of_structs of_functions has f within name p =
        let (g, at, is_here) = signature_here f within in
        let meaning = sym (param_by f name) ∙ param_meant text s (world_by terms w) is f g at name in
        let told = param_named text s g (told_apart text s names of_structs of_functions g (is_in s g (has f.place g at))) name p in (
          λ e. subst (λ h. IsParamNamed text s h name p) is_here (told.0 (sym meaning ∙ e)),
          λ called. meaning ∙ told.1 (subst (λ h. IsParamNamed text s h name p) (sym is_here) called),
        )

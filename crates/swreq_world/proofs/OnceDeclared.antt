-- Names that are declared once: a name refers to its declaration, and the names of a list differ.
use Rattle.std.proofs.Common.{◌≡◌, ℕ, ◌≤◌, ◌<◌, ⊎_elim, ◌+◌, Bool, true, false, cond, Option, List, ◌++◌, length, get_or, map, slice_get, Some, None, nat_lt, refl, sym, ap, subst, ◌∙◌, arith}
use Rattle.std.proofs.lemmas.Bool.{cases_lt, lt-ltb, false_from_ne_true}
use Rattle.std.proofs.lemmas.Bool.Decides.{nat_tests}
use Rattle.std.proofs.lemmas.Iterator.Adapters.{position_from-zero}
use Rattle.std.proofs.lemmas.List.Elements.{All-nil}
use Rattle.std.proofs.lemmas.List.Quantifiers.{position-Some}
use Rattle.std.proofs.lemmas.Map.Keys.{IsDistinct-from_apart}
use Rattle.std.proofs.lemmas.Option.{slice_get-get_or, get_or_from_slice_get}
use Rattle.std.proofs.lemmas.Slice.Eq.{bytes_eq-Decides}
use Rattle.std.specs.List.{All, IsDistinct, flat_map, position_from}
use Rattle.std.specs.Str.{bytes_eq}
use Rattle.swreq_param.proofs.swreq_lemmas.Elements.{get_contains}
use Rattle.swreq_lexicon.specs.swreq_decl.declared.skeleton.FunctionDecl.{FunctionDecl}
use Rattle.swreq_lexicon.specs.swreq_decl.declared.skeleton.ProtocolDecl.{ProtocolDecl}
use Rattle.swreq_lexicon.specs.swreq_decl.declared.skeleton.Skeleton.{Skeleton}
use Rattle.swreq_lexicon.specs.swreq_decl.declared.skeleton.Span.{Span}
use Rattle.swreq_lexicon.specs.swreq_decl.declared.skeleton.StructDecl.{StructDecl}
use Rattle.swreq_lexicon.specs.swreq_names.declared.directory.Declaration.{Declaration}
use Rattle.swreq_resolve.specs.declared.refusal.Fault.TheVariants.{Duplicate}
use Rattle.swreq_resolve.specs.declared.refusal.Refusal.{Refusal}
use Rattle.swreq_resolve.specs.First.{when}
use Rattle.swreq_resolve.specs.Resolving.{HasNames}
use Rattle.swreq_resolve.specs.Refusals.{duplicate_of, duplicates, of_space, of_spaces, of_protocol, of_signatures, of_struct, of_function, of_query, by_place}
use Rattle.swreq_lexicon.specs.swreq_names.Spaces.{word, declaration, declarations, place, offset_of, is_declared_before, refers_to, protocol_of, Spaces, spaces}
use Rattle.swreq_lexicon.specs.swreq_rank.Ranks.{Bytes}
use Rattle.swreq_lexicon.specs.Texts.{protocol_names}
use Rattle.swreq_lexicon.proofs.Places.{some_place}
use Rattle.swreq_world.proofs.Everywhere.{all_left, all_right, all_at, each_piece, placed_piece, stands_mapped, mapped_from}
use Rattle.swreq_world.proofs.Offsets.{AreRising, starts_before, name_start}
use Rattle.swreq_world.proofs.Resolving.{Never, refused, declared_at, declared_words}

-- A name's first place is the least.
first_place : (names : List Bytes) (name : Bytes) (k i : ℕ) → position_from (bytes_eq name) 0 names ≡ Some k
    → slice_get names i ≡ Some name → k ≤ i
first_place names name k i e at = ⊎_elim (λ l. absurd (passed l)) (λ h. h) (cases_lt i k)
  where
    passed : i < k → ⊥
    passed l =
        let no = (position-Some (bytes_eq name) names k name (position_from-zero (bytes_eq name) names ∙ e)).2 i l in
        let yes = (bytes_eq-Decides name (get_or names i name)).1 (sym (get_or_from_slice_get names i name name at)) in
        let clash : true ≡ false = sym yes ∙ no in
        absurd cc

-- A name that a list does not have before an offset stands there or later.
pub not_earlier : (ds : List Declaration) (name : Bytes) (at k : ℕ) → place ds name ≡ Some k
    → is_declared_before ds name at ≡ false → at ≤ offset_of ds k
not_earlier ds name at k e none =
    let test : nat_lt (offset_of ds k) at ≡ false =
    sym (ap (λ o. elim o [ None ↦ false | Some j ↦ nat_lt (offset_of ds j) at ]) e) ∙ none in
    grind (arith, nat_tests, test)

module _ {A : Type 0} (text : Bytes) (span : A → Span) (xs : List A) where
  abbrev declared : List Declaration
  declared = declarations text (map span xs)

  abbrev name_of : A → Bytes
  name_of x = word text (span x)

  abbrev names : List Bytes
  names = map name_of xs

  abbrev start : A → ℕ
  start x = (span x).start

  pub stands : (i : ℕ) (x : A) → slice_get xs i ≡ Some x → slice_get declared i ≡ Some (declaration text (span x))
  stands i x e = stands_mapped (declaration text) (map span xs) i (span x) (stands_mapped span xs i x e)

  named : (i : ℕ) (x : A) → slice_get xs i ≡ Some x → slice_get names i ≡ Some (name_of x)
  named i x e = stands_mapped name_of xs i x e

  -- A declared name has a place.
  pub some_place_of : (i : ℕ) (x : A) → slice_get xs i ≡ Some x → (k : ℕ) × (place declared (name_of x) ≡ Some k)
  some_place_of i x e =
      let k = some_place names (name_of x) (get_contains names i (name_of x) (named i x e)) in
      (k.0, ap (position_from (bytes_eq (name_of x)) 0) (declared_words text span xs) ∙ k.1)

  -- where another list of the space, or the list itself, has no such name before
  module _ (others : List Declaration) (none : All Never (duplicates others declared)) where
    pub not_before : (i : ℕ) (x : A) → slice_get xs i ≡ Some x → is_declared_before others (name_of x) (start x) ≡ false
    not_before i x e = by (is_declared_before others (name_of x) (start x)) refl
      where
        one : All Never (duplicate_of others (declaration text (span x)))
        one = all_at (λ d. All Never (duplicate_of others d)) declared i (declaration text (span x))
            (each_piece Never (duplicate_of others) declared none) (stands i x e)

        by : (b : Bool) → is_declared_before others (name_of x) (start x) ≡ b → is_declared_before others (name_of x) (start x) ≡ false
        by false h = h
        by true h = absurd (refused Duplicate (start x) (subst (λ b. All Never (when b Duplicate (start x))) h one))

    pub refers : (name : Bytes) (i : ℕ) → place declared name ≡ Some i → refers_to declared others name ≡ Some i
    refers name i e =
        ap (λ o.
        elim o as (λ _. Option ℕ) [ None ↦ None | Some k ↦ cond (is_declared_before others name (offset_of declared k)) None (Some k) ]) e
        ∙ ap (λ b. cond b None (Some i)) not_here
      where
        found : (x : A) × (slice_get xs i ≡ Some x) × (name_of x ≡ name)
        found = declared_at text span xs name i e

        at : offset_of declared i ≡ start found.0
        at = ap (λ o. elim o as (λ _. ℕ) [ None ↦ 0 | Some d ↦ d.at ]) (stands i found.0 found.1)

        not_here : is_declared_before others name (offset_of declared i) ≡ false
        not_here = (λ k. is_declared_before others (sym found.2 k) (at k)) ∙ not_before i found.0 found.1

  -- where the list has each name once
  module _ (from : ℕ) (rising : AreRising start from xs) (none : All Never (duplicates declared declared)) where
    -- A later one of the same name would be refused.
    not_again : (i j : ℕ) (x y : A) → slice_get xs i ≡ Some x → slice_get xs j ≡ Some y → i < j → name_of x ≡ name_of y → ⊥
    not_again i j x y e f l same = let clash : true ≡ false = sym before ∙ not_before declared none j y f in absurd cc
      where
        at_i : slice_get names i ≡ Some (name_of y)
        at_i = named i x e ∙ ap Some same

        earliest : (k : ℕ) × (place declared (name_of y) ≡ Some k)
        earliest = some_place_of j y f

        no_later : earliest.0 ≤ i
        no_later =
            let at = ap (position_from (bytes_eq (name_of y)) 0) (sym (declared_words text span xs)) ∙ earliest.1 in
            first_place names (name_of y) earliest.0 i at at_i

        before : is_declared_before declared (name_of y) (start y) ≡ true
        before =
            let r = declared_at text span xs (name_of y) earliest.0 earliest.1 in
            let less = starts_before start from xs rising earliest.0 j r.0 y r.1 f (let h = no_later in omega (arith, h, l)) in
            ap (λ o. elim o [ None ↦ false | Some k ↦ nat_lt (offset_of declared k) (start y) ]) earliest.1
            ∙ ap (λ o. nat_lt (elim o [ None ↦ 0 | Some d ↦ d.at ]) (start y)) (stands earliest.0 r.0 r.1)
            ∙ lt-ltb (start r.0) (start y) less

    -- Each one's name refers to it.
    pub first : (i : ℕ) (x : A) → slice_get xs i ≡ Some x → place declared (name_of x) ≡ Some i
    first i x e =
        let k = some_place_of i x e in
        let at = ap (position_from (bytes_eq (name_of x)) 0) (sym (declared_words text span xs)) ∙ k.1 in
        let no_later = first_place names (name_of x) k.0 i at (named i x e) in
        let found = declared_at text span xs (name_of x) k.0 k.1 in
        ⊎_elim (λ l. absurd (not_again k.0 i found.0 x found.1 e l found.2))
        (λ h. let same : k.0 ≡ i = omega (arith, h, no_later) in k.1 ∙ ap Some same) (cases_lt k.0 i)

    pub distinct : IsDistinct bytes_eq names
    distinct = IsDistinct-from_apart bytes_eq names
        (λ i j d h l. false_from_ne_true (bytes_eq (get_or names i d) (get_or names j d)) (apart i j d h l))
      where
        apart : (i j : ℕ) (d : Bytes) → i < j → j < length names → bytes_eq (get_or names i d) (get_or names j d) ≡ true → ⊥
        apart i j d h l t =
            let x = mapped_from name_of xs i (get_or names i d) (slice_get-get_or names i d (omega arith)) in
            let y = mapped_from name_of xs j (get_or names j d) (slice_get-get_or names j d l) in
            not_again i j x.0 y.0 x.1 y.1 h (x.2 ∙ (bytes_eq-Decides (get_or names i d) (get_or names j d)).0 t ∙ sym y.2)

-- ---- the protocols, the structs and the functions of a text

module _ (text : Bytes) (s : Skeleton) (resolve : HasNames text s) where
  abbrev d : Spaces
  d = spaces text s

  abbrev of_protocols : List Refusal
  of_protocols = by_place (of_protocol text d resolve.inherits) 0 s.protocols

  abbrev of_queries : List Refusal
  of_queries = flat_map (of_query text d) s.queries

  none : All Never (of_spaces d ++ (of_protocols ++ (of_signatures text d s ++ of_queries)))
  none = subst (All Never) (sym resolve.none) (All-nil Never)

  none_of_spaces : All Never (of_spaces d)
  none_of_spaces = all_left Never (of_spaces d) (of_protocols ++ (of_signatures text d s ++ of_queries)) none

  none_of_protocols : All Never (of_space d.protocols d.structs)
  none_of_protocols = all_left Never (of_space d.protocols d.structs) (of_space d.structs d.functions) none_of_spaces

  -- No struct and no function at the top is declared twice.
  pub none_of_signatures : All Never (of_space d.structs d.functions)
  none_of_signatures = all_right Never (of_space d.protocols d.structs) (of_space d.structs d.functions) none_of_spaces

  pub none_of_struct : (i : ℕ) (t : StructDecl) → slice_get s.structs i ≡ Some t → All Never (of_struct text d i t)
  none_of_struct i t at =
      let first : 0 + i ≡ i = omega arith in
      placed_piece Never (of_struct text d) 0 s.structs i i t first at
      (all_left Never (by_place (of_struct text d) 0 s.structs) (by_place (of_function text d) 0 s.functions)
      (all_left Never (of_signatures text d s) of_queries
      (all_right Never of_protocols (of_signatures text d s ++ of_queries)
      (all_right Never (of_spaces d) (of_protocols ++ (of_signatures text d s ++ of_queries)) none))))

  pub none_of_function : (k : ℕ) (f : FunctionDecl) → slice_get s.functions k ≡ Some f → All Never (of_function text d k f)
  none_of_function k f at =
      let first : 0 + k ≡ k = omega arith in
      placed_piece Never (of_function text d) 0 s.functions k k f first at
      (all_right Never (by_place (of_struct text d) 0 s.structs) (by_place (of_function text d) 0 s.functions)
      (all_left Never (of_signatures text d s) of_queries
      (all_right Never of_protocols (of_signatures text d s ++ of_queries)
      (all_right Never (of_spaces d) (of_protocols ++ (of_signatures text d s ++ of_queries)) none))))

  pub protocols_differ : (from : ℕ) → AreRising name_start from s.protocols → IsDistinct bytes_eq (protocol_names text s.protocols)
  protocols_differ from rising =
      distinct text (λ (p : ProtocolDecl). p.name) s.protocols from rising
      (all_left Never (duplicates d.protocols d.protocols)
      (duplicates d.structs d.protocols ++ (duplicates d.protocols d.structs ++ duplicates d.structs d.structs)) none_of_protocols)

  -- A name that is declared as a protocol refers to it: it is not that of a struct before it.
  pub protocol_meant : (name : Bytes) (i : ℕ) → place d.protocols name ≡ Some i → protocol_of d name ≡ Some i
  protocol_meant =
      refers text (λ (p : ProtocolDecl). p.name) s.protocols d.structs
      (all_left Never (duplicates d.structs d.protocols) (duplicates d.protocols d.structs ++ duplicates d.structs d.structs)
      (all_right Never (duplicates d.protocols d.protocols)
      (duplicates d.structs d.protocols ++ (duplicates d.protocols d.structs ++ duplicates d.structs d.structs)) none_of_protocols))

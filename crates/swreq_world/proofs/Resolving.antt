-- What the names of a text refer to, where they resolve.
use Rattle.std.proofs.Common.{◌≡◌, ℕ, ◌+◌, ◌<◌, ⊎_elim, Bool, true, false, cond, not, ◌&&◌, List, [], ◌∷◌, ◌++◌, Option, Some, None, is_some, length, get_or, map, slice_get, refl, sym, ap, subst, ◌∙◌, arith}
use Rattle.std.proofs.lemmas.Iterator.Adapters.{position_from-zero}
use Rattle.std.proofs.lemmas.List.Elements.{All-nil, All-weaker, Contains-get_or}
use Rattle.std.proofs.lemmas.List.Quantifiers.{position-Some}
use Rattle.std.proofs.lemmas.Option.{slice_get-get_or, slice_get_within, same_Some}
use Rattle.std.proofs.lemmas.Slice.Eq.{bytes_eq-Decides}
use Rattle.std.specs.List.{All, Contains, flat_map}
use Rattle.std.specs.Str.{bytes_eq}
use Rattle.std.proofs.lemmas.Bool.{and_parts, or_cases}
use Rattle.swreq_param.proofs.swreq_lemmas.Elements.{get_contains}
use Rattle.swreq_param.proofs.swreq_lemmas.Members.{contains_map}
use Rattle.swreq_lexicon.specs.swreq_decl.declared.skeleton.AssocDecl.{AssocDecl}
use Rattle.swreq_lexicon.specs.swreq_decl.declared.skeleton.FunctionDecl.{FunctionDecl}
use Rattle.swreq_lexicon.specs.swreq_decl.declared.skeleton.ProtocolDecl.{ProtocolDecl}
use Rattle.swreq_lexicon.specs.swreq_decl.declared.skeleton.Skeleton.{Skeleton}
use Rattle.swreq_lexicon.specs.swreq_decl.declared.skeleton.Span.{Span}
use Rattle.swreq_lexicon.specs.swreq_decl.declared.skeleton.StructDecl.{StructDecl}
use Rattle.swreq_lexicon.specs.swreq_names.declared.directory.Declaration.{Declaration}
use Rattle.swreq_resolve.specs.declared.refusal.Fault.{Fault}
use Rattle.swreq_resolve.specs.declared.refusal.Fault.TheVariants.{NoSuchMember}
use Rattle.swreq_resolve.specs.declared.refusal.Refusal.{Refusal}
use Rattle.swreq_resolve.specs.First.{when}
use Rattle.swreq_lexicon.specs.swreq_names.Mentioned.{mentioned}
use Rattle.swreq_lexicon.specs.swreq_names.Walk as names
use Rattle.swreq_lexicon.proofs.swreq_names.Walked.{same_names}
use Rattle.swreq_resolve.specs.Resolving.{HasNames}
use Rattle.swreq_resolve.specs.Refusals.{duplicates, of_spaces, of_protocol, of_primaries, primary_of, of_entity, of_requirement, of_members, begins_in_protocol, of_struct, of_function, of_query, refusals_in, by_place}
use Rattle.swreq_resolve.proofs.Meaning.{any_to}
use Rattle.swreq_lexicon.specs.swreq_names.Spaces.{Spaces, spaces, word, declaration, declarations, place, offset_of, is_declared, is_declared_before, refers_to, protocol_of, declares, has_member, any_below}
use Rattle.swreq_lexicon.specs.Lexicons.{pair, proto_by, name_by, assoc_by}
use Rattle.swreq_lexicon.specs.swreq_rank.Ranks.{Bytes, rank}
use Rattle.swreq_lexicon.specs.Texts.{IsLexiconOf, protocol_names, declared_by, declared_in}
use Rattle.swreq_lexicon.specs.Views.{LexiconView, IsProtocol, IsName}
use Rattle.swreq_lexicon.proofs.Declared.{declared_name, in_pieces, named_within}
use Rattle.swreq_lexicon.proofs.RankLaws.{rank_is, assoc_is}
use Rattle.swreq_lowering.specs.Words.{WordsView, declared, proto_of, name_of, primaries_of, primaries_at, primaries_named}
use Rattle.swreq_world.proofs.Everywhere.{all_left, all_right, all_at, each_mapped, each_piece, placed_piece, at_mapped, past_mapped, stands_mapped, mapped_from}

-- ---- refusals

abbrev pub Never : Refusal → Type 0
Never r = ⊥

pub passes : (b : Bool) (fault : Fault) (at : ℕ) → All Never (when (not b) fault at) → b ≡ true
passes true fault at h = refl
passes false fault at h = absurd (h 0 (record { fault = fault; at = at }) (omega arith))

pub refused : (fault : Fault) (at : ℕ) → All Never (when true fault at) → ⊥
refused fault at h = h 0 (record { fault = fault; at = at }) (omega arith)

-- ---- what a name refers to

pub some_of : {A : Type 0} (o : Option A) → is_some o ≡ true → (x : A) × (o ≡ Some x)
some_of None e = absurd cc
some_of (Some x) e = (x, refl)

-- the name at the place that it refers to
pub place_at : (ds : List Declaration) (name : Bytes) (k : ℕ) → place ds name ≡ Some k → slice_get (map (λ d. d.name) ds) k ≡ Some name
place_at ds name k h =
    let all : List Bytes = map (λ (d : Declaration). d.name) ds in
    let s = position-Some (bytes_eq name) all k name (position_from-zero (bytes_eq name) all ∙ h) in
    slice_get-get_or all k name s.0 ∙ ap Some (sym ((bytes_eq-Decides name (get_or all k name)).0 s.1))

pub referred : (ds others : List Declaration) (name : Bytes) (k : ℕ) → refers_to ds others name ≡ Some k → place ds name ≡ Some k
referred ds others name k e = by (place ds name) e
  where
    shown : (b : Bool) (j : ℕ) → cond b None (Some j) ≡ Some k → Some j ≡ Some k
    shown true j e = absurd cc
    shown false j e = e

    by : (o : Option ℕ) → (elim o as (λ _.
        Option ℕ) [ None ↦ None | Some j ↦ cond (is_declared_before others name (offset_of ds j)) None (Some j) ]) ≡ Some k → o ≡ Some k
    by None e = absurd cc
    by (Some j) e = shown (is_declared_before others name (offset_of ds j)) j e

pub declared_words : {A : Type 0} (text : Bytes) (span : A → Span) (xs : List A)
    → map (λ d. d.name) (declarations text (map span xs)) ≡ map (λ x. word text (span x)) xs
declared_words text span [] = refl
declared_words text span (x ∷ xs) = ap (λ ns. word text (span x) ∷ ns) (declared_words text span xs)

-- what is declared by this name
pub declared_at : {A : Type 0} (text : Bytes) (span : A → Span) (xs : List A) (name : Bytes) (k : ℕ)
    → place (declarations text (map span xs)) name ≡ Some k
    → (x : A) × (slice_get xs k ≡ Some x) × (word text (span x) ≡ name)
declared_at text span xs name k e =
    mapped_from (λ x. word text (span x)) xs k name
    (ap (λ ns. slice_get ns k) (sym (declared_words text span xs)) ∙ place_at (declarations text (map span xs)) name k e)

-- Some protocol declares the name.
pub declared_somewhere : (d : Spaces) (inherits : ℕ → ℕ → Bool) (k : ℕ) (name : Bytes) → has_member d inherits k name ≡ true
    → (j : ℕ) × (declares d j name ≡ true)
declared_somewhere d inherits k name e =
    ⊎_elim (λ h. (k, h))
    (λ h. let s = any_to (λ j. inherits k j && declares d j name) (length d.members) h in
    (s.0, (and_parts (inherits k s.0) (declares d s.0 name) s.1).1))
    (or_cases (declares d k name) (any_below (λ j. inherits k j && declares d j name) (length d.members)) e)

-- ---- where the names of a text resolve

-- The words of a text refer to what is of it.
pub record Refers (w : WordsView) : Type 0 where
  pub protocol : (p : Span) (k : ℕ) → protocol_of (declared w) (word w.text p) ≡ Some k → IsProtocol w.lexicon (proto_of w p)
  pub associated : (p a : Span) (k : ℕ) → protocol_of (declared w) (word w.text p) ≡ Some k → declares (declared w) k (word w.text a) ≡ true
      → (assoc_by w.lexicon.associated (proto_of w p) (name_of w a)).rank < length w.lexicon.associated
  pub member : (inherits : ℕ → ℕ → Bool) (k : ℕ) (a : Span) → has_member (declared w) inherits k (word w.text a) ≡ true
      → IsName w.lexicon (name_of w a)
  pub primaries : (p : Span) → All (λ a. IsName w.lexicon (name_of w a)) (primaries_named w p)

abbrev pub IsRanked : WordsView → Bytes → Type 0
IsRanked w name = IsName w.lexicon (name_by w.lexicon.names name)

-- No name of a part is refused, and the names that it mentions have ranks.
abbrev pub Resolved : WordsView → List Refusal → List Bytes → Type 0
Resolved w refusals mentioned = All Never refusals × All (IsRanked w) mentioned

-- The names of the text resolve.
pub record AreResolved (w : WordsView) (inherits : ℕ → ℕ → Bool) : Type 0 where
  pub refers : Refers w
  pub protocol_at : (i : ℕ) (p : ProtocolDecl) → slice_get w.skeleton.protocols i ≡ Some p
      → Resolved w (of_protocol w.text (declared w) inherits i p) (names.in_protocol w.text p)
  pub struct_at : (i : ℕ) (t : StructDecl) → slice_get w.skeleton.structs i ≡ Some t
      → Resolved w (of_struct w.text (declared w) i t) (names.in_struct w.text t)
  pub function_at : (i : ℕ) (f : FunctionDecl) → slice_get w.skeleton.functions i ≡ Some f
      → Resolved w (of_function w.text (declared w) i f) (names.in_function w.text f)
  pub queries : All (λ q. Resolved w (of_query w.text (declared w) q) (names.in_query w.text q)) w.skeleton.queries

module _ (text : Bytes) (s : Skeleton) (x : LexiconView) (is : IsLexiconOf text s x) where
  abbrev words : WordsView
  words = record { text = text; skeleton = s; lexicon = x }

  -- the protocol of this name
  pub protocol_named : (name : Bytes) (k : ℕ) → protocol_of (declared words) name ≡ Some k
      → (p : ProtocolDecl) × (slice_get s.protocols k ≡ Some p) × (word text p.name ≡ name)
  protocol_named name k e =
      let h : protocol_of (spaces text s) name ≡ Some k = subst (λ (d : Spaces). protocol_of d name ≡ Some k) is.resolved.declared e in
      declared_at text (λ (p : ProtocolDecl). p.name) s.protocols name k
      (referred (spaces text s).protocols (spaces text s).structs name k h)

  -- Each protocol has a rank.
  pub protocol_is : (k : ℕ) (p : ProtocolDecl) → slice_get s.protocols k ≡ Some p → IsProtocol x (proto_by x.protocols (word text p.name))
  protocol_is k p e =
      let name = word text p.name in
      let c =
      get_contains (protocol_names text s.protocols) k name (stands_mapped (λ (q : ProtocolDecl). word text q.name) s.protocols k p e) in
      slice_get_within x.protocols (rank x.protocols name) name
      (rank_is (Contains (protocol_names text s.protocols)) x.protocols is.protocols name c)

  named_is : (name : Bytes) (k : ℕ) → protocol_of (declared words) name ≡ Some k → IsProtocol x (proto_by x.protocols name)
  named_is name k e = let p = protocol_named name k e in subst (λ n. IsProtocol x (proto_by x.protocols n)) p.2 (protocol_is k p.0 p.1)

  abbrev members_of : ProtocolDecl → List Declaration
  members_of p = declarations text (map (λ (m : AssocDecl). m.name) p.members)

  -- A name that a protocol declares is that of an associated type of it.
  pub declared_member : (k : ℕ) (name : Bytes) → declares (declared words) k name ≡ true
      → (p : ProtocolDecl) × (m : AssocDecl) × (slice_get s.protocols k ≡ Some p) × Contains p.members m × (word text m.name ≡ name)
  declared_member k name e = by (slice_get s.protocols k) refl
    where
      h : is_declared (get_or (map members_of s.protocols) k []) name ≡ true
      h = subst (λ (d : Spaces). declares d k name ≡ true) is.resolved.declared e

      by : (o : Option ProtocolDecl) → slice_get s.protocols k ≡ o
          → (p : ProtocolDecl) × (m : AssocDecl) × (slice_get s.protocols k ≡ Some p) × Contains p.members m × (word text m.name ≡ name)
      by None n = let f : is_declared [] name ≡ true =
          subst (λ ds. is_declared ds name ≡ true) (past_mapped members_of s.protocols k [] n) h in absurd cc
      by (Some p) n =
          let f : is_declared (members_of p) name ≡ true =
          subst (λ ds. is_declared ds name ≡ true) (at_mapped members_of s.protocols k p [] n) h in
          let j = some_of (place (members_of p) name) f in
          let m = declared_at text (λ (m : AssocDecl). m.name) p.members name j.0 j.1 in
          (p, m.0, n, get_contains p.members j.0 m.0 m.1, m.2)

  -- the pair of a protocol and a name that it declares
  declared_pair : (k : ℕ) (name : Bytes) → declares (declared words) k name ≡ true
      → (p : ProtocolDecl) × (slice_get s.protocols k ≡ Some p)
      × Contains (declared_in text x.protocols x.names s.protocols) (pair (proto_by x.protocols (word text p.name)) (name_by x.names name))
  declared_pair k name e =
      let (p, m, at, c, called) = declared_member k name e in (
        p,
        at,
        in_pieces (declared_by text x.protocols x.names) s.protocols p
            (pair (proto_by x.protocols (word text p.name)) (name_by x.names name)) (get_contains s.protocols k p at)
            (subst (λ b. Contains (map (declared_name text s x.protocols x.names p) p.members) (pair (proto_by x.protocols
            (word text p.name)) (name_by x.names b))) called (contains_map (declared_name text s x.protocols x.names p) p.members m c)),
      )

  -- The associated type of a protocol and a name that it declares stands at its rank.
  pub associated_stands : (p a : Bytes) (k : ℕ) → protocol_of (declared words) p ≡ Some k → declares (declared words) k a ≡ true
      → slice_get x.associated (assoc_by x.associated (proto_by x.protocols p) (name_by x.names a)).rank
      ≡ Some (pair (proto_by x.protocols p) (name_by x.names a))
  associated_stands p a k e h =
      let q = protocol_named p k e in
      let r = declared_pair k a h in
      let same : word text r.0.name ≡ p = ap (λ (t : ProtocolDecl). word text t.name) (same_Some r.0 q.0 (sym r.1 ∙ q.1)) ∙ q.2 in
      let d = pair (proto_by x.protocols p) (name_by x.names a) in
      let there_too = subst (λ b.
      Contains (declared_in text x.protocols x.names s.protocols) (pair (proto_by x.protocols b) (name_by x.names a))) same r.2 in
      assoc_is x.associated d ((is.associated.same d).1 there_too)

  associated_is : (p a : Bytes) (k : ℕ) → protocol_of (declared words) p ≡ Some k → declares (declared words) k a ≡ true
      → (assoc_by x.associated (proto_by x.protocols p) (name_by x.names a)).rank < length x.associated
  associated_is p a k e h =
      let d = pair (proto_by x.protocols p) (name_by x.names a) in
      slice_get_within x.associated (assoc_by x.associated (proto_by x.protocols p) (name_by x.names a)).rank d
      (associated_stands p a k e h)

  member_is : (inherits : ℕ → ℕ → Bool) (k : ℕ) (name : Bytes) → has_member (declared words) inherits k name ≡ true
      → IsName x (name_by x.names name)
  member_is inherits k name e =
      let j = declared_somewhere (declared words) inherits k name e in
      let p = declared_pair j.0 name j.1 in
      named_within text s x.protocols x.names is.names (pair (proto_by x.protocols (word text p.0.name)) (name_by x.names name)) p.2

  module _ (resolve : HasNames text s) where
    abbrev d : Spaces
    d = declared words

    -- ---- the refusals of each part

    abbrev of_protocols : List Refusal
    of_protocols = by_place (of_protocol text d resolve.inherits) 0 s.protocols

    abbrev of_structs : List Refusal
    of_structs = by_place (of_struct text d) 0 s.structs

    abbrev of_functions : List Refusal
    of_functions = by_place (of_function text d) 0 s.functions

    abbrev of_queries : List Refusal
    of_queries = flat_map (of_query text d) s.queries

    none : All Never (refusals_in text d resolve.inherits s)
    none =
        let e : refusals_in text d resolve.inherits s ≡ [] =
        subst (λ (c : Spaces). refusals_in text c resolve.inherits s ≡ []) (sym is.resolved.declared) resolve.none in
        subst (All Never) (sym e) (All-nil Never)

    none_of_parts : All Never (of_protocols ++ ((of_structs ++ of_functions) ++ of_queries))
    none_of_parts = all_right Never (of_spaces d) (of_protocols ++ ((of_structs ++ of_functions) ++ of_queries)) none

    none_after : All Never ((of_structs ++ of_functions) ++ of_queries)
    none_after = all_right Never of_protocols ((of_structs ++ of_functions) ++ of_queries) none_of_parts

    none_of_signatures : All Never (of_structs ++ of_functions)
    none_of_signatures = all_left Never (of_structs ++ of_functions) of_queries none_after

    -- ---- the names in each part

    abbrev in_protocols : List Bytes
    in_protocols = flat_map (names.in_protocol text) s.protocols

    abbrev in_structs : List Bytes
    in_structs = flat_map (names.in_struct text) s.structs

    abbrev in_functions : List Bytes
    in_functions = flat_map (names.in_function text) s.functions

    abbrev in_queries : List Bytes
    in_queries = flat_map (names.in_query text) s.queries

    ranked : All (IsRanked words) (names.walked text s)
    ranked k n l =
        let name = get_or (names.walked text s) k n in
        slice_get_within x.names (rank x.names name) name (rank_is (Contains (mentioned text s)) x.names is.names name
        ((same_names text s name).0 (Contains-get_or (names.walked text s) k n l)))

    ranked_after : All (IsRanked words) (in_structs ++ (in_functions ++ in_queries))
    ranked_after = all_right (IsRanked words) in_protocols (in_structs ++ (in_functions ++ in_queries)) ranked

    ranked_last : All (IsRanked words) (in_functions ++ in_queries)
    ranked_last = all_right (IsRanked words) in_structs (in_functions ++ in_queries) ranked_after

    piece : {A : Type 0} (f : A → List Bytes) (items : List A) (i : ℕ) (item : A) → All (IsRanked words) (flat_map f items)
        → slice_get items i ≡ Some item → All (IsRanked words) (f item)
    piece f items i item h e = all_at (λ y. All (IsRanked words) (f y)) items i item (each_piece (IsRanked words) f items h) e

    -- ---- what they refer to

    primary_names : (p : ProtocolDecl) (k : ℕ) → slice_get s.protocols k ≡ Some p → All (λ a. IsName x (name_of words a)) p.primaries
    primary_names p k at =
        All-weaker (λ a. All Never (primary_of d resolve.inherits k (declaration text a))) (λ a. IsName x (name_of words a))
        (λ a h. member_is resolve.inherits k (word text a) (passes (has_member d resolve.inherits k (word text a)) NoSuchMember a.start h))
        p.primaries
        (each_mapped (λ b. All Never (primary_of d resolve.inherits k b)) (declaration text) p.primaries
        (each_piece Never (primary_of d resolve.inherits k) (declarations text p.primaries) each))
      where
        refusals : All Never (of_primaries d resolve.inherits k)
        refusals =
            let zero_first : 0 + k ≡ k = omega arith in
            let after : List Refusal = flat_map (of_entity text d (begins_in_protocol d resolve.inherits k)) p.inherits
            ++ (flat_map (of_requirement text d (begins_in_protocol d resolve.inherits k)) p.clause
            ++ of_members text d (begins_in_protocol d resolve.inherits k) k p.members) in
            all_left Never (of_primaries d resolve.inherits k) after
            (placed_piece Never (of_protocol text d resolve.inherits) 0 s.protocols k k p zero_first at
            (all_left Never of_protocols ((of_structs ++ of_functions) ++ of_queries) none_of_parts))

        same : get_or d.primaries k [] ≡ declarations text p.primaries
        same =
            ap (λ (c : Spaces). get_or c.primaries k []) is.resolved.declared
            ∙ at_mapped (λ (q : ProtocolDecl). declarations text q.primaries) s.protocols k p [] at

        each : All Never (flat_map (primary_of d resolve.inherits k) (declarations text p.primaries))
        each = subst (λ ds. All Never (flat_map (primary_of d resolve.inherits k) ds)) same (all_right Never (duplicates (get_or d.primaries
            k []) (get_or d.primaries k [])) (flat_map (primary_of d resolve.inherits k) (get_or d.primaries k [])) refusals)

    primaries_are : (p : Span) → All (λ a. IsName x (name_of words a)) (primaries_named words p)
    primaries_are p = of_named (protocol_of d (word text p))
      where
        of_stated : (k : ℕ) (o : Option ProtocolDecl) → slice_get s.protocols k ≡ o → All (λ a. IsName x (name_of words a)) (primaries_of o)
        of_stated k None e = All-nil (λ a. IsName x (name_of words a))
        of_stated k (Some q) e = primary_names q k e

        of_named : (o : Option ℕ) → All (λ a. IsName x (name_of words a)) (primaries_at s.protocols o)
        of_named None = All-nil (λ a. IsName x (name_of words a))
        of_named (Some k) = of_stated k (slice_get s.protocols k) refl

    refers : Refers words
    refers = record {
      protocol = λ p k e. named_is (word text p) k e;
      associated = λ p a k e h. associated_is (word text p) (word text a) k e h;
      member = λ inherits k a h. member_is inherits k (word text a) h;
      primaries = primaries_are;
    }

    pub resolved : AreResolved words resolve.inherits
    resolved = record {
      refers = refers;
      protocol_at = λ i p e. (
        placed_piece Never (of_protocol text d resolve.inherits) 0 s.protocols i i p (from_zero i) e
            (all_left Never of_protocols ((of_structs ++ of_functions) ++ of_queries) none_of_parts),
        piece (names.in_protocol text) s.protocols i p
            (all_left (IsRanked words) in_protocols (in_structs ++ (in_functions ++ in_queries)) ranked) e,
      );
      struct_at = λ i t e. (
        placed_piece Never (of_struct text d) 0 s.structs i i t (from_zero i) e (all_left Never of_structs of_functions none_of_signatures),
        piece (names.in_struct text) s.structs i t (all_left (IsRanked words) in_structs (in_functions ++ in_queries) ranked_after) e,
      );
      function_at = λ i f e. (
        placed_piece Never (of_function text d) 0 s.functions i i f (from_zero i) e
            (all_right Never of_structs of_functions none_of_signatures),
        piece (names.in_function text) s.functions i f (all_left (IsRanked words) in_functions in_queries ranked_last) e,
      );
      queries = λ k q l. (
        each_piece Never (of_query text d) s.queries (all_right Never (of_structs ++ of_functions) of_queries none_after) k q l,
        each_piece (IsRanked words) (names.in_query text) s.queries (all_right (IsRanked words) in_functions in_queries ranked_last) k q l,
      );
    }
      where
        from_zero : (i : ℕ) → 0 + i ≡ i
        from_zero i = omega arith

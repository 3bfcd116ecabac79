-- The names that protocols declare.
use Rattle.std.proofs.Common.{◌≡◌, ◌+◌, ◌<◌, List, [], ◌∷◌, length, Some, Contains, refl, sym, ap, subst, ◌∙◌, length-append}
use Rattle.std.specs.List.{flat_map}
use Rattle.std.proofs.lemmas.List.{length-map}
use Rattle.std.proofs.lemmas.List.Concat.{flat_map-cons}
use Rattle.std.proofs.lemmas.List.Elements.{Contains-append_left}
use Rattle.std.proofs.lemmas.Option.{slice_get-get_or}
use Rattle.swreq_rank.proofs.swreq_lemmas.Members.{contains_map}
use Rattle.swreq_decl.specs.declared.skeleton.AssocDecl.{AssocDecl}
use Rattle.swreq_decl.specs.declared.skeleton.ProtocolDecl.{ProtocolDecl}
use Rattle.swreq_decl.specs.declared.skeleton.Skeleton.{Skeleton}
use Rattle.swreq_names.specs.Spaces.{word}
use Rattle.swreq_names.specs.Mentioned as names
use Rattle.swreq_names.specs.Mentioned.{mentioned}
use Rattle.swreq_names.specs.Parts.{types}
pub use Rattle.swreq_names.proofs.Pieces.{from_pieces, in_pieces}
use Rattle.swreq_lexicon.specs.declared.pair.ProtocolName.{ProtocolName}
use Rattle.swreq_lexicon.specs.Lexicons.{pair, proto_by, name_by}
use Rattle.swreq_rank.specs.Ranks.{Bytes, IsRanking, bytes_cmp, rank}
use Rattle.swreq_lexicon.specs.Texts.{declared_by, declared_in}
use Rattle.swreq_lexicon.proofs.Keyed.{key_of}
use Rattle.swreq_lexicon.proofs.Positions.{rank_of_there}
use Rattle.swreq_rank.proofs.Rising.{rising_from_sorted}

module _ {A B : Type 0} (f : A → List B) where
  pub same_sizes : {C : Type 0} (g : A → List C) → ((x : A) → length (f x) ≡ length (g x)) → (xs : List A)
      → length (flat_map f xs) ≡ length (flat_map g xs)
  same_sizes g same [] = refl
  same_sizes g same (z ∷ zs) =
      ap length (flat_map-cons f z zs) ∙ length-append (f z) (flat_map f zs)
      ∙ (λ i. same z i + same_sizes g same zs i)
      ∙ sym (ap length (flat_map-cons g z zs) ∙ length-append (g z) (flat_map g zs))

-- ---- names that have ranks

module _ (text : Bytes) (s : Skeleton) (protocols ranking : List Bytes) where
  abbrev any : ProtocolName → AssocDecl
  any d = record { name = record { start = 0; end = 0 }; inherits = []; clause = [] }

  abbrev pub declared_name : ProtocolDecl → AssocDecl → ProtocolName
  declared_name p m = pair (proto_by protocols (word text p.name)) (name_by ranking (word text m.name))

  mentions : (p : ProtocolDecl) (m : AssocDecl) → Contains s.protocols p → Contains p.members m
      → Contains (mentioned text s) (word text m.name)
  mentions p m c d =
      let w = word text m.name in
      Contains-append_left (flat_map (names.declared_by text) s.protocols) (flat_map (λ t. names.members_in text t.1) (types s)) w
      (in_pieces (names.declared_by text) s.protocols p w c (contains_map (λ (n : AssocDecl). word text n.name) p.members m d))

  rank_within : IsRanking bytes_cmp (Contains (mentioned text s)) ranking → (w : Bytes) → Contains (mentioned text s) w
      → rank ranking w < length ranking
  rank_within are w c =
      let h = (are.same w).1 c in
      let e =
      rank_of_there ranking w h.0 (rising_from_sorted bytes_cmp ranking are.sorted) (slice_get-get_or ranking h.0 w h.1 ∙ ap Some h.2) in
      subst (λ r. r < length ranking) e h.1

  pub named_within : IsRanking bytes_cmp (Contains (mentioned text s)) ranking → (d : ProtocolName)
      → Contains (declared_in text protocols ranking s.protocols) d → d.name.rank < length ranking
  named_within are d c =
      let p = from_pieces (declared_by text protocols ranking) s.protocols d c in
      let m = key_of (declared_name p.0) any p.0.members d p.2 in
      subst (λ (e : ProtocolName). e.name.rank < length ranking) m.2 (rank_within are (word text m.0.name) (mentions p.0 m.0 p.1 m.1))

  pub declared_length : length (declared_in text protocols ranking s.protocols)
      ≡ length (flat_map (λ (p : ProtocolDecl). p.members) s.protocols)
  declared_length = same_sizes (declared_by text protocols ranking) (λ (p : ProtocolDecl). p.members)
      (λ p. length-map p.members (declared_name p)) s.protocols

-- A text has one lexicon.
use Rattle.std.proofs.Common.{◌≡◌, ◌∙◌, refl, sym, ap, ap₂, subst, ℕ, ◌<◌, Bool, cond, not, ◌&&◌, nat_eq, List, [], length, map, slice_get, Contains, Some, get_or}
use Rattle.std.specs.Cmp.{IsTotalOrder}
use Rattle.std.specs.declared.cmp.Ordering.{Ordering}
use Rattle.std.specs.Ordering.{nat_cmp, ordering_then}
use Rattle.std.proofs.lemmas.Cmp.{back_total, nat_cmp_total, nat_list_cmp_total, on_total, then_total}
use Rattle.std.proofs.lemmas.Grind.{same_number_lists}
use Rattle.std.proofs.lemmas.Option.{same_Some, slice_get-get_or}
use Rattle.swreq_decl.specs.declared.skeleton.ProtocolDecl.{ProtocolDecl}
use Rattle.swreq_decl.specs.declared.skeleton.Skeleton.{Skeleton}
use Rattle.swreq_names.specs.Mentioned.{mentioned}
use Rattle.swreq_names.specs.Names.{HasDeclared, NamesView}
use Rattle.swreq_names.specs.Spaces.{word}
use Rattle.swreq_derive.specs.swreq_param.declared.ids.ProtoId.{ProtoId}
use Rattle.swreq_rank.specs.Ranks.{Bytes, IsRanking}
use Rattle.swreq_rank.proofs.Tests.{same_members}
use Rattle.swreq_lexicon.specs.Associated as over
use Rattle.swreq_lexicon.specs.declared.pair.ProtocolName.{ProtocolName}
use Rattle.swreq_lexicon.specs.Lexicons.{proto_by}
use Rattle.swreq_lexicon.specs.Texts.{IsLexiconOf, declared_in, protocol_names}
use Rattle.swreq_lexicon.specs.Views.{HasMember, IsProtocol, LexiconView, inherits, place_of, symbol_cmp}
use Rattle.swreq_lexicon.proofs.RankLaws.{assoc_total}
use Rattle.swreq_lexicon.proofs.Rankings.{one_ranking}

-- two rankings of the same associated types, each by the roots among its own items, are one list
module _ (inherits : ProtoId → ProtoId → Bool) (P : ProtocolName → Type 0) (xs ys : List ProtocolName)
    (of_xs : IsRanking (over.assoc_cmp inherits xs) P xs) (of_ys : IsRanking (over.assoc_cmp inherits ys) P ys) where
  same_roots : (d : ProtocolName) → over.is_root inherits xs d ≡ over.is_root inherits ys d
  same_roots d = ap not (same_members (λ e. nat_eq d.name.rank e.name.rank && inherits d.proto e.proto) xs ys
      (λ e. (λ c. (of_ys.same e).1 ((of_xs.same e).0 c), λ c. (of_xs.same e).1 ((of_ys.same e).0 c))))

  one_list : xs ≡ ys
  one_list = one_ranking (over.assoc_cmp inherits xs) (over.assoc_cmp inherits ys) (assoc_total inherits xs) P P xs ys of_xs of_ys
      (λ d e c k. ap₂ (λ (a b : Bool). ordering_then (nat_cmp d.name.rank e.name.rank)
      (ordering_then (nat_cmp (cond a 0 1) (cond b 0 1)) (nat_cmp d.proto.rank e.proto.rank)))
      (same_roots d) (same_roots e))
      (λ d c. c) (λ d c. c)

one_of : {K : Type 0} {R : K → K → Ordering} → IsTotalOrder R → (P : K → Type 0) (xs ys : List K) → IsRanking R P xs
    → IsRanking R P ys → xs ≡ ys
one_of {R = R} total P xs ys of_xs of_ys = one_ranking R R total P P xs ys of_xs of_ys (λ a b c d. refl) (λ a c. c) (λ a c. c)

module _ (text : Bytes) (s : Skeleton) (x y : LexiconView) (of_x : IsLexiconOf text s x) (of_y : IsLexiconOf text s y)
    (one : (m n : NamesView) → HasDeclared text s m → HasDeclared text s n → m ≡ n) where
  same_resolved : x.resolved ≡ y.resolved
  same_resolved = one x.resolved y.resolved of_x.resolved of_y.resolved

  same_protocols : x.protocols ≡ y.protocols
  same_protocols =
      one_of nat_list_cmp_total (Contains (protocol_names text s.protocols)) x.protocols y.protocols of_x.protocols of_y.protocols

  same_names : x.names ≡ y.names
  same_names = one_of nat_list_cmp_total (Contains (mentioned text s)) x.names y.names of_x.names of_y.names

  same_order : x.written_order ≡ y.written_order
  same_order =
      of_x.written_order ∙ ap (λ (ps : List Bytes). map (λ (p : ProtocolDecl). proto_by ps (word text p.name)) s.protocols) same_protocols
      ∙ sym of_y.written_order

  same_place : (p : ProtoId) → IsProtocol x p → place_of x p ≡ place_of y p
  same_place p h =
      let name = get_or x.protocols p.rank [] in
      let at : slice_get x.protocols p.rank ≡ Some name = slice_get-get_or x.protocols p.rank [] h in
      same_Some _ _
      (sym (of_x.places p name at) ∙ of_y.places p name (subst (λ (ps : List Bytes). slice_get ps p.rank ≡ Some name) same_protocols at))

  same_places : x.places ≡ y.places
  same_places = same_number_lists x.places y.places (of_x.placed ∙ ap length same_protocols ∙ sym of_y.placed)
      (λ k h. same_place (record { rank = k }) (subst (λ (n : ℕ). k < n) of_x.placed h))

  -- If protocols, names, places and inheritance are the same, so are the ranks that depend on them.
  abbrev with_ranks : List ProtocolName → List ProtocolName → LexiconView
  with_ranks associated symbols = record {
    protocols = y.protocols;
    places = y.places;
    written_order = y.written_order;
    names = y.names;
    associated = associated;
    symbols = symbols;
    resolved = y.resolved;
  }

  x_with : x ≡ with_ranks x.associated x.symbols
  x_with = λ i. record {
    protocols = same_protocols i;
    places = same_places i;
    written_order = same_order i;
    names = same_names i;
    associated = x.associated;
    symbols = x.symbols;
    resolved = same_resolved i;
  }

  of_it : IsLexiconOf text s (with_ranks x.associated x.symbols)
  of_it = subst (IsLexiconOf text s) x_with of_x

  same_associated : x.associated ≡ y.associated
  same_associated = one_list (inherits y)
      (Contains (declared_in text y.protocols y.names s.protocols)) x.associated y.associated of_it.associated of_y.associated

  symbols_total : IsTotalOrder (symbol_cmp y)
  symbols_total = then_total (on_total (λ (d : ProtocolName). d.name.rank) nat_cmp_total) (on_total (λ (d : ProtocolName). d.proto)
      (then_total (back_total (on_total (over.depth (inherits y) (length y.protocols)) nat_cmp_total))
      (on_total (λ (p : ProtoId). p.rank) nat_cmp_total)))

  same_symbols : x.symbols ≡ y.symbols
  same_symbols = one_of symbols_total (λ d. IsProtocol y d.proto × HasMember y d.proto d.name) x.symbols y.symbols
      (subst (λ (ds : List ProtocolName). IsLexiconOf text s (with_ranks ds x.symbols)) same_associated of_it).symbols of_y.symbols

  pub same_lexicon : x ≡ y
  same_lexicon = x_with ∙ ap₂ with_ranks same_associated same_symbols

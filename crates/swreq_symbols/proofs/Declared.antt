-- Associated types and member symbols, each at its rank.
use Rattle.std.proofs.Common.{◌≡◌, ℕ, ◌<◌, length, get_or, map, slice_get, Some, inl, ap, sym, subst, ◌∙◌}
use Rattle.std.proofs.lemmas.List.{length-map, get_or-map}
use Rattle.std.proofs.lemmas.Option.{get_or_from_slice_get, slice_get-get_or, slice_get_within}
use Rattle.swreq_complete.proofs.swreq_lemmas.Elements.{get_contains}
use Rattle.swreq_correspondence.specs.swreq_param.declared.ids.AssocId.{AssocId}
use Rattle.swreq_correspondence.specs.swreq_param.declared.ids.NameId.{NameId}
use Rattle.swreq_correspondence.specs.swreq_param.declared.ids.ProtoId.{ProtoId}
use Rattle.swreq_world.specs.swreq_lexicon.declared.pair.ProtocolName.{ProtocolName}
use Rattle.swreq_world.specs.swreq_lexicon.Lexicons.{pair}
use Rattle.swreq_world.specs.swreq_lexicon.Views.{LexiconView, IsName, IsProtocol}
use Rattle.swreq_world.proofs.swreq_lexicon.RankLaws.{assoc_is, ranked}
use Rattle.swreq_correspondence.specs.Symbols.{member_at}
use Rattle.swreq_world.specs.Closed.{AreIds}
use Rattle.swreq_symbols.specs.Meaning.{associated_at, member_name, rank_in, symbols_of}
use Rattle.swreq_symbols.specs.Vanishing.{DeclaresType}

-- ---- member symbols

module _ (x : LexiconView) where
  pub member_is : (k : ℕ) (d : ProtocolName) → slice_get x.symbols k ≡ Some d → member_at (symbols_of x) k ≡ member_name d
  member_is k d e =
      get_or-map member_name x.symbols k d (record { proto = record { rank = 0 }; name = record { rank = 0 } })
      (slice_get_within x.symbols k d e)
      ∙ ap member_name (get_or_from_slice_get x.symbols k d d e)

  pub is_rank : (k : ℕ) (d : ProtocolName) → slice_get x.symbols k ≡ Some d → k < length (map member_name x.symbols)
  is_rank k d e = subst (λ n. k < n) (sym (length-map x.symbols member_name)) (slice_get_within x.symbols k d e)

  -- the member symbol with a rank
  pub of_rank : (k : ℕ) → k < length (map member_name x.symbols) → (d : ProtocolName) × (slice_get x.symbols k ≡ Some d)
  of_rank k l =
      let none : ProtocolName = pair (record { rank = 0 }) (record { rank = 0 }) in
      (get_or x.symbols k none, slice_get-get_or x.symbols k none (subst (λ n. k < n) (length-map x.symbols member_name) l))

-- ---- associated types

module _ (x : LexiconView) (p : ProtoId) (a : NameId) (d : AssocId) where
  pub at_rank : DeclaresType x p a d → slice_get x.associated d.rank ≡ Some (pair p a)
  at_rank c = (ranked x.associated (record { proto = p; name = a; assoc = d })).0 c

  pub from_rank : slice_get x.associated d.rank ≡ Some (pair p a) → DeclaresType x p a d
  from_rank e = (ranked x.associated (record { proto = p; name = a; assoc = d })).1 e

  module _ (ids : AreIds x) (c : DeclaresType x p a d) where
    pub of_text : IsProtocol x p × IsName x a
    of_text = ids.associated (pair p a) (get_contains x.associated d.rank (pair p a) (at_rank c))

    -- it has the member symbol of its protocol and name
    pub symbol_at : slice_get x.symbols ((symbols_of x).rank_of d) ≡ Some (pair p a)
    symbol_at =
        let is : associated_at x d ≡ pair p a =
        get_or_from_slice_get x.associated d.rank (pair p a) (pair (record { rank = 0 }) (record { rank = 0 })) (at_rank c) in
        let has = (ids.symbols p a).1 (of_text.0, inl (get_contains x.associated d.rank (pair p a) (at_rank c))) in
        ap (λ z. slice_get x.symbols (rank_in x.symbols z)) is ∙ assoc_is x.symbols (pair p a) has

    pub one_rank : (k : ℕ) → slice_get x.symbols k ≡ Some (pair p a) → k ≡ (symbols_of x).rank_of d
    one_rank k e = ids.one_symbol k ((symbols_of x).rank_of d) (pair p a) e symbol_at

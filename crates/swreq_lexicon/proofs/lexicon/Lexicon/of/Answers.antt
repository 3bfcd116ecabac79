use Rattle.std.proofs.Common.{◌≡◌, ◌∙◌, ◌<◌, List, map, slice_get, Some, Contains, sym, ap, subst}
use Rattle.std.specs.List.{position_from}
use Rattle.std.specs.Str.{bytes_eq}
use Rattle.swreq_decl.specs.declared.skeleton.ProtocolDecl.{ProtocolDecl}
use Rattle.swreq_names.specs.Names.{HasDeclared}
use Rattle.swreq_names.specs.Spaces.{word}
use Rattle.swreq_derive.specs.swreq_param.declared.ids.ProtoId.{ProtoId}
use Rattle.swreq_lexicon.specs.Lexicons.{proto_by}
use Rattle.swreq_rank.specs.Ranks.{Bytes, IsRanking, bytes_cmp}
use Rattle.swreq_lexicon.specs.Symbols.{has_member, AreStarts}
use Rattle.swreq_lexicon.specs.Texts.{protocol_names}
use Rattle.swreq_lexicon.specs.Views.{place_by, inherits_by}
use Rattle.swreq_lexicon.proofs.Whole.{lexicon_is}
use Rattle.swreq_lexicon.proofs.lexicon.Lexicon.of.Goals as goal

pub of-requires-3-clause-within : goal.of-requires-3-clause-within
of-requires-3-clause-within c d h =
    subst (λ n. d.name.rank < n) (c.len.ensures.len ∙ sym c.len-2.ensures.len) (c.in_ok-associated.ensures.within d h)

pub invariant_of-result : goal.invariant_of-result
invariant_of-result c = (
  c.requires.small.names c.in_ok-names.names c.in_ok-names.ensures,
  c.in_ok-symbols.ensures.few,
  subst (λ n. AreStarts c.in_ok-symbols.symbols.order (has_member (inherits_by c.in_ok-protocols.protocols.places
      c.in_ok-protocols.protocols.resolved.inherits) c.in_ok-associated.associated) n c.in_ok-symbols.symbols.starts)
      c.len-2.ensures.len c.in_ok-symbols.ensures.starts,
  c.in_ok-symbols.ensures.rows,
)

pub returns : goal.returns
returns c =
    let text = c.args.text.now in
    let s = c.args.skeleton.now in
    let ps = c.in_ok-protocols.protocols in
    lexicon_is text s ps c.in_ok-names.names c.in_ok-pairs.pairs.items c.in_ok-associated.associated c.in_ok-symbols.symbols.order
    c.in_ok-pairs.ensures.within c.in_ok-associated.ensures.same c.in_ok-symbols.ensures.order
    (subst (λ (ds : List ProtocolDecl). IsRanking bytes_cmp (Contains (protocol_names text ds)) ps.protocols) c.items.ensures
    c.in_ok-protocols.ensures.ranking)
    c.in_ok-names.ensures
    c.in_ok-protocols.ensures.placed
    (c.in_ok-protocols.ensures.written
    ∙ ap (λ (ds : List ProtocolDecl). map (λ p. proto_by ps.protocols (word text p.name)) ds) c.items.ensures)
    (subst (λ (ds : List ProtocolDecl). (p : ProtoId) (name : Bytes) → slice_get ps.protocols p.rank ≡ Some name → position_from
    (bytes_eq name) 0 (protocol_names text ds) ≡ Some (place_by ps.places p)) c.items.ensures c.in_ok-protocols.ensures.places)
    (subst (HasDeclared text s) (sym c.in_ok-protocols.ensures.resolved) c.requires.declared)
    c.in_ok-pairs.ensures.is
    c.in_ok-associated.ensures.sorted

use Rattle.std.proofs.Common.{◌∙◌, ◌<◌, ℕ, List, length, get_or, map, Contains, sym, ap, subst, arith}
use Rattle.std.proofs.lemmas.List.{length-map}
use Rattle.swreq_closure.specs.Walks.{AreApart}
use Rattle.swreq_decl.specs.declared.skeleton.ProtocolDecl.{ProtocolDecl}
use Rattle.swreq_names.specs.Spaces.{word}
use Rattle.swreq_names.specs.declared.directory.Declaration.{Declaration}
use Rattle.swreq_lexicon.specs.Lexicons.{proto_by}
use Rattle.swreq_lexicon.specs.Heirs.{HaveProtocols}
use Rattle.swreq_lexicon.specs.PlaceSets.{IsSetOf}
use Rattle.swreq_lexicon.specs.Texts.{protocol_names}
use Rattle.swreq_lexicon.proofs.Places.{declared_names, declared_place, names_length}
use Rattle.swreq_lexicon.proofs.PlaceSets.{first_place, places_apart, places_length, places_within}
use Rattle.swreq_lexicon.proofs.protocols.Protocols.of.Goals as goal

pub returns-clause-places : goal.returns-clause-places
returns-clause-places c p name h =
    let all = protocol_names c.args.text.now c.args.protocols.now in
    let ds = c.args.resolved.declared.protocols in
    let names = ap (map (λ (d : Declaration). d.name)) c.requires.declared ∙ declared_names c.args.text.now c.args.protocols.now in
    first_place all c.in_ok-ranks.ranks ds c.in_ok-places.places.items names c.in_ok-ranks.ensures.ranking
    c.in_ok-places.ensures p.rank name h

pub set_of-requires-clause-within : goal.set_of-requires-clause-within
set_of-requires-clause-within c =
    let all = protocol_names c.args.text.now c.args.protocols.now in
    let ds = c.args.resolved.declared.protocols in
    let names = ap (map (λ (d : Declaration). d.name)) c.requires.declared ∙ declared_names c.args.text.now c.args.protocols.now in
    let count = names_length c.args.text.now c.args.protocols.now in
    subst (λ (xs : List ℕ). (r : ℕ) → r < length xs → get_or xs r 0 < length c.args.protocols.now) (sym c.deref.ensures.value)
    (λ r h.
    let within =
    places_within all c.in_ok-ranks.ranks ds c.in_ok-places.places.items names c.in_ok-ranks.ensures.ranking c.in_ok-places.ensures r h in
    omega (arith, within, count))

pub set_of-requires-clause-apart : goal.set_of-requires-clause-apart
set_of-requires-clause-apart c =
    let all = protocol_names c.args.text.now c.args.protocols.now in
    let ds = c.args.resolved.declared.protocols in
    let names = ap (map (λ (d : Declaration). d.name)) c.requires.declared ∙ declared_names c.args.text.now c.args.protocols.now in
    subst AreApart (sym c.deref.ensures.value)
    (places_apart all c.in_ok-ranks.ranks ds c.in_ok-places.places.items names c.in_ok-ranks.ensures.ranking c.in_ok-places.ensures)

pub invariant_of-result : goal.invariant_of-result
invariant_of-result c =
    let all = protocol_names c.args.text.now c.args.protocols.now in
    let ds = c.args.resolved.declared.protocols in
    let names = ap (map (λ (d : Declaration). d.name)) c.requires.declared ∙ declared_names c.args.text.now c.args.protocols.now in
    let few = c.in_ok-ranks.ensures.few in
    let small = c.requires.small in
    let size = ap length c.in_ok-written_order.ensures
    ∙ length-map c.args.protocols.now (λ (p : ProtocolDecl). proto_by c.in_ok-ranks.ranks (word c.args.text.now p.name)) in
    let room = c.in_ok-firsts.ensures.room in (
      omega (arith, few, small),
      omega (arith, few, size),
      places_length all c.in_ok-ranks.ranks ds c.in_ok-places.places.items names c.in_ok-ranks.ensures.ranking c.in_ok-places.ensures,
      omega (arith, room, small),
      subst (λ (xs : List ℕ). IsSetOf xs c.in_ok-firsts.firsts) c.deref.ensures.value c.in_ok-firsts.ensures.set,
      subst (λ (xs : List ℕ). HaveProtocols ds xs (length c.in_ok-ranks.ranks)) (sym c.in_ok-places.ensures)
          (declared_place c.in_ok-ranks.ranks ds (λ q h. (c.in_ok-ranks.ensures.ranking.same q).1 (subst (λ xs. Contains xs q) names h))),
    )

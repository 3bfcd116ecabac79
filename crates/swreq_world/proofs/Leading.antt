-- In the world of a text whose names resolve, written inheritance leads from a protocol to those that it inherits.
use Rattle.std.proofs.Common.{◌≡◌, ◌↔◌, ℕ, [], Some, get_or, map, slice_get, Contains, IsTrue, refl, sym, ap, subst, ◌∙◌}
use Rattle.std.specs.List.{All}
use Rattle.std.proofs.lemmas.Option.{same_Some, slice_get-get_or}
use Rattle.swreq_resolve.specs.swreq_closure.Chains.{Leads, next}
use Rattle.swreq_resolve.specs.swreq_closure.Chains.Leads.{more, step}
use Rattle.swreq_resolve.proofs.swreq_closure.Marks.{chain_on}
use Rattle.swreq_lexicon.specs.swreq_decl.declared.skeleton.ProtocolDecl.{ProtocolDecl}
use Rattle.swreq_lexicon.specs.swreq_decl.declared.skeleton.Skeleton.{Skeleton}
use Rattle.swreq_lexicon.specs.swreq_derive.Derivation.{TermFacts}
use Rattle.swreq_lexicon.specs.swreq_derive.Derivation.TermRequirement.{Conforms}
use Rattle.swreq_lexicon.specs.swreq_derive.Inheritance.{InheritsDirectly, LeadsTo}
use Rattle.swreq_lexicon.specs.swreq_derive.Inheritance.LeadsTo.{further, here}
use Rattle.swreq_lexicon.specs.swreq_names.Inheritance.{direct, inheritance}
use Rattle.swreq_resolve.specs.Resolving.{HasNames}
use Rattle.swreq_resolve.specs.Refusals as refusals
use Rattle.swreq_lexicon.specs.swreq_names.Spaces.{Spaces, place, protocol_of, spaces, word}
use Rattle.swreq_param.specs.declared.ids.ProtoId.{ProtoId}
use Rattle.swreq_param.specs.Terms.{self}
use Rattle.swreq_lexicon.specs.Lexicons.{proto_by}
use Rattle.swreq_lexicon.specs.swreq_rank.Ranks.{Bytes}
use Rattle.swreq_lexicon.specs.Views.{IsProtocol, LexiconView, inherits, place_of}
use Rattle.swreq_lexicon.proofs.RankLaws.{meant, written_at}
use Rattle.swreq_param.proofs.swreq_lemmas.Members.{contains_map, contains_of_map}
use Rattle.swreq_lowering.specs.Requirements.{PlacedRequirement, in_protocol}
use Rattle.swreq_lowering.specs.Words.{WordsView, proto_of}
use Rattle.swreq_world.specs.FactsAt.{facts_of}
use Rattle.swreq_world.specs.Inheritance.{LeadsOnTo}
use Rattle.swreq_world.specs.Text.{of_place, of_protocol, requirements_named}
use Rattle.swreq_world.specs.WorldOf.{IsWorldOf, words_of}
use Rattle.swreq_world.specs.Worlds.{TextWorld, requirements_of}
use Rattle.swreq_world.proofs.Conforming.{inherits_directly}
use Rattle.swreq_world.proofs.Everywhere.{at_mapped}
use Rattle.swreq_world.proofs.Inheriting.{direct_says}
use Rattle.swreq_world.proofs.OnceDeclared.{protocol_meant}
use Rattle.swreq_world.proofs.Resolving.{Never, declared_at, protocol_is, referred, resolved}

module _ (text : Bytes) (s : Skeleton) (names : HasNames text s) (w : TextWorld) (is : IsWorldOf text s w) where
  abbrev d : Spaces
  d = spaces text s

  abbrev x : LexiconView
  x = w.lexicon

  abbrev words : WordsView
  words = words_of text s w

  abbrev f : TermFacts
  f = facts_of w

  -- ---- a protocol and its place

  named_at : (p : ProtoId) → IsProtocol x p → slice_get x.protocols p.rank ≡ Some (get_or x.protocols p.rank [])
  named_at p h = slice_get-get_or x.protocols p.rank [] h

  placed_at : (p : ProtoId) → IsProtocol x p → place d.protocols (get_or x.protocols p.rank []) ≡ Some (place_of x p)
  placed_at p h = is.lexicon.places p (get_or x.protocols p.rank []) (named_at p h)

  declared_there : (p : ProtoId) → IsProtocol x p → (q : ProtocolDecl) × (slice_get s.protocols (place_of x p) ≡ Some q)
  declared_there p h =
      let (q, at, e) =
      declared_at text (λ (q : ProtocolDecl). q.name) s.protocols (get_or x.protocols p.rank []) (place_of x p) (placed_at p h) in
      (q, at)

  one_protocol : (p q : ProtoId) → IsProtocol x p → IsProtocol x q → place_of x p ≡ place_of x q → p ≡ q
  one_protocol p q h k e =
      same_Some p q (sym (written_at text s x is.lexicon p h) ∙ ap (slice_get x.written_order) e ∙ written_at text s x is.lexicon q k)

  -- what is written in it
  written_in : (p : ProtoId) → IsProtocol x p → (q : ProtocolDecl) → slice_get s.protocols (place_of x p) ≡ Some q
      → requirements_of w p ≡ in_protocol words q
  written_in p h q at =
      ap (λ z. get_or z p.rank []) is.requirements
      ∙ at_mapped (requirements_named words) x.protocols p.rank (get_or x.protocols p.rank []) [] (named_at p h)
      ∙ ap (of_place words)
      (ap (λ z. protocol_of z (get_or x.protocols p.rank [])) is.lexicon.resolved.declared
      ∙ protocol_meant text s names (get_or x.protocols p.rank []) (place_of x p) (placed_at p h))
      ∙ ap (of_protocol words) at

  -- the protocol that a name refers to
  record IsNamed (p : ProtoId) (j : ℕ) : Type 0 where
    of_text : IsProtocol x p
    stands : place_of x p ≡ j

  named : (name : Bytes) (j : ℕ) → protocol_of d name ≡ Some j → IsNamed (proto_by x.protocols name) j
  named name j e =
      let placed = referred d.protocols d.structs name j e in
      let (r, stands, same) = declared_at text (λ (r : ProtocolDecl). r.name) s.protocols name j placed in
      record {
        of_text = subst (λ n. IsProtocol x (proto_by x.protocols n)) same (protocol_is text s x is.lexicon j r stands);
        stands = meant text s x is.lexicon name j placed;
      }

  -- ---- what is inherited is written

  -- A protocol of the text stands at this place, and inheritance leads to it.
  record Reaches (o : ProtoId) (j : ℕ) : Type 0 where
    to : ProtoId
    is_named : IsNamed to j
    leads : LeadsOnTo f o to

  one_step : (o p : ProtoId) → IsProtocol x p → LeadsTo f o p → (j : ℕ)
      → Contains (next (inheritance text s) (place_of x p)) j → Reaches o j
  one_step o p h l j c =
      let (q, at) = declared_there p h in
      let says = direct_says d words j q (subst (λ z. Contains z j) (at_mapped (direct text d) s.protocols (place_of x p) q [] at) c) in
      let requirement = λ (t : PlacedRequirement). t.requirement in
      record {
        to = proto_of words says.name;
        is_named = named (word text says.name) j says.refers;
        leads = (
          p,
          l,
          subst (λ z. Contains (map requirement z) (Conforms self (proto_of words says.name))) (sym (written_in p h q at))
              (subst (Contains (map requirement (in_protocol words q))) says.is
              (contains_map requirement (in_protocol words q) says.requirement says.among)),
        );
      }

  steps : (o p : ProtoId) → IsProtocol x p → LeadsTo f o p → (i j : ℕ) → place_of x p ≡ i → Leads (inheritance text s) i j → Reaches o j
  steps o p h l i j e (step c) = one_step o p h l j (subst (λ z. Contains (next (inheritance text s) z) j) (sym e) c)
  steps o p h l i j e (more {j = k} c rest) =
      let r = one_step o p h l k (subst (λ z. Contains (next (inheritance text s) z) k) (sym e) c) in
      steps o r.to r.is_named.of_text (further r.leads.1 r.leads.2) k j r.is_named.stands rest

  -- ---- what is written is inherited

  one_written : (p q : ProtoId) → IsProtocol x p → InheritsDirectly f p q
      → IsProtocol x q × Contains (next (inheritance text s) (place_of x p)) (place_of x q)
  one_written p q h c =
      let (t, at) = declared_there p h in
      let requirement = λ (t : PlacedRequirement). t.requirement in
      let (r, among, says) = contains_of_map requirement (in_protocol words t) (Conforms self q)
      (subst (λ z. Contains (map requirement z) (Conforms self q)) (written_in p h t at) c) in
      let none = (resolved text s x is.lexicon names).protocol_at (place_of x p) t at in
      let i = inherits_directly words q d names.inherits (place_of x p) t
      (subst (λ e. All Never (refusals.of_protocol text e names.inherits (place_of x p) t)) is.lexicon.resolved.declared none.0) r among
      (sym says) in
      let n = named (word text i.name) i.place i.refers in
      let same : place_of x q ≡ i.place = ap (place_of x) (sym i.is) ∙ n.stands in (
        subst (IsProtocol x) i.is n.of_text,
        subst (λ z. Contains z (place_of x q)) (sym (at_mapped (direct text d) s.protocols (place_of x p) t [] at))
            (subst (Contains (direct text d t)) (sym same) i.among),
      )

  -- A chain of written steps, one or more, leads to a protocol of the text.
  all_written : (p r q : ProtoId) → IsProtocol x p → LeadsTo f p r → InheritsDirectly f r q
      → IsProtocol x q × Leads (inheritance text s) (place_of x p) (place_of x q)
  all_written p r q h here c = let one = one_written p q h c in (one.0, step one.1)
  all_written p r q h (further {q = o} l b) c =
      let so = all_written p o r h l b in
      let one = one_written r q so.0 c in
      (one.0, chain_on (inheritance text s) (place_of x q) so.1 one.1)

  pub inheritance_written : (p q : ProtoId) → IsProtocol x p → IsProtocol x q → IsTrue (inherits x p q) ↔ LeadsOnTo f p q
  inheritance_written p q h k = (
    λ e. let r = steps p p h here (place_of x p) (place_of x q) refl ((is.lexicon.inheritance p q).0 e) in
        subst (LeadsOnTo f p) (one_protocol r.to q r.is_named.of_text k r.is_named.stands) r.leads,
    λ l. (is.lexicon.inheritance p q).1 (all_written p l.0 q h l.1 l.2).1,
  )

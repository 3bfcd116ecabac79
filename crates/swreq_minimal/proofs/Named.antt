-- `Self` of each protocol conforms to a protocol that declares the name of a member symbol of it.
use Rattle.std.proofs.Common.{◌≡◌, ◌∙◌, ⊎_elim, ap, subst, sym, Some, Contains, IsTrue}
use Rattle.std.proofs.lemmas.Option.{slice_get-get_or}
use Rattle.swreq_machine.specs.swreq_param.declared.ids.AssocId.{AssocId}
use Rattle.swreq_machine.specs.swreq_param.declared.ids.ProtoId.{ProtoId}
use Rattle.swreq_machine.specs.swreq_derive.Derivation.{Declares}
use Rattle.swreq_machine.specs.swreq_derive.Inheritance.{LeadsTo}
use Rattle.swreq_machine.specs.swreq_derive.Inheritance.LeadsTo.{further, here}
use Rattle.swreq_machine.specs.swreq_lexicon.declared.pair.ProtocolName.{ProtocolName}
use Rattle.swreq_machine.specs.swreq_lexicon.Lexicons.{pair}
use Rattle.swreq_machine.specs.swreq_lexicon.Views.{IsProtocol, inherits}
use Rattle.swreq_machine.specs.swreq_correspondence.Symbols.{name_of, proto_of}
use Rattle.swreq_machine.specs.swreq_world.Closed.{IsClosed}
use Rattle.swreq_machine.specs.swreq_world.Worlds.{TextWorld}
use Rattle.swreq_candidates.specs.Blocks.{AreMembersDeclared, AreMembersNamed}
use Rattle.swreq_candidates.proofs.Inherited.{declared_named}
use Rattle.swreq_machine.specs.swreq_symbols.Meaning.{facts_of, symbols_of}
use Rattle.swreq_machine.proofs.swreq_lemmas.Elements.{get_contains}
use Rattle.swreq_machine.proofs.swreq_symbols.Declared.{from_rank, member_is, of_rank}

module _ (w : TextWorld) (closed : IsClosed w) where
  pub leads_to : (p q : ProtoId) → IsProtocol w.lexicon p → IsProtocol w.lexicon q → IsTrue (inherits w.lexicon p q)
      → LeadsTo (facts_of w) p q
  leads_to p q h k e = let chain = (closed.inheritance p q h k).0 e in further chain.1 chain.2

  members_declared : AreMembersDeclared (symbols_of w.lexicon) (facts_of w)
  members_declared k h =
      let (e, at) = of_rank w.lexicon k h in
      let of_text = (closed.ids.symbols e.proto e.name).0 (get_contains w.lexicon.symbols k e at) in
      let is_it = member_is w.lexicon k e at in
      by e (sym (ap (λ z. z.proto) is_it)) (sym (ap (λ z. z.name) is_it))
      (⊎_elim (λ c. (e.proto, here, c))
      (λ t. let (q, i, c) = t in (q, leads_to e.proto q of_text.0 (closed.ids.associated (pair q e.name) c).0 i, c)) of_text.1)
    where
      by : (e : ProtocolName) → e.proto ≡ proto_of (symbols_of w.lexicon) k → e.name ≡ name_of (symbols_of w.lexicon) k
          → ((q : ProtoId) × LeadsTo (facts_of w) e.proto q × Contains w.lexicon.associated (pair q e.name))
          → (q : ProtoId) × (a : AssocId) × LeadsTo (facts_of w) (proto_of (symbols_of w.lexicon) k) q
          × Declares (facts_of w) q (name_of (symbols_of w.lexicon) k) a
      by e same_proto same_name (q, l, c) =
          let a : AssocId = record { rank = c.0 } in
          let at = slice_get-get_or w.lexicon.associated c.0 (pair q e.name) c.1 ∙ ap Some c.2 in (
            q,
            a,
            subst (λ p. LeadsTo (facts_of w) p q) same_proto l,
            subst (λ n. Declares (facts_of w) q n a) same_name
                (from_rank w.lexicon q e.name a at),
          )

  pub members_named : AreMembersNamed (symbols_of w.lexicon) (facts_of w)
  members_named = declared_named (symbols_of w.lexicon) (facts_of w) members_declared

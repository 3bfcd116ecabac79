-- The reduced type is read off the least word.
use Rattle.std.proofs.Common.{◌≡◌, ◌↔◌, sym, subst, List, [], ◌∷◌, ◌++◌}
use Rattle.std.proofs.lemmas.List.{append-nil}
use Rattle.swreq_valid.specs.swreq_param.declared.ids.AssocId.{AssocId}
use Rattle.swreq_valid.specs.swreq_param.declared.ids.NameId.{NameId}
use Rattle.swreq_valid.specs.swreq_param.declared.ids.ProtoId.{ProtoId}
use Rattle.swreq_valid.specs.swreq_param.declared.ids.Step.TheVariants.{Bound, Name}
use Rattle.swreq_valid.specs.swreq_param.Terms.{Term}
use Rattle.swreq_valid.specs.swreq_param.Terms.Term.{Generic, Member}
use Rattle.swreq_valid.specs.swreq_derive.Derivation.{Derivable, Source, TermFacts, TermRequirement}
use Rattle.swreq_valid.specs.swreq_derive.Derivation.Source.{Written}
use Rattle.swreq_valid.specs.swreq_derive.Derivation.TermRequirement.{Conforms}
use Rattle.swreq_valid.specs.swreq_derive.Derivation.TermStatement.{IsValid, Requires}
use Rattle.swreq_valid.specs.swreq_derive.Facts.{generic_params}
use Rattle.swreq_valid.proofs.swreq_derive.Substitution.{valid_sides}
use Rattle.swreq_map.specs.swreq_word.declared.symbols.Symbol.TheVariants.{Proto, Member as MemberSymbol}
use Rattle.swreq_map.proofs.swreq_word.Chains.{joined}
use Rattle.swreq_map.specs.swreq_rule.declared.rules.Rule.{Rule}
use Rattle.swreq_map.specs.swreq_complete.Complete.{IsComplete}
use Rattle.swreq_valid.specs.swreq_correspondence.Equations.{AreCongruent}
use Rattle.swreq_valid.specs.swreq_correspondence.Symbols.{Symbols, Word, name_of, spell, word_of}
use Rattle.swreq_valid.specs.swreq_correspondence.Types.{BeginsAs, IsFirstFor, IsTypeOf}
use Rattle.swreq_valid.proofs.swreq_correspondence.Chained.{turn_all}
use Rattle.swreq_valid.proofs.swreq_correspondence.Correspondence.{conforming_words}
use Rattle.swreq_valid.proofs.swreq_correspondence.Orders.{Stands, front, some_type, type_is_reduced}
use Rattle.swreq_valid.specs.swreq_symbols.Meaning.{facts_of, symbols_of}
use Rattle.swreq_map.specs.Properties.{Vanishes}
use Rattle.swreq_valid.specs.swreq_symbols.Vanishing.{IsLeastBy, Links, IsFirstBehind}
use Rattle.swreq_valid.proofs.swreq_symbols.Symbols.{ranks_law, symbols_law, text_law}
use Rattle.swreq_valid.specs.swreq_world.Closed.{IsClosed}
use Rattle.swreq_valid.specs.swreq_world.Worlds.{TextWorld}
use Rattle.swreq_machine.specs.Asked.{IsLeastOf, IsReducedIn}
use Rattle.swreq_machine.specs.LeastTypes.{BeginsBy}
use Rattle.swreq_machine.specs.Machines.{IsMachineOf, MachineView}
use Rattle.swreq_valid.specs.Rounds.{last_rules}
use Rattle.swreq_machine.proofs.Firsts.{firsts}

module _ (w : TextWorld) (closed : IsClosed w) (machine : MachineView) (list : List TermRequirement) (is : IsMachineOf w list machine) where
  abbrev m : Symbols
  m = symbols_of w.lexicon

  abbrev f : TermFacts
  f = facts_of w

  abbrev L : Source
  L = Written (generic_params machine.params) list

  abbrev rules : List Rule
  rules = last_rules machine.rounds

  abbrev C : Word → Word → Type 0
  C u v = AreCongruent m f L u v

  -- after a word that is as good as that of T, the symbols of exactly those protocols vanish to which T conforms
  module _ (u : Word) (t : Term) (behind : (z : Word) → C (u ++ z) (spell m L t z)) (v : Derivable f L (IsValid t)) where
    alone : C u (spell m L t [])
    alone = subst (λ z. C z (spell m L t [])) (append-nil u) (behind [])

    pub vanishing : (p : ProtoId) → Derivable f L (Requires (Conforms t p)) ↔ Vanishes rules u (Proto p.rank)
    vanishing p =
        let law = conforming_words m f (symbols_law w closed) L (text_law w closed) is.in_text t p v in
        let both = is.rules (u ++ Proto p.rank ∷ []) u in (
          (λ e. both.1 (joined (behind (Proto p.rank ∷ [])) (joined (law.0 e) (turn_all alone)))),
          λ l. law.1 (joined (turn_all (behind (Proto p.rank ∷ []))) (joined (both.0 l) alone)),
        )

    pub first_behind : (a : NameId) (d : AssocId) → IsFirstFor f L t a d ↔ IsFirstBehind w.lexicon rules u a d
    first_behind a d = (
      (λ i. record {
        given = (i.proto, i.declares, (vanishing i.proto).0 i.conforms);
        first = λ e g. i.first g.0 e g.1 ((vanishing g.0).1 g.2);
      }),
      λ i. record {
        proto = i.given.0;
        declares = i.given.1;
        conforms = (vanishing i.given.0).1 i.given.2;
        first = λ p e c k. i.first e (p, c, (vanishing p).0 k);
      },
    )

  pub by_rules : (t : Term) (rest u : Word) → BeginsAs m f L t rest u → BeginsBy w.lexicon rules t rest u
  unfolding Stands
  by_rules (Generic g) rest u h = h
  by_rules (Member t (Name a)) rest u h = h
  by_rules (Member t (Bound d)) rest u (k, c, i, h) =
      let (pre, e, stands) = front m f (generic_params machine.params) list (symbols_law w closed) (text_law w closed) is.in_text
      (ranks_law w closed) t (MemberSymbol k ∷ rest) u h in
      let v = valid_sides f L (Conforms t i.proto) i.conforms in
      (k, pre, e, c.0, (first_behind pre t stands v (name_of m k) d).0 i, by_rules t (MemberSymbol k ∷ rest) u h)

  -- ---- the least word of a valid type parameter

  module _ (t : Term) (u : Word) (least : IsLeastBy rules u) (l : Links rules (word_of m L t) u) (v : Derivable f L (IsValid t)) where
    pub least_in : IsLeastOf w machine list t u
    least_in = ((λ z c. least z ((is.rules u z).1 c)), (is.rules (word_of m L t) u).0 l)

    module _ (complete : IsComplete rules) where
      pub type_of : (r : Term) × IsTypeOf m f L u r
      type_of =
          some_type m f (generic_params machine.params) list (symbols_law w closed) (text_law w closed) is.in_text (ranks_law w closed)
          (firsts w closed machine list is complete) t u v least_in.1 least_in.0

      pub reduced_is : (r : Term) → ((q : Term) → BeginsBy w.lexicon rules q [] u → r ≡ q) → IsReducedIn w machine list t r
      reduced_is r same =
          let (q, h) = type_of in
          subst (λ z. IsReducedIn w machine list t z) (sym (same q (by_rules q [] u h)))
          (type_is_reduced m f (generic_params machine.params) list (symbols_law w closed) (text_law w closed) is.in_text
          (ranks_law w closed) t q u v least_in.1 least_in.0 h)

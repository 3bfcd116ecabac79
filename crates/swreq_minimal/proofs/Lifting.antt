-- What the rules of a machine say is what is read off them.
use Rattle.std.proofs.Common.{◌≡◌, ◌↔◌, ◌∙◌, refl, sym, ap, subst, List, [], ◌∷◌, ◌++◌, append_assoc}
use Rattle.swreq_machine.specs.swreq_param.declared.ids.AssocId.{AssocId}
use Rattle.swreq_machine.specs.swreq_param.declared.ids.NameId.{NameId}
use Rattle.swreq_machine.specs.swreq_param.declared.ids.ParamId.{ParamId}
use Rattle.swreq_machine.specs.swreq_param.declared.ids.ProtoId.{ProtoId}
use Rattle.swreq_machine.specs.swreq_param.declared.ids.Step.TheVariants.{Bound, Name}
use Rattle.swreq_machine.specs.swreq_param.Terms.{Term}
use Rattle.swreq_machine.specs.swreq_param.Terms.Term.{Generic, Member}
use Rattle.swreq_machine.specs.swreq_derive.Derivation.{Derivable, Source, TermFacts, TermRequirement}
use Rattle.swreq_machine.specs.swreq_derive.Derivation.Derives.{assoc_decl, generic}
use Rattle.swreq_machine.specs.swreq_derive.Derivation.Source.{Written}
use Rattle.swreq_machine.specs.swreq_derive.Derivation.TermRequirement.{Conforms, IsAnyObject, Equals}
use Rattle.swreq_machine.specs.swreq_derive.Derivation.TermStatement.{IsValid, Requires}
use Rattle.swreq_machine.specs.swreq_derive.Facts.{generic_params}
use Rattle.swreq_homotopy.specs.swreq_word.declared.symbols.Symbol.TheVariants.{Proto, Member as MemberSymbol, Param}
use Rattle.swreq_machine.specs.swreq_rule.declared.rules.Rule.{Rule}
use Rattle.swreq_machine.specs.swreq_correspondence.Equations.{AreCongruent}
use Rattle.swreq_machine.specs.swreq_correspondence.Symbols.{Symbols, Word, name_of, proto_of, spell}
use Rattle.swreq_machine.specs.swreq_correspondence.Types.{BeginsAs, IsFirstFor, IsTypeOf}
use Rattle.swreq_candidates.proofs.swreq_correspondence.Chained.{chained_usable}
use Rattle.swreq_candidates.proofs.swreq_correspondence.Readings.{valid_base, valid_generic}
use Rattle.swreq_machine.specs.swreq_lexicon.Views.{IsProtocol}
use Rattle.swreq_candidates.specs.Candidates.{IsReadOff, SpeaksOf}
use Rattle.swreq_candidates.proofs.SameTypes.{begins_on}
use Rattle.swreq_candidates.proofs.Settled.{stands}
use Rattle.swreq_machine.specs.swreq_symbols.Meaning.{facts_of, symbols_of}
use Rattle.swreq_machine.proofs.swreq_symbols.Symbols.{ranks_law, symbols_law, text_law}
use Rattle.swreq_machine.specs.swreq_map.Properties.{Vanishes}
use Rattle.swreq_machine.specs.swreq_world.Closed.{IsClosed}
use Rattle.swreq_machine.specs.swreq_world.Worlds.{TextWorld}
use Rattle.swreq_machine.specs.Machines.{IsMachineOf, MachineView}
use Rattle.swreq_machine.specs.swreq_valid.Rounds.{last_rules}
use Rattle.swreq_machine.specs.swreq_symbols.Vanishing.{IsFirstBehind}
use Rattle.swreq_machine.proofs.Reducing.{first_behind, vanishing}
use Rattle.swreq_minimal.specs.Typed.{IsTypeBy, IsRequirementOfRule, IsSubjectOf}

-- ---- the fronts of words of a type

module _ (m : Symbols) (f : TermFacts) (s : Source) where
  begins_front : (t : Term) (rest u : Word) → BeginsAs m f s t rest u → (front : Word) × (u ≡ front ++ rest) × IsTypeOf m f s front t
  begins_front (Generic g) rest u h = (Param g.depth g.index ∷ [], h, refl)
  begins_front (Member t (Bound d)) rest u (k, c, i, h) =
      let (front, e, j) = begins_front t (MemberSymbol k ∷ rest) u h in (
        front ++ MemberSymbol k ∷ [],
        e ∙ sym (append_assoc front (MemberSymbol k ∷ []) rest),
        (k, c, i, begins_on m f s t [] (MemberSymbol k ∷ []) front j),
      )
  begins_front (Member t (Name a)) rest u h = absurd h

module _ (w : TextWorld) (closed : IsClosed w) (machine : MachineView) (list : List TermRequirement) (is : IsMachineOf w list machine) where
  abbrev m : Symbols
  m = symbols_of w.lexicon

  abbrev f : TermFacts
  f = facts_of w

  abbrev ps : List ParamId
  ps = generic_params machine.params

  abbrev L : Source
  L = Written ps list

  abbrev rules : List Rule
  rules = last_rules machine.rounds

  -- what follows a word of the type T, may as well follow the word of T
  behind : (t : Term) (u : Word) → IsTypeOf m f L u t → (z : Word) → AreCongruent m f L (u ++ z) (spell m L t z)
  behind =
      stands m f ps list
      (record { symbols = symbols_law w closed; of_text = text_law w closed; in_text = is.in_text; ranked = ranks_law w closed })

  -- so after it just those protocols vanish to which T conforms
  module _ (t : Term) (u : Word) (h : IsTypeOf m f L u t) (v : Derivable f L (IsValid t)) where
    conforming : (p : ProtoId) → Derivable f L (Requires (Conforms t p)) ↔ Vanishes rules u (Proto p.rank)
    conforming = vanishing w closed machine list is u t (behind t u h) v

    firsts : (a : NameId) (d : AssocId) → IsFirstFor f L t a d ↔ IsFirstBehind w.lexicon rules u a d
    firsts = first_behind w closed machine list is u t (behind t u h) v

  -- ---- types

  to_type : (t : Term) (u : Word) → Derivable f L (IsValid t) → IsTypeOf m f L u t → IsTypeBy w.lexicon rules machine.params u t
  to_type (Generic g) u v h = (valid_generic v, h)
  to_type (Member t (Bound d)) u v (k, c, i, h) =
      let (front, e, j) = begins_front m f L t (MemberSymbol k ∷ []) u h in
      let b = valid_base (Bound d) v in (
        front,
        MemberSymbol k,
        e,
        to_type t front b j,
        (k, refl, c.0, (conforming t front j b (proto_of m k)).0 c.1, (firsts t front j b (name_of m k) d).0 i),
      )
  to_type (Member t (Name a)) u v h = absurd h

  from_type : (t : Term) (u : Word) → IsTypeBy w.lexicon rules machine.params u t → Derivable f L (IsValid t) × IsTypeOf m f L u t
  from_type (Generic g) u (c, e) = (generic c, e)
  from_type (Member t (Bound d)) u (front, y, e, h, (k, s, r, l, i)) =
      let (b, j) = from_type t front h in
      let o = (firsts t front j b (name_of m k) d).1 i in
      let ends : u ≡ front ++ MemberSymbol k ∷ [] = e ∙ ap (λ z. front ++ z ∷ []) s in (
        assoc_decl o.conforms o.declares,
        (
          k,
          (r, (conforming t front j b (proto_of m k)).1 l, (o.proto, d, o.conforms, o.declares)),
          o,
          subst (BeginsAs m f L t (MemberSymbol k ∷ [])) (sym ends) (begins_on m f L t [] (MemberSymbol k ∷ []) front j),
        ),
      )
  from_type (Member t (Name a)) u h = absurd h

  to_spoken : (v : Term) (l : Word) → Derivable f L (IsValid v) → SpeaksOf m f L v l → IsSubjectOf w.lexicon rules machine.params l v
  to_spoken (Generic g) l v h = (valid_generic v, h)
  to_spoken (Member t (Bound d)) l v (u, x, a, e, h, n, i) =
      let b = valid_base (Bound d) v in
      (u, x, a, e, to_type t u b h, n, (firsts t u h b a d).0 i)
  to_spoken (Member t (Name a)) l v h = absurd h

  from_spoken : (v : Term) (l : Word) → IsSubjectOf w.lexicon rules machine.params l v → Derivable f L (IsValid v) × SpeaksOf m f L v l
  from_spoken (Generic g) l (c, e) = (generic c, e)
  from_spoken (Member t (Bound d)) l (u, x, a, e, h, n, i) =
      let (b, j) = from_type t u h in
      let o = (firsts t u j b a d).1 i in
      (assoc_decl o.conforms o.declares, (u, x, a, e, j, n, o))
  from_spoken (Member t (Name a)) l h = absurd h

  -- ---- what a rule says

  module _ (l r : Word) (rule : AreCongruent m f L l r) where
    -- the protocol of a conformance that is read off is of the text
    of_text : (t : Term) (p : ProtoId) → Derivable f L (IsValid t) → IsTypeOf m f L r t → l ≡ r ++ Proto p.rank ∷ []
        → IsProtocol w.lexicon p
    of_text t p v h e =
        let vanishes = (is.rules (r ++ Proto p.rank ∷ []) r).1 (subst (λ z. AreCongruent m f L z r) e rule) in
        let shown = chained_usable m (symbols_law w closed) (text_law w closed) is.in_text ((conforming t r h v p).1 vanishes) in
        (closed.ids.written_order p).0 shown.0

    pub to_said : (q : TermRequirement) → IsReadOff m f L l r q → IsRequirementOfRule w.lexicon rules machine.params l r q
    to_said (Conforms t p) (v, h, e) = (to_type t r v h, of_text t p v h e, e)
    to_said (IsAnyObject t) (v, h, e) = (to_type t r v h, e)
    to_said (Equals t u) (v, k, n, h, s) = (to_type t r v h, to_spoken u l k s, n)

    pub from_said : (q : TermRequirement) → IsRequirementOfRule w.lexicon rules machine.params l r q → IsReadOff m f L l r q
    from_said (Conforms t p) (h, i, e) = let (v, j) = from_type t r h in (v, j, e)
    from_said (IsAnyObject t) (h, e) = let (v, j) = from_type t r h in (v, j, e)
    from_said (Equals t u) (h, s, n) = let (v, j) = from_type t r h in let (k, o) = from_spoken u l s in (v, k, n, j, o)

-- Words of valid type parameters are congruent if and only if the type parameters are derivably equal.
use Rattle.std.proofs.Common.{◌≡◌, List, [], ◌∷◌, ◌++◌, refl, ap, subst, subst₂, sym, ◌↔◌}
use Rattle.swreq_derive.specs.swreq_param.declared.ids.AssocId.{AssocId}
use Rattle.swreq_derive.specs.swreq_param.declared.ids.NameId.{NameId}
use Rattle.swreq_derive.specs.swreq_param.declared.ids.ParamId.{ParamId}
use Rattle.swreq_derive.specs.swreq_param.declared.ids.ProtoId.{ProtoId}
use Rattle.swreq_derive.specs.swreq_param.declared.ids.Step.TheVariants.{Bound, Name}
use Rattle.swreq_derive.specs.swreq_param.Terms.{Term, self, head}
use Rattle.swreq_derive.specs.swreq_param.Terms.Term.{Generic, Member}
use Rattle.swreq_derive.specs.Derivation.{TermRequirement, TermFacts, Source, Declares, Derivable, HasParam, HasRequirement, for_self}
use Rattle.swreq_derive.specs.Derivation.TermRequirement.{Conforms, IsAnyObject, Equals}
use Rattle.swreq_derive.specs.Derivation.TermStatement.{IsValid, Requires}
use Rattle.swreq_derive.specs.Derivation.Source.{Written, SelfOf}
use Rattle.swreq_derive.specs.Derivation.Derives.{generic, conf, same, layout, assoc_name, assoc_decl, reflex, symm, trans, same_conf, same_layout}
use Rattle.swreq_derive.specs.WellFormed.{HasValidSides}
use Rattle.swreq_word.specs.declared.symbols.Symbol.{Symbol}
use Rattle.swreq_word.specs.declared.symbols.Symbol.TheVariants.{Proto as ProtoSymbol, Member as MemberSymbol, Param as ParamSymbol, Name as NameSymbol, Layout as LayoutSymbol}
use Rattle.swreq_word.specs.Relations.Chain.{done, more}
use Rattle.swreq_derive.proofs.Substitution.{substitute-generic, substitute_in-generic}
use Rattle.swreq_correspondence.specs.Symbols.{Word, Symbols, proto_of, AreSymbolsOf, AreOfText, IsInText, spell, left_side, right_side}
use Rattle.swreq_correspondence.specs.Equations.{Equation, Link, UsableOf, UsableIn, AreCongruent}
use Rattle.swreq_correspondence.specs.Equations.Equation.{twice, member, of_protocol, of_source}
use Rattle.swreq_correspondence.specs.Equations.Link.{forth, back, there}
use Rattle.swreq_correspondence.specs.Readings.{HasName, CanReadAll, read_on, CanBegin, first, HasReading, reading}
use Rattle.swreq_correspondence.proofs.Spelling.{spell-append}
use Rattle.swreq_correspondence.proofs.Chained.{turn_all, chained_usable}
use Rattle.swreq_correspondence.proofs.Readings.{valid_name, valid_bound, valid_generic, valid_base, read_all_same, valid_reading, unbound, read_on-steps, rest_is_read, steps_are_read, sides_of}
use Rattle.swreq_correspondence.proofs.Links.{drop_symbol, add_symbol, middle, middle_link, of_self, Leads, AreRead}

module _ {f : TermFacts} {s : Source} where
  pub of_usable : (r : TermRequirement) → HasRequirement s r → HasValidSides f s r → Derivable f s (Requires r)
  of_usable (Conforms t p) h w = conf h (λ _. w)
  of_usable (IsAnyObject t) h w = layout h (λ _. w)
  of_usable (Equals t u) h w = same h (λ _. w.0) (λ _. w.1)

  pub root_param : (t : Term) → Derivable f s (IsValid t) → HasParam s (head t)
  root_param (Generic g) v = valid_generic v
  root_param (Member t x) v = root_param t (valid_base x v)

-- over `[τ_0_0 : P]`
module _ (m : Symbols) (f : TermFacts) (p : ProtoId) (fit : AreSymbolsOf m f) where
  pub self_conforms : Derivable f (SelfOf p) (Requires (Conforms self p))
  self_conforms = conf refl (λ _. generic refl)

  pub IsFirst : Word → Type 0
  IsFirst [] = ⊥
  IsFirst (ProtoSymbol q ∷ u) = record { rank = q } ≡ p
  IsFirst (MemberSymbol k ∷ u) = proto_of m k ≡ p
  IsFirst (_ ∷ u) = ⊥

  pub to_self : (w : Word) → HasReading m f (SelfOf p) w → IsFirst w × CanReadAll m f (SelfOf p) self w × (reading m w ≡ read_on m self w)
  unfolding IsFirst
  to_self [] c = absurd c
  to_self (ProtoSymbol q ∷ u) c =
      (c.0, (subst (λ x. Derivable f (SelfOf p) (Requires (Conforms self x))) (sym c.0) self_conforms, c.1), refl)
  to_self (MemberSymbol k ∷ u) c =
      (c.0.0, ((c.0.1, subst (λ x. Derivable f (SelfOf p) (Requires (Conforms self x))) (sym c.0.0) self_conforms, c.0.2), c.1), refl)
  to_self (ParamSymbol d i ∷ u) c = absurd c.0
  to_self (NameSymbol a ∷ u) c = absurd c.0
  to_self (LayoutSymbol ∷ u) c = absurd c.0

  from_self : (w : Word) → IsFirst w → CanReadAll m f (SelfOf p) self w → HasReading m f (SelfOf p) w × (reading m w ≡ read_on m self w)
  unfolding IsFirst
  from_self [] h c = absurd h
  from_self (ProtoSymbol q ∷ u) h c = ((h, c.1), refl)
  from_self (MemberSymbol k ∷ u) h c = (((h, c.0.0, c.0.2), c.1), refl)
  from_self (ParamSymbol d i ∷ u) h c = absurd h
  from_self (NameSymbol a ∷ u) h c = absurd h
  from_self (LayoutSymbol ∷ u) h c = absurd h

  first_stays : {l r : Word} → Equation m (UsableOf f) (UsableIn f (SelfOf p)) (SelfOf p) l r → (y : Word)
      → (IsFirst (l ++ y) → IsFirst (r ++ y)) × (IsFirst (r ++ y) → IsFirst (l ++ y))
  unfolding IsFirst
  first_stays (twice q h) y = ((λ e. e), λ e. e)
  first_stays (member k h) y = ((λ e. e), λ e. e)
  first_stays (of_protocol q (Conforms u n) h) y = ((λ e. e), λ e. e)
  first_stays (of_protocol q (IsAnyObject u) h) y = ((λ e. e), λ e. e)
  first_stays (of_protocol q (Equals u u') h) y = ((λ e. e), λ e. e)
  first_stays (of_source (Conforms u n) h) y = ((λ e. e), λ e. e)
  first_stays (of_source (IsAnyObject u) h) y = ((λ e. e), λ e. e)
  first_stays (of_source (Equals u u') h) y = ((λ e. e), λ e. e)

module _ (m : Symbols) (f : TermFacts) (s : Source) where
  -- a word with a reading leads to another, read as an equal type
  abbrev pub LeadsTo : Word → Word → Type 0
  LeadsTo u v = HasReading m f s u → HasReading m f s v × Derivable f s (Requires (Equals (reading m u) (reading m v)))

pub valid_first : (m : Symbols) (f : TermFacts) (s : Source) (x : Symbol) → CanBegin m f s x → Derivable f s (IsValid (first m x))
valid_first m f (Written gs rs) (ParamSymbol d i) c = generic c
valid_first m f (Written gs rs) _ c = absurd c
valid_first m f (SelfOf p) (ProtoSymbol q) c = generic refl
valid_first m f (SelfOf p) (MemberSymbol k) c = assoc_name c.2.2 c.2.3
valid_first m f (SelfOf p) _ c = absurd c

-- at the front of a word over `[τ_0_0 : P]`
module _ (m : Symbols) (f : TermFacts) (p : ProtoId) (fit : AreSymbolsOf m f) where
  lead_self : (u v : Word) → (IsFirst m f p fit u → IsFirst m f p fit v) → Leads m f (SelfOf p) self u self v → LeadsTo m f (SelfOf p) u v
  lead_self u v h k c =
      let r : IsFirst m f p fit u × CanReadAll m f (SelfOf p) self u × (reading m u ≡ read_on m self u) = to_self m f p fit u c in
      let q : CanReadAll m f (SelfOf p) self v × Derivable f (SelfOf p) (Requires (Equals (read_on m self u) (read_on m self v))) = k r.1 in
      let w : HasReading m f (SelfOf p) v × (reading m v ≡ read_on m self v) = from_self m f p fit v (h r.0) q.0 in
      (w.0, subst₂ (λ x y. Derivable f (SelfOf p) (Requires (Equals x y))) (sym r.2) (sym w.1) q.1)

  front_self : {l r : Word} → Equation m (UsableOf f) (UsableIn f (SelfOf p)) (SelfOf p) l r → (y : Word)
      → LeadsTo m f (SelfOf p) (l ++ y) (r ++ y) × LeadsTo m f (SelfOf p) (r ++ y) (l ++ y)
  front_self {l = l} {r = r} e y = (
    lead_self (l ++ y) (r ++ y) (first_stays m f p fit e y).0 (middle m f fit (SelfOf p) e self y (generic refl)).0,
    lead_self (r ++ y) (l ++ y) (first_stays m f p fit e y).1 (middle m f fit (SelfOf p) e self y (generic refl)).1,
  )

-- the type parameter that the first symbol of a word stands for
abbrev pub root : Source → ParamId → Term
root (Written gs rs) g = Generic g
root (SelfOf p) g = self

pub substitute-self : {f : TermFacts} {p : ProtoId} (u : Term) → Derivable f (SelfOf p) (IsValid u) → for_self self u ≡ u
substitute-self (Generic g) v = ap Generic (sym (valid_generic v))
substitute-self (Member u x) v = ap (λ t. Member t x) (substitute-self u (valid_base x v))

module _ (m : Symbols) (f : TermFacts) (fit : AreSymbolsOf m f) where
  -- what the word of u is read as
  abbrev pub read : Source → Term → Term
  read s u = unbound m (root s (head u)) u

  pub own : (s : Source) (u : Term) → Derivable f s (IsValid u)
      → Derivable f s (Requires (Equals u (read s u))) × AreRead m f s (root s (head u)) u
  own (Written gs rs) u v =
      subst (λ x. Derivable f (Written gs rs) (Requires (Equals x (read (Written gs rs) u)))
      × AreRead m f (Written gs rs) (Generic (head u)) u) (substitute-generic u)
      (steps_are_read m f (Written gs rs) (Written gs rs) Generic fit (λ g h. generic h)
      (λ r h w. subst (λ x. Derivable f (Written gs rs) (Requires x)) (sym (substitute_in-generic r)) (of_usable r h w)) u v)
  own (SelfOf p) u v =
      subst (λ x. Derivable f (SelfOf p) (Requires (Equals x (read (SelfOf p) u))) × AreRead m f (SelfOf p) self u) (substitute-self u v)
      (of_self m f (SelfOf p) fit self p (generic refl) (self_conforms m f p fit) u v)

  spelled : (s : Source) (u : Term) → Derivable f s (IsValid u) → (y : Word) → CanReadAll m f s (read s u) y
      → HasReading m f s (spell m s u y)
  spelled (Written gs rs) u v y c = (root_param u v, (own (Written gs rs) u v).1 y c)
  spelled (SelfOf p) u v y c = (refl, (own (SelfOf p) u v).1 y c)

  spelled_rest : (s : Source) (u : Term) (y : Word) → HasReading m f s (spell m s u y) → CanReadAll m f s (read s u) y
  spelled_rest (Written gs rs) u y c = rest_is_read m f (Written gs rs) (Generic (head u)) u y c.1
  spelled_rest (SelfOf p) u y c = rest_is_read m f (SelfOf p) self u y c.1

  spelled_reading : (s : Source) (u : Term) (y : Word) → reading m (spell m s u y) ≡ read_on m (read s u) y
  spelled_reading (Written gs rs) u y = read_on-steps m f (Written gs rs) (Generic (head u)) u y
  spelled_reading (SelfOf p) u y = read_on-steps m f (SelfOf p) self u y

  module _ (s : Source) where
    spell_leads : (u u' : Term) (a b : Word) → Derivable f s (IsValid u') → Leads m f s (read s u) a (read s u') b
        → LeadsTo m f s (spell m s u a) (spell m s u' b)
    spell_leads u u' a b v k c =
        let r : CanReadAll m f s (read s u') b × Derivable f s (Requires (Equals (read_on m (read s u) a) (read_on m (read s u') b))) =
        k (spelled_rest s u a c) in (
          spelled s u' v b r.0,
          subst₂ (λ x y. Derivable f s (Requires (Equals x y))) (sym (spelled_reading s u a)) (sym (spelled_reading s u' b)) r.1,
        )

    abbrev pub BothTo : Word → Word → Type 0
    BothTo u v = LeadsTo m f s u v × LeadsTo m f s v u

    -- a requirement of the source, with something after its words
    front_own : (r : TermRequirement) (y : Word) → HasRequirement s r → HasValidSides f s r
        → BothTo (left_side m s r ++ y) (right_side m s r ++ y)
    front_own (Conforms u q) y h w =
        let v : Derivable f s (IsValid (read s u)) = (sides_of (own s u w).0).1 in
        let k : Derivable f s (Requires (Conforms (read s u) q)) = same_conf (conf h (λ _. w)) (symm (own s u w).0) in
        subst₂ BothTo (sym (spell-append m s u (ProtoSymbol q.rank ∷ []) y)) (sym (spell-append m s u [] y)) (
          spell_leads u u (ProtoSymbol q.rank ∷ y) y w (drop_symbol m f s (read s u) (ProtoSymbol q.rank) y refl v),
          spell_leads u u y (ProtoSymbol q.rank ∷ y) w (add_symbol m f s (read s u) (ProtoSymbol q.rank) y refl v k),
        )
    front_own (IsAnyObject u) y h w =
        let v : Derivable f s (IsValid (read s u)) = (sides_of (own s u w).0).1 in
        let k : Derivable f s (Requires (IsAnyObject (read s u))) = same_layout (layout h (λ _. w)) (symm (own s u w).0) in
        subst₂ BothTo (sym (spell-append m s u (LayoutSymbol ∷ []) y)) (sym (spell-append m s u [] y)) (
          spell_leads u u (LayoutSymbol ∷ y) y w (drop_symbol m f s (read s u) LayoutSymbol y refl v),
          spell_leads u u y (LayoutSymbol ∷ y) w (add_symbol m f s (read s u) LayoutSymbol y refl v k),
        )
    front_own (Equals u u') y h w =
        let k : Derivable f s (Requires (Equals (read s u) (read s u'))) =
        trans (symm (own s u w.0).0) (trans (same h (λ _. w.0) (λ _. w.1)) (own s u' w.1).0) in
        subst₂ BothTo (sym (spell-append m s u [] y)) (sym (spell-append m s u' [] y)) (
          spell_leads u u' y y w.1 (read_all_same m f s (read s u) (read s u') y k),
          spell_leads u' u y y w.0 (read_all_same m f s (read s u') (read s u) y (symm k)),
        )

  front_written : (gs : List ParamId) (rs : List TermRequirement) {l r : Word}
      → Equation m (UsableOf f) (UsableIn f (Written gs rs)) (Written gs rs) l r → (y : Word) → BothTo (Written gs rs) (l ++ y) (r ++ y)
  front_written gs rs (twice q h) y = ((λ c. absurd c.0), λ c. absurd c.0)
  front_written gs rs (member k h) y = ((λ c. absurd c.0), λ c. absurd c.0)
  front_written gs rs (of_protocol q (Conforms u n) h) y = ((λ c. absurd c.0), λ c. absurd c.0)
  front_written gs rs (of_protocol q (IsAnyObject u) h) y = ((λ c. absurd c.0), λ c. absurd c.0)
  front_written gs rs (of_protocol q (Equals u u') h) y = ((λ c. absurd c.0), λ c. absurd c.0)
  front_written gs rs (of_source r h) y = front_own (Written gs rs) r y h.0 h.1

  front : (s : Source) {l r : Word} → Equation m (UsableOf f) (UsableIn f s) s l r → (y : Word) → BothTo s (l ++ y) (r ++ y)
  front (Written gs rs) e y = front_written gs rs e y
  front (SelfOf p) e y = front_self m f p fit e y

  module _ (s : Source) where
    -- the law on readings, for one link
    pub link_leads : {u v : Word} → Link (Equation m (UsableOf f) (UsableIn f s) s) u v → LeadsTo m f s u v
    link_leads (forth y e) = (front s e y).0
    link_leads (back y e) = (front s e y).1
    link_leads (there {u = u} {v = v} x l) = λ c.
        let r : CanReadAll m f s (first m x) v × Derivable f s (Requires (Equals (read_on m (first m x) u) (read_on m (first m x) v)))
        = middle_link m f fit s l (first m x) (valid_first m f s x c.0) c.1 in
        ((c.0, r.0), r.1)

    valid_word : (w : Word) → HasReading m f s w → Derivable f s (IsValid (reading m w))
    valid_word [] c = absurd c
    valid_word (x ∷ u) c = valid_reading m f s (first m x) u (valid_first m f s x c.0) c.1

    pub chain_leads : {u v : Word} → AreCongruent m f s u v → LeadsTo m f s u v
    chain_leads {u = u} done = λ c. (c, reflex (valid_word u c))
    chain_leads (more l k) = λ c. let r = link_leads l c in let q = chain_leads k r.0 in (q.0, trans r.1 q.1)

    -- the law on readings, for the word of a valid type parameter
    pub word_is_read : (u : Term) → Derivable f s (IsValid u)
        → HasReading m f s (spell m s u []) × Derivable f s (Requires (Equals u (reading m (spell m s u []))))
    word_is_read u v =
        (spelled s u v [] tt, subst (λ x. Derivable f s (Requires (Equals u x))) (sym (spelled_reading s u [])) (own s u v).0)

  module _ (s : Source) (ranges : AreOfText m f) (n : IsInText m s) where
    -- the law of correspondence
    pub equal_words : (t u : Term) → Derivable f s (IsValid t) → Derivable f s (IsValid u)
        → Derivable f s (Requires (Equals t u)) ↔ AreCongruent m f s (spell m s t []) (spell m s u [])
    equal_words t u v w = (
      (λ e. (chained_usable m fit ranges n e).2 []),
      λ c.
          let r = word_is_read s t v in
          trans r.1 (trans (chain_leads s c r.0).1 (symm (word_is_read s u w).1)),
    )

    pub conforming_words : (t : Term) (p : ProtoId) → Derivable f s (IsValid t)
        → Derivable f s (Requires (Conforms t p)) ↔ AreCongruent m f s (spell m s t (ProtoSymbol p.rank ∷ [])) (spell m s t [])
    conforming_words t p v = (
      (λ e. (chained_usable m fit ranges n e).2 []),
      λ c.
          same_conf (spelled_rest s t (ProtoSymbol p.rank ∷ []) (chain_leads s (turn_all c) (word_is_read s t v).0).0).0 (own s t v).0,
    )

    pub layout_words : (t : Term) → Derivable f s (IsValid t)
        → Derivable f s (Requires (IsAnyObject t)) ↔ AreCongruent m f s (spell m s t (LayoutSymbol ∷ [])) (spell m s t [])
    layout_words t v = (
      (λ e. (chained_usable m fit ranges n e).1 []),
      λ c.
          same_layout (spelled_rest s t (LayoutSymbol ∷ []) (chain_leads s (turn_all c) (word_is_read s t v).0).0).0 (own s t v).0,
    )

module _ {f : TermFacts} {s : Source} where
  pub valid_members : (t : Term) (a : NameId) → Derivable f s (IsValid (Member t (Name a))) ↔ HasName f s t a
  valid_members t a = ((λ e. valid_name e), λ h. assoc_name h.2 h.3)

  pub valid_bounds : (t : Term) (d : AssocId) → Derivable f s (IsValid (Member t (Bound d)))
      ↔ ((p : ProtoId) × (a : NameId) × Derivable f s (Requires (Conforms t p)) × Declares f p a d)
  valid_bounds t d = ((λ e. valid_bound e), λ h. assoc_decl h.2 h.3)

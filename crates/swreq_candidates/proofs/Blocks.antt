-- A link leaves the number of blocks, and changes one block to a congruent one.
use Rattle.std.proofs.Common.{◌≡◌, ℕ, List, [], ◌∷◌, ◌++◌, Contains, refl, subst, subst₂, sym}
use Rattle.std.specs.List.{AllZip}
use Rattle.swreq_canonical.specs.swreq_param.declared.ids.ParamId.{ParamId}
use Rattle.swreq_canonical.specs.swreq_param.declared.ids.ProtoId.{ProtoId}
use Rattle.swreq_canonical.specs.swreq_param.Terms.{Term, head, self}
use Rattle.swreq_canonical.specs.swreq_param.Terms.Term.{Generic}
use Rattle.swreq_canonical.specs.swreq_derive.Derivation.{Derivable, Source, TermFacts, TermRequirement, for_self}
use Rattle.swreq_canonical.specs.swreq_derive.Derivation.Derives.{assoc_conf, assoc_layout, assoc_same, conf, generic, layout, same, same_conf, same_layout, symm, trans}
use Rattle.swreq_canonical.specs.swreq_derive.Derivation.Source.{SelfOf, Written}
use Rattle.swreq_canonical.specs.swreq_derive.Derivation.TermRequirement.{Conforms, Equals, IsAnyObject}
use Rattle.swreq_canonical.specs.swreq_derive.Derivation.TermStatement.{IsValid, Requires}
use Rattle.swreq_canonical.specs.swreq_derive.WellFormed.{HasValidSides}
use Rattle.swreq_canonical.proofs.swreq_derive.Substitution.{stands_for_self}
use Rattle.swreq_canonical.specs.swreq_word.declared.symbols.Symbol.{Symbol}
use Rattle.swreq_canonical.specs.swreq_word.declared.symbols.Symbol.TheVariants.{Layout as LayoutSymbol, Member as MemberSymbol, Name as NameSymbol, Param as ParamSymbol, Proto as ProtoSymbol}
use Rattle.swreq_canonical.specs.swreq_word.Relations.Chain.{done, more}
use Rattle.swreq_canonical.proofs.swreq_word.Chains.{at_once, joined}
use Rattle.swreq_canonical.specs.swreq_correspondence.Equations.{AreCongruent, Equation, Gives, Link, UsableIn, UsableOf}
use Rattle.swreq_canonical.specs.swreq_correspondence.Equations.Equation.{member, of_protocol, of_source, twice}
use Rattle.swreq_canonical.specs.swreq_correspondence.Equations.Link.{back, forth, there}
use Rattle.swreq_canonical.specs.swreq_correspondence.Readings.{CanRead, HasName, after, first}
use Rattle.swreq_canonical.specs.swreq_correspondence.Symbols.{AreSymbolsOf, IsRank, Symbols, Word, left_side, name_of, proto_of, right_side, spell, steps}
use Rattle.swreq_canonical.proofs.swreq_correspondence.Chained.{conf_link, layout_link, same_link, turn}
use Rattle.swreq_canonical.proofs.swreq_correspondence.Correspondence.{own, read, root_param, self_conforms, valid_first}
use Rattle.swreq_canonical.proofs.swreq_correspondence.Links.{of_self}
use Rattle.swreq_canonical.proofs.swreq_correspondence.Readings.{unbound, valid_after}
use Rattle.swreq_canonical.proofs.swreq_correspondence.Spelling.{spell-append}
use Rattle.swreq_candidates.specs.Blocks.{AreMembersNamed, Cut, GoesOn, Place, blocks, current, over}
use Rattle.swreq_candidates.specs.Blocks.Cut.{alone, on, opened}
use Rattle.swreq_candidates.specs.Blocks.Place.{Inside, Outside}
use Rattle.swreq_candidates.proofs.InsideBlocks.{AreStepsRead, Changes, HasCut, all_same, appears, equal_steps, goes_on, no_steps_read, steps_read, vanishes}
use Rattle.swreq_canonical.proofs.swreq_correspondence.Context.{chain_before}

module _ (m : Symbols) (f : TermFacts) (s : Source) (fit : AreSymbolsOf m f) where
  abbrev C : Word → Word → Type 0
  C = AreCongruent m f s

  abbrev E : Word → Word → Type 0
  E = Equation m (UsableOf f) (UsableIn f s) s

  -- inside a block the type so far is valid
  IsValidPlace : Place → Type 0
  IsValidPlace Outside = Unit {0}
  IsValidPlace (Inside b t) = Derivable f b (IsValid t)

  -- each of two words is cut as the other is, with congruent blocks
  abbrev BothWays : Place → Word → Word → Type 0
  BothWays o u v =
      ((k : Cut m f s o u) → HasCut m f s o v (current k) (blocks k)) × ((k : Cut m f s o v) → HasCut m f s o u (current k) (blocks k))

  -- ---- the equations of a protocol

  -- `[P]` is read after a type that conforms to P, or opens a block
  at_proto : (p : ProtoId) (u v : Word)
      → ((b : Source) (t : Term) → Derivable f b (IsValid t) → Derivable f b (Requires (Conforms t p))
      → Changes m f s b (ProtoSymbol p.rank) t u (ProtoSymbol p.rank) t v)
      → (o : Place) → IsValidPlace o → (k : Cut m f s o (ProtoSymbol p.rank ∷ u))
      → HasCut m f s o (ProtoSymbol p.rank ∷ v) (current k) (blocks k)
  unfolding IsValidPlace
  at_proto p u v changes (Inside b t) valid (on c r) = let (k, h, q) = changes b t valid c r in (on c k, h, q)
  at_proto p u v changes o valid (opened n c r) =
      let (k, h, q) = changes (SelfOf p) self (generic refl) (self_conforms m f p fit) r in (opened n c k, done, (h, q))
  at_proto p u v changes o valid (alone n c r) = absurd (c refl)

  -- what is valid from [τ_0_0 : P] is read after a type that conforms to P, as an equal type
  module _ (p : ProtoId) (b : Source) (t : Term) (v : Derivable f b (IsValid t)) (c : Derivable f b (Requires (Conforms t p))) where
    steps_behind : (u : Term) → Derivable f (SelfOf p) (IsValid u) → AreStepsRead m f s b t u
    steps_behind u e = steps_read m f s b t u [] ((of_self m f b fit t p v c u e).1 [] tt)

    read_behind : (u : Term) → Derivable f (SelfOf p) (IsValid u) → Derivable f b (Requires (Equals (for_self t u) (unbound m t u)))
    read_behind u e = (of_self m f b fit t p v c u e).0

  -- `[P]·u·z = [P]·u`, where z is a protocol or the layout
  of_symbol : (p : ProtoId) (u : Term) (z : Symbol) → ((t : Term) → after m t z ≡ t)
      → ((b : Source) (t : Term) → Derivable f b (IsValid t) → Derivable f b (Requires (Conforms t p))
      → AreStepsRead m f s b t u × CanRead m f b (unbound m t u) z)
      → ((y : Word) → Link E (ProtoSymbol p.rank ∷ steps m u (z ∷ y)) (ProtoSymbol p.rank ∷ steps m u y))
      → (y : Word) (o : Place) → IsValidPlace o → BothWays o (spell m (SelfOf p) u (z ∷ []) ++ y) (spell m (SelfOf p) u [] ++ y)
  of_symbol p u z stays reads link y o v =
      subst₂ (BothWays o) (sym (spell-append m (SelfOf p) u (z ∷ []) y)) (sym (spell-append m (SelfOf p) u [] y)) (
        at_proto p (steps m u (z ∷ y)) (steps m u y) (λ b t w c. let (h, r) = reads b t w c in
            vanishes m f s b (ProtoSymbol p.rank) z t u y h (stays (unbound m t u)) r (λ x. at_once (link x))) o v,
        at_proto p (steps m u y) (steps m u (z ∷ y)) (λ b t w c. let (h, r) = reads b t w c in
            appears m f s b (ProtoSymbol p.rank) z t u y h (stays (unbound m t u)) r (λ x. at_once (turn (link x)))) o v,
      )

  of_requirement : (p : ProtoId) (r : TermRequirement) → Contains (f.of_protocol p) r → HasValidSides f (SelfOf p) r
      → (y : Word) (o : Place) → IsValidPlace o
      → BothWays o (left_side m (SelfOf p) r ++ y) (right_side m (SelfOf p) r ++ y)
  of_requirement p (Conforms u q) h w y o valid =
      of_symbol p u (ProtoSymbol q.rank) (λ t. refl)
      (λ b t v c. (steps_behind p b t v c u w, same_conf (assoc_conf c h (λ _. w)) (symm (read_behind p b t v c u w))))
      (λ x. conf_link (SelfOf p) u q x (of_protocol p (Conforms u q) (h, w))) y o valid
  of_requirement p (IsAnyObject u) h w y o valid =
      of_symbol p u LayoutSymbol (λ t. refl)
      (λ b t v c. (steps_behind p b t v c u w, same_layout (assoc_layout c h (λ _. w)) (symm (read_behind p b t v c u w))))
      (λ x. layout_link (SelfOf p) u x (of_protocol p (IsAnyObject u) (h, w))) y o valid
  of_requirement p (Equals u v) h (i, j) y o valid =
      let link : (x : Word) → Link E (ProtoSymbol p.rank ∷ steps m u x) (ProtoSymbol p.rank ∷ steps m v x)
      = λ x. same_link (SelfOf p) u v x (of_protocol p (Equals u v) (h, (i, j))) in
      let equal : (b : Source) (t : Term) → Derivable f b (IsValid t) → Derivable f b (Requires (Conforms t p))
      → Derivable f b (Requires (Equals (unbound m t u) (unbound m t v)))
      = λ b t w c. trans (symm (read_behind p b t w c u i)) (trans (assoc_same c h (λ _. i) (λ _. j)) (read_behind p b t w c v j)) in
      subst₂ (BothWays o) (sym (spell-append m (SelfOf p) u [] y)) (sym (spell-append m (SelfOf p) v [] y)) (
        at_proto p (steps m u y) (steps m v y) (λ b t w c.
            equal_steps m f s b (ProtoSymbol p.rank) (ProtoSymbol p.rank) t t u v y (steps_behind p b t w c u i)
            (steps_behind p b t w c v j) (equal b t w c) (λ x. at_once (link x))) o valid,
        at_proto p (steps m v y) (steps m u y) (λ b t w c.
            equal_steps m f s b (ProtoSymbol p.rank) (ProtoSymbol p.rank) t t v u y (steps_behind p b t w c v j)
            (steps_behind p b t w c u i) (symm (equal b t w c)) (λ x. at_once (turn (link x)))) o valid,
      )

  -- ---- the basic equations

  -- `[P][P] = [P]`
  doubled : (p : ProtoId) (y : Word) → ((z : Word) → Link E (ProtoSymbol p.rank ∷ ProtoSymbol p.rank ∷ z) (ProtoSymbol p.rank ∷ z))
      → (o : Place) → IsValidPlace o → BothWays o (ProtoSymbol p.rank ∷ ProtoSymbol p.rank ∷ y) (ProtoSymbol p.rank ∷ y)
  doubled p y link o v = (
    at_proto p (ProtoSymbol p.rank ∷ y) y (λ b t w c.
        vanishes m f s b (ProtoSymbol p.rank) (ProtoSymbol p.rank) t self y (no_steps_read m f s b t self refl) refl c
        (λ z. at_once (link z))) o v,
    at_proto p y (ProtoSymbol p.rank ∷ y) (λ b t w c.
        appears m f s b (ProtoSymbol p.rank) (ProtoSymbol p.rank) t self y (no_steps_read m f s b t self refl) refl c
        (λ z. at_once (turn (link z)))) o v,
  )

  -- `[P]·A = [P:A]`
  module _ (named : AreMembersNamed m f) (k : ℕ) (h : IsRank m k) (y : Word) where
    abbrev proto : Symbol
    proto = ProtoSymbol (proto_of m k).rank

    abbrev name : Symbol
    name = NameSymbol (name_of m k).rank

    named_here : (b : Source) (t : Term) → Derivable f b (Requires (Conforms t (proto_of m k))) → HasName f b t (name_of m k)
    named_here b t c = let (p, d, e, i) = named k h in (p, d, stands_for_self f b t (proto_of m k) (Requires (Conforms self p)) c e, i)

    shorter : (z : Word) → C (proto ∷ name ∷ z) (MemberSymbol k ∷ z)
    shorter z = at_once (forth z (member k h))

    longer : (z : Word) → C (MemberSymbol k ∷ z) (proto ∷ name ∷ z)
    longer z = at_once (back z (member k h))

    no_member : (o : Place) → (GoesOn m f o proto → ⊥) → GoesOn m f o (MemberSymbol k) → ⊥
    no_member Outside n c = c
    no_member (Inside b t) n c = n c.1

    no_proto : (o : Place) → (GoesOn m f o (MemberSymbol k) → ⊥) → GoesOn m f o proto → ⊥
    no_proto Outside n c = c
    no_proto (Inside b t) n c = n (h, c, named_here b t c)

    shorten : (o : Place) → (c : Cut m f s o (proto ∷ name ∷ y)) → HasCut m f s o (MemberSymbol k ∷ y) (current c) (blocks c)
    shorten (Inside b t) (on c r) =
        let (q, e, d) = goes_on m f s b t name y (named_here b t c) r in (
          on (h, c, named_here b t c) q,
          subst (λ w. C (proto ∷ w) (MemberSymbol k ∷ current q)) (sym e) (shorter (current q)),
          subst (λ w. AllZip C w (blocks q)) (sym d) (all_same m f s (blocks q)),
        )
    shorten o (opened n c r) =
        let (q, e, d) = goes_on m f s (SelfOf (proto_of m k)) self name y (named k h) r in (
          opened (no_member o n) (refl, h, named k h) q,
          done,
          (
            subst (λ w. C (proto ∷ w) (MemberSymbol k ∷ current q)) (sym e) (shorter (current q)),
            subst (λ w. AllZip C w (blocks q)) (sym d) (all_same m f s (blocks q)),
          ),
        )
    shorten o (alone n c r) = absurd (c refl)

    lengthen : (o : Place) → (c : Cut m f s o (MemberSymbol k ∷ y)) → HasCut m f s o (proto ∷ name ∷ y) (current c) (blocks c)
    lengthen (Inside b t) (on c r) = (on c.1 (on c.2 r), longer (current r), all_same m f s (blocks r))
    lengthen o (opened n c r) = (opened (no_proto o n) refl (on (named k h) r), done, (longer (current r), all_same m f s (blocks r)))
    lengthen o (alone n c r) = absurd (c (refl, h, named k h))

  -- ---- links, where the equations of the source's own members leave the blocks

  abbrev OwnLeaveBlocks : Type 0
  OwnLeaveBlocks =
      (r : TermRequirement) → Gives (UsableIn f s) s r → (y : Word) (o : Place) → BothWays o (left_side m s r ++ y) (right_side m s r ++ y)

  module _ (named : AreMembersNamed m f) (own_leave : OwnLeaveBlocks) where
    at_equation : {l r : Word} → E l r → (y : Word) (o : Place) → IsValidPlace o → BothWays o (l ++ y) (r ++ y)
    at_equation (twice p h) y o v = doubled p y (λ z. forth z (twice p h)) o v
    at_equation (member k h) y o v = (shorten named k h y o, lengthen named k h y o)
    at_equation (of_protocol p r (h, w)) y o v = of_requirement p r h w y o v
    at_equation (of_source r h) y o v = own_leave r h y o

    at_link : {u v : Word} → Link E u v → (o : Place) → IsValidPlace o → (k : Cut m f s o u) → HasCut m f s o v (current k) (blocks k)
    unfolding IsValidPlace
    at_link (forth y e) o v k = (at_equation e y o v).0 k
    at_link (back y e) o v k = (at_equation e y o v).1 k
    at_link (there x l) (Inside b t) v (on c r) =
        let (k, h, q) = at_link l (Inside b (after m t x)) (valid_after m f b t x v c) r in (on c k, chain_before (x ∷ []) h, q)
    at_link (there x l) o v (opened n c r) =
        let (k, h, q) = at_link l (Inside (over m s x) (first m x)) (valid_first m f (over m s x) x c) r in
        (opened n c k, done, (chain_before (x ∷ []) h, q))
    at_link (there x l) o v (alone n c r) = let (k, h, q) = at_link l Outside tt r in (alone n c k, done, (done, q))

-- ---- over a list

module _ (m : Symbols) (f : TermFacts) (ps : List ParamId) (list : List TermRequirement) (fit : AreSymbolsOf m f) where
  abbrev L : Source
  L = Written ps list

  abbrev Owned : Word → Word → Type 0
  Owned = Equation m (UsableOf f) (UsableIn f L) L

  abbrev param : Term → Symbol
  param u = ParamSymbol (head u).depth (head u).index

  abbrev root : Term → Term
  root u = Generic (head u)

  not_inside : (o : Place) (g : ParamId) → GoesOn m f o (ParamSymbol g.depth g.index) → ⊥
  not_inside Outside g c = c
  not_inside (Inside b t) g c = c

  -- a generic parameter of the list opens a block
  at_param : (g h : ParamId) (u v : Word) → Contains ps g → Contains ps h
      → Changes m f L L (ParamSymbol g.depth g.index) (Generic g) u (ParamSymbol h.depth h.index) (Generic h) v
      → (o : Place) → (k : Cut m f L o (ParamSymbol g.depth g.index ∷ u))
      → HasCut m f L o (ParamSymbol h.depth h.index ∷ v) (current k) (blocks k)
  at_param g h u v i j changes (Inside b t) (on c r) = absurd c
  at_param g h u v i j changes o (opened n c r) = let (k, e, q) = changes r in (opened (not_inside o h) j k, done, (e, q))
  at_param g h u v i j changes o (alone n c r) = absurd (c i)

  own_steps : (u : Term) → Derivable f L (IsValid u) → AreStepsRead m f L L (root u) u
  own_steps u v = steps_read m f L L (root u) u [] ((own m f fit L u v).1 [] tt)

  -- `u·z = u`, where z is a protocol or the layout
  own_symbol : (u : Term) (z : Symbol) → ((t : Term) → after m t z ≡ t) → Derivable f L (IsValid u) → CanRead m f L (read m f fit L u) z
      → ((y : Word) → Link Owned (spell m L u (z ∷ y)) (spell m L u y)) → (y : Word) (o : Place)
      → BothWays m f L fit o (spell m L u (z ∷ []) ++ y) (spell m L u [] ++ y)
  own_symbol u z stays w c link y o =
      subst₂ (BothWays m f L fit o) (sym (spell-append m L u (z ∷ []) y)) (sym (spell-append m L u [] y)) (
        at_param (head u) (head u) (steps m u (z ∷ y)) (steps m u y) (root_param u w) (root_param u w)
            (vanishes m f L L (param u) z (root u) u y (own_steps u w) (stays (unbound m (root u) u)) c (λ x. at_once (link x))) o,
        at_param (head u) (head u) (steps m u y) (steps m u (z ∷ y)) (root_param u w) (root_param u w)
            (appears m f L L (param u) z (root u) u y (own_steps u w) (stays (unbound m (root u) u)) c (λ x. at_once (turn (link x)))) o,
      )

  own_leave : OwnLeaveBlocks m f L fit
  own_leave (Conforms u q) (h, w) y o =
      own_symbol u (ProtoSymbol q.rank) (λ t. refl) w (same_conf (conf h (λ _. w)) (symm (own m f fit L u w).0))
      (λ x. conf_link L u q x (of_source (Conforms u q) (h, w))) y o
  own_leave (IsAnyObject u) (h, w) y o =
      own_symbol u LayoutSymbol (λ t. refl) w (same_layout (layout h (λ _. w)) (symm (own m f fit L u w).0))
      (λ x. layout_link L u x (of_source (IsAnyObject u) (h, w))) y o
  own_leave (Equals u v) (h, (i, j)) y o =
      let link : (x : Word) → Link Owned (spell m L u x) (spell m L v x) = λ x. same_link L u v x (of_source (Equals u v) (h, (i, j))) in
      let equal : Derivable f L (Requires (Equals (read m f fit L u) (read m f fit L v)))
      = trans (symm (own m f fit L u i).0) (trans (same h (λ _. i) (λ _. j)) (own m f fit L v j).0) in
      subst₂ (BothWays m f L fit o) (sym (spell-append m L u [] y)) (sym (spell-append m L v [] y)) (
        at_param (head u) (head v) (steps m u y) (steps m v y) (root_param u i) (root_param v j)
            (equal_steps m f L L (param u) (param v) (root u) (root v) u v y (own_steps u i) (own_steps v j) equal
            (λ x. at_once (link x))) o,
        at_param (head v) (head u) (steps m v y) (steps m u y) (root_param v j) (root_param u i)
            (equal_steps m f L L (param v) (param u) (root v) (root u) v u y (own_steps v j) (own_steps u i) (symm equal)
            (λ x. at_once (turn (link x)))) o,
      )

  -- Along a chain the number of blocks stays, and each block is congruent to the one at its place.
  pub blocks_law : AreMembersNamed m f → {u v : Word} → AreCongruent m f L u v → (k : Cut m f L Outside u)
      → (l : Cut m f L Outside v) × AllZip (AreCongruent m f L) (blocks k) (blocks l)
  unfolding IsValidPlace
  blocks_law named done k = (k, all_same m f L (blocks k))
  blocks_law named (more l c) k =
      let (i, e, p) = at_link m f L fit named own_leave l Outside tt k in
      let (j, q) = blocks_law named c i in
      (j, all_joined (blocks k) (blocks i) (blocks j) p q)
    where
      all_joined : (us vs ws : List Word) → AllZip (AreCongruent m f L) us vs → AllZip (AreCongruent m f L) vs ws
          → AllZip (AreCongruent m f L) us ws
      all_joined [] [] [] p q = tt
      all_joined [] [] (w ∷ ws) p q = absurd q
      all_joined [] (v ∷ vs) ws p q = absurd p
      all_joined (u ∷ us) [] ws p q = absurd p
      all_joined (u ∷ us) (v ∷ vs) [] p q = absurd q
      all_joined (u ∷ us) (v ∷ vs) (w ∷ ws) (x, p) (y, q) = (joined x y, all_joined us vs ws p q)

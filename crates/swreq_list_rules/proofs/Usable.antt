-- Of a list and of its usable members alone the same is derivable, and their equations are the same.
use Rattle.std.proofs.Common.{◌≡◌, refl, sym, subst₂, List, Contains}
use Rattle.swreq_machine.specs.swreq_param.declared.ids.ParamId.{ParamId}
use Rattle.swreq_machine.specs.swreq_derive.Derivation.{Derivable, HasParam, HasRequirement, Source, TermFacts, TermRequirement, TermStatement}
use Rattle.swreq_machine.specs.swreq_derive.Derivation.Source.{Written}
use Rattle.swreq_machine.specs.swreq_derive.Derivation.TermRequirement.{Conforms, Equals, IsAnyObject}
use Rattle.swreq_machine.specs.swreq_derive.Derivation.Derives.{generic, conf, same, layout, assoc_name, assoc_decl, assoc_bind, assoc_conf, assoc_same, assoc_layout, reflex, symm, trans, same_conf, same_layout, same_name, same_decl}
use Rattle.swreq_machine.specs.swreq_derive.WellFormed.{HasValidSides}
use Rattle.swreq_machine.proofs.swreq_derive.Monotone.{grows}
use Rattle.swreq_machine.specs.swreq_rule.declared.rules.Rule.{Rule}
use Rattle.swreq_machine.specs.swreq_correspondence.Symbols.{Symbols, Word, left_side, right_side}
use Rattle.swreq_machine.specs.swreq_correspondence.Equations.{UsableEquation}
use Rattle.swreq_machine.specs.swreq_correspondence.Equations.Equation.{member, of_protocol, of_source, twice}
use Rattle.swreq_machine.specs.swreq_rounds.Presents.{AreListRules}
use Rattle.swreq_machine.proofs.swreq_rounds.Presented.{presents_to}

-- A source derives what another does where it has those of its requirements that are valid by it.
pub derives_usable : {f : TermFacts} {a : Source} {st : TermStatement} → Derivable f a st → (s : Source)
    → ((g : ParamId) → HasParam a g → HasParam s g)
    → ((r : TermRequirement) → HasRequirement a r → HasValidSides f s r → HasRequirement s r)
    → Derivable f s st
derives_usable (generic {g = g} h) s ps rs = generic (ps g h)
derives_usable (conf {t = t} {p = p} h v) s ps rs = let a = derives_usable (v refl) s ps rs in conf (rs (Conforms t p) h a) (λ e. a)
derives_usable (same {t = t} {u = u} h v w) s ps rs =
    let a = derives_usable (v refl) s ps rs in
    let b = derives_usable (w refl) s ps rs in
    same (rs (Equals t u) h (a, b)) (λ e. a) (λ e. b)
derives_usable (layout {t = t} h v) s ps rs = let a = derives_usable (v refl) s ps rs in layout (rs (IsAnyObject t) h a) (λ e. a)
derives_usable (assoc_name e d) s ps rs = assoc_name (derives_usable e s ps rs) d
derives_usable (assoc_decl e d) s ps rs = assoc_decl (derives_usable e s ps rs) d
derives_usable (assoc_bind e d) s ps rs = assoc_bind (derives_usable e s ps rs) d
derives_usable (assoc_conf e h v) s ps rs = assoc_conf (derives_usable e s ps rs) h v
derives_usable (assoc_same e h v w) s ps rs = assoc_same (derives_usable e s ps rs) h v w
derives_usable (assoc_layout e h v) s ps rs = assoc_layout (derives_usable e s ps rs) h v
derives_usable (reflex e) s ps rs = reflex (derives_usable e s ps rs)
derives_usable (symm e) s ps rs = symm (derives_usable e s ps rs)
derives_usable (trans e h) s ps rs = trans (derives_usable e s ps rs) (derives_usable h s ps rs)
derives_usable (same_conf e h) s ps rs = same_conf (derives_usable e s ps rs) (derives_usable h s ps rs)
derives_usable (same_layout e h) s ps rs = same_layout (derives_usable e s ps rs) (derives_usable h s ps rs)
derives_usable (same_name e h d) s ps rs = same_name (derives_usable e s ps rs) (derives_usable h s ps rs) d
derives_usable (same_decl e h d) s ps rs = same_decl (derives_usable e s ps rs) (derives_usable h s ps rs) d

-- Some members of a list, among them all that are valid by them.
pub record AreAllUsable (f : TermFacts) (gs : List ParamId) (list some : List TermRequirement) : Type 0 where
  pub within : (r : TermRequirement) → Contains some r → Contains list r
  pub whole : (r : TermRequirement) → Contains list r → HasValidSides f (Written gs some) r → Contains some r

module _ (m : Symbols) (f : TermFacts) (gs : List ParamId) (list some : List TermRequirement) (all : AreAllUsable f gs list some) where
  down : (st : TermStatement) → Derivable f (Written gs list) st → Derivable f (Written gs some) st
  down st e = derives_usable e (Written gs some) (λ g h. h) all.whole

  up : (st : TermStatement) → Derivable f (Written gs some) st → Derivable f (Written gs list) st
  up st e = grows f _ gs some list all.within st e

  pub valid_down : (r : TermRequirement) → HasValidSides f (Written gs list) r → HasValidSides f (Written gs some) r
  valid_down (Conforms t p) h = down _ h
  valid_down (IsAnyObject t) h = down _ h
  valid_down (Equals t u) h = (down _ h.0, down _ h.1)

  pub valid_up : (r : TermRequirement) → HasValidSides f (Written gs some) r → HasValidSides f (Written gs list) r
  valid_up (Conforms t p) h = up _ h
  valid_up (IsAnyObject t) h = up _ h
  valid_up (Equals t u) h = (up _ h.0, up _ h.1)

  same_left : (r : TermRequirement) → left_side m (Written gs list) r ≡ left_side m (Written gs some) r
  same_left (Conforms t p) = refl
  same_left (IsAnyObject t) = refl
  same_left (Equals t u) = refl

  same_right : (r : TermRequirement) → right_side m (Written gs list) r ≡ right_side m (Written gs some) r
  same_right (Conforms t p) = refl
  same_right (IsAnyObject t) = refl
  same_right (Equals t u) = refl

  abbrev OfList : Word → Word → Type 0
  OfList = UsableEquation m f (Written gs list)

  abbrev OfSome : Word → Word → Type 0
  OfSome = UsableEquation m f (Written gs some)

  equation_down : (u v : Word) → OfList u v → OfSome u v
  equation_down u v (twice p h) = twice p h
  equation_down u v (member k h) = member k h
  equation_down u v (of_protocol p q h) = of_protocol p q h
  equation_down u v (of_source q h) =
      let valid = valid_down q h.1 in subst₂ OfSome (sym (same_left q)) (sym (same_right q)) (of_source q (all.whole q h.0 valid, valid))

  equation_up : (u v : Word) → OfSome u v → OfList u v
  equation_up u v (twice p h) = twice p h
  equation_up u v (member k h) = member k h
  equation_up u v (of_protocol p q h) = of_protocol p q h
  equation_up u v (of_source q h) = subst₂ OfList (same_left q) (same_right q) (of_source q (all.within q h.0, valid_up q h.1))

  pub rules_down : (rules : List Rule) → AreListRules m f gs list rules → AreListRules m f gs some rules
  rules_down rules h = presents_to rules OfList OfSome equation_down equation_up h

  pub rules_up : (rules : List Rule) → AreListRules m f gs some rules → AreListRules m f gs list rules
  rules_up rules h = presents_to rules OfSome OfList equation_up equation_down h

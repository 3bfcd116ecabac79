-- The lines of a derivation over the facts of a world mention only what the world has.
use Rattle.std.proofs.Common.{◌≡◌, ℕ, zero, suc, ◌-◌, ◌<◌, List, [], ◌∷◌, Contains, Some, arith, length, map, slice_get, subst, sym, take}
use Rattle.swreq_machine.proofs.swreq_lemmas.Elements.{contains_get, get_contains, get_map, get_of_map}
use Rattle.swreq_machine.proofs.{swreq_derive.LineLemmas.{get_take}, swreq_symbols.{Declared.{of_text}, Symbols.{text_law}}}
use Rattle.swreq_machine.specs.swreq_param.declared.ids.{ParamId.{ParamId}, ProtoId.{ProtoId}, NameId.{NameId}, AssocId.{AssocId}}
use Rattle.swreq_machine.specs.{swreq_param.Terms.{Term}, swreq_derive.declared.lines.{DerivRule.{DerivRule}, Line.{Line}}}
use Rattle.swreq_machine.specs.swreq_derive.declared.requirements.{Requirement.TheVariants.{Conf, Layout, Same}, Statement.{Statement}}
use Rattle.swreq_machine.specs.swreq_derive.{declared.requirements.Statement.TheVariants.{Holds, Valid}, Derivation.{Declares, TermFacts}}
use Rattle.swreq_machine.specs.swreq_derive.Derivation.{TermRequirement, TermStatement, TermRequirement.{Conforms, Equals, IsAnyObject}}
use Rattle.swreq_machine.specs.swreq_derive.{Derivation.TermStatement.{IsValid, Requires}, Facts.{IdFacts, IsStatementOver, statement_of}}
use Rattle.swreq_machine.specs.swreq_derive.Instances.{AreStated, HasNumber, IsDerivation, IsInstance, TermLine, statements_of}
use Rattle.swreq_machine.specs.{swreq_derive.Lines.{AreLinesOf, IsRuleOf, line_of}, swreq_correspondence.Symbols.{AreOfText}}
use Rattle.swreq_machine.specs.{swreq_lexicon.Views.{IsName, IsProtocol, LexiconView}, swreq_symbols.Meaning.{symbols_of}}
use Rattle.swreq_machine.specs.swreq_world.{Closed.{IsClosed}, FactsAt.{facts_of}, Worlds.{TextWorld}}
use Rattle.swreq_lines.specs.LineTexts.{HasLineIds, HasRuleIds, HasStatementIds, fields_of}
use Rattle.swreq_derivation.specs.UnderWay.{AreIdsIn}
use Rattle.swreq_machine.specs.swreq_derive.declared.lines.DerivRule.TheVariants as Rule

module _ (w : TextWorld) (closed : IsClosed w) (m : IdFacts) (protocols : m.protocols ≡ length w.lexicon.protocols)
    (names : m.names ≡ length w.lexicon.names)
    (params : List ParamId) (written : List TermRequirement)
    (listed : (t : Term) (p : ProtoId) → Contains written (Conforms t p) → IsProtocol w.lexicon p) where
  abbrev f : TermFacts
  f = facts_of w

  -- if it is stated that a type parameter conforms to a protocol, the protocol is of the text
  abbrev pub IsStated : TermStatement → Type 0
  IsStated (IsValid t) = Unit {0}
  IsStated (Requires (Conforms t p)) = p.rank < m.protocols
  IsStated (Requires (IsAnyObject t)) = Unit {0}
  IsStated (Requires (Equals t u)) = Unit {0}

  abbrev AllStated : List TermStatement → Type 0
  AllStated [] = Unit {0}
  AllStated (st ∷ sts) = IsStated st × AllStated sts

  of_protocols : (p : ProtoId) → IsProtocol w.lexicon p → p.rank < m.protocols
  of_protocols p l = subst (λ n. p.rank < n) (sym protocols) l

  declared : (p : ProtoId) (a : NameId) (d : AssocId) → Declares f p a d → (p.rank < m.protocols) × (a.rank < m.names)
  declared p a d c =
      let h = of_text w.lexicon p a d closed.ids c in
      (of_protocols p h.0, subst (λ n. a.rank < n) (sym names) h.1)

  text : AreOfText (symbols_of w.lexicon) f
  text = text_law w closed

  owner : (p : ProtoId) (n : ℕ) (r : TermRequirement) → HasNumber n (f.of_protocol p) r → p.rank < m.protocols
  owner p n r h = of_protocols p ((closed.ids.written_order p).0 (text.owners p r (get_contains (f.of_protocol p) (n - 1) r h.1)))

  inherited : (p : ProtoId) (n : ℕ) (u : Term) (q : ProtoId) → HasNumber n (f.of_protocol p) (Conforms u q) → q.rank < m.protocols
  inherited p n u q h =
      of_protocols q ((closed.ids.written_order q).0 (text.protocols p u q (get_contains (f.of_protocol p) (n - 1) (Conforms u q) h.1)))

  instance_in : (rule : DerivRule) (from : List TermStatement) (gives : TermStatement)
      → IsInstance f params written rule from gives → AllStated from
      → IsRuleOf m rule × IsStated gives
  instance_in Rule.Generic from gives i h = (tt, subst IsStated (sym i.2) tt)
  instance_in (Rule.Conf n) from gives (t, p, e, g, number) h =
      (tt, subst IsStated (sym g) (of_protocols p (listed t p (get_contains written (n - 1) (Conforms t p) number.1))))
  instance_in (Rule.Same n) from gives (t, u, e, g, number) h = (tt, subst IsStated (sym g) tt)
  instance_in (Rule.Layout n) from gives (t, e, g, number) h = (tt, subst IsStated (sym g) tt)
  instance_in (Rule.AssocName p a) from gives (t, d, e, g, c) h = (declared p a d c, subst IsStated (sym g) tt)
  instance_in (Rule.AssocDecl p a) from gives (t, d, e, g, c) h = (declared p a d c, subst IsStated (sym g) tt)
  instance_in (Rule.AssocBind p a) from gives (t, d, e, g, c) h = (declared p a d c, subst IsStated (sym g) tt)
  instance_in (Rule.AssocConf p n) from gives (t, u, q, e, g, number) h =
      (owner p n (Conforms u q) number, subst IsStated (sym g) (inherited p n u q number))
  instance_in (Rule.AssocSame p n) from gives (t, u, v, e, g, number) h = (owner p n (Equals u v) number, subst IsStated (sym g) tt)
  instance_in (Rule.AssocLayout p n) from gives (t, u, e, g, number) h = (owner p n (IsAnyObject u) number, subst IsStated (sym g) tt)
  instance_in Rule.Reflex from gives (t, e, g) h = (tt, subst IsStated (sym g) tt)
  instance_in Rule.Symm from gives (t, u, e, g) h = (tt, subst IsStated (sym g) tt)
  instance_in Rule.Trans from gives (t, u, v, e, g) h = (tt, subst IsStated (sym g) tt)
  instance_in (Rule.SameConf p) from gives (t, u, e, g) h = let k = subst AllStated e h in (k.0, subst IsStated (sym g) k.0)
  instance_in Rule.SameLayout from gives (t, u, e, g) h = (tt, subst IsStated (sym g) tt)
  instance_in (Rule.SameName p a) from gives (t, u, d, e, g, c) h = (declared p a d c, subst IsStated (sym g) tt)
  instance_in (Rule.SameDecl p a) from gives (t, u, d, e, g, c) h = (declared p a d c, subst IsStated (sym g) tt)

  all_stated : (earlier : List TermStatement) (ns : List ℕ) (sts : List TermStatement) → AreStated earlier ns sts
      → ((n : ℕ) (st : TermStatement) → HasNumber n earlier st → IsStated st) → AllStated sts
  all_stated earlier [] [] h holds = tt
  all_stated earlier [] (st ∷ sts) h holds = absurd h
  all_stated earlier (n ∷ ns) [] h holds = absurd h
  all_stated earlier (n ∷ ns) (st ∷ sts) h holds = (holds n st h.0, all_stated earlier ns sts h.1 holds)

  below : (ls : List TermLine) → IsDerivation f params written ls → (b k : ℕ) (l : TermLine) → k < b → slice_get ls k ≡ Some l
      → IsRuleOf m l.rule × IsStated l.statement
  below ls d zero k l h e = absurd (omega (arith, h))
  below ls d (suc b) k l h e =
      let v = d k l e in
      instance_in l.rule v.from l.statement v.instance (all_stated (take k (statements_of ls)) l.premises v.from v.stated
      (λ n st i.
      let j = get_take k (n - 1) (statements_of ls) st i.1 in
      let x = get_of_map (λ (z : TermLine). z.statement) ls (n - 1) st j.1 in
      subst IsStated x.2 (below ls d b (n - 1) x.0 (omega (arith, j.0, h)) x.1).1))

  over : (terms : List Term) (st : Statement) → AreIdsIn terms st → IsStated (statement_of terms st) → IsStatementOver terms m st
  over terms (Valid t) h s = h
  over terms (Holds (Conf t p)) h s = (h, s)
  over terms (Holds (Layout t)) h s = h
  over terms (Holds (Same t u)) h s = h

  pub lines_are_of : (terms : List Term) (ls : List Line) → IsDerivation f params written (map (line_of terms) ls)
      → ((k : ℕ) (l : Line) → slice_get ls k ≡ Some l → AreIdsIn terms l.statement) → AreLinesOf terms m ls
  lines_are_of terms ls d ids k l e =
      let h = below (map (line_of terms) ls) d (suc k) k (line_of terms l) (omega arith) (get_map (line_of terms) ls k l e) in
      (h.0, over terms l.statement (ids k l e) h.1)

-- ---- as they are printed

module _ (x : LexiconView) (m : IdFacts) (protocols : m.protocols ≡ length x.protocols) (names : m.names ≡ length x.names) where
  proto : (p : ProtoId) → p.rank < m.protocols → IsProtocol x p
  proto p l = subst (λ n. p.rank < n) protocols l

  name : (a : NameId) → a.rank < m.names → IsName x a
  name a l = subst (λ n. a.rank < n) names l

  rule_ids : (rule : DerivRule) → IsRuleOf m rule → HasRuleIds x (fields_of rule)
  rule_ids Rule.Generic h = (tt, tt)
  rule_ids (Rule.Conf n) h = (tt, tt)
  rule_ids (Rule.Same n) h = (tt, tt)
  rule_ids (Rule.Layout n) h = (tt, tt)
  rule_ids (Rule.AssocName p a) h = (proto p h.0, name a h.1)
  rule_ids (Rule.AssocDecl p a) h = (proto p h.0, name a h.1)
  rule_ids (Rule.AssocBind p a) h = (proto p h.0, name a h.1)
  rule_ids (Rule.AssocConf p n) h = (proto p h, tt)
  rule_ids (Rule.AssocSame p n) h = (proto p h, tt)
  rule_ids (Rule.AssocLayout p n) h = (proto p h, tt)
  rule_ids Rule.Reflex h = (tt, tt)
  rule_ids Rule.Symm h = (tt, tt)
  rule_ids Rule.Trans h = (tt, tt)
  rule_ids (Rule.SameConf p) h = (proto p h, tt)
  rule_ids Rule.SameLayout h = (tt, tt)
  rule_ids (Rule.SameName p a) h = (proto p h.0, name a h.1)
  rule_ids (Rule.SameDecl p a) h = (proto p h.0, name a h.1)

  statement_ids : (terms : List Term) (st : Statement) → IsStatementOver terms m st → HasStatementIds terms st
  statement_ids terms (Valid t) h = h
  statement_ids terms (Holds (Conf t p)) h = h.0
  statement_ids terms (Holds (Layout t)) h = h
  statement_ids terms (Holds (Same t u)) h = h

  pub printed_ids : (terms : List Term) (ls : List Line) → AreLinesOf terms m ls → (l : Line) → Contains ls l → HasLineIds x terms l
  printed_ids terms ls h l c =
      let (k, at) = contains_get ls l c in
      let of = h k l at in
      (rule_ids l.rule of.0, statement_ids terms l.statement of.1)

-- The inheritance of a world, its symbols, and its facts, by what words are read by.
use Rattle.std.proofs.Common.{◌≡◌, ◌∙◌, ◌⊎◌, inl, inr, ℕ, ◌+◌, ◌-◌, true, List, Option, Some, Contains, ap, arith, slice_get, subst}
use Rattle.std.proofs.{Common.{sym}, lemmas.List.{length-map}}
use Rattle.swreq_machine.proofs.{swreq_lemmas.Elements.{contains_get, get_contains, get_map, get_of_map}, swreq_symbols.Declared.{at_rank}}
use Rattle.swreq_machine.proofs.swreq_symbols.{Declared.{from_rank, symbol_at}, OfText.{own_requirements}, Symbols.{text_law}}
use Rattle.swreq_machine.specs.swreq_param.{declared.ids.{NameId.{NameId}, ProtoId.{ProtoId}, TermId.{TermId}}, Tables.{term_at}}
use Rattle.swreq_machine.specs.{swreq_param.Terms.{Term, self}, swreq_derive.declared.requirements.Requirement.{Requirement}}
use Rattle.swreq_machine.specs.swreq_derive.{declared.requirements.Requirement.TheVariants.{Conf, Layout, Same}, Derivation.{Declares}}
use Rattle.swreq_machine.specs.swreq_derive.{Derivation.{TermFacts, TermRequirement, TermRequirement.{Conforms}}, Facts.{generic_params}}
use Rattle.swreq_machine.specs.swreq_derive.{Facts.{requirement_of}, Inheritance.{InheritsDirectly, LeadsTo, LeadsTo.{further, here}}}
use Rattle.swreq_machine.specs.{swreq_derive.Instances.{HasNumber}, swreq_lexicon.{Lexicons.{pair}, Views.{HasMember, IsProtocol}}}
use Rattle.swreq_machine.specs.{swreq_lexicon.Views.{LexiconView, inherits}, swreq_lowering.declared.ids.Written.{Written}}
use Rattle.swreq_machine.specs.{swreq_correspondence.Symbols.{AreOfText}, swreq_world.{ByTable.{world_by}, Closed.{IsClosed}}}
use Rattle.swreq_machine.specs.{swreq_world.{FactsAt.{facts_of}, Worlds.{IdWorld, requirements_of}}, swreq_symbols.Known.{IsTextOver}}
use Rattle.swreq_machine.specs.swreq_symbols.Meaning.{symbols_of}
use Rattle.swreq_derivation.specs.UnderWay.{Assumptions}
use Rattle.swreq_readings.specs.{declared.alphabet.Alphabet.{Alphabet}, Alphabets.{Fits}, Inherited.{IsDeclaredIn, IsInherited, IsMemberIn}}
use Rattle.swreq_readings.specs.Inherited.{IsParentIn, written_in}
use Rattle.swreq_births.specs.Systems.{AreSymbols}
use Rattle.swreq_explain.{specs.Histories.{IsSelfId}, proofs.NumberingLemmas.{short_list}}

-- A chain of written inheritance begins with a step to a direct parent.
first_step : {f : TermFacts} {p r q : ProtoId} → LeadsTo f p r → InheritsDirectly f r q
    → (e : ProtoId) × InheritsDirectly f p e × LeadsTo f e q
first_step {f} {p} {r} {q} here i = (q, i, here)
first_step {f} {p} {r} {q} (further l j) i = let s = first_step l j in (s.0, s.1, further s.2 i)

module _ (terms : List Term) (w : IdWorld) (id : Option TermId) (own : IsSelfId terms w id) (text : IsTextOver terms w) where
  abbrev x : LexiconView
  x = w.lexicon

  abbrev f : TermFacts
  f = facts_of (world_by terms w)

  closed : IsClosed (world_by terms w)
  closed = text.closed

  -- what a protocol is written to inherit is one of its requirements
  required_at : (p q : ProtoId) (k : ℕ) → IsParentIn w id p k q → slice_get (f.of_protocol p) k ≡ Some (Conforms self q)
  required_at p q k (t, same, at) =
      ap (λ (z : List TermRequirement). slice_get z k) (own_requirements w terms p)
      ∙ get_map (requirement_of terms) (written_in w p) k (Conf t q) at ∙ ap (λ z. Some (Conforms z q)) ((own p k t q at).1 same)

  -- a protocol that P inherits directly is a parent of P, and both are protocols of the text
  parent_is : (p q : ProtoId) → InheritsDirectly f p q → (k : ℕ) × IsParentIn w id p k q × IsProtocol x p × IsProtocol x q
  parent_is p q c =
      let (k, at) = contains_get (f.of_protocol p) (Conforms self q) c in
      let (r, there, same) = get_of_map (requirement_of terms) (written_in w p) k (Conforms self q)
      (sym (ap (λ (z : List TermRequirement). slice_get z k) (own_requirements w terms p)) ∙ at) in
      let law : AreOfText (symbols_of x) f = text_law (world_by terms w) closed in (
        k,
        by k r there same,
        (closed.ids.written_order p).0 (law.owners p (Conforms self q) c),
        (closed.ids.written_order q).0 (law.protocols p self q c),
      )
    where
      by : (k : ℕ) (r : Requirement) → slice_get (written_in w p) k ≡ Some r → requirement_of terms r ≡ Conforms self q
          → IsParentIn w id p k q
      by k (Conf t o) at e =
          let same : o ≡ q = cc in
          let is : term_at terms t ≡ self = cc in
          (t, (own p k t o at).0 is, at ∙ ap (λ z. Some (Conf t z)) same)
      by k (Layout t) at e = absurd cc
      by k (Same t u) at e = absurd cc

  inherited_from : (p : ProtoId) (a : NameId) → IsMemberIn x p a
      → IsDeclaredIn x p a ⊎ ((k : ℕ) × (q : ProtoId) × IsParentIn w id p k q × IsMemberIn x q a)
  inherited_from p a (k, at) =
      let has = (closed.ids.symbols p a).0 (get_contains x.symbols k (pair p a) at) in
      elim has.1 [
        | inl c ↦ inl (contains_get x.associated (pair p a) c)
        | inr t ↦ inr (by t.0 has.0 t.1 t.2)
      ]
    where
      by : (q : ProtoId) → IsProtocol x p → inherits x p q ≡ true → Contains x.associated (pair q a)
          → (k : ℕ) × (q : ProtoId) × IsParentIn w id p k q × IsMemberIn x q a
      by q l i c =
          let of_q : IsProtocol x q = (closed.ids.associated (pair q a) c).0 in
          let (r, leads, last) = (closed.inheritance p q l of_q).0 i in
          let (e, direct, further_on) = first_step leads last in
          let (n, there, of_p, of_e) = parent_is p e direct in
          let symbol = contains_get x.symbols (pair e a) ((closed.ids.symbols e a).1 (of_e, on e q of_e of_q further_on c)) in
          (n, e, there, symbol)
        where
          on : (e q : ProtoId) → IsProtocol x e → IsProtocol x q → LeadsTo f e q → Contains x.associated (pair q a) → HasMember x e a
          on e q of_e of_q here c = inl c
          on e q of_e of_q (further {q = m} l d) c = inr (q, (closed.inheritance e q of_e of_q).1 (m, l, d), c)

  pub is_inherited : IsInherited w id
  is_inherited = record {
    short = λ p. (let few = short_list w text.short.protocols p in
        let count = length-map (requirements_of w p) (λ (r : Written). r.requirement) in
        omega (arith, few, count));
    goes_down = λ p q k at.
        let direct : InheritsDirectly f p q = get_contains (f.of_protocol p) k (Conforms self q) (required_at p q k at) in
        let (j, there, of_p, of_q) = parent_is p q direct in
        closed.goes_down p q of_p of_q (p, here, direct);
    of_text = λ p a is. ((closed.ids.symbols p a).0 (get_contains x.symbols is.0 (pair p a) is.1)).0;
    from = inherited_from;
  }

module _ (terms : List Term) (g : Alphabet) (own : IsSelfId terms g.world.now g.self_id) (text : IsTextOver terms g.world.now) where
  pub are_symbols : AreSymbols g (symbols_of g.world.now.lexicon) (facts_of (world_by terms g.world.now))
  are_symbols = record {
    associated = λ p a d c. at_rank g.world.now.lexicon p a d c;
    members = λ p a d c. symbol_at g.world.now.lexicon p a d text.closed.ids c;
  }

  pub fits_assumptions : (b : Assumptions) → b.facts ≡ facts_of (world_by terms g.world.now) → b.params ≡ generic_params g.params → Fits g b
  fits_assumptions b same_facts same_params = record {
    associated = λ k n e. subst (λ (z : TermFacts). Declares z n.proto n.name (record { rank = k })) (sym same_facts)
        (from_rank g.world.now.lexicon n.proto n.name (record { rank = k }) e);
    parents = λ p q k at. subst (λ (z : TermFacts). HasNumber (k + 1) (z.of_protocol p) (Conforms self q)) (sym same_facts) (
      omega arith,
      (let same : k + 1 - 1 ≡ k = omega arith in
          ap (slice_get ((facts_of (world_by terms g.world.now)).of_protocol p)) same
          ∙ required_at terms g.world.now g.self_id own text p q k at),
    );
    params = same_params;
  }

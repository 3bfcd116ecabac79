-- Of the associated types of a name, a machine tells the first.
use Rattle.std.proofs.Common.{◌≡◌, ◌⊎◌, inl, inr, refl, sym, ap, subst, ◌∙◌, ℕ, zero, suc, ◌<◌, ◌+◌, arith, List, Option, Some, None, slice_get}
use Rattle.std.proofs.lemmas.Bool.{cases_eq, cases_lt}
use Rattle.std.proofs.lemmas.Option.{same_Some}
use Rattle.swreq_valid.specs.swreq_param.declared.ids.NameId.{NameId}
use Rattle.swreq_valid.specs.swreq_param.declared.ids.ProtoId.{ProtoId}
use Rattle.swreq_valid.specs.swreq_param.Terms.{Term}
use Rattle.swreq_valid.specs.swreq_derive.Derivation.{Derivable, Declares, Source, TermFacts, TermRequirement}
use Rattle.swreq_valid.specs.swreq_derive.Derivation.Source.{Written}
use Rattle.swreq_valid.specs.swreq_derive.Derivation.TermRequirement.{Conforms}
use Rattle.swreq_valid.specs.swreq_derive.Derivation.TermStatement.{IsValid, Requires}
use Rattle.swreq_valid.specs.swreq_derive.Facts.{generic_params}
use Rattle.swreq_valid.proofs.swreq_derive.Substitution.{valid_sides}
use Rattle.swreq_map.specs.swreq_complete.Complete.{IsComplete}
use Rattle.swreq_valid.specs.swreq_lexicon.declared.pair.ProtocolName.{ProtocolName}
use Rattle.swreq_valid.specs.swreq_lexicon.Lexicons.{pair}
use Rattle.swreq_valid.specs.swreq_correspondence.Symbols.{left_side, right_side}
use Rattle.swreq_valid.specs.swreq_correspondence.Types.{HasFirsts}
use Rattle.swreq_valid.specs.swreq_symbols.Meaning.{facts_of, symbols_of}
use Rattle.swreq_valid.proofs.swreq_symbols.Declared.{at_rank, from_rank}
use Rattle.swreq_valid.specs.swreq_world.Closed.{IsClosed}
use Rattle.swreq_valid.specs.swreq_world.Worlds.{TextWorld}
use Rattle.swreq_machine.specs.Machines.{IsMachineOf, MachineView}
use Rattle.swreq_valid.specs.Rounds.{last_rules}
use Rattle.swreq_machine.proofs.Answering.{by_sides}
use Rattle.swreq_machine.proofs.Deciding.{links_decide}

-- the least number of which P holds, or none below n
module _ (P : ℕ → Type 0) (decide : (k : ℕ) → P k ⊎ (P k → ⊥)) where
  abbrev NoneBelow : ℕ → Type 0
  NoneBelow n = (k : ℕ) → k < n → P k → ⊥

  pub least_number : (n : ℕ) → NoneBelow n ⊎ ((k : ℕ) × P k × NoneBelow k)
  least_number zero = inl (λ k l h. absurd (omega (arith, l)))
  least_number (suc n) = elim (least_number n) [
    | inr found ↦ inr found
    | inl none ↦ elim (decide n) [
      | inl h ↦ inr (n, h, none)
      | inr m ↦ inl (λ k l h. elim (cases_eq k n) [ inl e ↦ m (subst P e h) | inr d ↦ none k (omega (arith, l, d)) h ])
    ]
  ]

module _ (w : TextWorld) (closed : IsClosed w) (machine : MachineView) (list : List TermRequirement) (is : IsMachineOf w list machine)
    (complete : IsComplete (last_rules machine.rounds)) where
  abbrev f : TermFacts
  f = facts_of w

  abbrev s : Source
  s = Written (generic_params machine.params) list

  conforms_decide : (t : Term) (p : ProtoId) → Derivable f s (IsValid t)
      → Derivable f s (Requires (Conforms t p)) ⊎ (Derivable f s (Requires (Conforms t p)) → ⊥)
  conforms_decide t p v =
      let law = by_sides w closed machine list is (Conforms t p) v in
      let r = Conforms t p in
      elim (links_decide (last_rules machine.rounds) complete (left_side (symbols_of w.lexicon) s r)
      (right_side (symbols_of w.lexicon) s r)) [
        | inl l ↦ inl (law.1 l)
        | inr n ↦ inr (λ e. n (law.0 e))
      ]

  -- an associated type with the name, of a protocol to which T conforms
  abbrev Gives : Term → NameId → ℕ → Type 0
  Gives t a k = (p : ProtoId) × Declares f p a (record { rank = k }) × Derivable f s (Requires (Conforms t p))

  gives_decide : (t : Term) (a : NameId) → Derivable f s (IsValid t) → (k : ℕ) → Gives t a k ⊎ (Gives t a k → ⊥)
  gives_decide t a v k = at (slice_get w.lexicon.associated k) refl
    where
      other : (e : ProtocolName) → slice_get w.lexicon.associated k ≡ Some e → (p : ProtoId)
          → Declares f p a (record { rank = k }) → pair p a ≡ e
      other e h p d = same_Some (pair p a) e (sym (at_rank w.lexicon p a (record { rank = k }) d) ∙ h)

      at : (o : Option ProtocolName) → slice_get w.lexicon.associated k ≡ o → Gives t a k ⊎ (Gives t a k → ⊥)
      at None h = inr (λ g. let e : Some (pair g.0 a) ≡ None = sym (at_rank w.lexicon g.0 a (record { rank = k }) g.1) ∙ h in cc)
      at (Some e) h = elim (cases_eq e.name.rank a.rank) [
        | inr n ↦ inr (λ g. n (sym (ap (λ (z : ProtocolName). z.name.rank) (other e h g.0 g.1))))
        | inl q ↦ (let same : e ≡ pair e.proto a = λ j. record { proto = e.proto; name = record { rank = q j } } in
            let declared : Declares f e.proto a (record { rank = k }) =
            from_rank w.lexicon e.proto a (record { rank = k }) (h ∙ ap Some same) in
            elim (conforms_decide t e.proto v) [
              | inl c ↦ inl (e.proto, declared, c)
              | inr n ↦ inr (λ g. n (subst (λ (z : ProtoId). Derivable f s (Requires (Conforms t z)))
                  (ap (λ (z : ProtocolName). z.proto) (other e h g.0 g.1)) g.2))
            ])
      ]

  pub firsts : HasFirsts f s
  firsts t a (p, d, c, i) =
      let v = valid_sides f s (Conforms t p) c in
      elim (least_number (Gives t a) (gives_decide t a v) (d.rank + 1)) [
        | inl none ↦ absurd (none d.rank (omega arith) (p, i, c))
        | inr (k, g, none) ↦ (
          record { rank = k },
          record {
            proto = g.0;
            declares = g.1;
            conforms = g.2;
            first = λ q e dq cq. elim (cases_lt e.rank k) [ inl l ↦ absurd (none e.rank l (q, dq, cq)) | inr l ↦ l ];
          },
        )
      ]

-- The equations of the member names of a protocol, name by name.
use Rattle.std.proofs.Common.{◌≡◌, ◌∙◌, refl, sym, ap, subst, inl, inr, ℕ, zero, suc, ◌+◌, ◌-◌, ◌<◌, ◌≤◌, arith, Bool, List, [], ◌∷◌, ◌++◌, append-nil, length, map, drop, slice_get, Some, Contains, ne_eqb, eq-eqb}
use Rattle.std.specs.Bool.{if◌then◌else◌, nat_eq}
use Rattle.std.proofs.lemmas.Bool.{cases_eq, cases_lt}
use Rattle.std.proofs.lemmas.List.{length-map, drop_all}
use Rattle.std.proofs.lemmas.Option.{slice_get_cases, slice_get_within}
use Rattle.swreq_complete.proofs.swreq_lemmas.Elements.{get_contains}
use Rattle.swreq_rounds.specs.swreq_param.declared.ids.NameId.{NameId}
use Rattle.swreq_rounds.specs.swreq_param.declared.ids.ProtoId.{ProtoId}
use Rattle.swreq_world.specs.swreq_lexicon.declared.pair.ProtocolName.{ProtocolName}
use Rattle.swreq_world.specs.swreq_lexicon.Lexicons.{pair}
use Rattle.swreq_world.specs.swreq_lexicon.Views.{LexiconView}
use Rattle.swreq_rounds.specs.swreq_correspondence.Symbols.{MemberName, Word}
use Rattle.swreq_rounds.specs.Given.{named, named_from}
use Rattle.swreq_symbols.specs.Meaning.{member_name}
use Rattle.swreq_world.specs.Closed.{AreIds}
use Rattle.swreq_valid.specs.Named.{IsNameAdded}
use Rattle.swreq_valid.proofs.OfProtocols.{name_more, names_all}

module _ (x : LexiconView) (p : ProtoId) where
  abbrev pub ms : List MemberName
  ms = map member_name x.symbols

  -- The symbol at this place is of P.
  abbrev pub IsOwn : ℕ → ProtocolName → Type 0
  IsOwn k s = (slice_get x.symbols k ≡ Some s) × (s.proto ≡ p)

  -- The symbols of P before the place `done` have names of lesser rank than r, and those from it on have none.
  pub record AreNamesPast (r done : ℕ) : Type 0 where
    pub before : (k : ℕ) (s : ProtocolName) → IsOwn k s → k < done → s.name.rank < r
    pub behind : (k : ℕ) (s : ProtocolName) → IsOwn k s → done ≤ k → r ≤ s.name.rank

  -- The equations that are put last and those from the place on are all.
  abbrev pub AreAll : (all v : List (Word × Word)) → ℕ → Type 0
  AreAll all v k = v ++ named_from p k (drop k ms) ≡ all

  -- The names below r are put last.
  abbrev pub AreNamedTo : (all v : List (Word × Word)) → ℕ → Type 0
  AreNamedTo all v r = (done : ℕ) × AreNamesPast r done × AreAll all v done

module _ (x : LexiconView) (ids : AreIds x) (p : ProtoId) where
  same_proto : (q : ProtoId) → q.rank ≡ p.rank → q ≡ p
  same_proto q e = ap (λ (n : ℕ). let q : ProtoId = record { rank = n } in q) e

  -- a symbol of another protocol adds nothing
  skip_at : (k : ℕ) (all v : List (Word × Word)) (s : ProtocolName) → slice_get x.symbols k ≡ Some s → (s.proto ≡ p → ⊥)
      → AreAll x p all v k → AreAll x p all v (k + 1)
  skip_at k all v s at other h = name_more p x.symbols k s v v all at (sym (append-nil v) ∙ ap (λ z. v ++ z) (sym none)) h
    where
      none : (if nat_eq s.proto.rank p.rank then named p (member_name s) k ∷ [] else []) ≡ []
      none = ap (λ (b : Bool). if b then named p (member_name s) k ∷ [] else [])
          (ne_eqb s.proto.rank p.rank (λ e. other (same_proto s.proto e)))

  skip_one : (k : ℕ) (all v : List (Word × Word)) → ((s : ProtocolName) → IsOwn x p k s → ⊥) → AreAll x p all v k → AreAll x p all v (k + 1)
  skip_one k all v none h = elim (slice_get_cases x.symbols k).1 [
    | inl c ↦ skip_at k all v c.0 c.2 (λ e. none c.0 (c.2, e)) h
    | inr c ↦ (let past : length (ms x p) ≤ k = omega (arith, length-map x.symbols member_name, c.0) in
        let now = names_all p (ms x p) k v all past h in
        ap (λ z. v ++ named_from p (k + 1) z) (drop_all (k + 1) (ms x p) (omega (arith, past))) ∙ append-nil v ∙ now)
  ]

  skip_to : (n k : ℕ) (all v : List (Word × Word)) → ((i : ℕ) (s : ProtocolName) → IsOwn x p i s → k ≤ i → i < k + n → ⊥)
      → AreAll x p all v k → AreAll x p all v (k + n)
  skip_to zero k all v none h = subst (AreAll x p all v) (omega arith) h
  skip_to (suc n) k all v none h =
      subst (AreAll x p all v) (omega arith)
      (skip_to n (k + 1) all v (λ i s own l m. none i s own (omega (arith, l)) (omega (arith, m)))
      (skip_one k all v (λ s own. none k s own (omega arith) (omega arith)) h))

  -- ---- one name

  -- symbols of P go by their names
  at_most : (i k : ℕ) (s t : ProtocolName) → slice_get x.symbols i ≡ Some s → slice_get x.symbols k ≡ Some t → i ≤ k
      → s.name.rank ≤ t.name.rank
  at_most i k s t e f l = elim (cases_lt t.name.rank s.name.rank) [
    | inl m ↦ absurd (let back = ids.symbols_by_name k i t s f e m in omega (arith, back, l))
    | inr m ↦ m
  ]

  same_symbol : (s : ProtocolName) (a : NameId) → s.proto ≡ p → s.name.rank ≡ a.rank → s ≡ pair p a
  same_symbol s a e f =
      ap (λ (q : ProtoId). let d : ProtocolName = record { proto = q; name = s.name } in d) e
      ∙ ap (λ (n : ℕ). let d : ProtocolName = record { proto = p; name = record { rank = n } } in d) f

  -- a name that is not a member name of P
  pub name_absent : (a : NameId) (done : ℕ) → (Contains x.symbols (pair p a) → ⊥) → AreNamesPast x p a.rank done
      → AreNamesPast x p (a.rank + 1) done
  name_absent a done absent h = record {
    before = λ k s own l. omega (arith, h.before k s own l);
    behind = λ k s own l. elim (cases_eq s.name.rank a.rank) [
      | inl e ↦ absurd (absent (subst (Contains x.symbols) (same_symbol s a own.1 e) (get_contains x.symbols k s own.0)))
      | inr n ↦ omega (arith, h.behind k s own l, n)
    ];
  }

  module _ (a : NameId) (done at : ℕ) (found : slice_get x.symbols at ≡ Some (pair p a)) (h : AreNamesPast x p a.rank done) where
    -- it stands from the place on
    from_there : done ≤ at
    from_there = elim (cases_lt at done) [
      | inl l ↦ absurd (let less = h.before at (pair p a) (found, refl) l in omega (arith, less))
      | inr l ↦ l
    ]

    same_place : (k : ℕ) (s : ProtocolName) → IsOwn x p k s → s.name.rank ≡ a.rank → k ≡ at
    same_place k s own e = ids.one_symbol k at (pair p a) (own.0 ∙ ap Some (same_symbol s a own.1 e)) found

    -- between the place and it stands none of P
    none_between : (k : ℕ) (s : ProtocolName) → IsOwn x p k s → done ≤ k → k < at → ⊥
    none_between k s own l m =
        let most = at_most k at s (pair p a) own.0 found (omega (arith, m)) in
        let least = h.behind k s own l in
        omega (arith, same_place k s own (omega (arith, most, least)), m)

    pub name_present : AreNamesPast x p (a.rank + 1) (at + 1)
    name_present = record {
      before = λ k s own l. omega (arith, at_most k at s (pair p a) own.0 found (omega (arith, l)));
      behind = λ k s own l. elim (cases_eq s.name.rank a.rank) [
        | inl e ↦ absurd (omega (arith, same_place k s own e, l))
        | inr n ↦ omega (arith, at_most at k (pair p a) s found own.0 (omega (arith, l)), n)
      ];
    }

    pub equation_present : (all v w : List (Word × Word)) → w ≡ v ++ named p (record { proto = p; name = a }) at ∷ []
        → AreAll x p all v done → AreAll x p all w (at + 1)
    equation_present all v w put so_far =
        name_more p x.symbols at (pair p a) v w all found
        (put
        ∙ ap (λ (b : Bool). v ++ (if b then named p (record { proto = p; name = a }) at ∷ [] else [])) (sym (eq-eqb p.rank p.rank refl)))
        (skipped (at - done) (omega (arith, from_there)))
      where
        skipped : (n : ℕ) → done + n ≡ at → AreAll x p all v at
        skipped n e = subst (AreAll x p all v) e (skip_to n done all v (λ i s own l m. none_between i s own l (omega (arith, m, e))) so_far)

  -- ---- all names

  pub none_named : (old : List (Word × Word)) → AreNamedTo x p (old ++ named_from p 0 (ms x p)) old 0
  none_named old = (0, record { before = λ k s own l. absurd (omega (arith, l)); behind = λ k s own l. omega arith }, refl)

  pub named_more : (all v w : List (Word × Word)) (a : NameId) → IsNameAdded x p a v w → AreNamedTo x p all v a.rank
      → AreNamedTo x p all w (a.rank + 1)
  named_more all v w a (inl (absent, same)) (done, past, so_far) =
      (done, name_absent a done absent past, subst (λ z. AreAll x p all z done) (sym same) so_far)
  named_more all v w a (inr (at, found, put)) (done, past, so_far) =
      (at + 1, name_present a done at found past, equation_present a done at found past all v w put so_far)

  pub named_all : (all v : List (Word × Word)) (r : ℕ) → ((k : ℕ) (s : ProtocolName) → slice_get x.symbols k ≡ Some s → s.name.rank < r)
      → AreNamedTo x p all v r → v ≡ all
  named_all all v r above (done, past, so_far) =
      names_all p (ms x p) (done + length x.symbols) v all (omega (arith, length-map x.symbols member_name))
      (skip_to (length x.symbols) done all v
      (λ k s own l m. (let least = past.behind k s own l in let less = above k s own.0 in omega (arith, least, less))) so_far)

  -- the last symbol has the greatest name
  pub last_above : (count : ℕ) (s : ProtocolName) → length x.symbols ≡ count + 1 → slice_get x.symbols count ≡ Some s
      → (k : ℕ) (t : ProtocolName) → slice_get x.symbols k ≡ Some t → t.name.rank < s.name.rank + 1
  last_above count s many e k t f =
      let within = slice_get_within x.symbols k t f in
      let most = at_most k count t s f e (omega (arith, within, many)) in omega (arith, most)

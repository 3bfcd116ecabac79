-- Each text of a predictive grammar is read, whatever follows that it does not take.
use Rattle.swreq_grammar.specs.declared.token.Token.{Token}
use Rattle.std.proofs.Common.{◌≡◌, ℕ, zero, suc, ◌≤◌, ◌<◌, Bool, true, false, cond, List, [], ◌∷◌, ◌++◌, length, Ok, refl, ap, subst, ◌∙◌, append_assoc, arith, inl, inr}
use Rattle.std.specs.Prelude.{◌&&◌, not}
use Rattle.std.proofs.lemmas.Bool.{and_parts, not-true}
use Rattle.std.proofs.lemmas.List.{length-append}
use Rattle.swreq_grammar.specs.Grammar.{Limit, unlimited, at_most, Grammar, terminal, empty, mapped, sequence, alternative, repetition, labelled, has, Within, Parts, Matches}
use Rattle.swreq_grammar.specs.Reader.{begins, nullable, first_set, follow_last, disjoint, is_predictive, steps, read_parts, read}
use Rattle.swreq_grammar.proofs.Sets.{not_in_disjoint, begins_split, nullable_of, first_of}
use Rattle.swreq_grammar.proofs.Reading.{text_some}
use Rattle.swreq_grammar.proofs.Repeating.{goes, stops}

module _ {T : Type 0} (number : T → ℕ) where
  begins_has : (firsts : List T) (t : Token T) (ts : List (Token T)) → has number firsts t.terminal ≡ true
      → begins number firsts (t ∷ ts) ≡ true
  begins_has firsts t ts h = h

  pub apart_front : {L A : Type 0} (h : Grammar T L A) (firsts : List T) → disjoint number firsts (first_set h) ≡ true
      → (q rest : List (Token T)) (v : A) → Matches number h q v →
      (nullable h ≡ true → begins number firsts rest ≡ false) → begins number firsts (q ++ rest) ≡ false
  apart_front h firsts a [] rest v m k = k (nullable_of number h v m)
  apart_front h firsts a (t ∷ q) rest v m k = not_in_disjoint number firsts (first_set h) t.terminal a (first_of number h t q v m)

  pub front_begins : {L A : Type 0} (g : Grammar T L A) → nullable g ≡ false → (q rest : List (Token T)) (v : A) → Matches number g q v
      → begins number (first_set g) (q ++ rest) ≡ true
  front_begins g e [] rest v m = absurd (text_some number g e v m)
  front_begins g e (t ∷ q) rest v m = first_of number g t q v m

  pub cond_on : (b : Bool) (firsts : List T) (ts : List (Token T)) → begins number (cond b firsts []) ts ≡ false → b ≡ true
      → begins number firsts ts ≡ false
  cond_on true firsts ts h e = h
  cond_on false firsts ts h e = absurd cc

  abbrev pub Complete : {L A : Type 0} → Grammar T L A → Type 0
  Complete {A} g = (pre : List (Token T)) (v : A) (rest : List (Token T)) → Matches number g pre v
      → begins number (follow_last g) rest ≡ false → read number g (pre ++ rest) ≡ Ok (v, rest)

  abbrev pub Room : {L : Type 0} → Limit L → ℕ → ℕ → List (Token T) → Type 0
  Room unlimited n k ts = length ts ≤ n
  Room (at_most l label) n k ts = k ≤ n

  pub room_more : {L : Type 0} (limit : Limit L) (m k : ℕ) (ts rest : List (Token T)) → length rest < length ts → Room limit m (suc k) ts
      → (n : ℕ) × (m ≡ suc n) × Room limit n k rest
  room_more unlimited zero k ts rest h r = absurd (omega arith)
  room_more unlimited (suc n) k ts rest h r = (n, refl, omega arith)
  room_more (at_most l label) zero k ts rest h r = absurd (omega arith)
  room_more (at_most l label) (suc n) k ts rest h r = (n, refl, omega arith)

  pub longer : {L A : Type 0} (g : Grammar T L A) → nullable g ≡ false → (q more : List (Token T)) (v : A) → Matches number g q v
      → length more < length (q ++ more)
  longer g e [] more v m = absurd (text_some number g e v m)
  longer g e (t ∷ q) more v m = omega (arith, length-append q more)

  pub many_complete : {L A : Type 0} (g : Grammar T L A) (limit : Limit L) → nullable g ≡ false
      → disjoint number (follow_last g) (first_set g) ≡ true → Complete g → (vs : List A) (m : ℕ) (pre rest : List (Token T)) →
      Parts (Matches number g) pre vs → begins number (follow_last g) rest ≡ false → begins number (first_set g) rest ≡ false
      → Room limit m (length vs) (pre ++ rest) → read_parts number (read number g) (first_set g) limit m (pre ++ rest) ≡ Ok (vs, rest)
  many_complete g limit e a each [] m pre rest p b c r =
      rw p (stops number (read number g) (first_set g) limit m rest c)
  many_complete g limit e a each (v ∷ vs) m pre rest p b c r =
      let whole : pre ++ rest ≡ p.0 ++ (p.1 ++ rest) = ap (λ (zs : List (Token T)). zs ++ rest) p.2 ∙ append_assoc p.0 p.1 rest in
      let room : Room limit m (suc (length vs)) (p.0 ++ (p.1 ++ rest)) = subst (λ zs. Room limit m (suc (length vs)) zs) whole r in
      let k = room_more limit m (length vs) (p.0 ++ (p.1 ++ rest)) (p.1 ++ rest) (longer g e p.0 (p.1 ++ rest) v p.3) room in
      let now = each p.0 v (p.1 ++ rest) p.3 (apart_front (repetition unlimited g) (follow_last g) a p.1 rest vs (p.4, tt) (λ z. b)) in
      let later = many_complete g limit e a each vs k.0 p.1 rest p.4 b c k.2 in
      ap (read_parts number (read number g) (first_set g) limit m) whole
      ∙ goes number (read number g) (first_set g) limit m k.0 (p.0 ++ (p.1 ++ rest)) k.1
      (front_begins g e p.0 (p.1 ++ rest) v p.3)
      ∙ rw (now, later) refl

  pub room_at : {L : Type 0} (limit : Limit L) (k : ℕ) (ts : List (Token T)) → Within limit k → Room limit (steps limit ts) k ts
  room_at unlimited k ts w = omega arith
  room_at (at_most n label) k ts w = w

  pub complete : {L A : Type 0} (g : Grammar T L A) → is_predictive number g ≡ true → (pre : List (Token T)) (v : A) (rest : List (Token T))
      → Matches number g pre v → begins number (follow_last g) rest ≡ false → read number g (pre ++ rest) ≡ Ok (v, rest)
  complete (terminal firsts) p pre v rest m b = rw (m.0, m.1) refl
  complete (empty w) p pre v rest m b = rw (m.0, m.1) refl
  complete (mapped f g) p pre v rest m b = rw (complete g p pre m.0 rest m.1 b, m.2) refl
  complete (sequence g h) p pre v rest m b =
      let q = and_parts (is_predictive number g) (is_predictive number h && disjoint number (follow_last g) (first_set h)) p in
      let r = and_parts (is_predictive number h) (disjoint number (follow_last g) (first_set h)) q.1 in
      let c = begins_split number (follow_last h) (cond (nullable h) (follow_last g) []) rest b in
      let whole : pre ++ rest ≡ m.0 ++ (m.1 ++ rest) = ap (λ (zs : List (Token T)). zs ++ rest) m.2 ∙ append_assoc m.0 m.1 rest in
      let now = complete g q.0 m.0 v.0 (m.1 ++ rest) m.3
      (apart_front h (follow_last g) r.1 m.1 rest v.1 m.4 (cond_on (nullable h) (follow_last g) rest c.1)) in
      let later = complete h r.0 m.1 v.1 rest m.4 c.0 in
      ap (read number (sequence g h)) whole ∙ rw (now, later) refl
  complete (alternative g h) p pre v rest (inl m) b =
      let q =
      and_parts (is_predictive number g && is_predictive number h) (not (nullable g) && disjoint number (first_set g) (first_set h)) p in
      let r = and_parts (is_predictive number g) (is_predictive number h) q.0 in
      let s = and_parts (not (nullable g)) (disjoint number (first_set g) (first_set h)) q.1 in
      let c = begins_split number (follow_last g ++ follow_last h) (cond (nullable h) (first_set g) []) rest b in
      let d = begins_split number (follow_last g) (follow_last h) rest c.0 in
      rw (front_begins g (not-true (nullable g) s.0) pre rest v m) (complete g r.0 pre v rest m d.0)
  complete (alternative g h) p pre v rest (inr m) b =
      let q =
      and_parts (is_predictive number g && is_predictive number h) (not (nullable g) && disjoint number (first_set g) (first_set h)) p in
      let r = and_parts (is_predictive number g) (is_predictive number h) q.0 in
      let s = and_parts (not (nullable g)) (disjoint number (first_set g) (first_set h)) q.1 in
      let c = begins_split number (follow_last g ++ follow_last h) (cond (nullable h) (first_set g) []) rest b in
      let d = begins_split number (follow_last g) (follow_last h) rest c.0 in
      rw (apart_front h (first_set g) s.1 pre rest v m (cond_on (nullable h) (first_set g) rest c.1)) (complete h r.1 pre v rest m d.1)
  complete (repetition limit g) p pre v rest m b =
      let q = and_parts (is_predictive number g) (not (nullable g) && disjoint number (follow_last g) (first_set g)) p in
      let r = and_parts (not (nullable g)) (disjoint number (follow_last g) (first_set g)) q.1 in
      let c = begins_split number (follow_last g) (first_set g) rest b in
      many_complete g limit (not-true (nullable g) r.0) r.1 (complete g q.0) v (steps limit (pre ++ rest)) pre rest m.0 c.0 c.1
      (room_at limit (length v) (pre ++ rest) m.1)
  complete (labelled label g) p pre v rest m b =
      let q = and_parts (is_predictive number g) (not (nullable g)) p in
      rw (front_begins g (not-true (nullable g) q.1) pre rest v m) (complete g q.0 pre v rest m b)

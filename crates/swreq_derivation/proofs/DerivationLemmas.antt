-- Derivations: how they grow by a line, and what they state by ids and over type parameters.
use Rattle.std.proofs.Common.{◌≡◌, ℕ, zero, suc, ◌+◌, ◌-◌, ◌<◌, List, [], ◌∷◌, ◌++◌, get_or, length, map, take, slice_get, Option}
use Rattle.std.proofs.{Common.{Some, None, MatchOption, refl, sym, ap, ap₂, subst, ◌∙◌, ◌⊎◌, inl, inr, arith}, Math.Seq.{take-append_seam}}
use Rattle.std.proofs.lemmas.List.{map-append, take-append-le, take_more, length-map}
use Rattle.swreq_derive.specs.{swreq_param.{Terms.{Term}, Tables.{AreDistinct, Extends}}, declared.lines.Line.{Line}}
use Rattle.swreq_derive.specs.declared.{lines.DerivRule.{DerivRule}, requirements.Requirement.TheVariants.{Conf, Layout, Same}}
use Rattle.swreq_derive.specs.{declared.requirements.Statement.{Statement, TheVariants.{Valid, Holds}}, Derivation.{TermStatement}}
use Rattle.swreq_derive.specs.Derivation.{TermRequirement.{Conforms, IsAnyObject, Equals}, TermStatement.{IsValid, Requires}}
use Rattle.swreq_derive.specs.Facts.{statement_of}
use Rattle.swreq_derive.specs.Instances.{HasNumber, AreStated, Follows, IsInstance, IsDerivation, TermLine, statements_of}
use Rattle.swreq_derive.{specs.Lines.{line_of, stated_by}, proofs.swreq_param.Growing.{onward, unchanged}}
use Rattle.swreq_derive.proofs.{swreq_lemmas.Elements.{get_map, get_of_map}, LineLists.{number_left, number_last}}
use Rattle.swreq_derivation.specs.{declared.derivation.Derivation.{Derivation, TheInside.{Inside}}, Inside.{IsUnderWay, view_of}}
use Rattle.swreq_derivation.specs.UnderWay.{AddsLines, AllIn, AreIdsIn, ArePremises, Assumptions, Continues, ContinuesFrom, IsPremise}
use Rattle.swreq_derivation.specs.UnderWay.{States, statements_in}

-- ---- ids and type parameters

-- Two statements over ids of a table are identical if they are the same statement over type parameters.
pub same_ids : (terms : List Term) → AreDistinct terms → (a b : Statement) → AreIdsIn terms a → AreIdsIn terms b
    → statement_of terms a ≡ statement_of terms b → a ≡ b
same_ids terms d (Valid x) (Valid y) h k e = ap Valid (d x y h k (cc))
same_ids terms d (Valid x) (Holds r) h k e = absurd cc
same_ids terms d (Holds r) (Valid y) h k e = absurd cc
same_ids terms d (Holds (Conf x p)) (Holds (Conf y q)) h k e = let i : x ≡ y = d x y h k (cc) in let j : p ≡ q = cc in cc
same_ids terms d (Holds (Conf x p)) (Holds (Layout y)) h k e = absurd cc
same_ids terms d (Holds (Conf x p)) (Holds (Same y z)) h k e = absurd cc
same_ids terms d (Holds (Layout x)) (Holds (Conf y q)) h k e = absurd cc
same_ids terms d (Holds (Layout x)) (Holds (Layout y)) h k e = let i : x ≡ y = d x y h k (cc) in cc
same_ids terms d (Holds (Layout x)) (Holds (Same y z)) h k e = absurd cc
same_ids terms d (Holds (Same x w)) (Holds (Conf y q)) h k e = absurd cc
same_ids terms d (Holds (Same x w)) (Holds (Layout y)) h k e = absurd cc
same_ids terms d (Holds (Same x w))
    (Holds (Same y z)) h k e = let i : x ≡ y = d x y h.0 k.0 (cc) in let j : w ≡ z = d w z h.1 k.1 (cc) in cc

module _ (d : Inside) (h : IsUnderWay d) where
  -- a line states what is found among the statements
  found : (st : Statement) (n : ℕ) → HasNumber n d.stated st → HasNumber n (statements_in (view_of d)) (statement_of d.table st)
  found st n w =
      (w.0, get_map (statement_of d.table) (stated_by d.lines.items) (n - 1) st (subst (λ z. slice_get z (n - 1) ≡ Some st) h.stated w.1))

  -- no line states what is not found among the statements
  not_found : (st : Statement) → AreDistinct d.table → AreIdsIn d.table st → ((k : ℕ) → slice_get d.stated k ≡ Some st → ⊥)
      → States (view_of d) (statement_of d.table st) → ⊥
  not_found st e i none w =
      let x = get_of_map (statement_of d.table) (stated_by d.lines.items) (w.0 - 1) (statement_of d.table st) w.1.1 in
      let l = get_of_map (λ (z : Line). z.statement) d.lines.items (w.0 - 1) x.0 x.1 in
      let o : AreIdsIn d.table x.0 = subst (AreIdsIn d.table) l.2 (h.ids (w.0 - 1) l.0 l.1) in
      let same : x.0 ≡ st = same_ids d.table e x.0 st o i x.2 in
      none (w.0 - 1) (subst (λ z. slice_get z (w.0 - 1) ≡ Some st) (sym h.stated) (x.1 ∙ ap Some same))

  -- a search among the statements tells whether a line states it
  pub number_told : (st : Statement) (o : Option ℕ) → AreDistinct d.table → AreIdsIn d.table st
      → MatchOption o ((k : ℕ) → slice_get d.stated k ≡ Some st → ⊥) (λ n. HasNumber n d.stated st)
      → MatchOption o (States (view_of d) (statement_of d.table st) → ⊥)
      (λ n. HasNumber n (statements_in (view_of d)) (statement_of d.table st))
  number_told st (Some n) e i w = found st n w
  number_told st None e i w = not_found st e i w

  -- what no line states is not found among the statements
  pub unsaid : (st : Statement) → (States (view_of d) (statement_of d.table st) → ⊥) → (k : ℕ) → slice_get d.stated k ≡ Some st → ⊥
  unsaid st none k w =
      none (k + 1, found st (k + 1) (omega arith, subst (λ z. slice_get d.stated z ≡ Some st) (omega arith) w))

-- ---- premises

pub premise_at : (s : Derivation) (sts : List Statement) (k : ℕ) (d : Statement) → k < length sts → ArePremises s sts
    → IsPremise s (get_or sts k d)
premise_at s [] k d within h = absurd (omega arith)
premise_at s (x ∷ sts) zero d within h = h.0
premise_at s (x ∷ sts) (suc k) d within h = premise_at s sts k d (omega arith) h.1

-- the number of one more statement comes last
pub stated_more : (s : Derivation) (sts : List Statement) (k : ℕ) (d : Statement) (ns more : List ℕ) (n : ℕ) → k < length sts
    → AreStated (statements_in s) ns (map (statement_of s.table) (take k sts))
    → HasNumber n (statements_in s) (statement_of s.table (get_or sts k d)) → more ≡ ns ++ n ∷ []
    → AreStated (statements_in s) more (map (statement_of s.table) (take (k + 1) sts))
stated_more s sts k d ns more n within h is e =
    let f = statement_of s.table in
    let now = ap (map f) (take_more sts k d within) ∙ map-append f (take k sts) (get_or sts k d ∷ []) in
    subst (λ z. AreStated (statements_in s) z (map f (take (k + 1) sts))) (sym e)
    (subst (AreStated (statements_in s) (ns ++ n ∷ [])) (sym now) (last ns (map f (take k sts)) h))
  where
    last : (ms : List ℕ) (from : List TermStatement) → AreStated (statements_in s) ms from
        → AreStated (statements_in s) (ms ++ n ∷ []) (from ++ statement_of s.table (get_or sts k d) ∷ [])
    last [] [] h = (is, tt)
    last [] (x ∷ from) h = absurd h
    last (m ∷ ms) [] h = absurd h
    last (m ∷ ms) (x ∷ from) h = (h.0, last ms from h.1)

-- ---- a line more

-- the statements of the lines over type parameters are the statements of the lines, over type parameters
statements_are : (terms : List Term) (ls : List Line) → statements_of (map (line_of terms) ls) ≡ map (statement_of terms) (stated_by ls)
statements_are terms [] = refl
statements_are terms (l ∷ ls) = ap (λ z. statement_of terms l.statement ∷ z) (statements_are terms ls)

-- an item of a list with one more item is an item of the list, or the last one
last_or_before : {A : Type 0} (xs : List A) (y : A) (k : ℕ) (x : A) → slice_get (xs ++ y ∷ []) k ≡ Some x
    → ((k < length xs) × (slice_get xs k ≡ Some x)) ⊎ ((k ≡ length xs) × (x ≡ y))
last_or_before [] y zero x e = inr (refl, cc)
last_or_before [] y (suc k) x e = absurd cc
last_or_before (z ∷ xs) y zero x e = inl (omega arith, e)
last_or_before (z ∷ xs) y (suc k) x e = elim (last_or_before xs y k x e) [
  | inl w ↦ inl (omega (arith, w.0), w.1)
  | inr w ↦ inr (ap suc w.0, w.1)
]

module _ (b : Assumptions) where
  abbrev Follow : List TermStatement → TermLine → Type 0
  Follow = Follows b.facts b.params b.written

  derivation_more : (ls : List TermLine) (l : TermLine) → IsDerivation b.facts b.params b.written ls → Follow (statements_of ls) l
      → IsDerivation b.facts b.params b.written (ls ++ l ∷ [])
  derivation_more ls l d w k x e =
      let m : statements_of (ls ++ l ∷ []) ≡ statements_of ls ++ l.statement ∷ [] = map-append
      (λ (z : TermLine). z.statement) ls (l ∷ []) in
      let n : length (statements_of ls) ≡ length ls = length-map ls (λ (z : TermLine). z.statement) in
      elim (last_or_before ls l k x e) [
        | inl i ↦ subst (λ z. Follow (take k z) x) (sym m) (subst (λ z. Follow z x)
            (sym (take-append-le k (statements_of ls) (l.statement ∷ []) (omega (arith, n, i.0)))) (d k x i.1))
        | inr i ↦ subst (λ z. Follow (take k z) x) (sym m) (subst
            (λ z. Follow (take z (statements_of ls ++ l.statement ∷ [])) x) (n ∙ sym i.0)
            (subst (λ z. Follow z x) (sym (take-append_seam (statements_of ls) (l.statement ∷ [])))
            (subst (Follow (statements_of ls)) (sym i.1) w)))
      ]

  -- a derivation stays one with a line more, if its rule gives what it states from what its premises state
  line_more : (terms : List Term) (ls : List Line) (rule : DerivRule) (ns : List ℕ) (from : List TermStatement) (st : Statement)
      → AreStated (map (statement_of terms) (stated_by ls)) ns from
      → IsInstance b.facts b.params b.written rule from (statement_of terms st)
      → IsDerivation b.facts b.params b.written (map (line_of terms) ls)
      → IsDerivation b.facts b.params b.written (map (line_of terms) (ls ++ record { rule = rule; premises = ns; statement = st } ∷ []))
  line_more terms ls rule ns from st h i d =
      subst (IsDerivation b.facts b.params b.written) (sym (map-append (line_of terms) ls
      (record { rule = rule; premises = ns; statement = st } ∷ [])))
      (derivation_more (map (line_of terms) ls) (line_of terms (record { rule = rule; premises = ns; statement = st })) d
      (record { from = from; stated = subst (λ z. AreStated z ns from) (sym (statements_are terms ls)) h; instance = i }))

module _ (terms : List Term) (ls : List Line) (l : Line) where
  abbrev say : List Line → List TermStatement
  say z = map (statement_of terms) (stated_by z)

  say_more : say (ls ++ l ∷ []) ≡ say ls ++ statement_of terms l.statement ∷ []
  say_more = ap (map (statement_of terms)) (map-append (λ (z : Line). z.statement) ls (l ∷ []))
      ∙ map-append (statement_of terms) (stated_by ls) (l.statement ∷ [])

  pub says_before : (n : ℕ) (st : TermStatement) → HasNumber n (say ls) st → HasNumber n (say (ls ++ l ∷ [])) st
  says_before n st h = subst (λ z. HasNumber n z st) (sym say_more) (number_left (say ls) (statement_of terms l.statement ∷ []) n st h)

  pub says_last : (n : ℕ) × HasNumber n (say (ls ++ l ∷ [])) (statement_of terms l.statement)
  says_last = (
    length (say ls) + 1,
    subst (λ z. HasNumber (length (say ls) + 1) z (statement_of terms l.statement)) (sym say_more)
        (number_last (say ls) (statement_of terms l.statement)),
  )

  pub ids_more : AllIn terms ls → AreIdsIn terms l.statement → AllIn terms (ls ++ l ∷ [])
  ids_more h i k x e = elim (last_or_before ls l k x e) [
    | inl w ↦ h k x w.1
    | inr w ↦ subst (λ (z : Line). AreIdsIn terms z.statement) (sym w.1) i
  ]

-- The ids of one more line are of the table, and what it states comes last.
pub under_way_more : (d : Inside) (ls : List Line) (sts : List Statement) (l : Line) → IsUnderWay d → AreIdsIn d.table l.statement
    → ls ≡ d.lines.items ++ l ∷ [] → sts ≡ d.stated ++ l.statement ∷ [] → AllIn d.table ls × (sts ≡ stated_by ls)
under_way_more d ls sts l h i e f = (
  subst (AllIn d.table) (sym e) (ids_more d.table d.lines.items l h.ids i),
  f ∙ ap (λ z. z ++ l.statement ∷ []) h.stated ∙ sym (ap stated_by e ∙ map-append (λ (z : Line). z.statement) d.lines.items (l ∷ [])),
)

abbrev pub view : List Term → List Line → Derivation
view terms ls = record { table = terms; lines = ls }

module _ (s : Derivation) (rule : DerivRule) (ns : List ℕ) (st : Statement) where
  -- the derivation with one more line
  abbrev pub with_line : Derivation
  with_line = record { table = s.table; lines = s.lines ++ record { rule = rule; premises = ns; statement = st } ∷ [] }

  pub line_put : (d : Inside) (ms : List ℕ) (ls : List Line) → view_of d ≡ s
      → ls ≡ d.lines.items ++ record { rule = rule; premises = ms; statement = st } ∷ [] → ms ≡ ns
      → view d.table ls ≡ with_line
  line_put d ms ls e f g =
      ap (view d.table) (f ∙ ap (λ z. d.lines.items ++ record { rule = rule; premises = z; statement = st } ∷ []) g)
      ∙ ap (λ (v : Derivation). view v.table (v.lines ++ record { rule = rule; premises = ns; statement = st } ∷ [])) e

  pub says_by_line : (new : Derivation) → new ≡ with_line → States new (statement_of s.table st)
  says_by_line new e =
      subst (λ (z : Derivation). States z (statement_of s.table st)) (sym e)
      (says_last s.table s.lines (record { rule = rule; premises = ns; statement = st }))

  -- A derivation goes on with a line whose rule gives what it states from what earlier lines state.
  pub continues_by_line : (new : Derivation) → new ≡ with_line → (from : List TermStatement) → AreStated (statements_in s) ns from
      → ContinuesFrom (λ b. IsInstance b.facts b.params b.written rule from (statement_of s.table st)) s new
  continues_by_line new e from a =
      subst (ContinuesFrom (λ b. IsInstance b.facts b.params b.written rule from (statement_of s.table st)) s) (sym e) (record {
        grows = record {
          extends = unchanged s.table;
          stays = λ z y. (y.0, says_before s.table s.lines (record { rule = rule; premises = ns; statement = st }) y.0 z y.1);
        };
        derives = λ b i d. line_more b s.table s.lines rule ns from st a i d;
      })

-- ---- one after the other

pub grows_then : {s t u : Derivation} → AddsLines s t → AddsLines t u → AddsLines s u
grows_then {s} {t} {u} g h = record {
  extends = onward s.table t.table u.table g.extends h.extends;
  stays = λ st w. h.stays st (g.stays st w);
}

pub continues_then : {Of : Assumptions → Type 0} {s t u : Derivation} → ContinuesFrom Of s t → ContinuesFrom Of t u → ContinuesFrom Of s u
continues_then g h = record { grows = grows_then g.grows h.grows; derives = λ b i d. h.derives b i (g.derives b i d) }

pub continues_anyway : {Of : Assumptions → Type 0} {s t : Derivation} → Continues s t → ContinuesFrom Of s t
continues_anyway g = record { grows = g.grows; derives = λ b i. g.derives b tt }

-- What goes on from more assumptions goes on from fewer.
pub continues_if : {Of Under : Assumptions → Type 0} {s t : Derivation} → ((b : Assumptions) → Under b → Of b) → ContinuesFrom Of s t
    → ContinuesFrom Under s t
continues_if fewer g = record { grows = g.grows; derives = λ b i. g.derives b (fewer b i) }

-- ---- more type parameters

same_statement : (old new : List Term) → Extends old new → (st : Statement) → AreIdsIn old st → statement_of new st ≡ statement_of old st
same_statement old new e (Valid t) h = ap IsValid (e.stands t h)
same_statement old new e (Holds (Conf t p)) h = ap (λ z. Requires (Conforms z p)) (e.stands t h)
same_statement old new e (Holds (Layout t)) h = ap (λ z. Requires (IsAnyObject z)) (e.stands t h)
same_statement old new e (Holds (Same t u)) h = ap₂ (λ y z. Requires (Equals y z)) (e.stands t h.0) (e.stands u h.1)

same_lines : (old new : List Term) → Extends old new → (ls : List Line) → AllIn old ls → map (line_of new) ls ≡ map (line_of old) ls
same_lines old new e [] h = refl
same_lines old new e (l ∷ ls) h =
    ap₂ (λ (y : TermStatement) (z : List TermLine). record { rule = l.rule; premises = l.premises; statement = y } ∷ z)
    (same_statement old new e l.statement (h 0 l refl)) (same_lines old new e ls (λ k x i. h (suc k) x i))

same_said : (old new : List Term) → Extends old new → (ls : List Line) → AllIn old ls
    → map (statement_of new) (stated_by ls) ≡ map (statement_of old) (stated_by ls)
same_said old new e ls h = sym (statements_are new ls) ∙ ap statements_of (same_lines old new e ls h) ∙ statements_are old ls

module _ (s : Derivation) (terms : List Term) (h : AllIn s.table s.lines) (e : Extends s.table terms) where
  abbrev with_table : Derivation
  with_table = record { table = terms; lines = s.lines }

  -- The ids in what the lines state are of a table that begins with the old one.
  -- Type parameters that are added to the table state nothing.
  pub said_by_terms : statements_in with_table ≡ statements_in s
  said_by_terms = same_said s.table terms e s.lines h

  pub continues_by_terms : Continues s with_table
  continues_by_terms = record {
    grows = record { extends = e; stays = λ z y. (y.0, subst (λ a. HasNumber y.0 a z) (sym said_by_terms) y.1) };
    derives = λ b i d. subst (IsDerivation b.facts b.params b.written) (sym (same_lines s.table terms e s.lines h)) d;
  }

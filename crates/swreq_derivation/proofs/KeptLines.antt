-- The lines that are marked, with their new numbers.
use Rattle.std.proofs.Common.{◌≡◌, inl, inr, ℕ, zero, suc, ◌+◌, ◌-◌, ◌<◌, ◌≤◌, Bool, true, false, List, [], ◌∷◌, ◌++◌, length, Some}
use Rattle.std.proofs.{Common.{Contains, map, slice_get, take, refl, sym, subst, ◌∙◌, ap, arith}, lemmas.Option.{slice_get_within}}
use Rattle.std.proofs.{lemmas.{List.{map-append}, Bool.{cases_lt}}, Math.Nat.{eq-or-lt_of_le}}
use Rattle.swreq_derive.proofs.swreq_lemmas.Elements.{get_last, get_left, get_map, get_of_map, in_front, there_is}
use Rattle.swreq_derive.proofs.{swreq_lemmas.Members.{contains_map, first_member, later_member}, LineLemmas.{get_take}}
use Rattle.swreq_derive.specs.{swreq_param.Terms.{Term}, declared.{lines.Line.{Line}, requirements.Statement.{Statement}}}
use Rattle.swreq_derive.specs.{Derivation.{TermStatement}, Facts.{IdFacts, generic_params, requirement_of, statement_of, term_facts}}
use Rattle.swreq_derive.specs.{Instances.{AreStated, Follows, HasNumber, TermLine, statements_of}, Lines.{AreDerived, line_of}}
use Rattle.swreq_derivation.specs.Marks.{AreNeeded, IsEarlier, IsMarked, kept, marked, new_number, renumbered}
use Rattle.swreq_derivation.specs.Needed.{AreAllUsed, AreSomeOf, EndIn, StateOnce}

-- ---- how many are marked

pub marked_yes : (marks : List Bool) (k : ℕ) → slice_get marks k ≡ Some true → marked (take (suc k) marks) ≡ suc (marked (take k marks))
marked_yes [] k e = cc
marked_yes (true ∷ marks) zero e = refl
marked_yes (false ∷ marks) zero e = cc
marked_yes (true ∷ marks) (suc k) e = ap suc (marked_yes marks k e)
marked_yes (false ∷ marks) (suc k) e = marked_yes marks k e

pub marked_no : (marks : List Bool) (k : ℕ) → slice_get marks k ≡ Some false → marked (take (suc k) marks) ≡ marked (take k marks)
marked_no [] k e = cc
marked_no (true ∷ marks) zero e = cc
marked_no (false ∷ marks) zero e = refl
marked_no (true ∷ marks) (suc k) e = ap suc (marked_no marks k e)
marked_no (false ∷ marks) (suc k) e = marked_no marks k e

-- the numbers, with one more at the end
pub numbers_grow : (marks : List Bool) (numbers : List ℕ) (k count : ℕ) → length numbers ≡ k + 1
    → ((n : ℕ) → n ≤ k → slice_get numbers n ≡ Some (new_number marks n)) → count ≡ marked (take (k + 1) marks)
    → (n : ℕ) → n ≤ k + 1 → slice_get (numbers ++ count ∷ []) n ≡ Some (new_number marks n)
numbers_grow marks numbers k count long each so_far n l = elim (cases_lt k n) [
  | inl i ↦ (let last : length numbers ≡ n = omega (arith, i, l, long) in
      let is : k + 1 ≡ n = omega (arith, i, l) in
      subst (λ z. slice_get (numbers ++ count ∷ []) z ≡ Some (new_number marks n)) last
      (get_last numbers count ∙ ap Some (so_far ∙ ap (λ z. marked (take z marks)) is)))
  | inr i ↦ get_left numbers (count ∷ []) n (new_number marks n) (each n i)
]

-- of two marked lines, the later one has the greater new number
pub marked_less : (marks : List Bool) (i j : ℕ) → i < j → IsMarked marks i → marked (take i marks) < marked (take j marks)
marked_less [] i j l e = cc
marked_less (b ∷ marks) i zero l e = absurd (omega (arith, l))
marked_less (true ∷ marks) zero (suc j) l e = omega arith
marked_less (false ∷ marks) zero (suc j) l e = cc
marked_less (true ∷ marks) (suc i) (suc j) l e = let h = marked_less marks i j (omega (arith, l)) e in omega (arith, h)
marked_less (false ∷ marks) (suc i) (suc j) l e = marked_less marks i j (omega (arith, l)) e

-- ---- the marked items

module _ {A : Type 0} where
  pub kept_yes : (marks : List Bool) (xs : List A) (k : ℕ) (x : A) → slice_get marks k ≡ Some true → slice_get xs k ≡ Some x
      → kept (take (suc k) marks) (take (suc k) xs) ≡ kept (take k marks) (take k xs) ++ x ∷ []
  kept_yes [] xs k x m e = cc
  kept_yes (b ∷ marks) [] k x m e = cc
  kept_yes (true ∷ marks) (y ∷ xs) zero x m e = let h : y ≡ x = cc in ap (λ z. z ∷ []) h
  kept_yes (false ∷ marks) (y ∷ xs) zero x m e = cc
  kept_yes (true ∷ marks) (y ∷ xs) (suc k) x m e = ap (λ zs. y ∷ zs) (kept_yes marks xs k x m e)
  kept_yes (false ∷ marks) (y ∷ xs) (suc k) x m e = kept_yes marks xs k x m e

  pub kept_no : (marks : List Bool) (xs : List A) (k : ℕ) → slice_get marks k ≡ Some false
      → kept (take (suc k) marks) (take (suc k) xs) ≡ kept (take k marks) (take k xs)
  kept_no [] xs k m = cc
  kept_no (b ∷ marks) [] zero m = refl
  kept_no (b ∷ marks) [] (suc k) m = refl
  kept_no (true ∷ marks) (y ∷ xs) zero m = cc
  kept_no (false ∷ marks) (y ∷ xs) zero m = refl
  kept_no (true ∷ marks) (y ∷ xs) (suc k) m = ap (λ zs. y ∷ zs) (kept_no marks xs k m)
  kept_no (false ∷ marks) (y ∷ xs) (suc k) m = kept_no marks xs k m

  pub kept_all : (marks : List Bool) (xs : List A) (k : ℕ) → length marks ≡ length xs → length xs ≤ k
      → kept (take k marks) (take k xs) ≡ kept marks xs
  kept_all [] xs zero c l = refl
  kept_all [] xs (suc k) c l = refl
  kept_all (b ∷ marks) [] k c l = absurd (omega (arith, c))
  kept_all (b ∷ marks) (x ∷ xs) zero c l = absurd (omega (arith, l))
  kept_all (true ∷ marks) (x ∷ xs) (suc k) c l = ap (λ zs. x ∷ zs) (kept_all marks xs k (omega (arith, c)) (omega (arith, l)))
  kept_all (false ∷ marks) (x ∷ xs) (suc k) c l = kept_all marks xs k (omega (arith, c)) (omega (arith, l))

  -- a marked item stands among the marked ones, at the place that is the count of those before it
  pub kept_at : (marks : List Bool) (xs : List A) (k : ℕ) (x : A) → IsMarked marks k → slice_get xs k ≡ Some x
      → slice_get (kept marks xs) (marked (take k marks)) ≡ Some x
  kept_at [] xs k x m e = cc
  kept_at (b ∷ marks) [] k x m e = cc
  kept_at (true ∷ marks) (y ∷ xs) zero x m e = e
  kept_at (false ∷ marks) (y ∷ xs) zero x m e = cc
  kept_at (true ∷ marks) (y ∷ xs) (suc k) x m e = kept_at marks xs k x m e
  kept_at (false ∷ marks) (y ∷ xs) (suc k) x m e = kept_at marks xs k x m e

  -- An item among the marked ones, with its place in the whole list.
  pub record HadPlace (marks : List Bool) (xs : List A) (j : ℕ) (x : A) : Type 0 where
    pub place : ℕ
    pub on : IsMarked marks place
    pub is : slice_get xs place ≡ Some x
    pub number : marked (take place marks) ≡ j

  pub kept_from : (marks : List Bool) (xs : List A) (j : ℕ) (x : A) → slice_get (kept marks xs) j ≡ Some x → HadPlace marks xs j x
  kept_from [] xs j x e = cc
  kept_from (b ∷ marks) [] j x e = cc
  kept_from (true ∷ marks) (y ∷ xs) zero x e = record { place = 0; on = refl; is = e; number = refl }
  kept_from (true ∷ marks) (y ∷ xs) (suc j) x e =
      let h = kept_from marks xs j x e in
      record { place = suc h.place; on = h.on; is = h.is; number = ap suc h.number }
  kept_from (false ∷ marks) (y ∷ xs) j x e =
      let h = kept_from marks xs j x e in
      record { place = suc h.place; on = h.on; is = h.is; number = h.number }

-- ---- the lines that are left

module _ (lines : List Line) (marks : List Bool) where
  abbrev pub left : List Line
  left = map (renumbered marks) (kept marks lines)

  -- A line that is left, with the line that it comes from and the place of that line.
  pub record Whence (j : ℕ) (l : Line) : Type 0 where
    pub place : ℕ
    pub old : Line
    pub on : IsMarked marks place
    pub is : slice_get lines place ≡ Some old
    pub number : marked (take place marks) ≡ j
    pub same : renumbered marks old ≡ l

  pub whence : (j : ℕ) (l : Line) → slice_get left j ≡ Some l → Whence j l
  whence j l e =
      let (old, is, same) = get_of_map (renumbered marks) (kept marks lines) j l e in
      let h = kept_from marks lines j old is in
      record { place = h.place; old = old; on = h.on; is = h.is; number = h.number; same = same }

  pub stands : (k : ℕ) (l : Line) → IsMarked marks k → slice_get lines k ≡ Some l
      → slice_get left (marked (take k marks)) ≡ Some (renumbered marks l)
  stands k l m e = get_map (renumbered marks) (kept marks lines) (marked (take k marks)) l (kept_at marks lines k l m e)

  pub some_left : AreSomeOf left lines
  some_left k l e =
      let w = whence k l e in
      (w.place, w.old, w.is, sym (ap (λ (z : Line). z.rule) w.same), sym (ap (λ (z : Line). z.statement) w.same))

  pub once_left : StateOnce lines → StateOnce left
  once_left once i j a b e f same =
      let v = whence i a e in
      let w = whence j b f in
      let s : v.old.statement ≡ w.old.statement =
      ap (λ (z : Line). z.statement) v.same ∙ same ∙ sym (ap (λ (z : Line). z.statement) w.same) in
      let p : v.place ≡ w.place = once v.place w.place v.old w.old v.is w.is s in
      sym v.number ∙ ap (λ k. marked (take k marks)) p ∙ w.number

  pub end_left : AreNeeded lines marks 0 → (st : Statement) → EndIn lines st → EndIn left st
  end_left h st (front, last, e, s) =
      let n = length front in
      let whole : length lines ≡ suc n = ap length e ∙ length_last front last in
      let is : slice_get lines n ≡ Some last = subst (λ (z : List Line). slice_get z n ≡ Some last) (sym e) (get_last front last) in
      let on : IsMarked marks n = h.last n (sym whole) in
      let all : kept marks lines ≡ kept (take n marks) (take n lines) ++ last ∷ []
      = sym (kept_all marks lines (suc n) h.count (omega (arith, whole))) ∙ kept_yes marks lines n last on is in (
        map (renumbered marks) (kept (take n marks) (take n lines)),
        renumbered marks last,
        ap (map (renumbered marks)) all ∙ map-append (renumbered marks) (kept (take n marks) (take n lines)) (last ∷ []),
        s,
      )
    where
      length_last : (xs : List Line) (x : Line) → length (xs ++ x ∷ []) ≡ suc (length xs)
      length_last [] x = refl
      length_last (y ∷ xs) x = ap suc (length_last xs x)

  pub used_left : AreNeeded lines marks 0 → AreAllUsed left
  used_left h k l =
      let (x, ex) = there_is left k (omega (arith, l)) in
      let (y, ey) = there_is left (suc k) l in
      let v = whence k x ex in
      let w = whence (suc k) y ey in
      let short : suc v.place < length lines =
      before_last v.place w.place w.on v.number w.number (slice_get_within lines w.place w.old w.is) in
      let (j, user, after, is, on, c) = h.used v.place short v.on in
      let less : marked (take v.place marks) < marked (take j marks) = marked_less marks v.place j after v.on in
      let number : new_number marks (suc v.place) ≡ suc k = marked_yes marks v.place v.on ∙ ap suc v.number in
      let e = v.number in (
        marked (take j marks),
        renumbered marks user,
        omega (arith, less, e),
        stands j user on is,
        subst (λ n. Contains (map (new_number marks) user.premises) n) number
            (contains_map (new_number marks) user.premises (suc v.place) c),
      )
    where
      before_last : (p q : ℕ) → IsMarked marks q → marked (take p marks) ≡ k → marked (take q marks) ≡ suc k → q < length lines
          → suc p < length lines
      before_last p q on e f w = elim (cases_lt p q) [
        | inl i ↦ omega (arith, i, w)
        | inr i ↦ absurd (elim (eq-or-lt_of_le {n = q} {m = p} i) [
          | inl same ↦
              (let g : marked (take q marks) ≡ marked (take p marks) = ap (λ n. marked (take n marks)) same in omega (arith, e, f, g))
          | inr less ↦ (let g = marked_less marks q p less on in omega (arith, e, f, g))
        ])
      ]

  module _ (h : AreNeeded lines marks 0) (terms : List Term) where
    -- what the lines state, over type parameters
    abbrev said : List TermStatement
    said = statements_of (map (line_of terms) lines)

    abbrev said_still : List TermStatement
    said_still = statements_of (map (line_of terms) left)

    -- What a marked line states has the line's new number among what is left.
    number_left : (k n : ℕ) (st : TermStatement) → HasNumber n (take k said) st → IsMarked marks (n - 1)
        → HasNumber (new_number marks n) (take (marked (take k marks)) said_still) st
    number_left k n st s on =
        let (below, is) = get_take k (n - 1) said st s.1 in
        let (x, at_x, same_x) = get_of_map (λ (z : TermLine). z.statement) (map (line_of terms) lines) (n - 1) st is in
        let (l, at_l, same_l) = get_of_map (line_of terms) lines (n - 1) x at_x in
        let i = marked (take (n - 1) marks) in
        let there : slice_get left i ≡ Some (renumbered marks l) = stands (n - 1) l on at_l in
        let lined = get_map (line_of terms) left i (renumbered marks l) there in
        let stated : slice_get said_still i ≡ Some (statement_of terms l.statement)
        = get_map (λ (z : TermLine). z.statement) (map (line_of terms) left) i (line_of terms (renumbered marks l)) lined in
        let what : statement_of terms l.statement ≡ st = ap (λ (z : TermLine). z.statement) same_l ∙ same_x in
        let number : new_number marks (suc (n - 1)) ≡ suc i = marked_yes marks (n - 1) on in
        let p = s.0 in
        let is_n : suc (n - 1) ≡ n = omega (arith, p) in
        let e : new_number marks n ≡ suc i = subst (λ z. new_number marks z ≡ suc i) is_n number in
        let less : i < marked (take k marks) = marked_less marks (n - 1) k below on in
        let before : slice_get (take (marked (take k marks)) said_still) i ≡ Some (statement_of terms l.statement)
        = in_front said_still (marked (take k marks)) i (statement_of terms l.statement) less stated in
        let e_less : new_number marks n - 1 ≡ i = omega (arith, e) in
        (omega (arith, e), ap (slice_get (take (marked (take k marks)) said_still)) e_less ∙ before ∙ ap Some what)

    stated_left : (k : ℕ) (ns : List ℕ) (sts : List TermStatement) → AreStated (take k said) ns sts
        → ((n : ℕ) → Contains ns n → IsEarlier k n → IsMarked marks (n - 1))
        → AreStated (take (marked (take k marks)) said_still) (map (new_number marks) ns) sts
    stated_left k [] [] s on = tt
    stated_left k [] (st ∷ sts) s on = absurd s
    stated_left k (n ∷ ns) [] s on = absurd s
    stated_left k (n ∷ ns) (st ∷ sts) s on =
        let w = (get_take k (n - 1) said st s.0.1).0 in
        let p = s.0.0 in (
          number_left k n st s.0 (on n (first_member n ns) (p, omega (arith, w, p))),
          stated_left k ns sts s.1 (λ m c. on m (later_member n m ns c)),
        )

    pub derived_left : (m : IdFacts) → AreDerived terms m lines → AreDerived terms m left
    derived_left m d j l e =
        let (x, at_x, same) = get_of_map (line_of terms) left j l e in
        let w = whence j x at_x in
        let follows = d w.place (line_of terms w.old) (get_map (line_of terms) lines w.place w.old w.is) in
        let stated = stated_left w.place w.old.premises follows.from follows.stated
        (λ n c early. h.closed w.place n w.old (omega arith) w.on w.is c early) in
        let here : Follows (term_facts terms m) (generic_params m.params) (map (requirement_of terms) m.written)
        (take (marked (take w.place marks)) said_still) (line_of terms (renumbered marks w.old))
        = record { from = follows.from; stated = stated; instance = follows.instance } in
        let there = subst (λ i. Follows (term_facts terms m) (generic_params m.params) (map (requirement_of terms) m.written)
        (take i said_still) (line_of terms (renumbered marks w.old))) w.number here in
        subst (λ z. Follows (term_facts terms m) (generic_params m.params) (map (requirement_of terms) m.written) (take j said_still) z)
        (ap (line_of terms) w.same ∙ same) there

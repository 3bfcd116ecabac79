-- Inputs that are divided, and the search for where.
use Rattle.std.proofs.Common.{◌≡◌, ◌∙◌, refl, sym, ap, subst, ℕ, zero, suc, ◌-◌, ◌<◌, arith, List, [], ◌∷◌, ◌++◌, inl, inr, length, take, drop, get_or}
use Rattle.std.specs.Prelude.{Contains}
use Rattle.std.proofs.lemmas.List.{append_cancel_left, take-append-drop}
use Rattle.std.proofs.lemmas.List.Elements.{Contains-append_right, Contains-push_cases}
use Rattle.swreq_text.specs.Lines.{line_feed, lines, StandsBefore, IsFirstLine}
use Rattle.swreq_text.specs.Divided.{Divides, divider}
use Rattle.swreq_text.proofs.LineEnds.{IsLineEnd, all_before, line_end_next, line_end_zero, not_at_end}
use Rattle.swreq_text.proofs.Lined.{joined, joined-lines, lines-append, lines-first}

-- ---- the lines of an input that is divided

behind_first : (second behind : List ℕ) → StandsBefore divider second behind → IsFirstLine behind divider second
behind_first second behind h = (not_empty h, (λ k d l. none k d l, h))
  where
    not_empty : StandsBefore divider second behind → behind ≡ [] → ⊥
    not_empty (inl e) n = let f : divider ++ (line_feed ∷ second) ≡ [] = sym e ∙ n in cc
    not_empty (inr w) n = let f : divider ≡ [] = sym w.0 ∙ n in cc

    none : (k d : ℕ) → k < length divider → get_or divider k d ≡ line_feed → ⊥
    none zero d l e = cc
    none (suc zero) d l e = cc
    none (suc (suc k)) d l e = absurd (omega arith)

pub lines-divided : (input first second : List ℕ) → Divides input first second → lines input ≡ lines first ++ (divider ∷ lines second)
lines-divided input first second d =
    ap lines d.whole ∙ lines-append first d.behind d.lines_before
    ∙ ap (λ z. lines first ++ z) (lines-first d.behind divider second (behind_first second d.behind d.divided))

-- ---- one division

contains_first : {X : Type 0} (x : X) (xs : List X) → Contains (x ∷ xs) x
contains_first x xs = (0, omega arith, refl)

-- what stands before the first place of an element
same_before : {X : Type 0} (x : X) (xs ys us vs : List X) → (Contains xs x → ⊥) → (Contains us x → ⊥) → xs ++ (x ∷ ys) ≡ us ++ (x ∷ vs)
    → xs ≡ us
same_before x [] ys [] vs h k e = refl
same_before x [] ys (u ∷ us) vs h k e = let same : u ≡ x = cc in
    absurd (k (subst (λ z. Contains (z ∷ us) x) (sym same) (contains_first x us)))
same_before x (a ∷ xs) ys [] vs h k e = let same : a ≡ x = cc in
    absurd (h (subst (λ z. Contains (z ∷ xs) x) (sym same) (contains_first x xs)))
same_before x (a ∷ xs) ys (u ∷ us) vs h k e =
    let same : a ≡ u = cc in
    let rest : xs ++ (x ∷ ys) ≡ us ++ (x ∷ vs) = cc in
    let more =
    same_before x xs ys us vs (λ c. h (Contains-append_right (a ∷ []) xs x c))
    (λ c. k (Contains-append_right (u ∷ []) us x c)) rest in
    cc

same_behind : (second after behind : List ℕ) → StandsBefore divider second behind → StandsBefore divider after behind → second ≡ after
same_behind second after behind (inl e) (inl f) = let same : divider ++ (line_feed ∷ second) ≡ divider ++ (line_feed ∷ after) = sym e
    ∙ f in cc
same_behind second after behind (inl e) (inr w) = let same : divider ++ (line_feed ∷ second) ≡ divider = sym e ∙ w.0 in absurd cc
same_behind second after behind (inr w) (inl e) = let same : divider ++ (line_feed ∷ after) ≡ divider = sym e ∙ w.0 in absurd cc
same_behind second after behind (inr v) (inr w) = v.1 ∙ sym w.1

pub same_parts : (input first second before after : List ℕ) → Divides input first second → Divides input before after
    → (first ≡ before) × (second ≡ after)
same_parts input first second before after d e =
    let lines_same = same_before divider (lines first) (lines second) (lines before) (lines after) d.none_earlier e.none_earlier
    (sym (lines-divided input first second d) ∙ lines-divided input before after e) in
    let same : first ≡ before = sym (joined-lines first d.lines_before) ∙ ap joined lines_same ∙ joined-lines before e.lines_before in
    let whole : first ++ d.behind ≡ first ++ e.behind = sym d.whole ∙ e.whole ∙ ap (λ z. z ++ e.behind) (sym same) in
    let left = append_cancel_left first d.behind e.behind whole in
    (same, same_behind second after e.behind (subst (StandsBefore divider second) left d.divided) e.divided)

pub has_divider : (input first second : List ℕ) → Divides input first second → Contains (lines input) divider
has_divider input first second d =
    subst (λ z. Contains z divider) (sym (lines-divided input first second d))
    (Contains-append_right (lines first) (divider ∷ lines second) divider (contains_first divider (lines second)))

-- ---- the search

-- A line ends at the place, and none before it is the divider.
pub record IsSearched (input : List ℕ) (at : ℕ) : Type 0 where
  pub ends : IsLineEnd input at
  pub none : Contains (lines (take at input)) divider → ⊥

pub none_searched : (input : List ℕ) → IsSearched input 0
none_searched input = record { ends = line_end_zero input; none = λ h. absurd (omega (arith, h.1)) }

pub searched_more : (input : List ℕ) (at : ℕ) (line rest : List ℕ) → IsSearched input at → IsFirstLine (drop at input) line rest
    → (line ≡ divider → ⊥)
    → IsSearched input (length input - length rest)
searched_more input at line rest searched first other =
    let next = line_end_next input at line rest searched.ends first in
    record {
      ends = next.0;
      none = λ h.
          elim (Contains-push_cases (lines (take at input)) line divider (subst (λ z. Contains z divider) next.1 h))
          [ inl c ↦ searched.none c | inr s ↦ other s ];
    }

pub found : (input : List ℕ) (at : ℕ) (line rest : List ℕ) → IsSearched input at → IsFirstLine (drop at input) line rest → line ≡ divider
    → Divides input (take at input) rest
found input at line rest searched first same = record {
  behind = drop at input;
  whole = sym (take-append-drop at input);
  divided = subst (λ z. StandsBefore z rest (drop at input)) same first.1.1;
  lines_before = searched.ends.whole (not_at_end input at first.0);
  none_earlier = searched.none;
}

pub nowhere : (input : List ℕ) (at : ℕ) → IsSearched input at → drop at input ≡ [] → Contains (lines input) divider → ⊥
nowhere input at searched e h = searched.none (subst (λ z. Contains (lines z) divider) (sym (all_before input at e)) h)

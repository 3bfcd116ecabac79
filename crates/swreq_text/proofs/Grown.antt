-- A list that grew by a part of a text.
use Rattle.std.proofs.Common.{◌≡◌, ℕ, zero, suc, ◌+◌, ◌-◌, ◌<◌, ◌≤◌, List, [], ◌∷◌, ◌++◌, length, get_or, map, take, drop, min, refl, sym, ◌∙◌, ap, subst, arith, append_assoc, Result, Ok, Err}
use Rattle.std.specs.Prelude.{OnErr}
use Rattle.std.proofs.lemmas.List.{append-nil, take_min, take-append-le, append_cancel_left}
use Rattle.std.proofs.Math.Seq.{take-append-add, take-length}
use Rattle.swreq_text.specs.Joined.{GrewByPart, followed, joined}

-- an unchanged list grew by no byte
pub none_grew : (old text new : List ℕ) → new ≡ old → GrewByPart old text new
none_grew old text new e = record { count = 0; grown = e ∙ sym (append-nil old) }

-- a part of the first piece
pub grew_first : (old new a b : List ℕ) → GrewByPart old a new → GrewByPart old (a ++ b) new
grew_first old new a b part =
    let within : min part.count (length a) ≤ length a = omega arith in
    let same : take part.count a ≡ take (min part.count (length a)) (a ++ b)
    = sym (take_min part.count a) ∙ sym (take-append-le (min part.count (length a)) a b within) in
    record { count = min part.count (length a); grown = part.grown ∙ ap (λ (l : List ℕ). old ++ l) same }

-- a piece, and after it a part of the next
pub grew_next : (old mid new a b : List ℕ) → mid ≡ old ++ a → GrewByPart mid b new → GrewByPart old (a ++ b) new
grew_next old mid new a b first part =
    let all : new ≡ (old ++ a) ++ take part.count b = part.grown ∙ ap (λ (l : List ℕ). l ++ take part.count b) first in
    let more : a ++ take part.count b ≡ take (length a + part.count) (a ++ b) = sym (take-append-add a b part.count) in
    record { count = length a + part.count; grown = all ∙ (append_assoc old a (take part.count b) ∙ ap (λ (l : List ℕ). old ++ l) more) }

-- a whole piece
pub piece_grew : (old new a b : List ℕ) → new ≡ old ++ a → GrewByPart old (a ++ b) new
piece_grew old new a b e = grew_next old new new a b e (none_grew new b new refl)

-- a list that grew by a part, and has the rest to come, grows by a part of the rest
pub grew_on : (old mid new all rest : List ℕ) → mid ++ rest ≡ old ++ all → GrewByPart old all mid → GrewByPart mid rest new
    → GrewByPart old all new
grew_on old mid new all rest joined before part =
    let whole : old ++ (take before.count all ++ rest) ≡ old ++ all
    = sym (append_assoc old (take before.count all) rest) ∙ (ap (λ (l : List ℕ). l ++ rest) (sym before.grown) ∙ joined) in
    subst (λ (l : List ℕ). GrewByPart old l new) (append_cancel_left old (take before.count all ++ rest) all whole)
    (grew_next old mid new (take before.count all) rest before.grown part)

-- the text begins with a piece, of which a part came
pub first_part : (old new all piece more : List ℕ) → all ≡ piece ++ more → GrewByPart old piece new → GrewByPart old all new
first_part old new all piece more e part = subst (λ (l : List ℕ). GrewByPart old l new) (sym e) (grew_first old new piece more part)

-- the text begins with a piece, which came whole, and of the rest a part came
pub rest_part : (old mid new all piece more : List ℕ) → all ≡ piece ++ more → mid ≡ old ++ piece → GrewByPart mid more new
    → GrewByPart old all new
rest_part old mid new all piece more e whole part =
    subst (λ (l : List ℕ). GrewByPart old l new) (sym e) (grew_next old mid new piece more whole part)

-- a part of the next piece came
pub next_part : (old mid new all rest piece more : List ℕ) → rest ≡ piece ++ more → mid ++ rest ≡ old ++ all → GrewByPart old all mid
    → GrewByPart mid piece new → GrewByPart old all new
next_part old mid new all rest piece more e joined before part =
    grew_on old mid new all rest joined before (first_part mid new rest piece more e part)

-- the next piece came whole
pub next_piece : (old mid new all rest piece more : List ℕ) → rest ≡ piece ++ more → mid ++ rest ≡ old ++ all → GrewByPart old all mid
    → new ≡ mid ++ piece → (new ++ more ≡ old ++ all) × GrewByPart old all new
next_piece old mid new all rest piece more e joined before whole =
    let same : new ++ more ≡ mid ++ (piece ++ more) = ap (λ (l : List ℕ). l ++ more) whole ∙ append_assoc mid piece more in
    let part : GrewByPart mid rest new
    = subst (λ (l : List ℕ). GrewByPart mid l new) (sym e) (piece_grew mid new piece more whole) in
    (same ∙ (ap (λ (l : List ℕ). mid ++ l) (sym e) ∙ joined), grew_on old mid new all rest joined before part)

pub on_err : {T E P : Type 0} (r : Result T E) → P → OnErr r P
on_err (Ok x) p = tt
on_err (Err e) p = p

-- ---- texts with a separator

-- the texts of what is left are the next, after its separator, and the others
pub followed_at : {T : Type 0} (text : T → List ℕ) (separator : List ℕ) (items : List T) (k : ℕ) (x : T)
    → k < length items → x ≡ get_or items k x
    → followed separator (map text (drop k items)) ≡ (separator ++ text x) ++ followed separator (map text (drop (k + 1) items))
followed_at text separator [] k x within is = absurd (omega (arith, within))
followed_at text separator (y ∷ items) zero x within is =
    rw (append_assoc separator (text x)) (ap (λ z. separator ++ (text z ++ followed separator (map text items))) (sym is))
followed_at text separator (y ∷ items) (suc k) x within is =
    let next : suc k + 1 ≡ suc (k + 1) = omega arith in
    rw next (followed_at text separator items k x (omega (arith, within)) is)

-- the texts of a list that is not empty are the first, and the others after their separators
pub joined_at : {T : Type 0} (text : T → List ℕ) (separator : List ℕ) (items : List T) (x : T) → 0 < length items → x ≡ get_or items 0 x
    → joined separator (map text items) ≡ text x ++ followed separator (map text (take (length items - 1) (drop 1 items)))
joined_at text separator [] x within is = absurd (omega (arith, within))
joined_at text separator (y ∷ items) x within is =
    let left : length (y ∷ items) - 1 ≡ length items = omega arith in
    rw (left, take-length items) (ap (λ z. text z ++ followed separator (map text items)) (sym is))

-- Replacement and congruence go on in a longer word.
use Rattle.std.proofs.Common.{◌≡◌, ℕ, List, [], ◌++◌, append_assoc, append-nil, sym, Some}
use Rattle.std.specs.List.{slice_get}
use Rattle.swreq_word.specs.declared.symbols.Symbol.{Symbol}
use Rattle.swreq_word.specs.Relations.Linked.{here, forth}
use Rattle.swreq_word.specs.Replacement.{Replaced, Replaces, Congruent}
use Rattle.swreq_word.proofs.Chains.{linked_by}

pub Replaced-before : {u v l r : List Symbol} (x : List Symbol) → Replaced u v l r → Replaced (x ++ u) (x ++ v) l r
Replaced-before x s = record {
  before = x ++ s.before;
  after = s.after;
  source = rw (s.source, append_assoc);
  target = rw (s.target, append_assoc);
}

pub Replaced-after : {u v l r : List Symbol} (z : List Symbol) → Replaced u v l r → Replaced (u ++ z) (v ++ z) l r
Replaced-after z s = record {
  before = s.before;
  after = s.after ++ z;
  source = rw (s.source) (simp append_assoc);
  target = rw (s.target) (simp append_assoc);
}

-- a whole word replaced
pub Replaced-whole : {l r : List Symbol} → Replaced l r l r
Replaced-whole {l} {r} = record { before = []; after = []; source = sym (append-nil l); target = sym (append-nil r) }

module _ (equations : List (List Symbol × List Symbol)) where
  replaces_before : (x u v : List Symbol) → Replaces equations u v → Replaces equations (x ++ u) (x ++ v)
  replaces_before x u v s =
      record { number = s.number; left = s.left; right = s.right; is_equation = s.is_equation; at = Replaced-before x s.at }

  replaces_after : (z u v : List Symbol) → Replaces equations u v → Replaces equations (u ++ z) (v ++ z)
  replaces_after z u v s =
      record { number = s.number; left = s.left; right = s.right; is_equation = s.is_equation; at = Replaced-after z s.at }

  pub congruent_before : (x : List Symbol) {u v : List Symbol} → Congruent equations u v → Congruent equations (x ++ u) (x ++ v)
  congruent_before x = linked_by (λ u. x ++ u) (λ a b r. forth (replaces_before x a b r) here)

  pub congruent_after : (z : List Symbol) {u v : List Symbol} → Congruent equations u v → Congruent equations (u ++ z) (v ++ z)
  congruent_after z = linked_by (λ u. u ++ z) (λ a b r. forth (replaces_after z a b r) here)

  -- congruent sides in one place
  pub congruent_in_place : {u v l r : List Symbol} → Replaced u v l r → Congruent equations l r → Congruent equations u v
  congruent_in_place s k = rw (s.source, s.target) (congruent_before s.before (congruent_after s.after k))

  -- the two sides of an equation
  pub equation_congruent : (k : ℕ) (l r : List Symbol) → slice_get equations k ≡ Some (l, r) → Congruent equations l r
  equation_congruent k l r e = forth (record { number = k; left = l; right = r; is_equation = e; at = Replaced-whole }) here

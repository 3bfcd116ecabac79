-- Lists under a map.
use Rattle.std.proofs.Common.{◌≡◌, ℕ, zero, suc, List, [], ◌∷◌, map, get_or, refl}

module _ {A B : Type 0} (f : A → B) where
  -- the item at a place of a mapped list, or the mapped default past its end
  pub at_map_any : (xs : List A) (i : ℕ) (d : A) → get_or (map f xs) i (f d) ≡ f (get_or xs i d)
  at_map_any [] i d = refl
  at_map_any (x ∷ xs) zero d = refl
  at_map_any (x ∷ xs) (suc i) d = at_map_any xs i d

-- What a name refers to is at a place of its list.
use Rattle.std.proofs.Common.{◌≡◌, ℕ, ◌+◌, ◌<◌, suc, Bool, true, false, cond, List, [], ◌∷◌, Option, Some, None, length, arith}
use Rattle.std.specs.List.{position_from}
use Rattle.std.specs.Option.{option_map}
use Rattle.swreq_lexicon.proofs.swreq_names.Heirs.{placed_below}
use Rattle.swreq_lexicon.specs.swreq_names.declared.signature.Signature.{Signature}
use Rattle.swreq_lexicon.specs.swreq_names.declared.signature.Param.{Param}
use Rattle.swreq_lexicon.specs.swreq_names.declared.signature.Param.TheVariants.{Outer, Own}
use Rattle.swreq_lexicon.specs.swreq_names.Spaces.{Spaces, place, outer_params, own_params, param_of}

pub from_below : {A : Type 0} (test : A → Bool) (i : ℕ) (xs : List A) (k : ℕ) → position_from test i xs ≡ Some k → k < i + length xs
from_below test i [] k e = cc
from_below test i (x ∷ xs) k e = by (test x) e (from_below test (i + 1) xs k)
  where
    by : (b : Bool) → cond b (Some i) (position_from test (i + 1) xs) ≡ Some k
        → (position_from test (i + 1) xs ≡ Some k → k < i + 1 + length xs) → k < i + suc (length xs)
    by true e h = let l : i ≡ k = cc in omega arith
    by false e h = let l : k < i + 1 + length xs = h e in omega arith

outer_by : (o p : Option ℕ) (k : ℕ)
    → (elim o as (λ _. Option Param) [ None ↦ option_map Own p | Some j ↦ Some (Outer j) ]) ≡ Some (Outer k) → o ≡ Some k
outer_by None None k e = cc
outer_by None (Some j) k e = cc
outer_by (Some j) p k e = cc

own_by : (o p : Option ℕ) (k : ℕ)
    → (elim o as (λ _. Option Param) [ None ↦ option_map Own p | Some j ↦ Some (Outer j) ]) ≡ Some (Own k) → p ≡ Some k
own_by None None k e = cc
own_by None (Some j) k e = cc
own_by (Some j) p k e = cc

pub outer_below : (d : Spaces) (g : Signature) (name : List ℕ) (k : ℕ) → param_of d g name ≡ Some (Outer k) → k < length (outer_params d g)
outer_below d g name k e =
    placed_below (outer_params d g) name k (outer_by (place (outer_params d g) name) (place (own_params d g) name) k e)

pub own_below : (d : Spaces) (g : Signature) (name : List ℕ) (k : ℕ) → param_of d g name ≡ Some (Own k) → k < length (own_params d g)
own_below d g name k e = placed_below (own_params d g) name k (own_by (place (outer_params d g) name) (place (own_params d g) name) k e)

-- The words of type parameters put together.
use Rattle.std.proofs.Common.{◌≡◌, ◌∷◌, ◌++◌, refl, ap, ap₂}
use Rattle.swreq_derive.specs.swreq_param.Terms.{Term, head}
use Rattle.swreq_derive.specs.swreq_param.Terms.Term.{Generic, Member}
use Rattle.swreq_derive.specs.Derivation.{Source, for_self}
use Rattle.swreq_correspondence.specs.Symbols.{Word, Symbols, symbol, steps, start, spell}

pub steps-append : (m : Symbols) (t : Term) (u y : Word) → steps m t u ++ y ≡ steps m t (u ++ y)
steps-append m (Generic g) u y = refl
steps-append m (Member t x) u y = steps-append m t (symbol m x ∷ u) y

pub steps-for_self : (m : Symbols) (t u : Term) (y : Word) → steps m (for_self t u) y ≡ steps m t (steps m u y)
steps-for_self m t (Generic g) y = refl
steps-for_self m t (Member u x) y = steps-for_self m t u (symbol m x ∷ y)

head-for_self : (t u : Term) → head (for_self t u) ≡ head t
head-for_self t (Generic g) = refl
head-for_self t (Member u x) = head-for_self t u

pub spell-for_self : (m : Symbols) (s : Source) (t u : Term) (y : Word) → spell m s (for_self t u) y ≡ spell m s t (steps m u y)
spell-for_self m s t u y = ap₂ ◌∷◌ (ap (start s) (head-for_self t u)) (steps-for_self m t u y)

pub spell-append : (m : Symbols) (s : Source) (t : Term) (u y : Word) → spell m s t u ++ y ≡ spell m s t (u ++ y)
spell-append m s t u y = ap (λ w. start s (head t) ∷ w) (steps-append m t u y)

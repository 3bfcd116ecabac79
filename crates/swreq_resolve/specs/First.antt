-- Refusals of names, and the first of several.
use Rattle.std.specs.Prelude.{◌≡◌, ℕ, Bool, false, cond, ◌&&◌, ◌||◌, nat_lt, nat_eq, List, [], ◌∷◌, Option, Some, None, fold, Contains}
use Rattle.swreq_resolve.specs.declared.refusal.Fault.{Fault}
use Rattle.swreq_resolve.specs.declared.refusal.Fault.TheVariants.{Duplicate, NotAProtocol, ConcreteType, NoSuchMember, UnknownSignature, WrongArity}
use Rattle.swreq_resolve.specs.declared.refusal.Refusal.{Refusal}

-- the fault at an offset, where it is there
abbrev pub when : Bool → Fault → ℕ → List Refusal
when is_there fault at = cond is_there (record { fault = fault; at = at } ∷ []) []

-- the order of faults at one offset
abbrev pub row : Fault → ℕ
row Duplicate = 0
row NotAProtocol = 1
row ConcreteType = 2
row NoSuchMember = 3
row UnknownSignature = 4
row WrongArity = 5

-- The one with the lesser offset comes before the other.
abbrev pub precedes : Refusal → Refusal → Bool
precedes q r = nat_lt q.at r.at || (nat_eq q.at r.at && nat_lt (row q.fault) (row r.fault))

-- It is one of them, and none of them precedes it.
pub record IsFirst (rs : List Refusal) (r : Refusal) : Type 0 where
  pub is : Contains rs r
  pub first : (q : Refusal) → Contains rs q → precedes q r ≡ false

-- ---- as a walk finds it

-- the first of the one so far and this one
abbrev pub earlier : Option Refusal → Refusal → Option Refusal
earlier None r = Some r
earlier (Some best) r = cond (precedes r best) (Some r) (Some best)

-- the first of the one so far and these
abbrev pub least : Option Refusal → List Refusal → Option Refusal
least best rs = fold earlier best rs

-- the first of the one so far and those of each part in turn
abbrev pub walk : {A : Type 0} → (A → List Refusal) → Option Refusal → List A → Option Refusal
walk f best xs = fold (λ b x. least b (f x)) best xs

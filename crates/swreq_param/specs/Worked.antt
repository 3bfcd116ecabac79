-- Type parameters of a worked text, whose names have ranks in the order of their bytes, and roots first.
-- protocol IteratorProtocol { associatedtype Element }
-- protocol Sequence { associatedtype Element  associatedtype Iterator: IteratorProtocol }
-- func f<S, T>()
use Rattle.std.specs.Prelude.{List, [], ◌∷◌}
use Rattle.swreq_param.specs.declared.ids.Step.{Step}
use Rattle.swreq_param.specs.declared.ids.Step.TheVariants.{Bound, Name}
use Rattle.swreq_param.specs.Terms.{Term}
use Rattle.swreq_param.specs.Terms.Term.{Generic, Member}
use Rattle.swreq_param.specs.Order.{TermBefore}

infixl 90 ◌·◌
-- the member of T with this step
abbrev pub ◌·◌ : Term → Step → Term
t · x = Member t x

abbrev pub S : Term
S = Generic (record { depth = 0; index = 0 })

abbrev pub T : Term
T = Generic (record { depth = 0; index = 1 })

-- a generic parameter of an inner depth
abbrev pub Inner : Term
Inner = Generic (record { depth = 1; index = 0 })

abbrev pub Element : Step
Element = Name (record { rank = 0 })

abbrev pub Iterator : Step
Iterator = Name (record { rank = 1 })

abbrev pub Element_of_IteratorProtocol : Step
Element_of_IteratorProtocol = Bound (record { rank = 0 })

abbrev pub Element_of_Sequence : Step
Element_of_Sequence = Bound (record { rank = 1 })

abbrev pub Iterator_of_Sequence : Step
Iterator_of_Sequence = Bound (record { rank = 2 })

-- Each comes before the next one.
abbrev pub AreInOrder : List Term → Type 0
AreInOrder [] = Unit {0}
AreInOrder (t ∷ []) = Unit {0}
AreInOrder (t ∷ u ∷ us) = TermBefore t u × AreInOrder (u ∷ us)

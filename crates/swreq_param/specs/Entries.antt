-- What the table keeps of a type parameter: a generic parameter, or the place of the base and the last step.
use Rattle.std.specs.Prelude.{◌≡◌, ℕ, ◌<◌, List, [], ◌∷◌, ◌++◌, slice_get, Some}
use Rattle.swreq_param.specs.declared.ids.TermId.{TermId}
use Rattle.swreq_param.specs.declared.table.Entry.{Entry}
use Rattle.swreq_param.specs.declared.table.Entry.TheVariants.{Param, Member as Kept}
use Rattle.swreq_param.specs.Terms.{Term}
use Rattle.swreq_param.specs.Tables.{term_at}
use Rattle.swreq_param.specs.Terms.Term.{Generic, Member}

-- the type parameter of an entry after these
abbrev pub term_of : List Term → Entry → Term
term_of terms (Param p) = Generic p
term_of terms (Kept base step) = Member (term_at terms base) step

abbrev pub terms_after : List Term → List Entry → List Term
terms_after terms [] = terms
terms_after terms (e ∷ es) = terms_after (terms ++ term_of terms e ∷ []) es

abbrev pub terms_of : List Entry → List Term
terms_of es = terms_after [] es

-- its base, if it has one, is below n
abbrev pub IsBelow : ℕ → Entry → Type 0
IsBelow n (Param p) = Unit {0}
IsBelow n (Kept base step) = base.place < n

-- Each base stands before its members.
abbrev pub AreGrounded : List Entry → Type 0
AreGrounded es = (i : ℕ) (e : Entry) → slice_get es i ≡ Some e → IsBelow i e

-- the entry stands for the type parameter with this id
abbrev pub IsEntryOf : List Term → TermId → Entry → Type 0
IsEntryOf terms id e = (term_at terms id ≡ term_of terms e) × IsBelow id.place e

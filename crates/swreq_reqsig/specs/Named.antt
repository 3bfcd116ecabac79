-- Where requirements name a last name, as the code keeps the places.
use Rattle.std.specs.Prelude.{◌≡◌, ◌⊎◌, ◌↔◌, ◌<◌, ℕ, suc, List, [], Option, Some, None, Contains, length, slice_get, slice_index_or}
use Rattle.swreq_valid.specs.swreq_param.declared.ids.NameId.{NameId}
use Rattle.swreq_reqsig.specs.declared.outlines.Outline.{Outline}
use Rattle.swreq_reqsig.specs.declared.outlines.Outline.TheVariants.{Conformance, Object, Equality}

-- The requirement is of a type parameter with this last name.
abbrev pub Names : Option NameId → Outline → Type 0
Names a (Conformance b q) = b ≡ a
Names a (Object b p) = b ≡ a
Names a (Equality b c p) = (b ≡ a) ⊎ (c ≡ a)

-- So does the one at the place.
pub record NamesAt (outlines : List Outline) (a : Option NameId) (k : ℕ) : Type 0 where
  pub outline : Outline
  pub there : slice_get outlines k ≡ Some outline
  pub names : Names a outline

-- ---- lists of places

-- the list of a last name: that of `Self` is the first
abbrev pub list_of : Option NameId → ℕ
list_of None = 0
list_of (Some a) = suc a.rank

-- the places that are kept for a last name
abbrev pub kept_for : List (List ℕ) → Option NameId → List ℕ
kept_for lists a = slice_index_or lists (list_of a) []

-- Each last name of the requirement has a list.
abbrev pub HasLists : ℕ → Outline → Type 0
HasLists count outline = (a : Option NameId) → Names a outline → list_of a < count

abbrev pub HaveLists : ℕ → List Outline → Type 0
HaveLists count outlines = (k : ℕ) (outline : Outline) → slice_get outlines k ≡ Some outline → HasLists count outline

-- The place is kept for the last name too.
pub record IsNoted (a : Option NameId) (k : ℕ) (old new : List (List ℕ)) : Type 0 where
  pub count : length new ≡ length old
  pub each : (b : Option NameId) (j : ℕ) → Contains (kept_for new b) j ↔ (Contains (kept_for old b) j ⊎ ((j ≡ k) × (a ≡ b)))

-- The place is kept for each last name of the requirement too.
pub record AreNoted (outline : Outline) (k : ℕ) (old new : List (List ℕ)) : Type 0 where
  pub count : length new ≡ length old
  pub each : (b : Option NameId) (j : ℕ) → Contains (kept_for new b) j ↔ (Contains (kept_for old b) j ⊎ ((j ≡ k) × Names b outline))

-- Those places before this one are kept for a last name where the requirements are of type parameters with it.
pub record AreNamedBefore (outlines : List Outline) (n count : ℕ) (lists : List (List ℕ)) : Type 0 where
  pub lists_are : length lists ≡ count
  pub each : (a : Option NameId) (k : ℕ) → Contains (kept_for lists a) k ↔ ((k < n) × NamesAt outlines a k)

-- All of them are.
abbrev pub AreNamed : List Outline → List (List ℕ) → Type 0
AreNamed outlines lists = (a : Option NameId) (k : ℕ) → Contains (kept_for lists a) k ↔ NamesAt outlines a k

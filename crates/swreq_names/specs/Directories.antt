-- Names by their bytes, with their first places.
use Rattle.std.specs.Prelude.{◌≡◌, ℕ, ◌↔◌, List, [], Option, Some, None, map, slice_get, slice_index_or, Contains}
use Rattle.swreq_names.specs.declared.directory.Declaration.{Declaration}
use Rattle.swreq_names.specs.Spaces.{place}

abbrev pub names_of : List Declaration → List (List ℕ)
names_of ds = map (λ d. d.name) ds

-- The ranked names are the declared names, and for each rank there is the first place of its name.
pub record AreFirsts (ds : List Declaration) (ranks : List (List ℕ)) (firsts : List (Option ℕ)) : Type 0 where
  pub same : (name : List ℕ) → Contains ranks name ↔ Contains (names_of ds) name
  pub first : (r : ℕ) (name : List ℕ) → slice_get ranks r ≡ Some name → slice_index_or firsts r None ≡ place ds name

-- All names that protocols declare are ranked, and for each rank there are the places of the protocols that declare its name.
pub record AreDeclarers (members : List (List Declaration)) (ranks : List (List ℕ)) (lists : List (List ℕ)) : Type 0 where
  pub all : (j : ℕ) (name : List ℕ) → Contains (names_of (slice_index_or members j [])) name → Contains ranks name
  pub listed : (r : ℕ) (name : List ℕ) → slice_get ranks r ≡ Some name
      → (j : ℕ) → Contains (slice_index_or lists r []) j ↔ Contains (names_of (slice_index_or members j [])) name

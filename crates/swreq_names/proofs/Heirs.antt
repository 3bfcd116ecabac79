-- Each direct step leads to the first protocol of a name.
use Rattle.std.proofs.Common.{◌≡◌, ℕ, zero, suc, ◌+◌, ◌<◌, Bool, true, false, cond, List, [], ◌∷◌, length, map, Contains, refl, arith}
use Rattle.std.specs.Prelude.{Option, None, Some}
use Rattle.std.specs.List.{All, flat_map, position_from}
use Rattle.std.specs.Option.{option_to_list}
use Rattle.std.specs.Str.{bytes_eq}
use Rattle.std.proofs.lemmas.List.{length-map}
use Rattle.std.proofs.lemmas.List.Elements.{All-nil, All-cons, All-append, All-contains}
use Rattle.swreq_closure.specs.Chains.{next, AreWithin}
use Rattle.swreq_decl.specs.declared.skeleton.Entity.{Entity}
use Rattle.swreq_decl.specs.declared.skeleton.ProtocolDecl.{ProtocolDecl}
use Rattle.swreq_names.specs.declared.directory.Declaration.{Declaration}
use Rattle.swreq_names.specs.Spaces.{word, place, offset_of, is_declared_before, refers_to, protocol_of, Spaces}
use Rattle.swreq_names.specs.Directories.{names_of}
use Rattle.swreq_names.specs.Inheritance.{named_by, named_in, is_itself, inherited_by, direct, LeadToDeclared}
use Rattle.swreq_names.specs.Parts.{Constraint, of_protocol}
use Rattle.swreq_names.specs.Parts.Constraint.{bound, same}

-- ---- a property of all numbers of a list

module _ (P : ℕ → Type 0) where
  all_pieces : {A : Type 0} (f : A → List ℕ) → ((x : A) → All P (f x)) → (xs : List A) → All P (flat_map f xs)
  all_pieces f each [] = All-nil P
  all_pieces f each (x ∷ xs) = All-append P (f x) (flat_map f xs) (each x) (all_pieces f each xs)

  all_found : (o : Option ℕ) → ((k : ℕ) → o ≡ Some k → P k) → All P (option_to_list o)
  all_found None h = All-nil P
  all_found (Some k) h = All-cons P k [] (h k refl) (All-nil P)

  all_chosen : (b : Bool) (xs : List ℕ) → All P xs → All P (cond b xs [])
  all_chosen true xs h = h
  all_chosen false xs h = All-nil P

-- ---- places of names

hidden : (b : Bool) (o : Option ℕ) (k : ℕ) → cond b None o ≡ Some k → o ≡ Some k
hidden true o k e = absurd cc
hidden false o k e = e

some_number : (i k : ℕ) → Some i ≡ Some k → i ≡ k
some_number i k e = cc

-- a name that is found from the i-th on is found before the end
found_below : (names : List (List ℕ)) (name : List ℕ) (i k : ℕ) → position_from (bytes_eq name) i names ≡ Some k → k < i + length names
found_below [] name i k e = absurd cc
found_below (x ∷ xs) name i k e = by (bytes_eq name x) e (found_below xs name (i + 1) k)
  where
    rest : Option ℕ
    rest = position_from (bytes_eq name) (i + 1) xs

    by : (b : Bool) → cond b (Some i) rest ≡ Some k → (rest ≡ Some k → k < i + 1 + length xs) → k < i + length (x ∷ xs)
    by true f below = let s = some_number i k f in omega (arith, s)
    by false f below = let l = below f in omega (arith, l)

pub placed_below : (ds : List Declaration) (name : List ℕ) (k : ℕ) → place ds name ≡ Some k → k < length ds
placed_below ds name k e =
    let below = found_below (names_of ds) name 0 k e in
    let size = length-map ds (λ (d : Declaration). d.name) in
    omega (arith, below, size)

-- what a name refers to is its first place
referred_place : (ds others : List Declaration) (name : List ℕ) (k : ℕ) → refers_to ds others name ≡ Some k → place ds name ≡ Some k
referred_place ds others name k = by (place ds name)
  where
    by : (o : Option ℕ) → elim o [ None ↦ None | Some i ↦ cond (is_declared_before others name (offset_of ds i)) None (Some i) ] ≡ Some k
        → o ≡ Some k
    by None e = absurd cc
    by (Some i) e = hidden (is_declared_before others name (offset_of ds i)) (Some i) k e

-- ---- direct steps

module _ (text : List ℕ) (d : Spaces) where
  -- If the first place of each name has a property, each direct step leads to a place that has it.
  module _ (P : ℕ → Type 0) (placed : (name : List ℕ) (k : ℕ) → place d.protocols name ≡ Some k → P k) where
    all_named : (e : Entity) → All P (option_to_list (named_by text d e))
    all_named e =
        let name = word text e.span in
        all_found P (named_by text d e)
        (λ k h. placed name k (referred_place d.protocols d.structs name k (hidden e.layout (protocol_of d name) k h)))

    all_inherited : (c : Constraint) → All P (inherited_by text d c)
    all_inherited (bound subject es) =
        all_chosen P (is_itself text d subject) (named_in text d es) (all_pieces P (λ e. option_to_list (named_by text d e)) all_named es)
    all_inherited (same t u) = All-nil P

    all_direct : (ps : List ProtocolDecl) (i : ℕ) → All P (next (map (direct text d) ps) i)
    all_direct [] i = All-nil P
    all_direct (p ∷ ps) zero = all_pieces P (inherited_by text d) all_inherited (of_protocol p)
    all_direct (p ∷ ps) (suc i) = all_direct ps i

    each_step : (ps : List ProtocolDecl) (i j : ℕ) → Contains (next (map (direct text d) ps) i) j → P j
    each_step ps i j = All-contains P (next (map (direct text d) ps) i) j (all_direct ps i)

  pub steps_declared : (ps : List ProtocolDecl) → LeadToDeclared d.protocols (map (direct text d) ps)
  steps_declared = each_step (λ k. (name : List ℕ) × (place d.protocols name ≡ Some k)) (λ name k e. (name, e))

  pub steps_within : (ps : List ProtocolDecl) → length d.protocols ≡ length ps → AreWithin (map (direct text d) ps)
  steps_within ps size i j h =
      let below = each_step (λ k. k < length d.protocols) (placed_below d.protocols) ps i j h in
      omega (arith, below, size, length-map ps (direct text d))

-- What a test refuses, and the names that are declared twice.
use Rattle.std.proofs.Common.{◌≡◌, ⊎_elim, ℕ, Bool, true, false, not, List, [], ◌++◌, Contains, refl, sym, true≢false}
use Rattle.std.proofs.lemmas.List.Elements.{Contains-append_left, Contains-append_right, Contains-append_cases}
use Rattle.swreq_names.proofs.swreq_lemmas.Members.{no_member, first_member, only_member}
use Rattle.swreq_names.specs.declared.directory.Declaration.{Declaration}
use Rattle.swreq_names.specs.Spaces.{is_declared_before}
use Rattle.swreq_resolve.specs.declared.refusal.Fault.{Fault}
use Rattle.swreq_resolve.specs.declared.refusal.Fault.TheVariants.{Duplicate}
use Rattle.swreq_resolve.specs.declared.refusal.Refusal.{Refusal}
use Rattle.swreq_resolve.specs.First.{when}
use Rattle.swreq_resolve.specs.Refused.{HasEarlier, refused}
use Rattle.swreq_resolve.specs.Refusals.{duplicate_of, duplicates, of_space}
use Rattle.swreq_resolve.proofs.SameMembers.{in_pieces, from_pieces}
use Rattle.swreq_resolve.proofs.Meaning.{AreInOrder, earlier_to, earlier_from, earlier_left, earlier_right, earlier_cases}

-- ---- one refusal

pub when_to : (b : Bool) (fault : Fault) (at : ℕ) (r : Refusal) → Contains (when b fault at) r → (b ≡ true) × (r ≡ refused fault at)
when_to true fault at r c = (refl, only_member (refused fault at) r c)
when_to false fault at r c = no_member r c

pub when_from : (b : Bool) (fault : Fault) (at : ℕ) → b ≡ true → Contains (when b fault at) (refused fault at)
when_from true fault at e = first_member (refused fault at) []
when_from false fault at e = absurd (true≢false (sym e))

pub refuted : (b : Bool) (P : Type 0) → (P → b ≡ true) → not b ≡ true → P → ⊥
refuted true P f e p = true≢false (sym e)
refuted false P f e p = true≢false (sym (f p))

pub denied : (b : Bool) (P : Type 0) → (b ≡ true → P) → (P → ⊥) → not b ≡ true
denied true P f n = absurd (n (f refl))
denied false P f n = refl

-- ---- duplicates

module _ (space : List Declaration) where
  pub duplicates_to : (ds : List Declaration) (r : Refusal) → Contains (duplicates space ds) r
      → (d : Declaration) × Contains ds d × HasEarlier space d.name d.at × (r ≡ refused Duplicate d.at)
  duplicates_to ds r c =
      let p = from_pieces (duplicate_of space) ds r c in
      let w = when_to (is_declared_before space p.0.name p.0.at) Duplicate p.0.at r p.2 in
      (p.0, p.1, earlier_to space p.0.name p.0.at w.0, w.1)

  pub duplicates_from : AreInOrder space → (ds : List Declaration) (d : Declaration) → Contains ds d → HasEarlier space d.name d.at
      → Contains (duplicates space ds) (refused Duplicate d.at)
  duplicates_from o ds d c h =
      in_pieces (duplicate_of space) ds d (refused Duplicate d.at) c
      (when_from (is_declared_before space d.name d.at) Duplicate d.at (earlier_from space d.name d.at o h))

-- two lists that are one space
module _ (ds es : List Declaration) where
  pub of_space_to : (r : Refusal) → Contains (of_space ds es) r
      → (d : Declaration) × Contains (ds ++ es) d × HasEarlier (ds ++ es) d.name d.at × (r ≡ refused Duplicate d.at)
  of_space_to r c =
      let first = duplicates ds ds in
      let second = duplicates es ds in
      let third = duplicates ds es in
      let fourth = duplicates es es in
      ⊎_elim
      (λ h. let p = duplicates_to ds ds r h in (p.0, Contains-append_left ds es p.0 p.1, earlier_left ds es p.0.name p.0.at p.2, p.3))
      (λ k. ⊎_elim
      (λ h. let p = duplicates_to es ds r h in (p.0, Contains-append_left ds es p.0 p.1, earlier_right ds es p.0.name p.0.at p.2, p.3))
      (λ l. ⊎_elim
      (λ h. let p = duplicates_to ds es r h in (p.0, Contains-append_right ds es p.0 p.1, earlier_left ds es p.0.name p.0.at p.2, p.3))
      (λ h. let p = duplicates_to es es r h in (p.0, Contains-append_right ds es p.0 p.1, earlier_right ds es p.0.name p.0.at p.2, p.3))
      (Contains-append_cases third fourth r l))
      (Contains-append_cases second (third ++ fourth) r k))
      (Contains-append_cases first (second ++ (third ++ fourth)) r c)

  pub of_space_from : AreInOrder ds → AreInOrder es → (d : Declaration) → Contains (ds ++ es) d → HasEarlier (ds ++ es) d.name d.at
      → Contains (of_space ds es) (refused Duplicate d.at)
  of_space_from o p d c h =
      let r = refused Duplicate d.at in
      let first = duplicates ds ds in
      let second = duplicates es ds in
      let third = duplicates ds es in
      let fourth = duplicates es es in
      ⊎_elim
      (λ k. ⊎_elim
      (λ a. Contains-append_left first (second ++ (third ++ fourth)) r (duplicates_from ds o ds d k a))
      (λ a. Contains-append_right first (second ++ (third ++ fourth)) r
      (Contains-append_left second (third ++ fourth) r (duplicates_from es p ds d k a)))
      (earlier_cases ds es d.name d.at h))
      (λ k. Contains-append_right first (second ++ (third ++ fourth)) r (Contains-append_right second (third ++ fourth) r (⊎_elim
      (λ a. Contains-append_left third fourth r (duplicates_from ds o es d k a))
      (λ a. Contains-append_right third fourth r (duplicates_from es p es d k a))
      (earlier_cases ds es d.name d.at h))))
      (Contains-append_cases ds es d c)

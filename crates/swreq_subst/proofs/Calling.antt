-- The types of a call and the list of its callee, over the ids of a table.
use Rattle.std.proofs.Common.{◌≡◌, ℕ, zero, suc, ◌-◌, ◌<◌, ◌^◌, List, [], ◌∷◌, length, map, get_or, Option, Some, None, slice_get, refl, sym, ap, subst, ◌∙◌, arith}
use Rattle.std.specs.Prelude.{All}
use Rattle.std.specs.Option.{option_map}
use Rattle.std.proofs.lemmas.List.{length-map}
use Rattle.std.proofs.lemmas.List.Elements.{All-contains, All-get_or}
use Rattle.std.proofs.lemmas.Option.{slice_get-get_or}
use Rattle.swreq_print.proofs.swreq_lemmas.Elements.{get_contains, get_map}
use Rattle.swreq_print.proofs.swreq_lemmas.Members.{contains_map, contains_of_map}
use Rattle.swreq_machine.specs.swreq_param.declared.ids.TermId.{TermId}
use Rattle.swreq_machine.specs.swreq_param.Tables.{term_at}
use Rattle.swreq_machine.specs.swreq_param.Terms.{Term}
use Rattle.swreq_machine.specs.swreq_derive.declared.requirements.Requirement.{Requirement}
use Rattle.swreq_machine.specs.swreq_derive.declared.requirements.Requirement.TheVariants.{Conf}
use Rattle.swreq_machine.specs.swreq_derive.Facts.{requirement_of}
use Rattle.swreq_machine.specs.swreq_derive.Instances.{HasNumber}
use Rattle.swreq_machine.specs.swreq_lexicon.Views.{LexiconView}
use Rattle.swreq_machine.specs.swreq_lowering.declared.ids.FuncId.{FuncId}
use Rattle.swreq_machine.specs.swreq_lowering.declared.ids.Written.{Written}
use Rattle.swreq_machine.specs.swreq_lowering.ByTable.{placed, placed_by}
use Rattle.swreq_machine.specs.swreq_lowering.Heads.{IsOver}
use Rattle.swreq_machine.specs.swreq_world.ByTable.{signature_by, world_by}
use Rattle.swreq_machine.specs.swreq_world.Closed.{HasOwn, IsOfSignature, IsParamOf}
use Rattle.swreq_machine.specs.swreq_world.FactsAt.{written_list}
use Rattle.swreq_machine.specs.swreq_world.Short.{IsShort}
use Rattle.swreq_machine.specs.swreq_world.Worlds.{IdWorld, SignatureOver, no_signature, signature_at}
use Rattle.swreq_machine.specs.swreq_symbols.Known.{IsRequirementIn, IsTextOver, IsTypeIn}
use Rattle.swreq_machine.proofs.swreq_symbols.OfText.{requirements_placed, signature_is, signature_written}
use Rattle.swreq_machine.specs.swreq_valid.Plans.{bare, listed}
use Rattle.swreq_subst.specs.Calls.{IsArgumentIn}

-- ---- the types of a call

abbrev pub named : List TermId → List (Option TermId)
named ts = map (λ (t : TermId). Some t) ts

pub all_of_text : (terms : List Term) (x : LexiconView) (ts : List TermId) → All (IsArgumentIn terms x) (named ts)
    → All (IsTypeIn terms x) ts
all_of_text terms x [] h n d l = absurd (omega arith)
all_of_text terms x (t ∷ ts) h zero d l = h 0 None (omega arith)
all_of_text terms x (t ∷ ts) h (suc n) d l = all_of_text terms x ts (λ i a j. h (suc i) a (omega arith)) n d (omega arith)

pub same_types : (terms : List Term) (ts : List TermId)
    → map (option_map (term_at terms)) (named ts) ≡ map (λ (t : Term). Some t) (map (term_at terms) ts)
same_types terms [] = refl
same_types terms (t ∷ ts) = ap (λ z. Some (term_at terms t) ∷ z) (same_types terms ts)

-- ---- the list of the callee

-- the first id, for places that are not there
abbrev pub no_requirement : Requirement
no_requirement = Conf (record { place = 0 }) (record { rank = 0 })

pub has_number : (terms : List Term) (list : List Requirement) (k : ℕ) (d : Requirement) → k < length list
    → HasNumber (suc k) (listed terms list) (requirement_of terms (get_or list k d))
has_number terms list k d l = (
  omega arith,
  subst (λ z. slice_get (map (requirement_of terms) list) z ≡ Some (requirement_of terms (get_or list k d))) here
      (get_map (requirement_of terms) list k (get_or list k d) (slice_get-get_or list k d l)),
)
  where
    here : k ≡ suc k - 1
    here = omega arith

module _ (terms : List Term) (w : IdWorld) (g : FuncId) (list : List Requirement) (is : list ≡ bare (signature_at w g).requirements) where
  pub list_is : written_list (signature_at (world_by terms w) g) ≡ map (requirement_of terms) list
  list_is =
      ap written_list (signature_is w terms g) ∙ sym (requirements_placed terms (signature_at w g).requirements)
      ∙ ap (map (requirement_of terms)) (sym is)

  pub list_size : length (written_list (signature_at (world_by terms w) g)) ≡ length list
  list_size = ap length list_is ∙ length-map list (requirement_of terms)

  pub is_short : IsShort w → g.place < length w.signatures → length list < 2 ^ 32
  is_short short l =
      let h = All-get_or (λ (g : SignatureOver Written). length g.requirements < 2 ^ 32) w.signatures g.place no_signature l short.lists in
      let k = length-map (signature_at w g).requirements (λ (r : Written). r.requirement) in
      let e = ap length is in
      omega arith

  -- each of its requirements is of the text, and over its generic parameters
  module _ (text : IsTextOver terms w) (signature : g.place < length w.signatures) where
    own : HasOwn w.lexicon (signature_by terms (signature_at w g))
    own =
        let within : g.place < length (map (signature_by terms) w.signatures) =
        omega (arith, length-map w.signatures (signature_by terms), signature) in
        subst (HasOwn w.lexicon) (signature_is w terms g)
        (All-get_or (HasOwn w.lexicon) (map (signature_by terms) w.signatures) g.place no_signature within text.closed.signatures)

    pub of_callee : (k : ℕ) (d : Requirement) → k < length list
        → IsRequirementIn terms w.lexicon (get_or list k d)
        × IsOver (IsParamOf (signature_at w g).params) (requirement_of terms (get_or list k d))
    of_callee k d l =
        let r = get_or list k d in
        let at = subst (λ z. slice_get z k ≡ Some r) is (slice_get-get_or list k d l) in
        let (q, c, e) = contains_of_map (λ (r : Written). r.requirement) (signature_at w g).requirements r
        (get_contains (bare (signature_at w g).requirements) k r at) in
        let over = All-contains (IsOfSignature w.lexicon (signature_at w g).params)
        (placed terms (signature_at w g).requirements) (placed_by terms q) own
        (contains_map (placed_by terms) (signature_at w g).requirements q c) in
        subst (λ (r : Requirement).
        IsRequirementIn terms w.lexicon r × IsOver (IsParamOf (signature_at w g).params) (requirement_of terms r)) (sym e)
        (signature_written w terms text g signature q c, over.1)

-- The lists from which numbers are, over ids.
use Rattle.std.proofs.Common.{◌≡◌, ℕ, ◌+◌, ◌-◌, ◌<◌, ◌^◌, Some, slice_get, List, [], length, get_or, Contains, sym, ap, ap₂, subst, ◌∙◌, arith}
use Rattle.std.proofs.lemmas.List.{length-map}
use Rattle.std.proofs.lemmas.List.Elements.{All-get_or}
use Rattle.std.proofs.lemmas.Option.{slice_get-get_or}
use Rattle.swreq_print.proofs.swreq_lemmas.Members.{contains_of_map}
use Rattle.swreq_machine.specs.swreq_param.declared.ids.ParamId.{ParamId}
use Rattle.swreq_machine.specs.swreq_param.declared.ids.ProtoId.{ProtoId}
use Rattle.swreq_machine.specs.swreq_param.Terms.{Term}
use Rattle.swreq_machine.specs.swreq_derive.declared.requirements.Requirement.{Requirement}
use Rattle.swreq_machine.specs.swreq_derive.Derivation.{Derivable, Source, TermRequirement}
use Rattle.swreq_machine.specs.swreq_derive.Derivation.Source.{Written as WrittenList}
use Rattle.swreq_machine.specs.swreq_derive.Derivation.TermRequirement.{Conforms}
use Rattle.swreq_machine.specs.swreq_derive.Derivation.TermStatement.{Requires}
use Rattle.swreq_machine.specs.swreq_derive.Facts.{generic_params}
use Rattle.swreq_machine.specs.swreq_derive.Instances.{HasNumber}
use Rattle.swreq_machine.specs.swreq_derive.Paths.{IsGivenPath}
use Rattle.swreq_machine.specs.swreq_derive.WellFormed.{IsListWellFormed}
use Rattle.swreq_machine.specs.swreq_lexicon.Views.{IsProtocol}
use Rattle.swreq_machine.specs.swreq_lowering.declared.ids.FuncId.{FuncId}
use Rattle.swreq_machine.specs.swreq_lowering.declared.ids.Written.{Written}
use Rattle.swreq_machine.specs.swreq_lowering.ByTable.{placed}
use Rattle.swreq_machine.specs.swreq_world.ByTable.{world_by}
use Rattle.swreq_machine.specs.swreq_world.FactsAt.{source_of, written_list}
use Rattle.swreq_machine.specs.swreq_world.Worlds.{IdWorld, SignatureOver, no_signature, requirements_of, signature_at}
use Rattle.swreq_machine.specs.swreq_symbols.Known.{IsRequirementIn, IsTextOver}
use Rattle.swreq_machine.proofs.swreq_symbols.OfText.{protocol_written, requirements_placed, signature_is, signature_written}
use Rattle.swreq_machine.specs.Machines.{IsMachineOf}
use Rattle.swreq_machine.specs.swreq_valid.Plans.{AreKnown, bare, listed}
use Rattle.swreq_machine.specs.swreq_valid.Rounds.{last_rules}
use Rattle.swreq_machine.proofs.swreq_valid.Made.{written_known}
use Rattle.swreq_machine.specs.swreq_complete.Complete.{IsComplete}
use Rattle.swreq_confpath.specs.declared.path.ConfPath.{ConfPath}
use Rattle.swreq_confpath.specs.declared.places.Place.{Place}
use Rattle.swreq_confpath.specs.declared.places.Place.TheVariants as places
use Rattle.swreq_confpath.specs.declared.sought.Sought.{Sought}
use Rattle.swreq_confpath.specs.Parting.{AllSpareOthers}
use Rattle.swreq_machine.specs.swreq_symbols.Texts.{IsRequirementOfText, term_of}
use Rattle.swreq_machine.proofs.swreq_symbols.OfTexts.{text_over}
use Rattle.swreq_confpath.specs.Searches.{IsGiven, IsKnown, IsMachineFor, IsPlaceIn, facts_in, list_in, required_at, source_in, world_in}

-- the number of the k-th is k + 1
pub numbered_at : (rs list : List Requirement) (k : ℕ) (d : Requirement) → list ≡ rs → k < length list
    → HasNumber (k + 1) rs (get_or list k d)
numbered_at rs list k d same l =
    let here : k ≡ k + 1 - 1 = omega arith in (
      omega arith,
      subst (λ n. slice_get rs n ≡ Some (get_or list k d)) here
          (subst (λ z. slice_get z k ≡ Some (get_or list k d)) same (slice_get-get_or list k d l)),
    )

-- ---- of a protocol and of a signature

module _ (terms : List Term) (w : IdWorld) where
  pub protocol_known : IsTextOver terms w → (q : ProtoId) → AreKnown terms w.lexicon (bare (requirements_of w q))
  protocol_known text q r c =
      let h = contains_of_map (λ (z : Written). z.requirement) (requirements_of w q) r c in
      subst (IsRequirementIn terms w.lexicon) (sym h.2) (protocol_written w terms text q h.0 h.1)

  pub protocol_in_list : IsTextOver terms w → (q : ProtoId) → (list : List Requirement) → list ≡ bare (requirements_of w q)
      → AreKnown terms w.lexicon list
  protocol_in_list text q list e r c = protocol_known text q r (subst (λ z. Contains z r) e c)

  pub signature_known : IsTextOver terms w → (f : FuncId) → f.place < length w.signatures → (list : List Requirement)
      → list ≡ bare (signature_at w f).requirements
      → AreKnown terms w.lexicon list
  signature_known text f l list e =
      written_known terms w.lexicon (signature_at w f).requirements list e (λ r c. signature_written w terms text f l r c)

  pub signature_listed : (f : FuncId) (list : List Requirement) → list ≡ bare (signature_at w f).requirements
      → listed terms list ≡ written_list (signature_at (world_by terms w) f)
  signature_listed f list e =
      ap (listed terms) e ∙ requirements_placed terms (signature_at w f).requirements ∙ sym (ap written_list (signature_is w terms f))

  protocols_few : IsTextOver terms w → (q : ProtoId) → IsProtocol w.lexicon q → q.rank < length w.requirements
  protocols_few text q h = omega (arith, length-map w.requirements (placed terms), text.closed.protocols, h)

-- ---- of a place

module _ (s : Sought) (known : IsKnown s) where
  pub requirement_in : (from : Place) (r : Requirement) → Contains (required_at s.text.world.now s.list.now from) r
      → IsRequirementOfText s.text r
  requirement_in places.Start r c = known.list r c
  requirement_in (places.Conformance u q) r c = protocol_known s.text.table.now s.text.world.now (text_over s.text) q r c

  pub few_at : (from : Place) → IsPlaceIn s.text.world.now from → length (required_at s.text.world.now s.list.now from) < 2 ^ 32
  few_at places.Start h = known.few
  few_at (places.Conformance u q) h =
      let l = protocols_few s.text.table.now s.text.world.now (text_over s.text) q h in
      let short = All-get_or (λ (rs : List Written). length rs < 2 ^ 32) s.text.world.now.requirements q.rank [] l
      (text_over s.text).short.protocols in
      let e = length-map (requirements_of s.text.world.now q) (λ (r : Written). r.requirement) in
      omega arith

-- ---- the search for a signature

module _ (s : Sought) (f : FuncId) (of : IsMachineFor s.text f s.machine.now)
    (list : s.list.now ≡ bare (signature_at s.text.world.now f).requirements) where
  same_list : list_in s ≡ written_list (signature_at (world_in s) f)
  same_list = signature_listed s.text.table.now s.text.world.now f s.list.now list

  same_source : source_in s ≡ source_of (signature_at (world_in s) f)
  same_source = ap₂ WrittenList (ap generic_params of.params) same_list

  few : length s.list.now < 2 ^ 32
  few =
      let h = All-get_or (λ (g : SignatureOver Written). length g.requirements < 2 ^ 32) s.text.world.now.signatures f.place no_signature
      of.signature (text_over s.text).short.lists in
      let e = ap length list in
      let k = length-map (signature_at s.text.world.now f).requirements (λ (r : Written). r.requirement) in
      omega arith

  pub known_of : IsComplete (last_rules s.machine.now.rounds) → AllSpareOthers (last_rules s.machine.now.rounds) s.changed.now
      → Derivable (facts_in s) (source_of (signature_at (world_in s) f)) (Requires (Conforms (term_of s.text s.subject) s.proto))
      → IsKnown s
  known_of complete others derivable = record {
    list = signature_known s.text.table.now s.text.world.now (text_over s.text) f of.signature s.list.now list;
    machine = subst (λ (z : List TermRequirement). IsMachineOf (world_in s) z s.machine.now) (sym same_list) of.machine;
    complete = complete;
    others = others;
    protocols = of.protocols;
    well_formed = subst (IsListWellFormed (facts_in s)) (sym same_source) of.list;
    few = few;
    derivable = subst (λ (z : Source). Derivable (facts_in s) z (Requires (Conforms (term_of s.text s.subject) s.proto)))
        (sym same_source) derivable;
  }

  pub given_of : (path : ConfPath) → IsGiven s path
      → IsGivenPath (facts_in s) (generic_params (signature_at (world_in s) f).params)
      (written_list (signature_at (world_in s) f)) path.first path.steps
      (term_of s.text s.subject) s.proto
  given_of path h =
      subst (λ (gs : List ParamId). IsGivenPath (facts_in s) gs (written_list (signature_at (world_in s) f)) path.first path.steps
      (term_of s.text s.subject) s.proto)
      (ap generic_params of.params)
      (subst (λ (rs : List TermRequirement).
      IsGivenPath (facts_in s) (generic_params s.machine.now.params) rs path.first path.steps (term_of s.text s.subject) s.proto)
      same_list h)

-- Of which signatures a command wants the minimised list.
use Rattle.std.proofs.Common.{◌≡◌, refl, sym, ap, subst, ℕ, ◌<◌, Bool, true, false, List, length, map, Contains, Some, true≢false, arith, eq-eqb}
use Rattle.std.proofs.lemmas.List.{length-map}
use Rattle.std.proofs.lemmas.List.Elements.{Contains-get_or}
use Rattle.swreq_machine.specs.swreq_param.Terms.{Term}
use Rattle.swreq_machine.proofs.swreq_lemmas.Members.{contains_map}
use Rattle.swreq_check.specs.declared.content.Content.{Content}
use Rattle.swreq_check.specs.declared.content.Made.{Made}
use Rattle.swreq_check.specs.declared.content.Made.TheVariants.{Lines, Lists}
use Rattle.swreq_check.specs.Contents.{makes}
use Rattle.swreq_machine.specs.swreq_lowering.declared.ids.FuncId.{FuncId}
use Rattle.swreq_machine.specs.swreq_lowering.declared.ids.Query.{Query}
use Rattle.swreq_machine.specs.swreq_lowering.ByTable.{asks_by, query_by}
use Rattle.swreq_machine.specs.swreq_world.ByTable.{signature_by, world_by}
use Rattle.swreq_machine.specs.swreq_world.Worlds.{IdWorld, no_signature, signature_at}
use Rattle.swreq_machine.specs.swreq_symbols.Known.{IsQueryIn, IsTextOver}
use Rattle.swreq_machine.proofs.swreq_symbols.OfText.{query_at}
use Rattle.swreq_check.specs.Told.{IsListMade, IsMinimisedFor}
use Rattle.swreq_check.specs.Wanted.{AreFlagsFor, is_list_made, wants_list}
use Rattle.swreq_check.specs.declared.listing.Minimising.{Minimising}
use Rattle.swreq_machine.proofs.swreq_lemmas.Stable.{Stable, decided_stable, same_number_stable, truncated_map}
use Rattle.swreq_check.proofs.Asking.{asking_list, lists_at}
use Rattle.swreq_lines.proofs.swreq_rank.Tests.{some_passes}

-- a query of the text is known in it
pub query_in : (w : IdWorld) (terms : List Term) → IsTextOver terms w → (q : Query) → Contains w.queries q → IsQueryIn terms w q
query_in w terms text q (k, below, at) = subst (IsQueryIn terms w) at (query_at w terms text w.queries k q refl below)

-- a list that is made is that of a signature of which it is made
list_made : (w : IdWorld) (terms : List Term) (f : FuncId) (a : Made) → f.place < length w.signatures
    → is_list_made a w.queries f.place ≡ true → IsListMade a (world_by terms w) (signature_at (world_by terms w) f)
list_made w terms f Lines l h =
    let (q, has, passes_it) = some_passes (lists_at f.place) w.queries h in
    let (is, at) = asking_list f.place q passes_it in (
      query_by terms q,
      contains_map (query_by terms) w.queries q has,
      ap (asks_by terms) is,
      ap (λ (n : ℕ). signature_at (world_by terms w) (record { place = n })) (sym at),
    )
list_made w terms f Lists l h =
    Contains-get_or (map (signature_by terms) w.signatures) f.place no_signature
    (omega (arith, length-map w.signatures (signature_by terms), l))
list_made w terms f _ l h = absurd (true≢false (sym h))

-- and one that is wanted is minimised for the command
pub minimised_for : (w : IdWorld) (terms : List Term) (f : FuncId) (c : Content) → f.place < length w.signatures
    → wants_list c w.queries f.place ≡ true → IsMinimisedFor c (world_by terms w) (signature_at (world_by terms w) f)
minimised_for w terms f c = list_made w terms f (makes c)

-- ---- what types carry of flags

same_flag_stable : (a b : Bool) → Stable (a ≡ b)
same_flag_stable true true = λ t. refl
same_flag_stable false false = λ t. refl
same_flag_stable true false = decided_stable (no true≢false)
same_flag_stable false true = decided_stable (no (λ e. true≢false (sym e)))

-- the flags say which lists are wanted
pub flagged_in : (l : Minimising) → AreFlagsFor l.passed.world.now l.content l.wanted.now
flagged_in l = record {
  counted = same_number_stable _ _ (truncated_map (λ h. h.counted) l.flagged);
  set = λ k below. same_flag_stable _ _ (truncated_map (λ h. h.set k below) l.flagged);
}

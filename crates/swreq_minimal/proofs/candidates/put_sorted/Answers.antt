use Rattle.std.proofs.Common.{◌≡◌, ◌⊎◌, ◌↔◌, Contains, arith, sym, subst}
use Rattle.swreq_machine.specs.swreq_derive.Facts.{requirement_of}
use Rattle.swreq_candidates.specs.swreq_canonical.CanonicalOrder.{IsStrictlySorted}
use Rattle.swreq_machine.specs.swreq_symbols.Known.{IsRequirementIn}
use Rattle.swreq_machine.specs.swreq_valid.Plans.{AreKnown, listed}
use Rattle.swreq_minimal.specs.Sorted.{AreHere, BelongsAt}
use Rattle.swreq_minimal.proofs.Inserting.{inserted_each, inserted_members, inserted_sorted, there_members, within}
use Rattle.swreq_minimal.proofs.candidates.put_sorted.Goals as goal

pub place_of-requires : goal.place_of-requires
place_of-requires c = (subst (AreHere c.args.table.now) (sym c.deref.ensures.value) c.requires.0, c.requires.1)

pub insert-requires : goal.insert-requires
insert-requires c =
    let place = within c.args.table.now c.deref.result.now c.args.r c.in-Some.place c.in-Some.ensures in
    let long = c.deref.ensures.len in
    omega (arith, place, long)

pub returns-in-None-clause-members : goal.returns-in-None-clause-members
returns-in-None-clause-members c =
    there_members c.args.table.now c.args.found.now.items c.args.r
    (subst (λ z. Contains (listed c.args.table.now z) (requirement_of c.args.table.now c.args.r)) c.deref.ensures.value c.in-None.ensures)

pub returns-in_ok-insert-in-Some-clause-members : goal.returns-in_ok-insert-in-Some-clause-members
returns-in_ok-insert-in-Some-clause-members c q =
    let terms = c.args.table.now in
    let found = c.args.found.now.items in
    let at : BelongsAt terms found c.args.r c.in-Some.place =
    subst (λ z. BelongsAt terms z c.args.r c.in-Some.place) c.deref.ensures.value c.in-Some.ensures in
    subst (λ z. Contains (listed terms z) q ↔ (Contains (listed terms found) q ⊎ (q ≡ requirement_of terms c.args.r)))
    (sym c.in_ok-insert-in-Some.ensures.items) (inserted_members terms found c.args.r c.in-Some.place at q)

pub returns-in_ok-insert-in-Some-clause-sorted : goal.returns-in_ok-insert-in-Some-clause-sorted
returns-in_ok-insert-in-Some-clause-sorted c f s can old =
    let terms = c.args.table.now in
    let found = c.args.found.now.items in
    let at : BelongsAt terms found c.args.r c.in-Some.place =
    subst (λ z. BelongsAt terms z c.args.r c.in-Some.place) c.deref.ensures.value c.in-Some.ensures in
    subst (λ z. IsStrictlySorted (listed terms z)) (sym c.in_ok-insert-in-Some.ensures.items)
    (inserted_sorted terms found c.args.r c.in-Some.place at f s can old)

pub returns-in_ok-insert-in-Some-clause-known : goal.returns-in_ok-insert-in-Some-clause-known
returns-in_ok-insert-in-Some-clause-known c x all one =
    let terms = c.args.table.now in
    let found = c.args.found.now.items in
    let at : BelongsAt terms found c.args.r c.in-Some.place =
    subst (λ z. BelongsAt terms z c.args.r c.in-Some.place) c.deref.ensures.value c.in-Some.ensures in
    subst (AreKnown terms x) (sym c.in_ok-insert-in-Some.ensures.items)
    (inserted_each terms found c.args.r c.in-Some.place at (IsRequirementIn terms x) all one)

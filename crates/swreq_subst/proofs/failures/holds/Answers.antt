use Rattle.std.proofs.Common.{◌↔◌, IsTrue, IfOk, List, sym, subst}
use Rattle.swreq_machine.specs.swreq_derive.Derivation.{TermRequirement}
use Rattle.swreq_machine.specs.swreq_derive.Derivation.TermStatement.{Requires}
use Rattle.swreq_machine.specs.swreq_derive.Facts.{requirement_of}
use Rattle.swreq_machine.specs.Asked.{IsDerivable}
use Rattle.swreq_machine.specs.Machines.{IsMachineOf}
use Rattle.swreq_machine.specs.swreq_world.ByTable.{world_by}
use Rattle.swreq_machine.specs.swreq_world.Closed.{IsRequirementOf}
use Rattle.swreq_machine.specs.swreq_world.Worlds.{TextWorld}
use Rattle.swreq_machine.proofs.swreq_symbols.Growing.{text_stays, world_stays}
use Rattle.swreq_subst.proofs.Replacing.{requirement_of_text}
use Rattle.swreq_subst.proofs.failures.holds.Goals as goal

pub invariant_of-text : goal.invariant_of-text
invariant_of-text c = record {
  belong = ∣ text_stays c.args.table.now c.requirement_with.new.table c.requirement_with.ensures.extends c.args.by.now.world.now
      c.requires.by.text ∣₁;
}

pub derives-requires : goal.derives-requires
derives-requires c =
    let old = c.args.table.now in
    let by = c.args.by.now in
    let x = by.world.now.lexicon in (
      c.in_ok-requirement.ensures.ids,
      subst (IsRequirementOf x) (sym c.in_ok-requirement.ensures.stands)
          (requirement_of_text x old by.args.now c.requires.by.args by.params (requirement_of old c.args.r) c.requires.r.0.1),
    )

pub requirement_with-requires-clause-r : goal.requirement_with-requires-clause-r
requirement_with-requires-clause-r c = (c.requires.r.0.0, c.requires.r.1)

pub returns-clause-holds : goal.returns-clause-holds
returns-clause-holds c =
    let old = c.args.table.now in
    let new = c.requirement_with.new.table in
    let m = c.args.by.now.machine.now in
    let w = c.args.by.now.world.now in
    let same = world_stays old new c.requirement_with.ensures.extends w c.requires.by.text.table in
    let here = subst (λ (v : TextWorld). IfOk c.derives.result (λ b. (list : List TermRequirement) → IsMachineOf v list m
    → IsTrue b ↔ IsDerivable v m list (Requires (requirement_of new c.in_ok-requirement.requirement))))
    same c.derives.ensures in
    subst (λ (r : TermRequirement). IfOk c.derives.result (λ b.
    (list : List TermRequirement) → IsMachineOf (world_by old w) list m → IsTrue b ↔ IsDerivable (world_by old w) m list (Requires r)))
    c.in_ok-requirement.ensures.stands here

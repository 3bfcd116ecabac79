use Rattle.std.proofs.Common.{◌≡◌, List, refl, sym}
use Rattle.swreq_machine.specs.swreq_derive.Derivation.{TermRequirement}
use Rattle.swreq_machine.specs.swreq_derive.Derivation.Source.{Written}
use Rattle.swreq_machine.specs.swreq_derive.Facts.{generic_params}
use Rattle.swreq_machine.specs.swreq_derive.declared.known.Params.{Params}
use Rattle.swreq_machine.specs.swreq_lowering.Requirements.{PlacedRequirement}
use Rattle.swreq_machine.specs.swreq_symbols.Meaning.{facts_of}
use Rattle.swreq_machine.specs.Machines.{IsMachineOf, list_of}
use Rattle.swreq_machine.specs.swreq_valid.Rounds.{AreRounds, last_rules}
use Rattle.swreq_machine.specs.swreq_valid.Sides.{HoldsOfEach, IsValidSide, sides}
use Rattle.swreq_machine.proofs.OfSignatures.{as_meant, as_read}
use Rattle.swreq_check.specs.Settings.{world_in}
use Rattle.swreq_check.proofs.Settled.{machine_on}
use Rattle.swreq_check.proofs.checking.check_after.Goals as goal

-- the machine of a struct is that of a function that adds nothing to it
pub check_again-requires-clause-own : goal.check_again-requires-clause-own
check_again-requires-clause-own g c =
    let terms = c.args.table.now in
    let s = c.args.turn.now.s.now in
    let w = world_in terms s in
    let m = c.args.kept.machine in
    let h = c.requires.kept in
    let inside = c.adds_nothing.ensures.0 c.if-not-adds_nothing.false in
    let Is = λ (p : Params) (rs : List TermRequirement) (qs : List PlacedRequirement).
    HoldsOfEach (IsValidSide (facts_of w)) (sides (Written (generic_params p) rs) qs) × IsMachineOf w rs m × (m.params ≡ p)
    × AreRounds s.limits (list_of w (last_rules s.protocols.now.rounds) p rs) m.rounds in
    let read = as_read terms s.world.now c.args.kept.f _ _ refl refl Is (h.valid, h.machine, h.params, h.rounds) in
    let (valid, machine, params, rounds) =
    as_meant terms s.world.now c.args.turn.now.f _ _ (sym inside.params) (sym inside.requirements) Is read in record {
      ready = c.requires.ready;
      machine = record {
        signature = c.args.turn.now.in_text;
        valid = valid;
        machine = machine;
        params = params;
        rounds = rounds;
      };
    }

pub returns-clause-kept : goal.returns-clause-kept
returns-clause-kept g c =
    machine_on c.args.table.now c.check_again.new.table c.args.turn.now.s.now c.in_ok-check_again.ensures.extends c.requires.ready
    c.args.kept.f c.args.kept.machine c.requires.kept

use Rattle.std.proofs.Common.{◌≡◌, ◌⊎◌, inl, inr, Err, Ok, refl, rules}
use Rattle.swreq_machine.specs.OfSignatures.{signature_plan}
use Rattle.swreq_machine.specs.swreq_valid.Rounds.{last_rules}
use Rattle.swreq_machine.specs.swreq_valid.declared.refused.Refused.TheVariants.{Memory}
use Rattle.swreq_machine.specs.swreq_world.Worlds.{signature_at}
use Rattle.swreq_check.specs.Settings.{world_in}
use Rattle.swreq_check.proofs.OfChecks.{err_is}
use Rattle.swreq_check.proofs.checking.check_again.Goals as goal

pub returns-in_err-tell_again-clause-check : goal.returns-in_err-tell_again-clause-check
returns-in_err-tell_again-clause-check g c =
    let s = c.args.own.now.s.now in
    let w = world_in c.args.table.now s in
    let plan = signature_plan w (last_rules s.protocols.now.rounds) (signature_at w c.args.own.now.f) in
    let (told, part, grew) = c.in_err-tell_again.ensures s.limits plan refl c.requires.own.machine.rounds in
    rw (err_is c.from_residual.result _ c.from_residual.ensures.1) (told, inl part, grew)

pub returns-clause-check : goal.returns-clause-check
returns-clause-check g c =
    let s = c.args.own.now.s.now in
    let w = world_in c.args.table.now s in
    let plan = signature_plan w (last_rules s.protocols.now.rounds) (signature_at w c.args.own.now.f) in
    let own = last_rules c.args.own.now.machine.now.rounds in
    let (told, outcome, grew) = c.in_ok-tell_again.ensures s.limits plan refl c.requires.own.machine.rounds in
    let made : (c.map_err.result ≡ Ok tt) ⊎ (c.map_err.result ≡ Err Memory) = search rules in
    elim made [
      | inl done ↦ rw done (told, (own, (outcome, c.requires.own.machine.valid)), grew)
      | inr lost ↦ rw lost (told, inr (own, (outcome, c.requires.own.machine.valid)), grew)
    ]

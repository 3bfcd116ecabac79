use Rattle.std.proofs.Common.{◌≡◌, ◌∙◌, IfOk}
use Rattle.std.proofs.lemmas.Result.{err_from_is_err_and}
use Rattle.swreq_valid.specs.swreq_derive.Derivation.Source.{Written as WrittenList}
use Rattle.swreq_valid.specs.swreq_derive.Facts.{generic_params}
use Rattle.swreq_valid.specs.swreq_symbols.Meaning.{facts_of}
use Rattle.swreq_valid.specs.swreq_symbols.Texts.{world_of}
use Rattle.swreq_valid.specs.swreq_world.Worlds.{signature_at}
use Rattle.swreq_valid.specs.Built.{IsOnlyBuilt}
use Rattle.swreq_machine.specs.Machines.{IsMachineOf, built_rules, list_of}
use Rattle.swreq_machine.specs.OfSignatures.{signature_plan}
use Rattle.swreq_valid.specs.Checked.{base_of}
use Rattle.swreq_valid.specs.Rounds.{AreRounds, last_rules}
use Rattle.swreq_valid.specs.Sides.{sides}
use Rattle.swreq_machine.proofs.OfSignatures.{as_meant, builds, list_written}
use Rattle.swreq_valid.proofs.Running.{nothing_told}
use Rattle.swreq_valid.proofs.swreq_symbols.OfTexts.{text_over}
use Rattle.swreq_machine.proofs.machine.Machine.of_signature.Goals as goal

pub returns-in_err-list-clause-answer : goal.returns-in_err-list-clause-answer
returns-in_err-list-clause-answer g c =
    let p = err_from_is_err_and c.from_residual.result c.from_residual.ensures.1 in
    rw (p.1, p.2)
    (nothing_told c.args.limits
    (signature_plan (world_of c.args.checked.now.text) (base_of c.args.checked.now)
    (signature_at (world_of c.args.checked.now.text) c.args.signature))
    (g.W.Watch.told c.args.watch.now))

pub build-requires : goal.build-requires
build-requires g c =
    let text = c.checked.inside.text in
    rw (← c.checked.view_is)
    (list_written text.table.now text.world.now c.args.signature _ _ c.params-params.ensures
    (c.deref.ensures.value ∙ c.in_ok-list.ensures) (text_over text) (rw (← c.checked.view_is) at c.requires))

pub returns : goal.returns
returns g c =
    let terms = c.checked.inside.text.table.now in
    let w = c.checked.inside.text.world.now in
    let all = world_of c.checked.inside.text in
    let base = last_rules c.checked.inside.protocols.now.rounds in
    let meant = as_meant terms w c.args.signature _ _ c.params-params.ensures (c.deref.ensures.value ∙ c.in_ok-list.ensures) in
    rw (← c.checked.view_is)
    (record {
      answer = builds terms w c.args.signature _ _ c.params-params.ensures (c.deref.ensures.value ∙ c.in_ok-list.ensures)
          c.args.limits base (g.W.Watch.told c.args.watch.now) (g.W.Watch.told c.build.new.watch) (built_rules c.build.result)
          (rw (← c.checked.view_is) at c.build.ensures.answer);
      only =
          meant (λ p rs qs. IsOnlyBuilt c.args.limits (list_of all base p rs) (facts_of all) (sides (WrittenList (generic_params p) rs) qs)
          (built_rules c.build.result)) (rw (← c.checked.view_is) at c.build.ensures.only);
      rounds = meant (λ p rs qs. IfOk c.build.result (λ m. AreRounds c.args.limits (list_of all base p rs) m.rounds))
          (rw (← c.checked.view_is) at c.build.ensures.rounds);
      machine = meant (λ p rs qs. IfOk c.build.result (IsMachineOf all rs)) (rw (← c.checked.view_is) at c.build.ensures.machine);
      params = meant (λ p rs qs. IfOk c.build.result (λ m. m.params ≡ p)) c.build.ensures.params;
    })

use Rattle.std.proofs.Common.{subst}
use Rattle.swreq_valid.specs.swreq_param.Tables.{term_at}
use Rattle.swreq_machine.specs.Asked.{IsDerivable}
use Rattle.swreq_machine.specs.Having.{TellsIfEqual}
use Rattle.swreq_machine.proofs.Telling.{none_equal}
use Rattle.swreq_valid.specs.swreq_symbols.Texts.{world_of}
use Rattle.swreq_machine.proofs.machine.Machine.equal.Goals as goal

pub returns-in-Some-clause-answer : goal.returns-in-Some-clause-answer
returns-in-Some-clause-answer c list is =
    let text = c.args.text.now in
    (subst (TellsIfEqual (IsDerivable (world_of text) c.args.self.now list)
    (term_at text.table.now c.args.left)
    (term_at text.table.now c.args.right)) c.in-Some.is (c.are_equal.ensures.answer list is)).2

pub returns-in-None-clause-answer : goal.returns-in-None-clause-answer
returns-in-None-clause-answer c list is =
    let text = c.args.text.now in (
      (λ h. cc),
      λ e. absurd (none_equal (world_of text) c.args.self.now list (term_at text.table.now c.args.left)
          (term_at text.table.now c.args.right)
          (subst (TellsIfEqual (IsDerivable (world_of text) c.args.self.now list)
          (term_at text.table.now c.args.left) (term_at text.table.now c.args.right)) c.in-None.is (c.are_equal.ensures.answer list is)) e),
    )

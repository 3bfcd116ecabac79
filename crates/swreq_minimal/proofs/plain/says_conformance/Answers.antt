use Rattle.std.proofs.Common.{◌≡◌, ◌∙◌, ap}
use Rattle.std.proofs.lemmas.Bool.Decides.{Decides-at}
use Rattle.swreq_machine.specs.swreq_param.contracts.ids.TermIdPartialEq.TheImpl.{eq-value}
use Rattle.swreq_machine.specs.swreq_derive.Derivation.TermRequirement.{Conforms}
use Rattle.swreq_machine.specs.swreq_derive.Facts.{requirement_of}
use Rattle.swreq_machine.specs.swreq_symbols.Texts.{term_of}
use Rattle.swreq_minimal.proofs.Equal.{ids_decide}
use Rattle.swreq_minimal.proofs.plain.says_conformance.Goals as goal

pub returns-then-eq : goal.returns-then-eq
returns-then-eq c h =
    let same : c.in-Conf.subject ≡ c.args.t
    = (Decides-at c.eq.result (eq-value.it c.in-Conf.subject c.args.t) c.eq.ensures (ids_decide c.in-Conf.subject c.args.t)).0
    c.if-eq.true in (
      c.in-Conf.proto,
      ap (requirement_of c.args.text.now.table.now) c.in-Conf.is ∙ ap (λ t. Conforms (term_of c.args.text.now t) c.in-Conf.proto) same,
      c.leads.ensures h,
    )

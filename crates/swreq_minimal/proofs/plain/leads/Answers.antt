use Rattle.std.proofs.Common.{◌≡◌, IsTrue, subst}
use Rattle.swreq_machine.specs.swreq_param.declared.ids.ProtoId.{ProtoId}
use Rattle.swreq_machine.specs.swreq_derive.Inheritance.{LeadsTo}
use Rattle.swreq_machine.specs.swreq_derive.Inheritance.LeadsTo.{here}
use Rattle.swreq_machine.specs.swreq_symbols.Meaning.{facts_of}
use Rattle.swreq_machine.specs.swreq_symbols.Texts.{world_of}
use Rattle.swreq_machine.proofs.swreq_symbols.OfTexts.{text_over}
use Rattle.swreq_minimal.proofs.Named.{leads_to}
use Rattle.swreq_minimal.proofs.plain.leads.Goals as goal

pub returns-then-q-p : goal.returns-then-q-p
returns-then-q-p c t =
    let same : c.args.q ≡ c.args.p = λ i. record { rank = c.if-q-p.true i } in
    subst (λ (z : ProtoId). LeadsTo (facts_of (world_of c.args.text.now)) c.args.q z) same here

pub returns : goal.returns
returns c t =
    leads_to (world_of c.args.text.now) (text_over c.args.text.now).closed c.args.q c.args.p c.requires.q c.requires.p
    (subst (λ b. IsTrue b) c.inherits.ensures t)

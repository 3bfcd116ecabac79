use Rattle.std.proofs.Common.{◌∙◌, sym, ap, get_or}
use Rattle.swreq_machine.specs.swreq_param.declared.ids.Step.{Step}
use Rattle.swreq_machine.specs.swreq_param.declared.ids.Step.TheVariants.{Bound}
use Rattle.swreq_machine.specs.swreq_param.Tables.{term_at}
use Rattle.swreq_machine.specs.swreq_param.Terms.{Term}
use Rattle.swreq_machine.specs.swreq_param.Terms.Term.{Member}
use Rattle.swreq_print.proofs.swreq_param.Growing.{onward}
use Rattle.swreq_subst.proofs.Replacing.{one_step}
use Rattle.swreq_subst.proofs.arguments.followed.Goals as goal

pub loop-k-preserved : goal.loop-k-preserved
loop-k-preserved c =
    let i = c.loop-k.invariant in
    let step : Step = get_or c.args.steps.now c.loop-k.k (Bound (record { rank = 0 })) in
    let one = one_step (term_at c.args.table.now c.args.t) c.args.steps.now c.loop-k.k (Bound (record { rank = 0 })) c.loop-k-test.true in
    record {
      is_of = c.in_ok-at.ensures.ok.is_of;
      stands = c.in_ok-at.ensures.ok.stands ∙ (ap (λ (z : Term). Member z step) i.stands ∙ sym one);
      extends = onward c.args.table.now c.loop-k.table c.member.new.self i.extends c.member.ensures.extends;
    }

use Rattle.std.proofs.Common.{List, Contains, inl, Err, ap, sym, subst, ◌∙◌}
use Rattle.swreq_print.proofs.swreq_lemmas.Members.{no_member}
use Rattle.swreq_resolve.specs.declared.refusal.NameErr.{NameErr}
use Rattle.swreq_resolve.specs.declared.refusal.Refusal.{Refusal}
use Rattle.swreq_resolve.specs.Errors.{error_of}
use Rattle.swreq_resolve.proofs.Order.{least_is_first, none_refused, one_first}
use Rattle.swreq_subst.specs.Refusals.{refusals}
use Rattle.swreq_subst.proofs.resolving.resolve_calls.Goals as goal

pub calls_of-requires : goal.calls_of-requires
calls_of-requires c = none_refused (refusals c.args.world.now c.args.text.now c.args.calls.now) (sym c.in-None.ensures)

pub returns-in-Some-clause-refused : goal.returns-in-Some-clause-refused
returns-in-Some-clause-refused c =
    inl (
      c.in-Some.r,
      least_is_first (refusals c.args.world.now c.args.text.now c.args.calls.now) c.in-Some.r (sym c.in-Some.ensures),
      c.error_of.ensures,
    )

pub returns-in-Some-clause-refuses : goal.returns-in-Some-clause-refuses
returns-in-Some-clause-refuses c e (r, first, is) =
    let rs = refusals c.args.world.now c.args.text.now c.args.calls.now in
    let same = one_first rs c.in-Some.r r (least_is_first rs c.in-Some.r (sym c.in-Some.ensures)) first in
    inl (ap (λ (x : NameErr). Err x) (c.error_of.ensures ∙ ap error_of same ∙ sym is))

pub returns-in_ok-calls_of-in-None-clause-ok : goal.returns-in_ok-calls_of-in-None-clause-ok
returns-in_ok-calls_of-in-None-clause-ok c = λ _.
    none_refused (refusals c.args.world.now c.args.text.now c.args.calls.now) (sym c.in-None.ensures)

pub returns-in_ok-calls_of-in-None-clause-refuses : goal.returns-in_ok-calls_of-in-None-clause-refuses
returns-in_ok-calls_of-in-None-clause-refuses c e (r, first, is) =
    no_member r (subst (λ (qs : List Refusal). Contains qs r)
    (none_refused (refusals c.args.world.now c.args.text.now c.args.calls.now) (sym c.in-None.ensures)) first.is)

use Rattle.std.proofs.Common.{List, Contains, subst}
use Rattle.swreq_names.proofs.swreq_lemmas.Members.{no_member}
use Rattle.swreq_names.specs.Spaces.{spaces}
use Rattle.swreq_resolve.specs.declared.refusal.Refusal.{Refusal}
use Rattle.swreq_resolve.proofs.Meaning.{IsInOrder}
use Rattle.swreq_resolve.proofs.DeclaredOrder.{declared_in_order}
use Rattle.swreq_resolve.proofs.Found.{refusals_from}
use Rattle.swreq_resolve.proofs.Refusing.{refusals_to}
use Rattle.swreq_resolve.proofs.laws.refusals_are_the_refused.Goals as goal

pub returns-clause-all : goal.returns-clause-all
returns-clause-all c stands inherits tells r =
    let order : IsInOrder (spaces c.args.text.now c.args.skeleton.now) =
    declared_in_order c.args.text.now c.args.skeleton.now c.tokens_are_slices.ensures stands in (
      refusals_to c.args.text.now c.args.skeleton.now inherits tells order r,
      refusals_from c.args.text.now c.args.skeleton.now inherits tells order r,
    )

pub returns-clause-first : goal.returns-clause-first
returns-clause-first c stands r n =
    let order : IsInOrder (spaces c.args.text.now c.args.skeleton.now) =
    declared_in_order c.args.text.now c.args.skeleton.now c.tokens_are_slices.ensures stands in
    record {
      is = refusals_to c.args.text.now c.args.skeleton.now n.inherits n.tells order r n.first.is;
      first = λ q k. n.first.first q (refusals_from c.args.text.now c.args.skeleton.now n.inherits n.tells order q k);
    }

pub returns-clause-none : goal.returns-clause-none
returns-clause-none c stands h r k =
    let order : IsInOrder (spaces c.args.text.now c.args.skeleton.now) =
    declared_in_order c.args.text.now c.args.skeleton.now c.tokens_are_slices.ensures stands in
    no_member r
    (subst (λ (rs : List Refusal). Contains rs r) h.none (refusals_from c.args.text.now c.args.skeleton.now h.inherits h.tells order r k))

use Rattle.std.proofs.Common.{◌≡◌, subst}
use Rattle.std.specs.Bool.{Decides}
use Rattle.swreq_valid.proofs.Linking.{linked_by_least}
use Rattle.swreq_valid.proofs.linked.are_linked.Goals as goal

pub returns : goal.returns
returns c =
    linked_by_least c.args.rules.now c.args.word.now c.args.other.now c.in_ok-left.left.items c.in_ok-right.right.items c.are_same.result
    c.in_ok-left.ensures.linked c.in_ok-right.ensures.linked c.in_ok-left.ensures.least c.in_ok-right.ensures.least
    (subst (λ z. Decides c.are_same.result (z ≡ c.in_ok-right.right.items)) c.deref.ensures.value
    (subst (λ z. Decides c.are_same.result (c.deref.result.now ≡ z)) c.deref-2.ensures.value c.are_same.ensures))

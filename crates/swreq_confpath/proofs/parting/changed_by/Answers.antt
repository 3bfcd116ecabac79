use Rattle.std.proofs.Common.{◌≡◌, [], Some, slice_get, length, ap, sym, subst, arith}
use Rattle.swreq_confpath.specs.Parting.{AreBeforeProtocol, AreInCommon}
use Rattle.swreq_confpath.proofs.Spared.{others_spared, stands_between}
use Rattle.swreq_confpath.proofs.parting.changed_by.Goals as goal

pub returns-then-from-to : goal.returns-then-from-to
returns-then-from-to c =
    let rule = c.args.rule.now in
    let left = c.symbols-left.result.now in
    let from = c.in_common-from.result in
    let to = c.min-to.result in
    let size : length left ≡ length rule.left = ap (λ w. length w) c.symbols-left.ensures in
    others_spared rule from c.before_protocol.result to _
    (subst (λ w. AreInCommon w rule.right from) c.symbols-left.ensures
    (subst (λ w. AreInCommon left w from) c.symbols.ensures c.in_common-from.ensures))
    (subst (λ w. AreBeforeProtocol w c.before_protocol.result) c.symbols-left.ensures c.before_protocol.ensures)
    (λ i early last. omega (arith, c.min-to.ensures, c.saturating_sub.ensures, size, early, last))
    (λ i x low high is. stands_between left from to i x low high (subst (λ w. slice_get w i ≡ Some x) (sym c.symbols-left.ensures) is))

pub returns : goal.returns
returns c =
    let rule = c.args.rule.now in
    let left = c.symbols-left.result.now in
    let from = c.in_common-from.result in
    let to = c.min-to.result in
    let size : length left ≡ length rule.left = ap (λ w. length w) c.symbols-left.ensures in
    others_spared rule from c.before_protocol.result to []
    (subst (λ w. AreInCommon w rule.right from) c.symbols-left.ensures
    (subst (λ w. AreInCommon left w from) c.symbols.ensures c.in_common-from.ensures))
    (subst (λ w. AreBeforeProtocol w c.before_protocol.result) c.symbols-left.ensures c.before_protocol.ensures)
    (λ i early last. omega (arith, c.min-to.ensures, c.saturating_sub.ensures, size, early, last))
    (λ i x low high is. let none = c.if-from-to.false in absurd (omega (arith, low, high, none)))

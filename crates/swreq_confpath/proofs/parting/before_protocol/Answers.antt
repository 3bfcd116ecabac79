use Rattle.std.proofs.Common.{◌≡◌, get_or, length, take, refl, subst, arith}
use Rattle.std.proofs.lemmas.Option.{slice_get-get_or}
use Rattle.swreq_print.specs.swreq_word.declared.symbols.Symbol.TheVariants.{Proto}
use Rattle.swreq_print.proofs.swreq_lemmas.Members.{no_member}
use Rattle.swreq_confpath.specs.Parting.{HasNoProtocol}
use Rattle.swreq_confpath.proofs.Spared.{no_protocol_more, none_at_all}
use Rattle.swreq_confpath.proofs.parting.before_protocol.Goals as goal

pub loop-k-init : goal.loop-k-init
loop-k-init c p h = no_member (Proto p) h

pub loop-k-preserved : goal.loop-k-preserved
loop-k-preserved c =
    let w = c.args.word.now in
    let k = c.loop-k.k in
    no_protocol_more w k (get_or w k (Proto 0)) c.loop-k.invariant
    (slice_get-get_or w k (Proto 0) c.loop-k-test.true) c.in_default.not-Proto

pub returns : goal.returns
returns c =
    let w = c.args.word.now in
    let last : c.loop-k.k ≡ length w = omega arith in
    none_at_all w (length w) refl (subst (λ n. HasNoProtocol (take n w)) last c.loop-k.invariant)

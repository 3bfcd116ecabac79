use Rattle.std.proofs.Common.{◌≡◌, ◌+◌, ◌-◌, ◌++◌, suc, ◌∷◌, [], List, sym, ap, ◌∙◌, arith, append_assoc}
use Rattle.swreq_lexicon.specs.swreq_names.declared.signature.Signature.{Signature}
use Rattle.swreq_lexicon.specs.swreq_names.declared.signature.Signature.TheVariants.{Function}
use Rattle.swreq_lowering.specs.Signatures.{functions_from}
use Rattle.swreq_world.proofs.WrittenOrder.{functions_push}
use Rattle.swreq_world.proofs.merging.add_functions.Goals as goal

pub loop-at-preserved : goal.loop-at-preserved
loop-at-preserved c =
    let above = c.loop-at.invariant.above in
    let n = c.loop-at.at - c.args.from in
    let e : c.loop-at.at + 1 - c.args.from ≡ suc n = omega arith in
    let f : c.args.from + n ≡ c.loop-at.at = omega arith in
    record {
      above = omega arith;
      within = omega arith;
      added = c.in_ok-push.ensures.items ∙ ap (λ (gs : List Signature). gs ++ Function c.loop-at.at ∷ []) c.loop-at.invariant.added
          ∙ append_assoc c.args.order.now.items (functions_from c.args.from n) (Function c.loop-at.at ∷ [])
          ∙ ap (λ (gs : List Signature). c.args.order.now.items ++ gs)
          (sym (functions_push c.args.from n (c.loop-at.at + 1 - c.args.from) c.loop-at.at e f));
    }

use Rattle.std.proofs.Common.{◌≡◌, ◌+◌, ◌++◌, suc, ◌∷◌, [], List, sym, ap, ◌∙◌, arith, append_assoc}
use Rattle.swreq_lexicon.specs.swreq_names.declared.signature.Signature.{Signature}
use Rattle.swreq_lexicon.specs.swreq_names.declared.signature.Signature.TheVariants.{Nested}
use Rattle.swreq_lowering.specs.Signatures.{nested_from}
use Rattle.swreq_world.proofs.WrittenOrder.{nested_push}
use Rattle.swreq_world.proofs.merging.add_nested.Goals as goal

pub loop-function-preserved : goal.loop-function-preserved
loop-function-preserved c =
    let n = c.loop-function.function in
    let e : n + 1 ≡ suc n = omega arith in
    record {
      within = omega arith;
      added = c.in_ok-push.ensures.items ∙ ap (λ (gs : List Signature). gs ++ Nested c.args.outer n ∷ []) c.loop-function.invariant.added
          ∙ append_assoc c.args.order.now.items (nested_from c.args.outer 0 n) (Nested c.args.outer n ∷ [])
          ∙ ap (λ (gs : List Signature). c.args.order.now.items ++ gs) (sym (nested_push c.args.outer n (n + 1) e));
    }

use Rattle.swreq_derivation.proofs.DerivationLemmas.{premise_at, stated_more}
use Rattle.swreq_derivation.proofs.adding.premises.Goals as goal

pub premise-requires : goal.premise-requires
premise-requires c = premise_at c.args.derivation.now c.args.from.now c.loop-k.k _ c.loop-k-test.true c.requires

pub loop-k-preserved : goal.loop-k-preserved
loop-k-preserved c =
    stated_more c.args.derivation.now c.args.from.now c.loop-k.k _ _ _ _ c.loop-k-test.true c.loop-k.invariant c.premise.ensures
    c.in_ok-push.ensures.items

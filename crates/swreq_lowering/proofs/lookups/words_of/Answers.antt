use Rattle.std.proofs.Common.{sym, subst}
use Rattle.swreq_lowering.specs.Small.{HasFewParams}
use Rattle.swreq_lowering.proofs.lookups.words_of.Goals as goal

pub invariant_of-result : goal.invariant_of-result
invariant_of-result c =
    record {
      few = subst HasFewParams (sym c.requires.declared.declared)
          (c.lists_are_short.ensures c.requires.limit c.args.skeleton.now c.requires.stands).declared;
    }

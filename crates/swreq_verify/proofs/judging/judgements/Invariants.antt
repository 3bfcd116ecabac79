use Rattle.std.specs.Prelude.{IfSome}
use Rattle.swreq_symbols.specs.Texts.{world_of}
use Rattle.swreq_verify.specs.Claims.{sections_of}
use Rattle.swreq_verify.specs.Listing.{IsListOf}
use Rattle.swreq_verify.proofs.InTurn.{AreJudgedBefore}
use Rattle.swreq_verify.proofs.judging.judgements.Given as goal

abbrev pub invariant-loop-n : goal.invariant-loop-n
invariant-loop-n l = record {
  before : AreJudgedBefore (world_of l.laid.text) (sections_of l.laid) l.turns.items
      l.found.items l.n;
  kept : IfSome l.kept (IsListOf l.laid.text.world.now);
}

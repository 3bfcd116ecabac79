use Rattle.swreq_machine.specs.swreq_param.Tables.{Extends}
use Rattle.swreq_machine.specs.swreq_valid.Rounds.{last_rules}
use Rattle.swreq_check.specs.Settings.{AreMadeIn, IsLast, IsReady, world_in}
use Rattle.swreq_check.proofs.OfChecks.{CameFirst}
use Rattle.swreq_check.proofs.checking.check_all.Given as goal

abbrev pub invariant-loop-k : goal.invariant-loop-k
invariant-loop-k g l =
    CameFirst l.s.limits (world_in l.initial.table l.s) (last_rules l.s.protocols.now.rounds) l.k (g.W.Watch.told l.initial.watch)
    (g.W.Watch.told l.watch)
    × AreMadeIn l.table l.s l.k l.pieces.items
    × IsReady l.table l.s
    × IsLast l.table l.s l.last
    × Extends l.initial.table l.table

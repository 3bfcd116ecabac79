use Rattle.std.proofs.Common.{subst, Option, MatchOption}
use Rattle.std.specs.Prelude.{⊤}
use Rattle.swreq_homotopy.specs.swreq_path.declared.paths.Loop.{Loop}
use Rattle.swreq_homotopy.specs.swreq_path.Paths.{IsLoop}
use Rattle.swreq_minimal.proofs.Showing.{loops_more}
use Rattle.swreq_minimal.proofs.evidence.add_loop.Goals as goal

pub returns-in_ok-push-in-Some : goal.returns-in_ok-push-in-Some
returns-in_ok-push-in-Some c =
    let round = subst (λ (z : Option Loop). MatchOption z ⊤ (IsLoop c.args.all.now.rules.now)) c.in-Some.is c.in_ok-found.ensures.round in
    loops_more c.args.all.now.rules.now c.args.loops.now.items c.push.new.self.items c.in-Some.round c.requires.loops round
    c.in_ok-push-in-Some.ensures.items

use Rattle.std.proofs.Common.{arith}
use Rattle.std.proofs.lemmas.Bool.{false≢true}
use Rattle.swreq_map.proofs.Finding.{vanishing_follows}
use Rattle.swreq_map.proofs.map.PropertyMap.has.Goals as goal

pub returns-else-is_candidate-clause-answer : goal.returns-else-is_candidate-clause-answer
returns-else-is_candidate-clause-answer c = (
  λ t. absurd (false≢true t),
  λ v. (let f =
      vanishing_follows c.args.rules.now c.count-complete.ensures.complete c.args.self.now c.requires.map c.args.u.now c.requires.least
      c.longest-longest.result c.longest-longest.ensures c.args.x c.requires.property v in
      c.if-is_candidate.ensures f.0 (omega (arith, f.1, c.saturating_sub.ensures)) f.2 f.3),
)

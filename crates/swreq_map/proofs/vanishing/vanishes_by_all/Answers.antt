use Rattle.std.proofs.Common.{◌≡◌, ap, subst, sym, ◌++◌, ◌∷◌, []}
use Rattle.std.specs.Bool.{Decides}
use Rattle.swreq_complete.specs.swreq_word.Least.{IsLeast}
use Rattle.swreq_complete.specs.swreq_word.Relations.{Linked}
use Rattle.swreq_complete.specs.swreq_rule.Steps.{Step}
use Rattle.swreq_map.proofs.Ending.{vanishes_decided}
use Rattle.swreq_map.proofs.vanishing.vanishes_by_all.Goals as goal

pub append-requires-clause-least : goal.append-requires-clause-least
append-requires-clause-least c = subst (IsLeast (Linked (Step c.args.rules.now))) (sym c.write.ensures.items) c.requires.least

pub returns-clause-answer : goal.returns-clause-answer
returns-clause-answer c =
    vanishes_decided c.args.rules.now c.count-complete.ensures.complete c.args.u.now c.requires.least c.args.x
    (c.write.new.room.items ++ c.args.x ∷ []) c.append.new.word.items
    c.are_same.result (ap (λ w. w ++ c.args.x ∷ []) c.write.ensures.items) c.append.ensures.congruent c.append.ensures.least
    (subst (λ x. Decides c.are_same.result (x ≡ c.args.u.now)) c.deref.ensures.value c.are_same.ensures)

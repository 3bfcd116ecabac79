use Rattle.std.proofs.Common.{◌∙◌, ◌++◌, ◌∷◌, [], ap, subst, sym}
use Rattle.swreq_complete.specs.swreq_word.Least.{IsLeast}
use Rattle.swreq_complete.specs.swreq_word.Relations.{Linked}
use Rattle.swreq_complete.proofs.swreq_word.Cuts.{whole_rest}
use Rattle.swreq_complete.specs.swreq_rule.Steps.{Step}
use Rattle.swreq_map.proofs.Tails.{ending_least, told_staying, told_vanishing}
use Rattle.swreq_map.proofs.vanishing.vanishes_by_ending.Goals as goal

pub append-requires-clause-least : goal.append-requires-clause-least
append-requires-clause-least c =
    subst (IsLeast (Linked (Step c.args.rules.now))) (sym (c.write.ensures.items ∙ whole_rest c.args.u.now c.args.from))
    (ending_least c.args.rules.now c.count-complete.ensures.complete c.args.u.now c.requires.least c.args.from)

pub returns-then-are_same-clause-answer : goal.returns-then-are_same-clause-answer
returns-then-are_same-clause-answer c =
    let ending = whole_rest c.args.u.now c.args.from in
    told_vanishing c.args.rules.now c.count-complete.ensures.complete c.args.u.now c.requires.least c.args.from c.args.x
    (c.write.new.room.items ++ c.args.x ∷ []) c.append.new.word.items
    (ap (λ w. w ++ c.args.x ∷ []) (c.write.ensures.items ∙ ending)) c.append.ensures.congruent
    (sym c.deref.ensures.value ∙ c.are_same.ensures.0 c.if-are_same.true ∙ ending)

pub returns-then-is_followed-clause-answer : goal.returns-then-is_followed-clause-answer
returns-then-is_followed-clause-answer c =
    told_staying c.args.rules.now c.count-complete.ensures.complete c.args.u.now c.requires.least c.args.from c.args.x
    c.requires.within c.requires.from c.append.new.word.items c.append.ensures.least
    (sym c.deref-2.ensures.value ∙ c.is_followed.ensures.0 c.if-is_followed.true
    ∙ ap (λ w. w ++ c.args.x ∷ []) (whole_rest c.args.u.now c.args.from))

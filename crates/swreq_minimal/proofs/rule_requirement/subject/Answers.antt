use Rattle.std.proofs.Common.{◌≡◌, ◌<◌, ◌-◌, length, rules, arith, sym, subst, length-take-le, IfOk}
use Rattle.std.proofs.lemmas.Result.{IfOk-weaker}
use Rattle.swreq_homotopy.specs.swreq_word.declared.symbols.Symbol.TheVariants.{Proto}
use Rattle.swreq_machine.specs.swreq_symbols.Vanishing.{Links}
use Rattle.swreq_minimal.specs.Typed.{Identifies, IsSubjectOf}
use Rattle.swreq_minimal.proofs.Speaking.{front_least, spoken_empty, spoken_single, with_last}
use Rattle.swreq_minimal.proofs.rule_requirement.subject.Goals as goal

pub returns-then-is_empty-clause-subject : goal.returns-then-is_empty-clause-subject
returns-then-is_empty-clause-subject c =
    let e : length c.args.left.now ≡ 0 = search rules in
    spoken_empty c.args.by.now.world.now.lexicon c.args.by.now.rules.now c.args.by.now.params c.args.left.now e

pub returns-then-last-eq0-clause-subject : goal.returns-then-last-eq0-clause-subject
returns-then-last-eq0-clause-subject c =
    let l : 0 < length c.args.left.now = search rules in
    let e : length c.args.left.now ≡ 1 = omega (arith, l, c.if-last-eq0.true) in
    IfOk-weaker c.symbol_type.result _ _
    (spoken_single c.args.by.now.world.now.lexicon c.args.by.now.rules.now c.args.by.now.params c.args.left.now
    (Proto 0) e c.symbol_type.new.table)
    (c.symbol_type.ensures.typed c.args.by.now.world.now.lexicon c.args.by.now.rules.now)

pub member_subject-requires-clause-some : goal.member_subject-requires-clause-some
member_subject-requires-clause-some c =
    let l : 0 < length c.args.left.now = search rules in
    let e = length-take-le (length c.args.left.now - 1) c.args.left.now (omega (arith, l)) in
    let n = c.if-last-eq0.false in
    omega (arith, e, n)

pub member_subject-requires-clause-least : goal.member_subject-requires-clause-least
member_subject-requires-clause-least c =
    let l : 0 < length c.args.left.now = search rules in
    front_least (Links c.args.by.now.rules.now) c.args.left.now (length c.args.left.now - 1) c.requires (omega (arith, l))

pub returns-clause-subject : goal.returns-clause-subject
returns-clause-subject c =
    let l : 0 < length c.args.left.now = search rules in
    subst (λ z. IfOk c.member_subject.result
    (Identifies (IsSubjectOf c.args.by.now.world.now.lexicon c.args.by.now.rules.now c.args.by.now.params z) c.member_subject.new.table))
    (sym (with_last c.args.left.now (length c.args.left.now - 1) (Proto 0) (omega (arith, l)))) c.member_subject.ensures.subject

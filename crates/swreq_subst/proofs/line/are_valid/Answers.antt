use Rattle.std.proofs.Common.{List, Option, None, get_or, subst}
use Rattle.std.proofs.lemmas.List.{take_all}
use Rattle.swreq_machine.specs.swreq_param.declared.ids.TermId.{TermId}
use Rattle.swreq_machine.specs.Asked.{IsDerivable}
use Rattle.swreq_subst.specs.Calls.{AreAllValid, IsValidThere}
use Rattle.swreq_subst.proofs.Lining.{all_next, member_at}
use Rattle.swreq_machine.specs.swreq_symbols.Texts.{world_of}
use Rattle.swreq_subst.proofs.line.are_valid.Goals as goal

pub returns-then-not-branch : goal.returns-then-not-branch
returns-then-not-branch c list h =
    let answer = c.in_ok-is_valid_there.ensures list h in
    let wrong : IsValidThere (IsDerivable (world_of c.args.text.now) c.args.machine.now list) c.args.text.now.table.now
    (get_or c.args.args.now c.loop-k.k None) → ⊥
    = λ v. let e = answer.1 v in let n = c.if-not-branch.true in cc in
    (get_or c.args.args.now c.loop-k.k None, member_at c.args.args.now c.loop-k.k None c.loop-k-test.true, wrong)

pub loop-k-preserved : goal.loop-k-preserved
loop-k-preserved c list h =
    let answer = c.in_ok-is_valid_there.ensures list h in
    let right = answer.0 (let n = c.if-not-branch.false in cc) in
    all_next (IsValidThere (IsDerivable (world_of c.args.text.now) c.args.machine.now list) c.args.text.now.table.now)
    c.args.args.now c.loop-k.k None
    c.loop-k-test.true (c.loop-k.invariant list h) right

pub returns : goal.returns
returns c list h =
    subst (λ (args : List (Option TermId)).
    AreAllValid (IsDerivable (world_of c.args.text.now) c.args.machine.now list) c.args.text.now.table.now args)
    (take_all c.loop-k.k c.args.args.now c.loop-k-test.false) (c.loop-k.invariant list h)

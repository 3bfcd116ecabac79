use Rattle.std.proofs.Common.{sym, subst}
use Rattle.swreq_machine.specs.swreq_correspondence.Symbols.{Word}
use Rattle.swreq_machine.specs.swreq_symbols.Vanishing.{Links}
use Rattle.swreq_minimal.specs.OfParams.{BeginsWithParam}
use Rattle.swreq_minimal.proofs.ByParams.{one_added, passed_over}
use Rattle.swreq_minimal.proofs.of_params.add.Goals as goal

pub returns-then-not-begins_with_param : goal.returns-then-not-begins_with_param
returns-then-not-begins_with_param c =
    passed_over (Links c.args.rules.now) c.args.rules.now c.args.k c.rule.result.now c.rule.ensures c.args.system.now.items
    c.requires.so_far
    (λ b m. let yes = c.begins_with_param.ensures.1 (subst (λ (z : Word). BeginsWithParam z) (sym c.symbols.ensures) b) in
    let not = c.if-not-begins_with_param.true in cc)

pub returns-in-None : goal.returns-in-None
returns-in-None c =
    let none = rw c.in-None.is at c.in_ok-found.ensures in
    passed_over (Links c.args.rules.now) c.args.rules.now c.args.k c.rule.result.now c.rule.ensures c.args.system.now.items
    c.requires.so_far
    (λ b m. none c.rule.result.now c.rule.ensures m)

pub returns-in_ok-push-in-Some : goal.returns-in_ok-push-in-Some
returns-in_ok-push-in-Some c =
    let (reduced, (rule, at, left, birth)) = rw c.in-Some.is at c.in_ok-found.ensures in
    one_added (Links c.args.rules.now) c.args.rules.now c.args.k rule at c.args.system.now.items c.requires.so_far
    c.in-Some.rule reduced left c.push.new.self.items c.in_ok-push-in-Some.ensures.items

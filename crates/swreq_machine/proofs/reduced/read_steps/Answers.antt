use Rattle.std.proofs.lemmas.List.{drop_all}
use Rattle.std.proofs.Common.{◌∙◌, arith, drop, sym, subst, take, take-append-drop}
use Rattle.std.proofs.lemmas.Option.{get_or_from_slice_get}
use Rattle.swreq_valid.specs.swreq_symbols.Vanishing.{IsLeastBy}
use Rattle.swreq_valid.proofs.swreq_symbols.LeastWords.{prefix_least}
use Rattle.swreq_machine.proofs.Typed.{all_made, none_made, one_made}
use Rattle.swreq_machine.proofs.reduced.read_steps.Goals as goal

pub loop-k-init : goal.loop-k-init
loop-k-init c = record {
  made = none_made c.args.world.now.lexicon c.args.rules.now c.args.word.now c.clear.new.self.items c.clear.ensures.items;
  few = (let e = c.clear.ensures.len in omega (arith, e));
  room = omega arith;
  room_test = omega arith;
}

pub add_step-requires-clause-least : goal.add_step-requires-clause-least
add_step-requires-clause-least c =
    prefix_least c.args.rules.now (take c.loop-k.k c.args.word.now) (drop c.loop-k.k c.args.word.now)
    (subst (IsLeastBy c.args.rules.now) (sym (take-append-drop c.loop-k.k c.args.word.now)) c.requires.least)

pub loop-k-preserved : goal.loop-k-preserved
loop-k-preserved c = record {
  made = one_made c.args.world.now.lexicon c.args.rules.now c.args.word.now c.loop-k.k c.loop-k.steps.items c.add_step.new.steps.items
      (let f = c.loop-k.invariant.few in omega (arith, f)) (let t = c.loop-k-test.true in omega (arith, t)) c.loop-k.invariant.made
      (λ s j d at is r first. c.add_step.ensures.step j d (get_or_from_slice_get c.args.word.now c.loop-k.k s _ at ∙ is) r first);
  few = (let a = c.loop-k.invariant.few in let b = c.add_step.ensures.few in omega (arith, a, b));
  room = (let a = c.loop-k.invariant.room in let b = c.add_step.ensures.room in omega (arith, a, b));
  room_test = (let a = c.loop-k.invariant.room_test in let b = c.add_step.ensures.room_test in omega (arith, a, b));
}

pub returns-clause-steps : goal.returns-clause-steps
returns-clause-steps c r h =
    all_made c.args.world.now.lexicon c.args.rules.now c.args.word.now c.loop-k.k c.loop-k.steps.items
    (drop_all c.loop-k.k c.args.word.now (let t = c.loop-k-test.false in omega (arith, t))) c.loop-k.invariant.made r h

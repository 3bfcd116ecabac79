use Rattle.std.proofs.Common.{◌≡◌, ap, arith, length, Contains, subst, refl}
use Rattle.std.proofs.lemmas.Option.{slice_get_read}
use Rattle.swreq_candidates.proofs.swreq_param.Growing.{onward, unchanged}
use Rattle.swreq_machine.proofs.swreq_lemmas.Members.{no_member}
use Rattle.swreq_machine.specs.swreq_valid.Plans.{listed}
use Rattle.swreq_minimal.specs.Sorted.{IsListOfFirstRules}
use Rattle.swreq_minimal.proofs.Collecting.{more_said, none_said}
use Rattle.swreq_minimal.proofs.candidates.collect.Goals as goal

pub loop-k-init : goal.loop-k-init
loop-k-init c =
    let e = ap (listed c.args.table.now) c.new-found.ensures.items in record {
      said = none_said c.args.by.now.world.now.lexicon c.args.by.now.rules.now c.args.by.now.params c.args.system.now
          (listed c.args.table.now c.new-found.result.items) e;
      known = λ r h. no_member r (subst (λ z. Contains z r) c.new-found.ensures.items h);
      extends = unchanged c.args.table.now;
    }

pub add-requires-clause-reduced : goal.add-requires-clause-reduced
add-requires-clause-reduced c =
    c.requires c.loop-k.k c.index-system-k.result
    (slice_get_read c.args.system.now (length c.args.system.now) c.loop-k.k c.index-system-k.result refl c.loop-k-test.true
    c.index-system-k.is)

pub returns-in_err-add-clause-extends : goal.returns-in_err-add-clause-extends
returns-in_err-add-clause-extends c =
    onward c.args.table.now c.loop-k.table c.add.new.table c.loop-k.invariant.extends c.add.ensures.extends

pub loop-k-preserved : goal.loop-k-preserved
loop-k-preserved c =
    let is = slice_get_read c.args.system.now (length c.args.system.now) c.loop-k.k c.index-system-k.result refl c.loop-k-test.true
    c.index-system-k.is in record {
      said =
          more_said c.args.by.now.world.now.lexicon c.args.by.now.rules.now c.args.by.now.params c.args.system.now c.loop-k.k
          c.index-system-k.result is
          (listed c.loop-k.table c.loop-k.found.items) (listed c.add.new.table c.add.new.found.items) c.loop-k.invariant.said
          c.in_ok-add.ensures.members c.in_ok-add.ensures.sorted;
      known = c.in_ok-add.ensures.known;
      extends = onward c.args.table.now c.loop-k.table c.add.new.table c.loop-k.invariant.extends c.add.ensures.extends;
    }

pub returns-clause-said : goal.returns-clause-said
returns-clause-said c =
    let whole : c.loop-k.k ≡ length c.args.system.now = omega (arith, c.loop-k-test.false, c.loop-k.auto.k-end) in
    subst (λ n. IsListOfFirstRules c.args.by.now.world.now.lexicon c.args.by.now.rules.now c.args.by.now.params c.args.system.now n
    (listed c.loop-k.table c.loop-k.found.items)) whole c.loop-k.invariant.said

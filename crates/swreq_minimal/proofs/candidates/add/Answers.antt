use Rattle.std.proofs.Common.{subst, sym}
use Rattle.std.proofs.lemmas.Result.{on_ok_weaker}
use Rattle.swreq_machine.specs.swreq_derive.Facts.{requirement_of}
use Rattle.swreq_candidates.specs.swreq_canonical.CanonicalOrder.{IsStrictlySorted}
use Rattle.swreq_machine.specs.swreq_valid.Plans.{listed}
use Rattle.swreq_minimal.proofs.Collecting.{nothing_more, one_more, one_more_sorted}
use Rattle.swreq_minimal.proofs.Growing.{all_known, listed_stays}
use Rattle.swreq_minimal.proofs.candidates.add.Goals as goal

pub put_sorted-requires : goal.put_sorted-requires
put_sorted-requires c = (
  (λ r h.
      (all_known c.args.table.now c.rule_requirement.new.table c.rule_requirement.ensures.extends c.args.by.now.world.now.lexicon
      c.args.found.now.items c.requires.known r h).0),
  (rw c.in-Some.is at c.in_ok-one.ensures.requirement).0.0,
)

pub returns-in-None : goal.returns-in-None
returns-in-None c =
    let stays = listed_stays c.args.table.now c.rule_requirement.new.table c.rule_requirement.ensures.extends c.args.found.now.items
    (λ r h. (c.requires.known r h).0) in
    let says = rw c.in-None.is at c.in_ok-one.ensures.requirement in
    record {
      members =
          nothing_more c.args.by.now.world.now.lexicon c.args.by.now.rules.now c.args.by.now.params c.args.rule.now.left
          c.args.rule.now.right
          (listed c.args.table.now c.args.found.now.items) (listed c.rule_requirement.new.table c.args.found.now.items) stays says;
      sorted = λ f s can was. subst IsStrictlySorted (sym stays) was;
      known = all_known c.args.table.now c.rule_requirement.new.table c.rule_requirement.ensures.extends c.args.by.now.world.now.lexicon
          c.args.found.now.items c.requires.known;
      extends = c.rule_requirement.ensures.extends;
    }

pub returns-in-Some : goal.returns-in-Some
returns-in-Some c =
    let stays = listed_stays c.args.table.now c.rule_requirement.new.table c.rule_requirement.ensures.extends c.args.found.now.items
    (λ r h. (c.requires.known r h).0) in
    let says = rw c.in-Some.is at c.in_ok-one.ensures.requirement in
    let old = listed c.args.table.now c.args.found.now.items in
    let new = listed c.rule_requirement.new.table c.args.found.now.items in
    let now = listed c.rule_requirement.new.table c.put_sorted.new.found.items in
    let r = requirement_of c.rule_requirement.new.table c.in-Some.r in
    record {
      members = on_ok_weaker c.put_sorted.result
          (one_more c.args.by.now.world.now.lexicon c.args.by.now.rules.now c.args.by.now.params c.args.rule.now.left c.args.rule.now.right
          old new stays now r says.1) c.put_sorted.ensures.members;
      sorted = on_ok_weaker c.put_sorted.result
          (one_more_sorted c.args.by.now.world.now.lexicon c.args.by.now.rules.now c.args.by.now.params c.args.rule.now.left
          c.args.rule.now.right old new stays now r says.1) c.put_sorted.ensures.sorted;
      known = c.put_sorted.ensures.known c.args.by.now.world.now.lexicon
          (all_known c.args.table.now c.rule_requirement.new.table c.rule_requirement.ensures.extends c.args.by.now.world.now.lexicon
          c.args.found.now.items c.requires.known) says.0;
      extends = c.rule_requirement.ensures.extends;
    }

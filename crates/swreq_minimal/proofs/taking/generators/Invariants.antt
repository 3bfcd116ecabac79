use Rattle.std.proofs.Common.{[], IfSome, take}
use Rattle.swreq_candidates.specs.swreq_canonical.Generators.{Takes}
use Rattle.swreq_list_rules.specs.ListRules.{AreOfList}
use Rattle.swreq_list_rules.specs.Settings.{AreKnownIn, facts_in, params_in, plan_in, said_in}
use Rattle.swreq_minimal.specs.Passed.{IsTakenBefore}
use Rattle.swreq_minimal.specs.Told.{TellsParts}
use Rattle.swreq_minimal.proofs.taking.generators.Given as goal

abbrev pub invariant-loop-k : goal.invariant-loop-k
invariant-loop-k g l = record {
  takes : Takes (facts_in l.setting) (params_in l.setting) [] (said_in l.setting (take l.k l.candidates)) (said_in l.setting l.taken.items);
  known : AreKnownIn l.setting l.taken.items;
  rules : IfSome l.rules (AreOfList l.setting (said_in l.setting l.taken.items));
  told : TellsParts l.setting.limits (plan_in l.setting)
      (IsTakenBefore (facts_in l.setting) (params_in l.setting) (said_in l.setting l.candidates))
      (g.W.Watch.told l.initial.watch) (g.W.Watch.told l.watch);
}

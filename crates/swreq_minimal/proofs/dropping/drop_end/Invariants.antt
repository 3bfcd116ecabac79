use Rattle.std.proofs.Common.{◌≡◌, ◌<◌, ◌≤◌, ◌++◌, take, drop}
use Rattle.swreq_list_rules.specs.Settings.{AreKnownIn}
use Rattle.swreq_minimal.specs.Lists.{GoesThrough}
use Rattle.swreq_minimal.proofs.dropping.drop_end.Given as goal

abbrev pub invariant-loop-to : goal.invariant-loop-to
invariant-loop-to l = record {
  after : l.span.from < l.to;
  within : l.to ≤ l.span.to;
  stays : l.left.items ≡ take l.to l.initial.left.items ++ drop l.span.to l.initial.left.items;
  leaves : GoesThrough l.setting l.to l.span.to l.initial.left.items l.left.items;
  known : AreKnownIn l.setting l.left.items;
}

abbrev pub decreases-loop-to : goal.decreases-loop-to
decreases-loop-to l = l.to

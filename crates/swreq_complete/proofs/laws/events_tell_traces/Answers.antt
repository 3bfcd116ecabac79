use Rattle.swreq_complete.proofs.Replaying.{events_tell_traces}
use Rattle.swreq_complete.proofs.laws.events_tell_traces.Goals as goal

pub returns : goal.returns
returns c = events_tell_traces c.args.base.now c.args.trace.now c.args.other_base.now c.args.other.now

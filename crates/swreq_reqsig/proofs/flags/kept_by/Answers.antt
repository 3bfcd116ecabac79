use Rattle.std.proofs.Common.{◌∙◌}
use Rattle.swreq_reqsig.proofs.InLists.{flags_are}
use Rattle.swreq_reqsig.proofs.flags.kept_by.Goals as goal

pub returns-clause-flags : goal.returns-clause-flags
returns-clause-flags c = flags_are c.args.text.now.world.now c.args.flags.now c.new.result c.requires
    (c.new.ensures ∙ c.in_ok-lists.ensures)

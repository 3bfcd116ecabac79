use Rattle.swreq_subst.proofs.line.is_valid.Goals as goal

pub is_valid-valid-requires : goal.is_valid-valid-requires
is_valid-valid-requires c = record { of_text = c.requires; room = c.in_ok-room.ensures }

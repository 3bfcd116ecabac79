use Rattle.std.proofs.Common.{◌++◌, refl}
use Rattle.swreq_param.proofs.Growing.{unchanged, onward, at_end, rest_of}
use Rattle.swreq_param.proofs.laws.tables_grow_at_their_end.Goals as goal

pub returns : goal.returns
returns c = record { unchanged = unchanged; onward = onward; longer = rest_of; at_end = λ old more. at_end old more (old ++ more) refl }

use Rattle.std.proofs.Common.{◌-◌, vec_len}
use Rattle.swreq_world.specs.swreq_param.Tables.{Extends}
use Rattle.swreq_verify.proofs.Laid.{IsLaid}
use Rattle.swreq_verify.proofs.reading.read_sections.Given as goal

abbrev pub invariant-loop-reader : goal.invariant-loop-reader
invariant-loop-reader l = Extends l.initial.table l.table × IsLaid l.names l.count l.text l.table l.sections.items l.before l.rest

abbrev pub decreases-loop-reader : goal.decreases-loop-reader
decreases-loop-reader l = l.count - vec_len l.sections

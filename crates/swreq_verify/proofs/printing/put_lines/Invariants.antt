use Rattle.std.proofs.Common.{◌≡◌, ◌++◌, take}
use Rattle.swreq_verify.specs.Outputs.{judgement_lines}
use Rattle.swreq_verify.proofs.printing.put_lines.Given as goal

abbrev pub invariant-loop-judgement : goal.invariant-loop-judgement
invariant-loop-judgement l = l.out.items ≡ l.fn.out.items ++ judgement_lines (take l.judgement-index l.judgements)

use Rattle.std.proofs.Common.{◌≡◌, ◌++◌, List, length}
use Rattle.std.specs.List.{AllByRecursion}
use Rattle.swreq_print.specs.swreq_lowering.OfText.{IsStepOf}
use Rattle.swreq_print.specs.swreq_param.declared.ids.Step.{Step}
use Rattle.swreq_print.specs.Types.{steps_text}
use Rattle.swreq_lines.specs.Pieces.{behind}
use Rattle.swreq_lines.proofs.types.read_steps.Given as goal

abbrev pub invariant-loop-rest : goal.invariant-loop-rest
invariant-loop-rest l =
    (all : List Step) → AllByRecursion (IsStepOf l.reader.names.now) all → l.text ≡ behind (steps_text l.reader.names.now all)
    → (left : List Step) × (l.steps.items ++ left ≡ all) × AllByRecursion (IsStepOf l.reader.names.now) left
    × (l.rest ≡ behind (steps_text l.reader.names.now left))

abbrev pub decreases-loop-rest : goal.decreases-loop-rest
decreases-loop-rest l = length l.rest

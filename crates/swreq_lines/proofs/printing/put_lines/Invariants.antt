use Rattle.std.proofs.Common.{◌≡◌, ◌++◌, map}
use Rattle.swreq_print.specs.swreq_derive.Lines.{line_of}
use Rattle.swreq_lines.specs.LineTexts.{lines_text}
use Rattle.swreq_lines.proofs.Numbered.{rest_of}
use Rattle.swreq_lines.proofs.printing.put_lines.Given as goal

abbrev pub invariant-loop-k : goal.invariant-loop-k
invariant-loop-k l =
    l.out.items ++ rest_of l.names l.table l.lines l.k ≡ l.initial.out.items ++ lines_text l.names (map (line_of l.table) l.lines)

use Rattle.std.proofs.Common.{◌++◌, map, sym}
use Rattle.swreq_print.specs.swreq_derive.Lines.{line_of}
use Rattle.swreq_lines.specs.LineTexts.{lines_text}
use Rattle.swreq_lines.proofs.Numbered.{all_lines, one_line}
use Rattle.swreq_lines.proofs.printing.put_lines.Goals as goal

pub put_line-requires : goal.put_line-requires
put_line-requires c = c.requires c.index-lines-k.result (c.loop-k.k, c.loop-k-test.true, sym c.index-lines-k.is)

pub loop-k-preserved : goal.loop-k-preserved
loop-k-preserved c =
    one_line c.args.names.now c.args.table.now c.args.lines.now c.loop-k.k c.index-lines-k.result c.loop-k.out.items
    c.put_line.new.out.items c.append_bytes.new.out.items
    (c.args.out.now.items ++ lines_text c.args.names.now (map (line_of c.args.table.now) c.args.lines.now))
    c.loop-k-test.true c.index-lines-k.is
    c.in_ok-put_line.ensures c.in_ok-append_bytes.ensures.ok c.loop-k.invariant

pub returns : goal.returns
returns c =
    all_lines c.args.names.now c.args.table.now c.args.lines.now c.loop-k.k c.loop-k.out.items
    (c.args.out.now.items ++ lines_text c.args.names.now (map (line_of c.args.table.now) c.args.lines.now))
    c.loop-k-test.false c.loop-k.invariant

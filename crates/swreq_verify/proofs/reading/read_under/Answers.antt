use Rattle.std.proofs.Common.{◌≡◌, subst, arith, inr, map}
use Rattle.swreq_world.specs.swreq_derive.Lines.{line_of}
use Rattle.swreq_lines.specs.declared.lines.LinesErr.TheVariants.{Syntax}
use Rattle.swreq_lines.specs.GoodLines.{IsRefused}
use Rattle.swreq_text.specs.Lines.{lines}
use Rattle.swreq_verify.proofs.ReadBack.{bad_number, bad_read, front_read, texts_are}
use Rattle.swreq_verify.proofs.reading.read_under.Goals as goal

pub behind-requires : goal.behind-requires
behind-requires c n e =
    let first = subst (IsRefused c.args.reader.now.names.now c.cut_body-body.result.under.now) e c.in-Err.ensures.refused in
    let most = bad_number c.args.reader.now.names.now c.cut_body-body.result.under.now n first in
    let short = c.requires.short in
    let before = c.requires.before in
    let bytes = c.cut_body-body.ensures.bytes in
    omega arith

pub returns-in-Ok-clause-section : goal.returns-in-Ok-clause-section
returns-in-Ok-clause-section c = record {
  ids = c.in-Ok.ensures.ids;
  section = record {
    heading = c.requires.heading;
    derivation =
        (texts_are c.args.reader.now.names.now 1 (lines c.cut_body-body.result.under.now)
        (map (line_of c.read_lines.new.table) c.in-Ok.derivation.items) c.in-Ok.ensures.lines).1;
  };
}

pub returns-in-Ok-clause-front : goal.returns-in-Ok-clause-front
returns-in-Ok-clause-front c =
    front_read c.args.reader.now.names.now c.args.text.now c.cut_body-body.result.under.now c.cut_body-body.result.rest.now
    c.args.heading.now
    (map (line_of c.read_lines.new.table) c.in-Ok.derivation.items) c.cut_body-body.ensures.lines c.cut_body-body.ensures.rest
    c.in-Ok.ensures.lines

pub returns-in-Err-clause-misfit : goal.returns-in-Err-clause-misfit
returns-in-Err-clause-misfit c n e =
    let same : c.behind.result ≡ Syntax n = cc in
    let w = c.behind.ensures n same in
    let first = subst (IsRefused c.args.reader.now.names.now c.cut_body-body.result.under.now) w.1 c.in-Err.ensures.refused in
    let short = c.requires.short in
    let bytes = c.cut_body-body.ensures.bytes in
    let number = w.2 in (
      w.0,
      inr (bad_read c.args.reader.now.names.now c.args.text.now c.cut_body-body.result.under.now c.cut_body-body.result.rest.now
          c.args.heading.now w.0
          c.cut_body-body.ensures.lines c.requires.heading c.cut_body-body.ensures.under (omega arith) first),
      omega arith,
    )

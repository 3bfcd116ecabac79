use Rattle.std.specs.Str.{chars}
use Rattle.swreq_lex.specs.Tokens.{first_offset}
use Rattle.swreq_decl.proofs.WrittenOrder.{signatures_in_order}
use Rattle.swreq_decl.proofs.laws.signatures_in_written_order.Goals as goal

pub returns : goal.returns
returns c parts has =
    signatures_in_order c.args.text.now (first_offset (chars c.args.text.now)) has.0 (c.tokens_are_slices.ensures has.0 has.1) parts has.2

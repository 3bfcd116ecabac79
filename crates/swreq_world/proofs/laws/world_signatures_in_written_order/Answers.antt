use Rattle.std.specs.Str.{chars}
use Rattle.swreq_lex.specs.Tokens.{first_offset}
use Rattle.swreq_world.proofs.AsDeclared.{in_order_is}
use Rattle.swreq_world.proofs.Offsets.{functions_rising}
use Rattle.swreq_world.proofs.laws.world_signatures_in_written_order.Goals as goal

pub returns : goal.returns
returns c = λ s stands.
    let text = c.args.text.now in
    in_order_is s (first_offset (chars text)) (functions_rising text s c.tokens_are_slices.ensures stands)

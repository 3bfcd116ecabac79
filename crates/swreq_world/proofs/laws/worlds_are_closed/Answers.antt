use Rattle.std.specs.Str.{chars}
use Rattle.swreq_lex.specs.Tokens.{first_offset}
use Rattle.swreq_world.proofs.Closing.{closed}
use Rattle.swreq_world.proofs.Offsets.{protocols_rising}
use Rattle.swreq_world.proofs.laws.worlds_are_closed.Goals as goal

pub returns : goal.returns
returns c = record {
  closed = λ s w stands is resolve.
      let text = c.args.text.now in
      closed text s w (first_offset (chars text)) (protocols_rising text s c.tokens_are_slices.ensures stands) is resolve;
}

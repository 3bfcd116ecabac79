use Rattle.swreq_world.proofs.Counting.{short_by_table, short_world}
use Rattle.swreq_world.specs.ByTable.{world_by}
use Rattle.swreq_world.specs.WorldOf.{words_of}
use Rattle.swreq_world.proofs.laws.worlds_are_short.Goals as goal

pub returns : goal.returns
returns c =
    let text = c.args.text.now in
    record {
      world = λ limit s w stands is.
          short_world text s w is (c.lists_are_short.ensures limit s stands)
          (c.requirements_are_few.ensures limit (words_of text s w) stands);
      by_table = λ limit terms s w stands is.
          short_by_table terms w
          (short_world text s (world_by terms w) is (c.lists_are_short.ensures limit s stands)
          (c.requirements_are_few.ensures limit (words_of text s (world_by terms w)) stands));
    }

use Rattle.swreq_reply.proofs.Explained.{judged_ok, laid}
use Rattle.swreq_reply.proofs.laws.explained_is_ok.Goals as goal

pub returns-clause-section : goal.returns-clause-section
returns-clause-section c w q r behind of in_text asks d limit =
    let e = c.worlds_are_closed.ensures.closed of.skeleton w of.stands of.world of.resolve in (
      _,
      laid c.args.text.now w of (c.lists_are_short.ensures of.within of.skeleton of.stands) e
          (c.worlds_are_short.ensures.world of.within of.skeleton w of.stands of.world)
          (c.names_tell_ids_apart.ensures of.skeleton w.lexicon of.stands of.world.lexicon)
          (c.names_are_of_one_line.ensures of.skeleton w.lexicon of.stands of.world.lexicon) q in_text r asks behind d limit,
    )

pub returns-clause-ok : goal.returns-clause-ok
returns-clause-ok c w q r behind s of in_text asks d limit under =
    let e = c.worlds_are_closed.ensures.closed of.skeleton w of.stands of.world of.resolve in
    judged_ok c.args.text.now w of (c.lists_are_short.ensures of.within of.skeleton of.stands) e
    (c.worlds_are_short.ensures.world of.within of.skeleton w of.stands of.world)
    (c.names_tell_ids_apart.ensures of.skeleton w.lexicon of.stands of.world.lexicon)
    (c.names_are_of_one_line.ensures of.skeleton w.lexicon of.stands of.world.lexicon) q in_text r asks behind d limit s under

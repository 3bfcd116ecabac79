use Rattle.swreq_valid.proofs.Planning.{IsTold, told_shown, told_more, told_all, place_behind, place_within, wanted_at}
use Rattle.swreq_valid.proofs.usable.usable.Goals as goal

pub is_usable-requires : goal.is_usable-requires
is_usable-requires c =
    wanted_at c.args.text.now.table.now c.args.text.now.world.now.lexicon c.args.start.now c.loop-k.k c.index-want.result.now
    c.requires.wanted
    (place_within c.args.start.now c.loop-k.k _ c.loop-k-test.true c.len-k-end.ensures) c.index-want.ensures

pub loop-k-preserved : goal.loop-k-preserved
loop-k-preserved c =
    told_more (IsTold c.args.text.now.world.now c.args.text.now.table.now c.args.rules.now)
    c.args.start.now.all.items c.loop-k.k c.index-want.result.now c.loop-k.flags.items c.push.new.self.items c.in_ok-shown.shown
    (place_within c.args.start.now c.loop-k.k _ c.loop-k-test.true c.len-k-end.ensures)
    c.index-want.ensures c.in_ok-push.ensures.items c.loop-k.invariant c.in_ok-shown.ensures

pub returns : goal.returns
returns c base =
    told_shown c.args.text.now.world.now c.args.text.now.table.now c.args.start.now c.args.rules.now base c.loop-k.flags.items
    (told_all (IsTold c.args.text.now.world.now c.args.text.now.table.now c.args.rules.now)
    c.args.start.now.all.items c.loop-k.k c.loop-k.flags.items
    (place_behind c.args.start.now c.loop-k.k _ c.loop-k-test.false c.len-k-end.ensures) c.loop-k.invariant)

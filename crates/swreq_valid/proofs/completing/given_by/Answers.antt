use Rattle.std.proofs.Common.{◌∙◌, sym, arith, refl, get_or, false}
use Rattle.swreq_valid.specs.Plans.{says}
use Rattle.swreq_valid.proofs.Planning.{joined_one, given_is, none_left, place_behind, place_within, wanted_at}
use Rattle.swreq_valid.proofs.completing.given_by.Goals as goal

pub join-requires : goal.join-requires
join-requires c = record {
  want = wanted_at c.args.text.now.table.now c.args.text.now.world.now.lexicon c.args.start.now c.loop-k.k c.index-want.result.now
      c.requires.wanted
      (place_within c.args.start.now c.loop-k.k _ c.loop-k-test.true c.len-k-end.ensures) c.index-want.ensures;
}

pub loop-k-preserved : goal.loop-k-preserved
loop-k-preserved c =
    joined_one c.args.text.now.world.now c.args.text.now.table.now c.args.start.now c.args.used.now c.loop-k.k c.index-want.result.now
    c.index-want.result.now
    (get_or c.args.used.now c.loop-k.k false) false c.loop-k.v.items c.join.new.equations.items
    (place_within c.args.start.now c.loop-k.k _ c.loop-k-test.true c.len-k-end.ensures)
    (let a = c.loop-k-test.true in let b = c.len-k-end.ensures in let d = c.requires.flags in omega (arith, a, b, d))
    (sym c.index-want.ensures) refl
    (c.in_ok-join.ensures (says c.args.text.now.table.now c.args.start.now.all.items))
    ∙ c.loop-k.invariant

pub returns : goal.returns
returns c base =
    none_left c.args.text.now.world.now c.args.text.now.table.now c.args.start.now c.args.used.now c.loop-k.k c.loop-k.v.items
    (place_behind c.args.start.now c.loop-k.k _ c.loop-k-test.false c.len-k-end.ensures)
    ∙ c.loop-k.invariant
    ∙ sym (given_is c.args.text.now.world.now c.args.text.now.table.now c.args.start.now base c.args.used.now)

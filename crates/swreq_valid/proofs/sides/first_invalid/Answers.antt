use Rattle.std.proofs.Common.{refl}
use Rattle.std.proofs.lemmas.List.Elements.{Contains-get_or}
use Rattle.swreq_symbols.specs.Meaning.{facts_of, symbols_of}
use Rattle.swreq_world.specs.swreq_lowering.ByTable.{placed, placed_by}
use Rattle.swreq_valid.specs.Plans.{within}
use Rattle.swreq_valid.specs.Sides.{IsShownSide, sides, sides_of}
use Rattle.swreq_valid.proofs.FirstSide.{fails_here, hold_all, holds_here, none_yet}
use Rattle.swreq_symbols.specs.Texts.{world_of}
use Rattle.swreq_valid.proofs.sides.first_invalid.Goals as goal

pub loop-k-init : goal.loop-k-init
loop-k-init c rs = none_yet (IsShownSide (symbols_of c.args.text.now.world.now.lexicon) (facts_of (world_of c.args.text.now))
    c.args.rules.now) (sides (within rs c.args.over) (placed c.args.text.now.table.now c.args.list.now))

pub first_of-requires : goal.first_of-requires
first_of-requires c = record { r = c.requires.list _ (Contains-get_or c.args.list.now c.loop-k.k _ c.loop-k-test.true) }

pub loop-k-preserved : goal.loop-k-preserved
loop-k-preserved c rs =
    holds_here (IsShownSide (symbols_of c.args.text.now.world.now.lexicon) (facts_of (world_of c.args.text.now)) c.args.rules.now)
    (λ xs. sides (within rs c.args.over) (placed c.args.text.now.table.now xs))
    (λ r. sides_of (within rs c.args.over) (placed_by c.args.text.now.table.now r)) refl
    (λ r xs. refl) c.args.list.now c.loop-k.k _ c.in_ok-first.first c.loop-k-test.true
    (c.loop-k.invariant rs) (c.in_ok-first.ensures rs) c.in-None.is

pub returns : goal.returns
returns c rs =
    hold_all (IsShownSide (symbols_of c.args.text.now.world.now.lexicon) (facts_of (world_of c.args.text.now)) c.args.rules.now)
    (λ xs. sides (within rs c.args.over) (placed c.args.text.now.table.now xs))
    (λ r. sides_of (within rs c.args.over) (placed_by c.args.text.now.table.now r)) refl
    (λ r xs. refl) c.args.list.now c.loop-k.k c.loop-k-test.false (c.loop-k.invariant rs)

pub returns-in-Some : goal.returns-in-Some
returns-in-Some c rs =
    fails_here (IsShownSide (symbols_of c.args.text.now.world.now.lexicon) (facts_of (world_of c.args.text.now)) c.args.rules.now)
    (λ xs. sides (within rs c.args.over) (placed c.args.text.now.table.now xs))
    (λ r. sides_of (within rs c.args.over) (placed_by c.args.text.now.table.now r)) refl
    (λ r xs. refl) c.args.list.now c.loop-k.k _ c.in_ok-first.first c.in-Some.at c.loop-k-test.true
    (c.loop-k.invariant rs) (c.in_ok-first.ensures rs) c.in-Some.is

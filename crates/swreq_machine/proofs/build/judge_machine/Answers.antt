use Rattle.std.proofs.Common.{refl, subst₂}
use Rattle.swreq_valid.specs.swreq_derive.Derivation.Source.{Written}
use Rattle.swreq_valid.specs.swreq_derive.Facts.{generic_params}
use Rattle.swreq_valid.specs.swreq_symbols.Meaning.{facts_of, symbols_of}
use Rattle.swreq_valid.specs.swreq_lowering.ByTable.{placed}
use Rattle.swreq_valid.specs.Sides.{FailsFirst, HoldsOfEach, IsShownSide, sides}
use Rattle.swreq_valid.specs.swreq_symbols.Texts.{world_of}
use Rattle.swreq_machine.proofs.build.judge_machine.Goals as goal

pub first_invalid-requires : goal.first_invalid-requires
first_invalid-requires c = record { list = rw (← c.checked.view_is) at c.requires }

pub returns-in-Some-clause-judged : goal.returns-in-Some-clause-judged
returns-in-Some-clause-judged c rs =
    let text = c.checked.inside.text in
    rw (← c.checked.view_is)
    (subst₂ (λ r p. FailsFirst (IsShownSide (symbols_of text.world.now.lexicon) (facts_of (world_of text)) r)
    (sides (Written (generic_params p) rs) (placed text.table.now c.args.written.now)) c.in-Some.at)
    c.rules.ensures c.params.ensures (rw c.in-Some.is at (c.in_ok-found.ensures rs)))

pub returns-clause-judged : goal.returns-clause-judged
returns-clause-judged c rs =
    let text = c.checked.inside.text in
    rw (← c.checked.view_is) (
      refl,
      subst₂ (λ r p. HoldsOfEach (IsShownSide (symbols_of text.world.now.lexicon) (facts_of (world_of text)) r)
          (sides (Written (generic_params p) rs) (placed text.table.now c.args.written.now)))
          c.rules.ensures c.params.ensures (rw c.in-None.is at (c.in_ok-found.ensures rs)),
    )

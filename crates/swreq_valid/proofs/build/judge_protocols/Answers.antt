use Rattle.std.proofs.Common.{ap, subst}
use Rattle.swreq_symbols.specs.Meaning.{facts_of, symbols_of}
use Rattle.swreq_valid.specs.Rounds.{last_rules}
use Rattle.swreq_valid.specs.Sides.{HoldsOfEach, IsShownSide, protocol_sides}
use Rattle.swreq_symbols.specs.Texts.{world_of}
use Rattle.swreq_valid.proofs.build.judge_protocols.Goals as goal

pub returns-in_ok-protocols-in-None-clause-judged : goal.returns-in_ok-protocols-in-None-clause-judged
returns-in_ok-protocols-in-None-clause-judged c =
    let w = world_of c.args.text.now in (
      ap (λ z. last_rules z) c.in_ok-protocols-in-None.ensures.same,
      subst (λ r. HoldsOfEach (IsShownSide (symbols_of w.lexicon) (facts_of w) r) (protocol_sides w)) c.last.ensures
          (rw c.in-None.is at c.in_ok-found.ensures),
    )

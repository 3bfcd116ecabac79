use Rattle.std.proofs.Common.{◌≤◌, ◌-◌, length, map, take}
use Rattle.swreq_lowering.specs.Words.{words_by}
use Rattle.swreq_world.specs.Filling.{FillsLists}
use Rattle.swreq_world.specs.Text.{requirements_named}
use Rattle.swreq_world.proofs.protocols.requirements.Given as goal

abbrev pub invariant-loop-rank : goal.invariant-loop-rank
invariant-loop-rank l = record {
  within : l.rank ≤ length l.words.lexicon.now.protocols;
  filled : FillsLists l.fn.table l.table
      (map (requirements_named (words_by l.words)) (take l.rank l.words.lexicon.now.protocols)) l.made.items;
}

abbrev pub decreases-loop-rank : goal.decreases-loop-rank
decreases-loop-rank l = length l.words.lexicon.now.protocols - l.rank

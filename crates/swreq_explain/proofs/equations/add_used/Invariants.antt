use Rattle.std.proofs.Common.{◌≡◌, ◌++◌, List, Some, slice_get, take}
use Rattle.swreq_machine.specs.{swreq_symbols.Meaning.{symbols_of}, swreq_valid.{Flags.{chosen}, Rounds.{RoundView}}}
use Rattle.swreq_births.specs.declared.history.Equation.{Equation}
use Rattle.swreq_explain.specs.{Numbering.{AreEquationsOf}, Rounds.{origin_of}}
use Rattle.swreq_explain.proofs.equations.add_used.Given as goal

abbrev pub invariant-loop-k : goal.invariant-loop-k
invariant-loop-k l = (r : RoundView) → slice_get l.makings.rounds.now l.round ≡ Some r → (more : List Equation)
    × (l.given.items ≡ l.initial.given.items ++ more)
    × AreEquationsOf (symbols_of l.makings.text.world.now.lexicon) l.makings.text.table.now (origin_of l.makings) l.round
    (chosen (take l.k l.makings.all.now) (take l.k r.used)) more

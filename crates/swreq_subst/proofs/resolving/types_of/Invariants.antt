use Rattle.std.proofs.Common.{map, take}
use Rattle.std.specs.Prelude.{All}
use Rattle.std.specs.Option.{option_map}
use Rattle.swreq_machine.specs.swreq_param.Tables.{Extends, term_at}
use Rattle.swreq_subst.specs.Calls.{IsArgumentIn}
use Rattle.swreq_subst.specs.Saying.{OneByOne, SaysArgument}
use Rattle.swreq_subst.proofs.resolving.types_of.Given as goal

abbrev pub invariant-loop-k : goal.invariant-loop-k
invariant-loop-k l = record {
  extends : Extends l.initial.table l.table;
  say : OneByOne (SaysArgument l.words.world.now l.words.text.now l.f) (map (option_map (term_at l.table)) l.found.items)
      (take l.k l.types);
  known : All (IsArgumentIn l.table l.words.world.now.lexicon) l.found.items;
}

-- Lines that are written by a history.
use Rattle.std.specs.Prelude.{◌≡◌, ◌<◌, ◌-◌, ℕ, List, None, Some, length, map, slice_get}
use Rattle.swreq_machine.specs.{swreq_param.{Tables.{Extends}, Terms.{Term}}, swreq_derive.declared.lines.Line.{Line}}
use Rattle.swreq_machine.specs.swreq_derive.declared.requirements.{Requirement.{Requirement}, Statement.TheVariants.{Holds}}
use Rattle.swreq_machine.specs.swreq_derive.{Facts.{IdFacts, generic_params, requirement_of, term_facts}, Lines.{AreDerived}}
use Rattle.swreq_machine.specs.swreq_complete.Alike.{ReduceAlike}
use Rattle.swreq_readings.specs.swreq_word.declared.symbols.Symbol.{Symbol}
use Rattle.swreq_derivation.specs.UnderWay.{AreIdsIn, Assumptions}
use Rattle.swreq_births.specs.{declared.history.{History.{History}, OwnedRequirement.{OwnedRequirement}}, Systems.{FitsHistory}}
use Rattle.swreq_births.specs.Systems.{HasShownSides, IsHistory, requirement_by, rules_at, systems_of}

-- The assumptions have what the facts say over the table.
pub record IsAssumptionsOver (terms : List Term) (m : IdFacts) (b : Assumptions) : Type 0 where
  pub facts : b.facts ≡ term_facts terms m
  pub params : b.params ≡ generic_params m.params
  pub written : b.written ≡ map (requirement_of terms) m.written

-- The rules of the last system show the type parameters of the requirement valid, and reduce its sides to one word. The ids of the
-- requirement are of the table.
pub record IsAsked (history : History) (terms : List Term) (r : Requirement) (q : OwnedRequirement)
    (left right : List Symbol) : Type 0 where
  pub history_is : IsHistory history
  pub some : 0 < length (systems_of history)
  pub ids : AreIdsIn terms (Holds r)
  pub in_full : requirement_by q ≡ requirement_of terms r
  pub sides : HasShownSides history.alphabet None (rules_at history (length (systems_of history) - 1)) q left right
  pub alike : ReduceAlike (rules_at history (length (systems_of history) - 1)) right left

-- The table has grown. Over it the lines are a derivation from all assumptions that the history fits, and the ids in what they state are
-- of the table.
pub record AreWritten (old new : List Term) (history : History) (ls : List Line) : Type 0 where
  pub extends : Extends old new
  pub derived : (b : Assumptions) (m : IdFacts) → FitsHistory history b → IsAssumptionsOver new m b → AreDerived new m ls
  pub ids : (k : ℕ) (l : Line) → slice_get ls k ≡ Some l → AreIdsIn new l.statement

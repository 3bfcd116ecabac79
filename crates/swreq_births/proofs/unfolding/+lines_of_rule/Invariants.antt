use Rattle.std.proofs.Common.{◌≡◌, ◌+◌, ◌*◌, List, drop, take}
use Rattle.swreq_param.specs.{Tables.{IsOf, term_at}, Terms.{with_steps, Term.{Generic}}}
use Rattle.swreq_correspondence.specs.swreq_word.declared.symbols.Symbol.{Symbol}
use Rattle.swreq_complete.specs.swreq_path.Paths.{StepsLead}
use Rattle.swreq_derivation.specs.{UnderWay.{AreStatedEqual, ContinuesFrom}, Origins.{placed}}
use Rattle.swreq_births.specs.Systems.{FitsHistory}
use Rattle.swreq_readings.specs.Readable.{AllowsWord, AreReadEqual, read_word}
use Rattle.swreq_births.proofs.unfolding.+lines_of_rule.Given as goal

-- What decreases: the place of the system, and in one system the place of the rule.
abbrev pub decreases-lines_of_rule : goal.decreases-lines_of_rule
decreases-lines_of_rule l = l.at.system * 1099511627776 + (l.at.rule * 16 + 8)

abbrev pub decreases-walk_along : goal.decreases-walk_along
decreases-walk_along l = l.at.system * 1099511627776 + (l.at.rule * 16 + 2)

abbrev pub invariant-walk_along-loop-k : goal.invariant-walk_along-loop-k
invariant-walk_along-loop-k l = record {
  both : AreReadEqual l.history.alphabet l.derivation (term_at l.fn.derivation.table l.subject) l.path.start l.word;
  left : (b : List Symbol) → StepsLead l.rules l.path.steps l.path.start b → StepsLead l.rules (drop l.k l.path.steps) l.word b;
  done : (b : List Symbol) → StepsLead l.rules (drop l.k l.path.steps) l.word b → StepsLead l.rules l.path.steps l.path.start b;
  continues : ContinuesFrom (FitsHistory l.history) l.fn.derivation l.derivation;
}

abbrev pub decreases-settle : goal.decreases-settle
decreases-settle l = l.at.system * 1099511627776 + (l.at.rule * 16 + 4)

abbrev pub decreases-from_pair : goal.decreases-from_pair
decreases-from_pair l = l.at.system * 1099511627776 + (l.at.rule * 16 + 6)

abbrev pub decreases-give_equation : goal.decreases-give_equation
decreases-give_equation l = l.system * 1099511627776 + 5

-- What is read by the rules of a system counts more than that system, and less than the next one.
abbrev pub decreases-give_required : goal.decreases-give_required
decreases-give_required l = (l.scope.system + 1) * 1099511627776 + 4

abbrev pub decreases-give_bound : goal.decreases-give_bound
decreases-give_bound l = (l.scope.system + 1) * 1099511627776 + 3

abbrev pub decreases-read_type : goal.decreases-read_type
decreases-read_type l = (l.scope.system + 1) * 1099511627776 + 2

abbrev pub decreases-declare : goal.decreases-declare
decreases-declare l = (l.scope.system + 1) * 1099511627776 + 1

abbrev pub invariant-read_type-loop-k : goal.invariant-read_type-loop-k
invariant-read_type-loop-k l = record {
  is_of : IsOf l.derivation.table l.at;
  stands : term_at l.derivation.table l.at ≡ placed l.scope.owner (term_at l.fn.derivation.table l.scope.for_self)
      (with_steps (Generic l.param.head) (take l.k l.param.steps));
  word : AllowsWord l.history.alphabet l.derivation (term_at l.fn.derivation.table l.scope.for_self) (take (l.k + 1) l.word);
  equal : AreStatedEqual l.derivation (placed l.scope.owner (term_at l.fn.derivation.table l.scope.for_self)
      (with_steps (Generic l.param.head) (take l.k l.param.steps)))
      (read_word l.history.alphabet (term_at l.fn.derivation.table l.scope.for_self) (take (l.k + 1) l.word));
  continues : ContinuesFrom (FitsHistory l.history) l.fn.derivation l.derivation;
}

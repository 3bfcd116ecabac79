use Rattle.swreq_derive.specs.declared.requirements.{Requirement.TheVariants.{Conf}, Statement.TheVariants.{Holds}}
use Rattle.swreq_derivation.specs.UnderWay.{ContinuesFrom, IsPremise}
use Rattle.swreq_world.specs.swreq_lexicon.Views.{depth}
use Rattle.swreq_readings.specs.Alphabets.{Fits, IsMember, lexicon}
use Rattle.swreq_readings.proofs.inheriting.inherit.Given as goal

abbrev pub invariant-loop-subject : goal.invariant-loop-subject
invariant-loop-subject l = record {
  conforms : IsPremise l.derivation (Holds (Conf l.subject l.at));
  member : IsMember l.alphabet l.at l.name;
  continues : ContinuesFrom (Fits l.alphabet) l.fn.derivation l.derivation;
}

abbrev pub decreases-loop-subject : goal.decreases-loop-subject
decreases-loop-subject l = depth (lexicon l.alphabet) l.at

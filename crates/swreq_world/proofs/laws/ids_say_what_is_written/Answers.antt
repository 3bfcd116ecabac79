use Rattle.swreq_world.proofs.Saying.{constraint_says, entity_says, names_say, type_says}
use Rattle.swreq_world.proofs.SayingQueries.{query_says}
use Rattle.swreq_world.proofs.laws.ids_say_what_is_written.Goals as goal

pub returns-clause-types : goal.returns-clause-types
returns-clause-types c =
    λ text s w is resolve part t written context reads. type_says text s w.lexicon is.lexicon resolve.names part t written context reads

pub returns-clause-entities : goal.returns-clause-entities
returns-clause-entities c =
    λ text s w is resolve part e written no_layout. entity_says text s w.lexicon is.lexicon resolve.names part e written no_layout

pub returns-clause-constraints : goal.returns-clause-constraints
returns-clause-constraints c = λ text s w is resolve part k written context reads.
    constraint_says text s w.lexicon is.lexicon resolve.names part k written context reads

pub returns-clause-declared : goal.returns-clause-declared
returns-clause-declared c = λ text s w is resolve p written. names_say text s w.lexicon is.lexicon resolve.names p written

pub returns-clause-queries : goal.returns-clause-queries
returns-clause-queries c = λ text s w is resolve k q at. query_says text s w is resolve.names k q at

use Rattle.swreq_canonical.specs.swreq_derive.Derivation.Source.{Written}
use Rattle.swreq_canonical.specs.swreq_correspondence.Equations.{UsableEquation}
use Rattle.swreq_rounds.specs.Presents.{ProtocolEquation}
use Rattle.swreq_candidates.proofs.RulesGive.{least_words, reduced_system}
use Rattle.swreq_candidates.proofs.laws.complete_rules_give_least_words.Goals as goal

pub returns-clause-protocols : goal.returns-clause-protocols
returns-clause-protocols c m f rules meet present = least_words rules (ProtocolEquation m f) present meet

pub returns-clause-list : goal.returns-clause-list
returns-clause-list c m f params list rules meet present = least_words rules (UsableEquation m f (Written params list)) present meet

pub returns-clause-system : goal.returns-clause-system
returns-clause-system c m f params list rules system present =
    reduced_system rules (UsableEquation m f (Written params list)) present system

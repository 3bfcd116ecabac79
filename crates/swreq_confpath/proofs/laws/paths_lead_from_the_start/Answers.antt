use Rattle.swreq_confpath.proofs.Covering.{leads_path, path_leads}
use Rattle.swreq_confpath.proofs.laws.paths_lead_from_the_start.Goals as goal

pub returns-clause-leads : goal.returns-clause-leads
returns-clause-leads c f params written t p first steps derivable path = path_leads f params written t p first steps derivable path

pub returns-clause-path : goal.returns-clause-path
returns-clause-path c f params written t p first steps d leads like = leads_path f params written t p first steps d leads like

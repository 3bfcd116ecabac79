use Rattle.std.proofs.Common.{◌≡◌, ◌∙◌, List, [], get_or}
use Rattle.std.specs.List.{flat_map}
use Rattle.swreq_closure.specs.Chains.{leads}
use Rattle.swreq_names.specs.declared.directory.Declaration.{Declaration}
use Rattle.swreq_resolve.specs.First.{walk}
use Rattle.swreq_resolve.specs.Refusals.{duplicate_of, duplicates, primary_of}
use Rattle.swreq_resolve.proofs.Walks.{walked, walked_over, then_least}
use Rattle.swreq_resolve.proofs.protocols.check_all_primaries.Goals as goal

pub returns : goal.returns
returns c =
    let names : List Declaration = get_or c.args.declared.now.primaries c.args.place [] in
    let items : c.items.result.now ≡ names = c.items.ensures ∙ c.primaries-primaries.ensures in
    then_least c.args.best c.check_duplicates-best.result c.check_primaries.result (duplicates names names)
    (flat_map (primary_of c.args.declared.now (leads c.args.inherits.now) c.args.place) names)
    (c.check_duplicates-best.ensures ∙ (λ j. walk (duplicate_of (c.primaries-primaries.ensures j)) c.args.best (items j))
    ∙ walked (duplicate_of names) c.args.best names)
    (walked_over (primary_of c.args.declared.now (leads c.args.inherits.now) c.args.place) c.check_duplicates-best.result
    c.check_primaries.result
    c.items-2.result.now names c.check_primaries.ensures
    (c.items-2.ensures ∙ c.primaries-primaries.ensures))

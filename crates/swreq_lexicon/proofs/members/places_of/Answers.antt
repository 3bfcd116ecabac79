use Rattle.std.proofs.Common.{◌∙◌, ◌||◌, nat_eq, ap, sym}
use Rattle.std.proofs.Math.Bool.{or-false}
use Rattle.swreq_closure.specs.Chains.{leads}
use Rattle.swreq_lexicon.specs.Views.{place_by}
use Rattle.swreq_lexicon.proofs.members.places_of.Goals as goal

pub returns-in-None : goal.returns-in-None
returns-in-None c k p at =
    let own = nat_eq p.rank c.args.protocol.rank in
    let place = place_by c.args.protocols.now.places p in
    c.in_ok-set.ensures k p at ∙ sym (or-false own)
    ∙ ap (λ b. own || b) (sym (c.in-None.ensures k) ∙ c.requires k c.place.result p at
    ∙ ap (leads c.args.protocols.now.resolved.inherits place) c.place.ensures)

use Rattle.swreq_map.proofs.Listing.{listed_there, stands_contained}
use Rattle.swreq_map.proofs.followers.followers.Goals as goal

pub returns-in-Some : goal.returns-in-Some
returns-in-Some c x f =
    c.list_at.ensures x (listed_there c.args.table.now c.args.lists.now c.requires c.args.v.now c.in-Some.id c.in-Some.ensures x f)

pub returns-in-None : goal.returns-in-None
returns-in-None c x f = absurd (c.in-None.ensures (stands_contained c.args.table.now c.args.v.now f.0 f.1))

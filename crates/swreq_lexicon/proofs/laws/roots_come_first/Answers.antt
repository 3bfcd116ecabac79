use Rattle.swreq_lexicon.specs.Lexicons.{pair}
use Rattle.swreq_lexicon.specs.Views.{inherits, assoc_cmp}
use Rattle.swreq_lexicon.proofs.Orders.{lesser_first, root_first, lesser_protocol}
use Rattle.swreq_lexicon.proofs.RankLaws.{assoc_total}
use Rattle.swreq_lexicon.proofs.laws.roots_come_first.Goals as goal

pub returns-clause-roots : goal.returns-clause-roots
returns-clause-roots c s x is i j p q a f g n h =
    lesser_first (assoc_cmp x) (assoc_total (inherits x) x.associated) x.associated is.associated.sorted i j (pair p a) (pair q a) f g
    (root_first (inherits x) x.associated p q a n h)

pub returns-clause-protocols : goal.returns-clause-protocols
returns-clause-protocols c s x is i j p q a f g same h =
    lesser_first (assoc_cmp x) (assoc_total (inherits x) x.associated) x.associated is.associated.sorted i j (pair p a) (pair q a) f g
    (lesser_protocol (inherits x) x.associated p q a same h)

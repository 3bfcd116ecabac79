use Rattle.std.proofs.Common.{length, cond}
use Rattle.std.specs.Ordering.{nat_cmp, then_cmp, on}
use Rattle.swreq_lexicon.specs.declared.pair.ProtocolName.{ProtocolName}
use Rattle.swreq_lexicon.specs.Associated.{is_root, order_cmp}
use Rattle.swreq_lexicon.specs.Views.{inherits}
use Rattle.swreq_lexicon.proofs.RankLaws.{by_name}
use Rattle.swreq_lexicon.proofs.laws.ranks_go_by_name_first.Goals as goal

pub returns-clause-associated : goal.returns-clause-associated
returns-clause-associated c s x is =
    by_name (then_cmp (on (λ (d : ProtocolName). cond (is_root (inherits x) x.associated d) 0 1) nat_cmp)
    (on (λ (d : ProtocolName). d.proto.rank) nat_cmp)) x.associated is.associated.sorted

pub returns-clause-symbols : goal.returns-clause-symbols
returns-clause-symbols c s x is =
    by_name (on (λ (d : ProtocolName). d.proto) (order_cmp (inherits x) (length x.protocols))) x.symbols is.symbols.sorted

use Rattle.std.proofs.Common.{sym, subst}
use Rattle.swreq_lexicon.specs.Symbols.{has_member, AreRows, SymbolsView}
use Rattle.swreq_lexicon.specs.Views.{inherits_by}
use Rattle.swreq_lexicon.proofs.symbols.Symbols.has_member.Goals as goal

pub has-requires : goal.has-requires
has-requires c =
    let has = has_member (inherits_by c.args.protocols.now.places c.args.protocols.now.resolved.inherits) c.args.associated.now in
    subst (λ (v : SymbolsView). AreRows v.order has v.rows) (sym c.self.view_is) c.requires

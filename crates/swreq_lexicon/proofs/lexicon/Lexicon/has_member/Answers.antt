use Rattle.std.proofs.Common.{◌≡◌, ◌∙◌, sym, ap}
use Rattle.swreq_lexicon.specs.Symbols.{has_member}
use Rattle.swreq_lexicon.specs.Views.{LexiconView, inherits}
use Rattle.swreq_lexicon.proofs.SymbolMembers.{member_from, member_to}
use Rattle.swreq_lexicon.proofs.lexicon.Lexicon.has_member.Goals as goal

pub returns : goal.returns
returns c =
    let x = c.args.self.now in
    let is : c.has_member.result ≡ has_member (inherits x) x.associated c.args.protocol c.args.name =
    c.has_member.ensures ∙ ap (λ (v : LexiconView). has_member (inherits v) v.associated c.args.protocol c.args.name) c.self.view_is in (
      λ h. member_from (inherits x) x.associated c.args.protocol c.args.name (sym is ∙ h),
      λ h. is ∙ member_to (inherits x) x.associated c.args.protocol c.args.name h,
    )

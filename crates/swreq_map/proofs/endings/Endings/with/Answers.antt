use Rattle.std.proofs.Common.{subst, sym}
use Rattle.swreq_map.specs.Follows.{EndingsView, Follows}
use Rattle.swreq_map.proofs.endings.Endings.with.Goals as goal

pub returns : goal.returns
returns c x f =
    let word = c.args.word.now in
    let inside = subst (λ (e : EndingsView). Follows e.words e.lists word x) (sym c.self.view_is) f in
    c.followers.ensures x (subst (λ lists. Follows c.self.inside.words lists word x) (sym c.deref.ensures.value) inside)

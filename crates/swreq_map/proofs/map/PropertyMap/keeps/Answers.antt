use Rattle.std.proofs.Common.{inl, inr, subst, sym}
use Rattle.std.proofs.lemmas.Bool.{false≢true}
use Rattle.swreq_map.specs.Follows.{Follows, MapView}
use Rattle.swreq_map.proofs.map.PropertyMap.keeps.Goals as goal

pub returns-else-is_among : goal.returns-else-is_among
returns-else-is_among c kept = elim kept [
  | inl f ↦ absurd (false≢true (c.if-is_among.ensures.1 (c.below.ensures c.args.x f)))
  | inr f ↦ (let inside = subst (λ (m : MapView). Follows m.own.words m.own.lists c.args.word.now c.args.x) (sym c.self.view_is) f in
      c.is_among-else-is_among.ensures.1 (c.with.ensures c.args.x inside))
]

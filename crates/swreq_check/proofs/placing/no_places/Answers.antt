use Rattle.std.proofs.Common.{◌≡◌, ◌+◌, ◌∙◌, [], All, Vec, ap, length, subst, sym, ℕ}
use Rattle.std.proofs.lemmas.List.{length-append}
use Rattle.std.proofs.lemmas.List.Elements.{All-push}
use Rattle.std.specs.declared.alloc.Global.{Global}
use Rattle.swreq_check.proofs.placing.no_places.Goals as goal

abbrev IsWithoutPlaces : Vec ℕ Global → Type 0
IsWithoutPlaces places = places.items ≡ []

pub loop-preserved : goal.loop-preserved
loop-preserved c = (
  ap length c.in_ok-push.ensures.items ∙ length-append c.loop.groups.items _ ∙ ap (λ n. n + 1) c.loop.invariant.0,
  subst (All IsWithoutPlaces) (sym c.in_ok-push.ensures.items)
      (All-push IsWithoutPlaces c.loop.groups.items c.new.result c.loop.invariant.1 c.new.ensures.items),
)

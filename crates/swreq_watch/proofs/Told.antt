-- Lists of events that grow.
use Rattle.std.proofs.Common.{refl, sym, ◌∙◌, ap, subst, List, [], ◌++◌, append_assoc, append-nil, Option, Some, None}
use Rattle.swreq_watch.specs.declared.events.Event.{Event}
use Rattle.swreq_watch.specs.Told.{GrewBy}

pub grew_none : (told : Option (List Event)) → GrewBy told told []
grew_none (Some xs) = ap Some (sym (append-nil xs))
grew_none None = refl

pub grew_on : (a b c : Option (List Event)) (xs ys : List Event) → GrewBy a b xs → GrewBy b c ys → GrewBy a c (xs ++ ys)
grew_on (Some zs) b c xs ys e f = (subst (λ t. GrewBy t c ys) e f) ∙ ap Some (append_assoc zs xs ys)
grew_on None b c xs ys e f = subst (λ t. GrewBy t c ys) e f

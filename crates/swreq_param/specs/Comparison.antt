-- The order of type parameters, by computing.
use Rattle.std.specs.Prelude.{ℕ}
use Rattle.std.specs.declared.cmp.Ordering.{Ordering}
use Rattle.std.specs.declared.cmp.Ordering.TheVariants.{Less, Greater}
use Rattle.std.specs.Ordering.{nat_cmp, ordering_then, then_cmp, on}
use Rattle.swreq_param.specs.declared.ids.ParamId.{ParamId}
use Rattle.swreq_param.specs.declared.ids.Step.{Step}
use Rattle.swreq_param.specs.declared.ids.Step.TheVariants.{Bound, Name}
use Rattle.swreq_param.specs.Terms.{Term, member_count}
use Rattle.swreq_param.specs.Terms.Term.{Generic, Member}

abbrev pub param_cmp : ParamId → ParamId → Ordering
param_cmp = then_cmp (on (λ g. g.depth) nat_cmp) (on (λ g. g.index) nat_cmp)

-- bound steps before unbound ones
abbrev pub kind : Step → ℕ
kind (Bound d) = 0
kind (Name a) = 1

abbrev pub rank : Step → ℕ
rank (Bound d) = d.rank
rank (Name a) = a.rank

abbrev pub step_cmp : Step → Step → Ordering
step_cmp = then_cmp (on kind nat_cmp) (on rank nat_cmp)

-- by the bases, then by the last member; this puts fewer members first too
abbrev pub alike_cmp : Term → Term → Ordering
alike_cmp (Generic g) (Generic h) = param_cmp g h
alike_cmp (Generic g) (Member u y) = Less
alike_cmp (Member t x) (Generic h) = Greater
alike_cmp (Member t x) (Member u y) = ordering_then (alike_cmp t u) (step_cmp x y)

abbrev pub term_cmp : Term → Term → Ordering
term_cmp = then_cmp (on member_count nat_cmp) alike_cmp

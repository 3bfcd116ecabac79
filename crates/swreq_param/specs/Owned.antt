-- Type parameters by themselves.
use Rattle.std.specs.declared.cmp.Ordering.{Ordering}
use Rattle.std.specs.Ordering.{on}
use Rattle.swreq_param.specs.declared.owned.TypeParam.{TypeParam}
use Rattle.swreq_param.specs.Terms.{Term, with_steps}
use Rattle.swreq_param.specs.Terms.Term.{Generic}
use Rattle.swreq_param.specs.Comparison.{term_cmp}

-- the type parameter that it is: its generic parameter, followed by its steps
abbrev pub as_term : TypeParam → Term
as_term p = with_steps (Generic p.head) p.steps

-- the order of type parameters, by computing
abbrev pub owned_cmp : TypeParam → TypeParam → Ordering
owned_cmp = on as_term term_cmp

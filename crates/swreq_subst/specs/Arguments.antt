-- Type parameters and requirements with types in place of their generic parameters.
use Rattle.std.specs.Prelude.{ℕ, ◌+◌, ◌==◌, ◌<◌, cond, List, length, slice_index_or}
use Rattle.swreq_machine.specs.swreq_param.declared.ids.ParamId.{ParamId}
use Rattle.swreq_machine.specs.swreq_param.declared.ids.TermId.{TermId}
use Rattle.swreq_machine.specs.swreq_param.Tables.{IsOf, term_at}
use Rattle.swreq_machine.specs.swreq_param.Terms.{Term, head, self}
use Rattle.swreq_machine.specs.swreq_derive.declared.known.Params.{Params}
use Rattle.swreq_machine.specs.swreq_derive.declared.requirements.Requirement.{Requirement}
use Rattle.swreq_machine.specs.swreq_derive.Derivation.{TermRequirement, substitute}
use Rattle.swreq_machine.specs.swreq_derive.Facts.{requirement_of}
use Rattle.swreq_machine.specs.swreq_derive.Substitution.{substitute_in}
use Rattle.swreq_machine.specs.swreq_lowering.ByTable.{HasIdsOf}
use Rattle.swreq_machine.specs.swreq_lowering.Heads.{IsOver}

-- how many generic parameters there are
abbrev pub param_count : Params → ℕ
param_count params = params.outer + params.inner

-- the place of a generic parameter: the outer ones stand first
abbrev pub place_of : Params → ParamId → ℕ
place_of params g = cond (g.depth == 0) g.index (params.outer + g.index)

-- the type for a generic parameter, of which there is one for each, in order
abbrev pub argument_of : Params → List Term → ParamId → Term
argument_of params args g = slice_index_or args (place_of params g) self

-- U with the types in place of its generic parameter, the steps as they are
abbrev pub with_arguments : Params → List Term → Term → Term
with_arguments params args u = substitute (argument_of params args) u

-- a requirement with the types of a call put in for the generic parameters of its sides
abbrev pub requirement_with : Params → List Term → TermRequirement → TermRequirement
requirement_with params args r = substitute_in (argument_of params args) r

-- ---- over the ids of a table, with these types for the generic parameters

module _ (terms : List Term) (params : Params) (args : List TermId) where
  -- The type parameter is of the table, and there is a type for its generic parameter.
  abbrev pub HasArgument : TermId → Type 0
  HasArgument u = IsOf terms u × (place_of params (head (term_at terms u)) < length args)

  -- There is a type for each generic parameter in the requirement.
  abbrev pub IsOverArguments : Requirement → Type 0
  IsOverArguments r = IsOver (λ g. place_of params g < length args) (requirement_of terms r)

  -- The ids of the requirement are of the table, and there is a type for each generic parameter in it.
  abbrev pub HasArguments : Requirement → Type 0
  HasArguments r = HasIdsOf terms r × IsOverArguments r

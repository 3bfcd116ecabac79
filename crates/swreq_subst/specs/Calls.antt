-- Calls, over type parameters and over the ids of a table.
use Rattle.std.specs.Prelude.{◌≡◌, ◌≢◌, ◌<◌, List, All, Contains, Option, Some, None, length, map}
use Rattle.std.specs.Option.{option_map}
use Rattle.swreq_machine.specs.swreq_param.declared.ids.TermId.{TermId}
use Rattle.swreq_machine.specs.swreq_param.Tables.{term_at}
use Rattle.swreq_machine.specs.swreq_param.Terms.{Term}
use Rattle.swreq_machine.specs.swreq_derive.Derivation.{TermStatement}
use Rattle.swreq_machine.specs.swreq_derive.Derivation.TermStatement.{IsValid}
use Rattle.swreq_machine.specs.swreq_lexicon.Views.{LexiconView}
use Rattle.swreq_machine.specs.swreq_lowering.declared.ids.FuncId.{FuncId}
use Rattle.swreq_machine.specs.swreq_symbols.Known.{IsTypeIn}
use Rattle.swreq_machine.specs.Machines.{IsMachineOf, MachineView}
use Rattle.swreq_machine.specs.swreq_world.FactsAt.{written_list}
use Rattle.swreq_machine.specs.swreq_world.Worlds.{IdWorld, TextWorld, signature_at}
use Rattle.swreq_subst.specs.declared.calls.Call.{Call}
use Rattle.swreq_subst.specs.Arguments.{param_count}

-- The signature f calls the signature g with these types. None is a type that no type parameter of the text is.
pub record TermCall : Type 0 where
  pub f : FuncId
  pub g : FuncId
  pub args : List (Option Term)

-- ---- over the ids of a table

abbrev pub call_by : List Term → Call → TermCall
call_by terms c = record { f = c.f; g = c.g; args = map (option_map (term_at terms)) c.args }

-- The id is of the table, and its type parameter of the text.
abbrev pub IsArgumentIn : List Term → LexiconView → Option TermId → Type 0
IsArgumentIn terms x None = Unit {0}
IsArgumentIn terms x (Some t) = IsTypeIn terms x t

-- Both signatures and the types are of the text, and there is one type for each generic parameter of the callee.
pub record IsCallIn (terms : List Term) (w : IdWorld) (c : Call) : Type 0 where
  pub caller : c.f.place < length w.signatures
  pub callee : c.g.place < length w.signatures
  pub count : length c.args ≡ param_count (signature_at w c.g).params
  pub args : All (IsArgumentIn terms w.lexicon) c.args

-- Each type is there.
abbrev pub AreThere : List (Option TermId) → Type 0
AreThere args = All (λ (a : Option TermId). a ≢ None) args

-- This is the machine of the signature.
pub record IsMachineOn (w : TextWorld) (f : FuncId) (m : MachineView) : Type 0 where
  pub machine : IsMachineOf w (written_list (signature_at w f)) m
  pub params : m.params ≡ (signature_at w f).params

-- ---- by what is derivable

-- The type is there, and valid.
abbrev pub IsValidThere : (TermStatement → Type 0) → List Term → Option TermId → Type 0
IsValidThere derivable terms None = ⊥
IsValidThere derivable terms (Some t) = derivable (IsValid (term_at terms t))

-- Each of the types is there, and valid.
abbrev pub AreAllValid : (TermStatement → Type 0) → List Term → List (Option TermId) → Type 0
AreAllValid derivable terms args = All (IsValidThere derivable terms) args

-- One of the types is not there, or not valid.
abbrev pub IsOneInvalid : (TermStatement → Type 0) → List Term → List (Option TermId) → Type 0
IsOneInvalid derivable terms args = (a : Option TermId) × Contains args a × (IsValidThere derivable terms a → ⊥)

-- The names of calls that are refused.
use Rattle.std.specs.Prelude.{◌≡◌, ℕ, nat_eq, not, List, [], ◌++◌, length, Option, Some, None}
use Rattle.std.specs.List.{flat_map}
use Rattle.std.specs.Option.{option_map}
use Rattle.swreq_resolve.specs.swreq_decl.declared.skeleton.CallDecl.{CallDecl}
use Rattle.swreq_resolve.specs.swreq_decl.declared.skeleton.Ask.TheVariants as asks
use Rattle.swreq_resolve.specs.swreq_decl.declared.skeleton.QueryDecl.{QueryDecl}
use Rattle.swreq_resolve.specs.swreq_decl.declared.skeleton.Span.{Span}
use Rattle.swreq_resolve.specs.swreq_decl.declared.skeleton.TypeDecl.{TypeDecl}
use Rattle.swreq_resolve.specs.swreq_names.declared.signature.Signature.{Signature}
use Rattle.swreq_resolve.specs.swreq_names.Spaces.{Spaces, word}
use Rattle.swreq_resolve.specs.declared.refusal.Fault.TheVariants.{WrongArity}
use Rattle.swreq_resolve.specs.declared.refusal.NameErr.{NameErr}
use Rattle.swreq_resolve.specs.declared.refusal.Refusal.{Refusal}
use Rattle.swreq_resolve.specs.Errors.{error_of}
use Rattle.swreq_resolve.specs.First.{IsFirst, when}
use Rattle.swreq_resolve.specs.RefusedTypes.{of_type_on}
use Rattle.swreq_resolve.specs.Refusals.{of_query}
use Rattle.swreq_machine.specs.swreq_lowering.declared.ids.FuncId.{FuncId}
use Rattle.swreq_machine.specs.swreq_lowering.Queries.{signature_named}
use Rattle.swreq_machine.specs.swreq_world.Lookups.{func_named}
use Rattle.swreq_machine.specs.swreq_world.Worlds.{WorldOver, signature_at}
use Rattle.swreq_subst.specs.Arguments.{param_count}

-- the query `S.f()` or `f()`
abbrev pub query_on : Option Span → Span → QueryDecl
query_on outer f = record { outer = outer; function = f; ask = asks.Signature }

-- the names that the text of a world declares
abbrev pub declared : {R Q : Type 0} → WorldOver R Q → Spaces
declared w = w.lexicon.resolved.declared

-- Calls that are written in these bytes, of the signatures of a world.
module _ {R Q : Type 0} (w : WorldOver R Q) (text : List ℕ) where
  -- the signature of this name, and its id
  abbrev pub signature_called : Option Span → Span → Option Signature
  signature_called outer f = signature_named (declared w) (option_map (word text) outer) (word text f)

  abbrev pub func_called : Option Span → Span → Option FuncId
  func_called outer f = func_named w (option_map (word text) outer) (word text f)

  -- The name of a signature is refused where it is refused in a query.
  abbrev pub of_name : Option Span → Span → List Refusal
  of_name outer f = of_query text (declared w) (query_on outer f)

  -- The types are refused that are refused in a query on the caller. On an unknown caller they are not looked at.
  abbrev pub of_types : Option Signature → List TypeDecl → List Refusal
  of_types None ts = []
  of_types (Some g) ts = flat_map (of_type_on (declared w) g text) ts

  -- There is one type for each generic parameter of the callee.
  abbrev pub of_count : Option FuncId → CallDecl → List Refusal
  of_count None c = []
  of_count (Some g) c = when (not (nat_eq (length c.args) (param_count (signature_at w g).params))) WrongArity c.callee.start

  abbrev pub of_call : CallDecl → List Refusal
  of_call c =
      of_name c.caller_outer c.caller ++ (of_name c.callee_outer c.callee
      ++ (of_count (func_called c.callee_outer c.callee) c ++ of_types (signature_called c.caller_outer c.caller) c.args))

  -- all that are refused
  abbrev pub refusals : List CallDecl → List Refusal
  refusals calls = flat_map of_call calls

  -- The error says which name is refused first.
  abbrev pub RefusesCalls : List CallDecl → NameErr → Type 0
  RefusesCalls calls e = (r : Refusal) × IsFirst (refusals calls) r × (e ≡ error_of r)

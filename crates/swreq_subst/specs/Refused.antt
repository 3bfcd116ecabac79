-- Which names of a call are refused, and as what.
use Rattle.std.specs.Prelude.{◌≡◌, ◌≢◌, ◌⊎◌, true, length, Contains, Option, Some, None}
use Rattle.std.specs.Option.{option_map}
use Rattle.swreq_resolve.specs.swreq_decl.declared.skeleton.CallDecl.{CallDecl}
use Rattle.swreq_resolve.specs.swreq_decl.declared.skeleton.Span.{Span}
use Rattle.swreq_resolve.specs.swreq_decl.declared.skeleton.TypeDecl.{TypeDecl}
use Rattle.swreq_resolve.specs.swreq_names.Spaces.{word}
use Rattle.swreq_resolve.specs.swreq_rank.Ranks.{Bytes}
use Rattle.swreq_resolve.specs.declared.refusal.Fault.TheVariants.{UnknownSignature, WrongArity}
use Rattle.swreq_resolve.specs.declared.refusal.Refusal.{Refusal}
use Rattle.swreq_resolve.specs.Refused.{refused}
use Rattle.swreq_resolve.specs.RefusedTypes.{of_type_on}
use Rattle.swreq_machine.specs.swreq_lowering.declared.ids.FuncId.{FuncId}
use Rattle.swreq_machine.specs.swreq_world.Lookups.{is_struct, IsNamedAt}
use Rattle.swreq_machine.specs.swreq_world.Worlds.{IdWorld, signature_at}
use Rattle.swreq_subst.specs.Arguments.{param_count}
use Rattle.swreq_subst.specs.Refusals.{declared}

-- With these names the call names a signature: its caller or its callee.
abbrev pub Names : CallDecl → Option Span → Span → Type 0
Names c outer name = ((outer ≡ c.caller_outer) × (name ≡ c.caller)) ⊎ ((outer ≡ c.callee_outer) × (name ≡ c.callee))

-- Calls that are written in these bytes, of the signatures of a world.
module _ (w : IdWorld) (text : Bytes) where
  -- The signature has the names that are written.
  abbrev pub IsCalled : Option Span → Span → FuncId → Type 0
  IsCalled outer name f = IsNamedAt w (option_map (word text) outer) (word text name) f

  -- The signature is a struct, and has the name that is written.
  abbrev pub IsStructCalled : Span → FuncId → Type 0
  IsStructCalled name f = IsCalled None name f × (is_struct (signature_at w f).signature ≡ true)

  -- A name of the call is refused.
  pub data IsRefused (c : CallDecl) : Refusal → Type 0 where
    -- Where no struct is named before it, the name is that of a struct or function at the top.
    no_signature : {name : Span} → Names c None name
        → ((f : FuncId) → IsCalled None name f → ⊥)
        → IsRefused c (refused UnknownSignature name.start)
    -- What is named before it is a struct.
    no_struct : {outer name : Span} → Names c (Some outer) name
        → ((f : FuncId) → IsStructCalled outer f → ⊥)
        → IsRefused c (refused UnknownSignature outer.start)
    -- Then the name is that of a function of the struct.
    no_function : {outer name : Span} {s : FuncId} → Names c (Some outer) name
        → IsStructCalled outer s
        → ((f : FuncId) → IsCalled (Some outer) name f → ⊥)
        → IsRefused c (refused UnknownSignature name.start)
    -- There is one type for each generic parameter of the callee.
    wrong_count : {g : FuncId} → IsCalled c.callee_outer c.callee g
        → length c.args ≢ param_count (signature_at w g).params
        → IsRefused c (refused WrongArity c.callee.start)
    -- What is refused of a type on the caller. On an unknown caller nothing is.
    of_type : {f : FuncId} {t : TypeDecl} {r : Refusal} → IsCalled c.caller_outer c.caller f
        → Contains c.args t
        → Contains (of_type_on (declared w) (signature_at w f).signature text t) r
        → IsRefused c r

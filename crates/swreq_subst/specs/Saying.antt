-- The calls that are written, by the names of a world.
use Rattle.std.specs.Prelude.{◌≡◌, ◌↔◌, ℕ, true, List, [], ◌∷◌, Option, Some, None, Contains, slice_get}
use Rattle.std.specs.Option.{option_map}
use Rattle.swreq_resolve.specs.swreq_decl.declared.skeleton.CallDecl.{CallDecl}
use Rattle.swreq_resolve.specs.swreq_decl.declared.skeleton.StepDecl.{StepDecl}
use Rattle.swreq_resolve.specs.swreq_decl.declared.skeleton.StepDecl.TheVariants as decls
use Rattle.swreq_resolve.specs.swreq_decl.declared.skeleton.TypeDecl.{TypeDecl}
use Rattle.swreq_resolve.specs.swreq_names.declared.signature.Signature.{Signature}
use Rattle.swreq_resolve.specs.swreq_names.Spaces.{word, protocol_of, declares}
use Rattle.swreq_machine.specs.swreq_param.declared.ids.ParamId.{ParamId}
use Rattle.swreq_machine.specs.swreq_param.Terms.{Term}
use Rattle.swreq_resolve.specs.swreq_rank.Ranks.{Bytes}
use Rattle.swreq_machine.specs.swreq_lexicon.Lexicons.{assoc_by, name_by, pair, proto_by}
use Rattle.swreq_machine.specs.swreq_lexicon.Views.{LexiconView}
use Rattle.swreq_machine.specs.swreq_lowering.declared.ids.FuncId.{FuncId}
use Rattle.swreq_machine.specs.swreq_lowering.Queries.{signature_named}
use Rattle.swreq_machine.specs.swreq_world.Lookups.{func_named, param_of_signature, IsNamedAt}
use Rattle.swreq_machine.specs.swreq_world.ReadBack.{SaysFrom}
use Rattle.swreq_machine.specs.swreq_world.Worlds.{WorldOver, signature_at}
use Rattle.swreq_subst.specs.Calls.{TermCall}

-- ---- names and their ids

-- The protocol, the name and the associated type of these names are of the text, each at the rank that is found for it.
pub record HasAssociated (x : LexiconView) (p a : Bytes) : Type 0 where
  pub protocol : slice_get x.protocols (proto_by x.protocols p).rank ≡ Some p
  pub name : slice_get x.names (name_by x.names a).rank ≡ Some a
  pub associated : slice_get x.associated (assoc_by x.associated (proto_by x.protocols p) (name_by x.names a)).rank
      ≡ Some (pair (proto_by x.protocols p) (name_by x.names a))

-- What is found by name is the one signature that has the name.
abbrev pub FindSignatures : {R Q : Type 0} → WorldOver R Q → Type 0
FindSignatures w = (outer : Option Bytes) (name : Bytes) (f : FuncId) → (func_named w outer name ≡ Some f) ↔ IsNamedAt w outer name f

-- What names refer to has ids. So it is in the world of each text whose names resolve.
pub record HaveIds {R Q : Type 0} (w : WorldOver R Q) : Type 0 where
  pub signatures : FindSignatures w
  -- What is found by name is the signature to which the name refers.
  pub referred : (outer : Option Bytes) (name : Bytes) (g : Signature) (f : FuncId)
      → signature_named w.lexicon.resolved.declared outer name ≡ Some g → func_named w outer name ≡ Some f
      → (signature_at w f).signature ≡ g
  -- A name that a protocol declares is that of an associated type of it.
  pub associated : (p a : Bytes) (i : ℕ) → protocol_of w.lexicon.resolved.declared p ≡ Some i
      → declares w.lexicon.resolved.declared i a ≡ true
      → HasAssociated w.lexicon p a

-- ---- what is written

-- The relation holds of the items one by one.
abbrev pub OneByOne : {A B : Type 0} → (A → B → Type 0) → List A → List B → Type 0
OneByOne Is [] [] = Unit {0}
OneByOne Is (x ∷ xs) (y ∷ ys) = Is x y × OneByOne Is xs ys
OneByOne Is _ _ = ⊥

-- Calls that are written in these bytes, of the signatures of a world.
module _ {R Q : Type 0} (w : WorldOver R Q) (text : Bytes) where
  -- The type parameter is the written type on the signature: it begins with the generic parameter of that name, and has the steps that
  -- are written.
  pub record SaysType (f : FuncId) (u : Term) (t : TypeDecl) : Type 0 where
    pub param : ParamId
    pub head : param_of_signature w f (word text t.head) ≡ Some param
    pub steps : SaysFrom text w.lexicon param u t.steps

  -- The step is a name that is no name of the world.
  abbrev pub IsUnknown : StepDecl → Type 0
  IsUnknown (decls.Plain a) = Contains w.lexicon.names (word text a) → ⊥
  IsUnknown (decls.Bound p a) = ⊥

  abbrev pub HasUnknown : List StepDecl → Type 0
  HasUnknown ds = (y : StepDecl) × Contains ds y × IsUnknown y

  -- Where the world has each name of the type, it is a type parameter; where it lacks one, it is None.
  abbrev pub SaysArgument : FuncId → Option Term → TypeDecl → Type 0
  SaysArgument f (Some u) t = SaysType f u t
  SaysArgument f None t = HasUnknown t.steps

  -- The call is the one that is written.
  pub record SaysCall (c : TermCall) (d : CallDecl) : Type 0 where
    pub caller : IsNamedAt w (option_map (word text) d.caller_outer) (word text d.caller) c.f
    pub callee : IsNamedAt w (option_map (word text) d.callee_outer) (word text d.callee) c.g
    pub args : OneByOne (SaysArgument c.f) c.args d.args

  -- The calls are those that are written, one by one.
  abbrev pub SayCalls : List TermCall → List CallDecl → Type 0
  SayCalls cs ds = OneByOne SaysCall cs ds

-- What the private functions that walk a text answer, part by part: the names in each, and what each makes a protocol inherit.
use Rattle.std.specs.Prelude.{ℕ, cond, ◌&&◌, List, [], ◌∷◌, ◌++◌}
use Rattle.std.specs.List.{flat_map}
use Rattle.std.specs.Str.{bytes_eq}
use Rattle.swreq_decl.specs.declared.skeleton.Entity.{Entity}
use Rattle.swreq_decl.specs.declared.skeleton.StepDecl.{StepDecl}
use Rattle.swreq_decl.specs.declared.skeleton.TypeDecl.{TypeDecl}
use Rattle.swreq_decl.specs.declared.skeleton.ReqDecl.{ReqDecl}
use Rattle.swreq_decl.specs.declared.skeleton.ReqDecl.TheVariants as requirements
use Rattle.swreq_decl.specs.declared.skeleton.AssocDecl.{AssocDecl}
use Rattle.swreq_decl.specs.declared.skeleton.ProtocolDecl.{ProtocolDecl}
use Rattle.swreq_decl.specs.declared.skeleton.ParamDecl.{ParamDecl}
use Rattle.swreq_decl.specs.declared.skeleton.FunctionDecl.{FunctionDecl}
use Rattle.swreq_decl.specs.declared.skeleton.StructDecl.{StructDecl}
use Rattle.swreq_decl.specs.declared.skeleton.Ask.{Ask}
use Rattle.swreq_decl.specs.declared.skeleton.Ask.TheVariants as asks
use Rattle.swreq_decl.specs.declared.skeleton.QueryDecl.{QueryDecl}
use Rattle.swreq_decl.specs.declared.skeleton.Skeleton.{Skeleton}
use Rattle.swreq_names.specs.Inheritance.{is_bare, named_in}
use Rattle.swreq_names.specs.Mentioned.{member_of}
use Rattle.swreq_names.specs.Spaces.{word, Spaces, self_bytes}

-- ---- names

module _ (text : List ℕ) where
  abbrev pub in_step : StepDecl → List (List ℕ)
  in_step s = word text (member_of s) ∷ []

  abbrev pub in_type : TypeDecl → List (List ℕ)
  in_type t = flat_map in_step t.steps

  abbrev pub in_entity : Entity → List (List ℕ)
  in_entity e = flat_map in_type e.args

  abbrev pub in_bounds : List Entity → List (List ℕ)
  in_bounds es = flat_map in_entity es

  abbrev pub in_requirement : ReqDecl → List (List ℕ)
  in_requirement (requirements.Bound t bounds) = in_type t ++ in_bounds bounds
  in_requirement (requirements.Same t u) = in_type t ++ in_type u

  abbrev pub in_clause : List ReqDecl → List (List ℕ)
  in_clause rs = flat_map in_requirement rs

  abbrev pub in_member : AssocDecl → List (List ℕ)
  in_member m = (word text m.name ∷ []) ++ (in_bounds m.inherits ++ in_clause m.clause)

  abbrev pub in_protocol : ProtocolDecl → List (List ℕ)
  in_protocol p = in_bounds p.inherits ++ (in_clause p.clause ++ flat_map in_member p.members)

  abbrev pub in_param : ParamDecl → List (List ℕ)
  in_param g = in_bounds g.bounds

  abbrev pub in_function : FunctionDecl → List (List ℕ)
  in_function f = flat_map in_param f.params ++ in_clause f.clause

  abbrev pub in_struct : StructDecl → List (List ℕ)
  in_struct s = flat_map in_param s.params ++ (in_clause s.clause ++ flat_map in_function s.functions)

  abbrev pub in_ask : Ask → List (List ℕ)
  in_ask asks.Signature = []
  in_ask (asks.Reduced t) = in_type t
  in_ask (asks.Is t bound) = in_type t ++ in_entity bound
  in_ask (asks.Same t u) = in_type t ++ in_type u

  abbrev pub in_query : QueryDecl → List (List ℕ)
  in_query q = in_ask q.ask

  -- the names of a text; `mentioned` has the same
  abbrev pub walked : Skeleton → List (List ℕ)
  walked s =
      flat_map in_protocol s.protocols
      ++ (flat_map in_struct s.structs ++ (flat_map in_function s.functions ++ flat_map in_query s.queries))

-- ---- inheritance

module _ (text : List ℕ) (d : Spaces) where
  -- what the requirement binds the bare `Self` to
  abbrev pub inherited_in : ReqDecl → List ℕ
  inherited_in (requirements.Bound t bounds) = cond (bytes_eq self_bytes (word text t.head) && is_bare t.steps) (named_in text d bounds) []
  inherited_in (requirements.Same t u) = []

  abbrev pub inherited_in_clause : List ReqDecl → List ℕ
  inherited_in_clause rs = flat_map inherited_in rs

  -- the protocols that this one inherits directly, as `direct` says
  abbrev pub walked_direct : ProtocolDecl → List ℕ
  walked_direct p = named_in text d p.inherits ++ (inherited_in_clause p.clause ++ flat_map (λ m. inherited_in_clause m.clause) p.members)

-- The type parameters that written types stand for.
use Rattle.std.specs.Prelude.{ℕ, cond, List, Option, map, unwrap_or}
use Rattle.std.specs.Option.{option_map}
use Rattle.std.specs.Str.{bytes_eq}
use Rattle.swreq_param.specs.declared.ids.ParamId.{ParamId}
use Rattle.swreq_param.specs.declared.ids.Step.{Step}
use Rattle.swreq_param.specs.declared.ids.Step.TheVariants as steps
use Rattle.swreq_param.specs.Terms.{Term, self_param, self, with_steps}
use Rattle.swreq_param.specs.Terms.Term.{Generic, Member}
use Rattle.swreq_lexicon.specs.swreq_decl.declared.skeleton.Span.{Span}
use Rattle.swreq_lexicon.specs.swreq_decl.declared.skeleton.StepDecl.{StepDecl}
use Rattle.swreq_lexicon.specs.swreq_decl.declared.skeleton.StepDecl.TheVariants as decls
use Rattle.swreq_lexicon.specs.swreq_decl.declared.skeleton.TypeDecl.{TypeDecl}
use Rattle.swreq_lexicon.specs.swreq_names.declared.signature.Signature.{Signature}
use Rattle.swreq_lexicon.specs.swreq_names.declared.signature.Param.{Param}
use Rattle.swreq_lexicon.specs.swreq_names.declared.signature.Param.TheVariants.{Outer, Own}
use Rattle.swreq_lexicon.specs.swreq_names.Spaces.{word, param_of, self_bytes}
use Rattle.swreq_lexicon.specs.Lexicons.{assoc_by}
use Rattle.swreq_lowering.specs.declared.context.Context.{Context}
use Rattle.swreq_lowering.specs.declared.context.Context.TheVariants as contexts
use Rattle.swreq_lowering.specs.Signatures.{own_depth}
use Rattle.swreq_lowering.specs.Words.{WordsView, declared, proto_of, name_of}

-- `.A`, or in a query also `.[P]A`
abbrev pub step_of : WordsView → StepDecl → Step
step_of w (decls.Plain a) = steps.Name (name_of w a)
step_of w (decls.Bound p a) = steps.Bound (assoc_by w.lexicon.associated (proto_of w p) (name_of w a))

-- the unbound member T.A
abbrev pub member_named : WordsView → Term → Span → Term
member_named w t a = Member t (steps.Name (name_of w a))

-- The first word of a type in a protocol is `Self`, which is τ_0_0, or a member name A, which stands for `Self.A`.
abbrev pub protocol_head : WordsView → Span → Term
protocol_head w s = cond (bytes_eq self_bytes (word w.text s)) self (member_named w self s)

-- ---- generic parameters

-- the generic parameter of a signature, whose own generic parameters have this depth; those of the struct around it have depth 0
abbrev pub param_id : ℕ → Param → ParamId
param_id depth (Outer k) = record { depth = 0; index = k }
param_id depth (Own k) = record { depth = depth; index = k }

-- the one that a name refers to
abbrev pub param_named : WordsView → Signature → List ℕ → Option ParamId
param_named w g name = option_map (param_id (own_depth w.skeleton g)) (param_of (declared w) g name)

-- The first word of a type in a signature: one of its generic parameters, or τ_0_0 where it is not one. Where the names of a text resolve,
-- it is one.
abbrev pub signature_head : WordsView → Signature → Span → Term
signature_head w g s = Generic (unwrap_or (param_named w g (word w.text s)) self_param)

-- ---- types

abbrev pub head_in : WordsView → Context → Span → Term
head_in w contexts.Protocol = protocol_head w
head_in w (contexts.Signature g) = signature_head w g

-- the type parameter that a type stands for where it is written
abbrev pub type_in : WordsView → Context → TypeDecl → Term
type_in w context t = with_steps (head_in w context t.head) (map (step_of w) t.steps)

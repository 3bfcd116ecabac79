-- What the queries of a text ask.
use Rattle.std.specs.Prelude.{ℕ, List, Option, Some, None}
use Rattle.std.specs.Option.{option_map}
use Rattle.swreq_param.specs.Terms.{Term}
use Rattle.swreq_lexicon.specs.swreq_derive.Derivation.{TermRequirement}
use Rattle.swreq_lexicon.specs.swreq_derive.Derivation.TermRequirement.{Equals}
use Rattle.swreq_lexicon.specs.swreq_decl.declared.skeleton.Span.{Span}
use Rattle.swreq_lexicon.specs.swreq_decl.declared.skeleton.Ask.{Ask}
use Rattle.swreq_lexicon.specs.swreq_decl.declared.skeleton.Ask.TheVariants as asks
use Rattle.swreq_lexicon.specs.swreq_decl.declared.skeleton.QueryDecl.{QueryDecl}
use Rattle.swreq_lexicon.specs.swreq_names.declared.signature.Signature.{Signature}
use Rattle.swreq_lexicon.specs.swreq_names.declared.signature.Signature.TheVariants.{Function}
use Rattle.swreq_lexicon.specs.swreq_names.Spaces.{Spaces, word, signature_of, nested_of}
use Rattle.swreq_lowering.specs.declared.ids.FuncId.{FuncId}
use Rattle.swreq_lowering.specs.declared.context.Context.TheVariants as contexts
use Rattle.swreq_lowering.specs.Words.{WordsView, declared}
use Rattle.swreq_lowering.specs.Types.{type_in}
use Rattle.swreq_lowering.specs.Requirements.{bound_of}
use Rattle.swreq_lowering.specs.Signatures.{func_id}

-- what is asked of a signature: its minimised signature, the reduced type of T, or whether a requirement is derivable
pub data TermAsks : Type 0 where
  AsksSignature : TermAsks
  AsksReduced : (t : Term) → TermAsks
  AsksRequirement : (r : TermRequirement) → TermAsks

-- a query on the signature f
pub record TermQuery : Type 0 where
  pub f : FuncId
  pub asks : TermAsks

-- the struct or function at the top of this name, or the function of the struct `outer`
abbrev pub signature_named : Spaces → Option (List ℕ) → List ℕ → Option Signature
signature_named d None name = signature_of d name
signature_named d (Some outer) name = nested_of d outer name

-- the signature that is asked; where the names of a text resolve, there is one
abbrev pub asked_signature : Option Signature → Signature
asked_signature None = Function 0
asked_signature (Some g) = g

module _ (w : WordsView) where
  -- what is asked of the signature g
  abbrev pub asked_of : Signature → Ask → TermAsks
  asked_of g asks.Signature = AsksSignature
  asked_of g (asks.Reduced t) = AsksReduced (type_in w (contexts.Signature g) t)
  asked_of g (asks.Is t e) = AsksRequirement (bound_of w (type_in w (contexts.Signature g) t) e)
  asked_of g (asks.Same t u) = AsksRequirement (Equals (type_in w (contexts.Signature g) t) (type_in w (contexts.Signature g) u))

  -- the signature with these words in a query
  abbrev pub signature_in_query : Option Span → Span → Option Signature
  signature_in_query outer f = signature_named (declared w) (option_map (word w.text) outer) (word w.text f)

  -- a query, where the signatures stand in this order
  abbrev pub query_of : List Signature → QueryDecl → TermQuery
  query_of order q =
      let g : Signature = asked_signature (signature_in_query q.outer q.function) in
      record { f = func_id order g; asks = asked_of g q.ask }

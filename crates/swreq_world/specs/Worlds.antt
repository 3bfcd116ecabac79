-- What the world of a text has. Ids are ranks, that is places in its lists; signatures go by their places in the text.
-- A world is over type parameters, as a text means it, or over the ids of a table, as the code keeps it: R are its requirements, and
-- Q its queries.
use Rattle.std.specs.Prelude.{ℕ, List, [], Option, None, slice_index_or}
use Rattle.swreq_lexicon.specs.swreq_derive.declared.known.Params.{Params}
use Rattle.swreq_lexicon.specs.swreq_names.declared.signature.Signature.{Signature}
use Rattle.swreq_lexicon.specs.swreq_names.declared.signature.Signature.TheVariants.{Function}
use Rattle.swreq_param.specs.declared.ids.ProtoId.{ProtoId}
use Rattle.swreq_lexicon.specs.Views.{LexiconView}
use Rattle.swreq_lowering.specs.declared.ids.FuncId.{FuncId}
use Rattle.swreq_lowering.specs.declared.ids.Written.{Written}
use Rattle.swreq_lowering.specs.declared.ids.Query.{Query}
use Rattle.swreq_lowering.specs.Requirements.{PlacedRequirement}
use Rattle.swreq_lowering.specs.Queries.{TermQuery}

pub record SignatureOver (R : Type 0) : Type 0 where
  -- which struct or function it is
  pub signature : Signature
  pub name : List ℕ
  -- the struct around it
  pub outer : Option FuncId
  -- the depth of its own generic parameters, and how many have depth 0 and depth 1
  pub own_depth : ℕ
  pub params : Params
  -- in written order; those of a struct stand before those of its function
  pub requirements : List R

pub record WorldOver (R Q : Type 0) : Type 0 where
  -- protocols, names, associated types and member symbols by rank, what names refer to, and which protocol inherits which
  pub lexicon : LexiconView
  -- the requirements of each protocol, by rank, in written order
  pub requirements : List (List R)
  -- the signatures in written order
  pub signatures : List (SignatureOver R)
  -- the queries in written order
  pub queries : List Q

abbrev pub TextWorld : Type 0
TextWorld = WorldOver PlacedRequirement TermQuery

-- what contracts see of a World
abbrev pub IdWorld : Type 0
IdWorld = WorldOver Written Query

-- ---- what stands at an id

abbrev pub requirements_of : {R Q : Type 0} → WorldOver R Q → ProtoId → List R
requirements_of w p = slice_index_or w.requirements p.rank []

abbrev pub no_signature : {R : Type 0} → SignatureOver R
no_signature =
    record { signature = Function 0; name = []; outer = None; own_depth = 0; params = record { outer = 0; inner = 0 }; requirements = [] }

abbrev pub signature_at : {R Q : Type 0} → WorldOver R Q → FuncId → SignatureOver R
signature_at w f = slice_index_or w.signatures f.place no_signature

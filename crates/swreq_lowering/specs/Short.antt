-- The lists of a skeleton are no longer than its text.
use Rattle.std.specs.Prelude.{ℕ, ◌≤◌, List, [], All, length, slice_index_or}
use Rattle.swreq_lexicon.specs.swreq_decl.declared.skeleton.Skeleton.{Skeleton}
use Rattle.swreq_lexicon.specs.swreq_names.declared.signature.Signature.{Signature}
use Rattle.swreq_lexicon.specs.swreq_names.Spaces.{spaces}
use Rattle.swreq_lexicon.specs.Texts.{IsSmall}
use Rattle.swreq_lowering.specs.Requirements.{in_protocol, in_struct, in_function, in_nested}
use Rattle.swreq_lowering.specs.Words.{WordsView}
use Rattle.swreq_lowering.specs.Signatures.{in_order, outer_param_decls, own_param_decls}
use Rattle.swreq_lowering.specs.Small.{HasFewParams}

-- A text of at most 1,048,576 bytes has no more protocols, associated types, names, signatures and generic parameters than that.
pub record HasShortLists (text : List ℕ) (s : Skeleton) : Type 0 where
  pub lexicon : IsSmall text s
  pub declared : HasFewParams (spaces text s)
  pub functions_of : (i : ℕ) → length (slice_index_or (spaces text s).nested i []) ≤ 1048576
  pub signatures : length (in_order s) ≤ 1048576
  pub outer : (g : Signature) → length (outer_param_decls s g) ≤ 1048576
  pub own : (g : Signature) → length (own_param_decls s g) ≤ 1048576
  pub structs : All (λ t. length t.params ≤ 1048576) s.structs
  pub functions : All (λ f. length f.params ≤ 1048576) s.functions
  pub nested : All (λ t. All (λ f. length f.params ≤ 1048576) t.functions) s.structs

-- Nor does it write more requirements in a protocol, or in a signature with the struct around it, nor more queries.
pub record HasFewRequirements (w : WordsView) : Type 0 where
  pub protocols : All (λ p. length (in_protocol w p) ≤ 1048576) w.skeleton.protocols
  pub structs : (i : ℕ) → All (λ s. length (in_struct w i s) ≤ 1048576) w.skeleton.structs
  pub functions : (i : ℕ) → All (λ f. length (in_function w i f) ≤ 1048576) w.skeleton.functions
  pub nested : (i j : ℕ) → All (λ s. All (λ f. length (in_nested w i s j f) ≤ 1048576) s.functions) w.skeleton.structs
  pub queries : length w.skeleton.queries ≤ 1048576

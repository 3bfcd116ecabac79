-- What is written in each signature itself.
use Rattle.std.specs.Prelude.{ℕ, List, [], Option, Some, None, slice_get}
use Rattle.swreq_lexicon.specs.swreq_decl.declared.skeleton.FunctionDecl.{FunctionDecl}
use Rattle.swreq_lexicon.specs.swreq_names.declared.signature.Signature.{Signature}
use Rattle.swreq_lexicon.specs.swreq_names.declared.signature.Signature.TheVariants.{Struct, Function, Nested}
use Rattle.swreq_lowering.specs.Requirements.{PlacedRequirement, in_inner}
use Rattle.swreq_lowering.specs.Signatures.{functions_of, own_depth, params_of}
use Rattle.swreq_lowering.specs.Words.{WordsView}
use Rattle.swreq_world.specs.Text.{name_of, of_function, of_struct, outer_of}
use Rattle.swreq_world.specs.Worlds.{SignatureOver}

module _ (w : WordsView) where
  abbrev pub of_inner : ℕ → ℕ → Option FunctionDecl → List PlacedRequirement
  of_inner i j None = []
  of_inner i j (Some f) = in_inner w i j f

  -- the own requirements of a signature
  abbrev pub own_list : Signature → List PlacedRequirement
  own_list (Struct i) = of_struct w i (slice_get w.skeleton.structs i)
  own_list (Function i) = of_function w i (slice_get w.skeleton.functions i)
  own_list (Nested i j) = of_inner i j (slice_get (functions_of (slice_get w.skeleton.structs i)) j)

  -- the signature with them alone
  abbrev pub own_signature : List Signature → Signature → SignatureOver PlacedRequirement
  own_signature order g = record {
    signature = g;
    name = name_of w g;
    outer = outer_of order g;
    own_depth = own_depth w.skeleton g;
    params = params_of w.skeleton g;
    requirements = own_list g;
  }

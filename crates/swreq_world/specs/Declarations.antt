-- The declarations of signatures.
use Rattle.std.specs.Prelude.{◌≡◌, ℕ, Option, Some, None, slice_get}
use Rattle.std.specs.Option.{option_map}
use Rattle.swreq_lexicon.specs.swreq_decl.declared.skeleton.StructDecl.{StructDecl}
use Rattle.swreq_lexicon.specs.swreq_decl.declared.skeleton.Skeleton.{Skeleton}
use Rattle.swreq_lexicon.specs.swreq_decl.Signatures as declared
use Rattle.swreq_lexicon.specs.swreq_decl.Signatures.{of_struct, of_inner, of_function}
use Rattle.swreq_lexicon.specs.swreq_names.declared.signature.Signature.{Signature}
use Rattle.swreq_lexicon.specs.swreq_names.declared.signature.Signature.TheVariants.{Struct, Function, Nested}

-- the j-th function of a struct
abbrev pub nested_declaration : Option StructDecl → ℕ → Option declared.SignatureDecl
nested_declaration None j = None
nested_declaration (Some s) j = option_map (of_inner s) (slice_get s.functions j)

-- the struct, the function of a struct or the function at the top that a signature is of
abbrev pub declaration_of : Skeleton → Signature → Option declared.SignatureDecl
declaration_of s (Struct i) = option_map of_struct (slice_get s.structs i)
declaration_of s (Function k) = option_map of_function (slice_get s.functions k)
declaration_of s (Nested i j) = nested_declaration (slice_get s.structs i) j

-- The skeleton declares the signature.
abbrev pub HasSignature : Skeleton → Signature → Type 0
HasSignature s g = (d : declared.SignatureDecl) × (declaration_of s g ≡ Some d)

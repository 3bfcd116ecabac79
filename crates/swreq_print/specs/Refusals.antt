-- The lines of refusals, each with its line feed.
use Rattle.std.specs.Prelude.{ℕ, List, ◌++◌, codes, decimal}
use Rattle.swreq_lexicon.specs.swreq_decl.declared.kind.Kind.{Kind}
use Rattle.swreq_lexicon.specs.swreq_decl.declared.kind.Kind.TheVariants as kinds
use Rattle.swreq_print.specs.declared.refusal.RefusalKind.{RefusalKind}
use Rattle.swreq_print.specs.declared.refusal.RefusalKind.TheVariants as refusals

-- what is not supported
abbrev pub kind_text : Kind → List ℕ
kind_text kinds.Parameters = codes "parameters"
kind_text kinds.Body = codes "body"
kind_text kinds.LongType = codes "long type"
kind_text kinds.Class = codes "class"
kind_text kinds.Struct = codes "struct"
kind_text kinds.Enum = codes "enum"
kind_text kinds.Actor = codes "actor"
kind_text kinds.Extension = codes "extension"
kind_text kinds.Typealias = codes "typealias"
kind_text kinds.Import = codes "import"
kind_text kinds.Member = codes "member"
kind_text kinds.Existential = codes "existential"
kind_text kinds.ParameterPack = codes "parameter pack"
kind_text kinds.Metatype = codes "metatype"
kind_text kinds.Effect = codes "effect"
kind_text kinds.Attribute = codes "attribute"
kind_text kinds.Backtick = codes "backtick"
kind_text kinds.SuppressedRequirement = codes "suppressed requirement"
kind_text kinds.Optional = codes "optional"
kind_text kinds.Array = codes "array"
kind_text kinds.Tuple = codes "tuple"
kind_text kinds.Arrow = codes "arrow"
kind_text kinds.DefaultValue = codes "default"
kind_text kinds.GenericArguments = codes "generic arguments"

-- a refusal at an offset of the input
abbrev pub placed_line : List ℕ → ℕ → List ℕ
placed_line what at = codes "error: " ++ (what ++ (codes " at " ++ (decimal at ++ codes "\n")))

abbrev pub refusal_line : RefusalKind → List ℕ
refusal_line refusals.TooLarge = codes "error: text longer than 1048576 bytes\n"
refusal_line refusals.MissingPart = codes "error: no second part\n"
refusal_line (refusals.NotUtf8 at) = placed_line (codes "not UTF-8") at
refusal_line (refusals.BadCharacter at) = placed_line (codes "bad character") at
refusal_line (refusals.OpenComment at) = placed_line (codes "open comment") at
refusal_line (refusals.Syntax at) = placed_line (codes "syntax") at
refusal_line (refusals.Unsupported at kind) = placed_line (codes "unsupported " ++ kind_text kind) at
refusal_line (refusals.Duplicate at) = placed_line (codes "duplicate name") at
refusal_line (refusals.NotAProtocol at) = placed_line (codes "not a protocol") at
refusal_line (refusals.ConcreteType at) = placed_line (codes "concrete type") at
refusal_line (refusals.NoSuchMember at) = placed_line (codes "no such member") at
refusal_line (refusals.UnknownSignature at) = placed_line (codes "unknown signature") at
refusal_line (refusals.WrongArity at) = placed_line (codes "wrong number of arguments") at
refusal_line (refusals.Cycle at) = placed_line (codes "circular inheritance") at
refusal_line (refusals.DerivationSyntax line) = codes "error: derivation syntax at line " ++ (decimal line ++ codes "\n")
refusal_line (refusals.NotATypeParameter at) = placed_line (codes "not a type parameter") at
refusal_line (refusals.LimitRules max) = codes "error: more than " ++ (decimal max ++ codes " rules\n")
refusal_line (refusals.LimitLength max) = codes "error: rule longer than " ++ (decimal max ++ codes " symbols\n")
refusal_line refusals.ReadFault = codes "error: read fault\n"
refusal_line refusals.OutOfMemory = codes "error: out of memory\n"
refusal_line refusals.Usage =
    codes "usage: genreq (answer | signatures | rules | gen N | explain | verify | paths | calls | requirements) "
    ++ codes "[--max-rules N] [--max-length N] [--trace]\n"

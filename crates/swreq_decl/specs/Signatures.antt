-- The signatures of a skeleton in written order.
use Rattle.std.specs.Prelude.{ℕ, Bool, not, nat_lt, List, [], ◌∷◌, ◌++◌, map, filter}
use Rattle.swreq_lex.specs.declared.token.Token as lexed
use Rattle.swreq_lex.specs.Tokens.{HasTokens}
use Rattle.swreq_grammar.specs.Grammar.{Matches}
use Rattle.swreq_decl.specs.declared.skeleton.FunctionDecl.{FunctionDecl}
use Rattle.swreq_decl.specs.declared.skeleton.StructDecl.{StructDecl}
use Rattle.swreq_decl.specs.declared.skeleton.Item.{Item}
use Rattle.swreq_decl.specs.declared.skeleton.Item.TheVariants as items
use Rattle.swreq_decl.specs.declared.skeleton.Skeleton.{Skeleton}
use Rattle.swreq_decl.specs.Terminals.{number, with_terminals}
use Rattle.swreq_decl.specs.Source.{source}

-- a signature: that of a struct, of a function of a struct, or of a function at the top
pub data SignatureDecl : Type 0 where
  of_struct : StructDecl → SignatureDecl
  of_inner : StructDecl → FunctionDecl → SignatureDecl
  of_function : FunctionDecl → SignatureDecl

-- a struct stands before its functions
abbrev pub with_functions : StructDecl → List SignatureDecl
with_functions s = of_struct s ∷ map (λ f. of_inner s f) s.functions

-- the function stands before the struct: its name does
abbrev pub stands_before : StructDecl → FunctionDecl → Bool
stands_before s f = nat_lt f.name.start s.name.start

-- these structs and functions, each list in written order, as one list in written order: before each struct the functions
-- that stand before it
abbrev pub merged : List StructDecl → List FunctionDecl → List SignatureDecl
merged [] fs = map (λ f. of_function f) fs
merged (s ∷ ss) fs =
    map (λ f. of_function f) (filter (stands_before s) fs) ++ (with_functions s ++ merged ss (filter (λ f. not (stands_before s f)) fs))

-- The signatures of a skeleton, whose lists keep structs and functions apart, in written order.
abbrev pub signature_decls : Skeleton → List SignatureDecl
signature_decls skeleton = merged skeleton.structs skeleton.functions

-- the signatures of a part of the text
abbrev pub item_signatures : Item → List SignatureDecl
item_signatures (items.Struct s) = with_functions s
item_signatures (items.Function f) = of_function f ∷ []
item_signatures (items.Protocol p) = []
item_signatures (items.Query q) = []

-- The text has these parts, in written order.
abbrev pub HasParts : List ℕ → List Item → Type 0
HasParts text parts = (found : List lexed.Token) × HasTokens text found × Matches number source (with_terminals text found) parts

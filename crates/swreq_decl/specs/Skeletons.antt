-- The skeleton that stands for a text, the refusal of a text outside the grammar, and exact answers.
use Rattle.std.specs.Prelude.{◌≡◌, ℕ, List, [], ◌∷◌, length, Option, Some, None, Result, Ok, Err, ◌⊎◌}
use Rattle.std.specs.List.{filter_map}
use Rattle.swreq_lex.specs.declared.token.Token as lexed
use Rattle.swreq_lex.specs.Tokens.{HasTokens}
use Rattle.swreq_grammar.specs.declared.token.Token.{Token}
use Rattle.swreq_grammar.specs.declared.stop.Stop.{Stop}
use Rattle.swreq_grammar.specs.declared.stop.Stop.TheVariants as stops
use Rattle.swreq_grammar.specs.Grammar.{Matches}
use Rattle.swreq_grammar.specs.Reader.{Fault}
use Rattle.swreq_grammar.specs.Refusal.{Refuses}
use Rattle.swreq_decl.specs.declared.terminal.Terminal.{Terminal}
use Rattle.swreq_decl.specs.declared.kind.Kind.{Kind}
use Rattle.swreq_decl.specs.declared.skeleton.ProtocolDecl.{ProtocolDecl}
use Rattle.swreq_decl.specs.declared.skeleton.StructDecl.{StructDecl}
use Rattle.swreq_decl.specs.declared.skeleton.FunctionDecl.{FunctionDecl}
use Rattle.swreq_decl.specs.declared.skeleton.QueryDecl.{QueryDecl}
use Rattle.swreq_decl.specs.declared.skeleton.Item.{Item}
use Rattle.swreq_decl.specs.declared.skeleton.Item.TheVariants as items
use Rattle.swreq_decl.specs.declared.skeleton.Skeleton.{Skeleton}
use Rattle.swreq_decl.specs.declared.refusal.ParseErr.{ParseErr}
use Rattle.swreq_decl.specs.declared.refusal.ParseErr.TheVariants as errors
use Rattle.swreq_decl.specs.Terminals.{number, with_terminals}
use Rattle.swreq_decl.specs.Kinds.{kind_by_token}
use Rattle.swreq_decl.specs.Source.{source}

-- ---- skeletons

abbrev pub protocol_of : Item → Option ProtocolDecl
protocol_of (items.Protocol p) = Some p
protocol_of _ = None

abbrev pub struct_of : Item → Option StructDecl
struct_of (items.Struct s) = Some s
struct_of _ = None

abbrev pub function_of : Item → Option FunctionDecl
function_of (items.Function f) = Some f
function_of _ = None

abbrev pub query_of : Item → Option QueryDecl
query_of (items.Query q) = Some q
query_of _ = None

-- The skeleton lists the parts of each kind in written order. The functions of a struct stand in it alone.
abbrev pub skeleton_of : List Item → Skeleton
skeleton_of parts = record {
  protocols = filter_map protocol_of parts;
  structs = filter_map struct_of parts;
  functions = filter_map function_of parts;
  queries = filter_map query_of parts;
}

-- The skeleton stands for the tokens: they are a source of the grammar with these parts.
abbrev pub IsSource : List (Token Terminal) → Skeleton → Type 0
IsSource ts skeleton = (parts : List Item) × Matches number source ts parts × (skeleton ≡ skeleton_of parts)

-- The skeleton stands for the text: it does for the text's tokens.
abbrev pub StandsFor : List ℕ → Skeleton → Type 0
StandsFor text skeleton = (found : List lexed.Token) × HasTokens text found × IsSource (with_terminals text found) skeleton

-- ---- refusals

-- where the first token of the rest starts, or the end of the text
abbrev pub start_of : ℕ → List (Token Terminal) → ℕ
start_of end [] = end
start_of end (t ∷ rest) = t.start

-- the kind of a refusal with this label at the first token of the rest; at the end of the text it is a syntax error
abbrev pub refused_kind : Option Kind → List (Token Terminal) → Option Kind
refused_kind label [] = None
refused_kind (Some kind) (t ∷ rest) = Some kind
refused_kind None (t ∷ rest) = kind_by_token t.terminal

-- The tokens are refused at this place, for this kind; with no kind it is a syntax error.
abbrev pub AreRefused : ℕ → List (Token Terminal) → ℕ → Option Kind → Type 0
AreRefused end ts at kind =
    (fault : Fault Terminal Kind) × Refuses number source ts fault × (at ≡ start_of end fault.0) × (kind ≡ refused_kind fault.1 fault.0)

-- The text has tokens, and they are refused at this place, for this kind.
abbrev pub RefusedFor : List ℕ → ℕ → Option Kind → Type 0
RefusedFor text at kind = (found : List lexed.Token) × HasTokens text found × AreRefused (length text) (with_terminals text found) at kind

-- the refusal with this kind, or a syntax error
abbrev pub refused : ℕ → Option Kind → ParseErr
refused at None = errors.Syntax at
refused at (Some kind) = errors.Unsupported at kind

abbrev pub error_of : ℕ → Stop Terminal Kind → ParseErr
error_of end stops.Memory = errors.Memory
error_of end (stops.Refused rest label) = refused (start_of end rest.now) (refused_kind label rest.now)

-- ---- exact answers

-- This is the answer if and only if the fact holds, unless memory ran out.
abbrev pub Exactly : Type 0 → (answer result : Result Skeleton ParseErr) → Type 0
Exactly fact answer result = (result ≡ answer → fact) × (fact → (result ≡ answer) ⊎ (result ≡ Err errors.Memory))

-- What is answered for the tokens of a text with this end is true.
abbrev pub Tells : ℕ → List (Token Terminal) → Result Skeleton ParseErr → Type 0
Tells end ts (Ok skeleton) = IsSource ts skeleton
Tells end ts (Err errors.Memory) = Unit {0}
Tells end ts (Err (errors.Lex fault)) = ⊥
Tells end ts (Err (errors.Syntax at)) = AreRefused end ts at None
Tells end ts (Err (errors.Unsupported at kind)) = AreRefused end ts at (Some kind)

-- The grammar of calls, which is a second start line over the lines of the source (docs/LANGUAGE.md); the calls for which a part of a text
-- stands, and where another part is refused.
use Rattle.std.specs.Prelude.{◌≡◌, ℕ, List, [], ◌∷◌, length, Option, Result, Ok, Err, Vec}
use Rattle.std.specs.declared.alloc.Global.{Global}
use Rattle.swreq_lex.specs.declared.token.Token as lexed
use Rattle.swreq_lex.specs.Tokens.{HasTokensFrom}
use Rattle.swreq_lex.specs.Refusals.{HasRefusalFrom}
use Rattle.swreq_grammar.specs.declared.token.Token.{Token}
use Rattle.swreq_grammar.specs.declared.stop.Stop.{Stop}
use Rattle.swreq_grammar.specs.declared.stop.Stop.TheVariants as stops
use Rattle.swreq_grammar.specs.Grammar.{unlimited, mapped, sequence, repetition, Matches}
use Rattle.swreq_grammar.specs.Reader.{Fault}
use Rattle.swreq_grammar.specs.Refusal.{Refuses}
use Rattle.swreq_decl.specs.declared.terminal.Terminal.{Terminal}
use Rattle.swreq_decl.specs.declared.terminal.Terminal.TheVariants.{Comma, Colon}
use Rattle.swreq_decl.specs.declared.kind.Kind.{Kind}
use Rattle.swreq_decl.specs.declared.skeleton.Span.{Span}
use Rattle.swreq_decl.specs.declared.skeleton.TypeDecl.{TypeDecl}
use Rattle.swreq_decl.specs.declared.skeleton.CallDecl.{CallDecl}
use Rattle.swreq_decl.specs.declared.refusal.ParseErr.{ParseErr}
use Rattle.swreq_decl.specs.declared.refusal.ParseErr.TheVariants as errors
use Rattle.swreq_decl.specs.Terminals.{number, with_terminals}
use Rattle.swreq_decl.specs.Source.{Line, mark, after, before, or_else, separated, in_parentheses, semicolon, qtype, sname}
use Rattle.swreq_decl.specs.Skeletons.{start_of}

-- ---- the lines

-- qtype ("," qtype)*
unfoldable pub qtypes : Line (List TypeDecl)
qtypes = separated (Comma ∷ []) qtype

-- (qtype ("," qtype)*)?
unfoldable pub call_types : Line (List TypeDecl)
call_types = or_else [] qtypes

abbrev pub call_decl : (Option Span × Span) × ((Option Span × Span) × List TypeDecl) → CallDecl
call_decl p = record { caller_outer = p.0.0; caller = p.0.1; callee_outer = p.1.0.0; callee = p.1.0.1; args = p.1.1 }

-- call = sname ":" sname "(" (qtype ("," qtype)*)? ")"
unfoldable pub call : Line CallDecl
call = mapped call_decl (sequence sname (after (mark Colon) (sequence sname (in_parentheses call_types))))

-- calls = (call ";"?)*
unfoldable pub calls : Line (List CallDecl)
calls = repetition unlimited (before call semicolon)

-- ---- calls and refusals

-- The tokens are these calls, in written order.
abbrev pub AreCalls : List (Token Terminal) → List CallDecl → Type 0
AreCalls ts found = Matches number calls ts found

-- The tokens are refused at this place, that of the first token such that no calls begin with the tokens up to and with it. Calls are
-- refused for no kind.
abbrev pub AreRefused : ℕ → List (Token Terminal) → ℕ → Type 0
AreRefused end ts at = (fault : Fault Terminal Kind) × Refuses number calls ts fault × (at ≡ start_of end fault.0)

-- The part of the text from the offset on stands for these calls.
abbrev pub StandsFor : List ℕ → ℕ → List CallDecl → Type 0
StandsFor text from found = (ts : List lexed.Token) × HasTokensFrom text from ts × AreCalls (with_terminals text ts) found

-- The part has tokens, and they are refused at this place.
abbrev pub RefusedAt : List ℕ → ℕ → ℕ → Type 0
RefusedAt text from at = (ts : List lexed.Token) × HasTokensFrom text from ts × AreRefused (length text) (with_terminals text ts) at

-- This is why the part stands for no calls.
abbrev pub IsReason : List ℕ → ℕ → ParseErr → Type 0
IsReason text from errors.Memory = Unit {0}
IsReason text from (errors.Lex fault) = HasRefusalFrom text from fault
IsReason text from (errors.Syntax at) = RefusedAt text from at
IsReason text from (errors.Unsupported at kind) = ⊥

-- ---- what is answered for the tokens of a part

-- The label of a refusal is dropped.
abbrev pub error_of : ℕ → Stop Terminal Kind → ParseErr
error_of end stops.Memory = errors.Memory
error_of end (stops.Refused rest label) = errors.Syntax (start_of end rest.now)

-- What is answered for the tokens of a text with this end is true.
abbrev pub Tells : ℕ → List (Token Terminal) → Result (Vec CallDecl Global) ParseErr → Type 0
Tells end ts (Ok found) = AreCalls ts found.items
Tells end ts (Err errors.Memory) = Unit {0}
Tells end ts (Err (errors.Lex fault)) = ⊥
Tells end ts (Err (errors.Syntax at)) = AreRefused end ts at
Tells end ts (Err (errors.Unsupported at kind)) = ⊥

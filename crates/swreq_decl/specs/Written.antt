-- The source and the calls as they are written in docs/LANGUAGE.md, their lines nested as they stand there. A line that contains none
-- whose alternatives begin alike is that of `Source`.
use Rattle.std.specs.Prelude.{List, [], ◌∷◌, ◌++◌}
use Rattle.swreq_grammar.specs.declared.token.Token.{Token}
use Rattle.swreq_grammar.specs.Grammar.{unlimited, at_most, mapped, sequence, alternative, repetition, labelled, Matches}
use Rattle.swreq_decl.specs.declared.terminal.Terminal.{Terminal}
use Rattle.swreq_decl.specs.declared.terminal.Terminal.TheVariants.{Query, Protocol, AssociatedType, Func, Struct, Where, OpenBrace, CloseBrace, OpenParenthesis, CloseParenthesis, Comma, Colon, Dot, EqualEqual}
use Rattle.swreq_decl.specs.declared.kind.Kind.TheVariants.{Parameters, LongType}
use Rattle.swreq_decl.specs.declared.skeleton.Entity.{Entity}
use Rattle.swreq_decl.specs.declared.skeleton.StepDecl.{StepDecl}
use Rattle.swreq_decl.specs.declared.skeleton.TypeDecl.{TypeDecl}
use Rattle.swreq_decl.specs.declared.skeleton.ReqDecl.{ReqDecl}
use Rattle.swreq_decl.specs.declared.skeleton.ReqDecl.TheVariants as requirements
use Rattle.swreq_decl.specs.declared.skeleton.AssocDecl.{AssocDecl}
use Rattle.swreq_decl.specs.declared.skeleton.ProtocolDecl.{ProtocolDecl}
use Rattle.swreq_decl.specs.declared.skeleton.FunctionDecl.{FunctionDecl}
use Rattle.swreq_decl.specs.declared.skeleton.StructDecl.{StructDecl}
use Rattle.swreq_decl.specs.declared.skeleton.Ask.{Ask}
use Rattle.swreq_decl.specs.declared.skeleton.Ask.TheVariants as asks
use Rattle.swreq_decl.specs.declared.skeleton.QueryDecl.{QueryDecl}
use Rattle.swreq_decl.specs.declared.skeleton.CallDecl.{CallDecl}
use Rattle.swreq_decl.specs.declared.skeleton.Item.{Item}
use Rattle.swreq_decl.specs.declared.skeleton.Item.TheVariants as items
use Rattle.swreq_decl.specs.Terminals.{number}
use Rattle.swreq_decl.specs.Source.{Line, mark, after, before, in_braces, in_parentheses, or_else, separated, skipped, name, semicolon, access, written_type, qentity, bounds, primary_names, params, no_body, bound_step, plain_step, sname}
use Rattle.swreq_decl.specs.Calls.{call_decl}

-- The lines have the same texts, with the same values.
pub record SameTexts {A : Type 0} (g h : Line A) : Type 0 where
  pub onward : (ts : List (Token Terminal)) (v : A) → Matches number g ts v → Matches number h ts v
  pub back : (ts : List (Token Terminal)) (v : A) → Matches number h ts v → Matches number g ts v

-- lists, one after another
abbrev pub joined : {A : Type 0} → List (List A) → List A
joined [] = []
joined (xs ∷ rest) = xs ++ joined rest

-- inherit = ":" bounds ("," bounds)*, the bounds as one list
abbrev pub inherit : Line (List Entity)
inherit = after (mark Colon) (mapped joined (separated (Comma ∷ []) bounds))

-- requirement = type ":" bounds | type "==" type
abbrev pub requirement : Line ReqDecl
requirement = alternative
    (mapped (λ p. requirements.Bound p.0 p.1) (sequence written_type (after (mark Colon) bounds)))
    (mapped (λ p. requirements.Same p.0 p.1) (sequence written_type (after (mark EqualEqual) written_type)))

-- where = "where" requirement ("," requirement)*
abbrev pub where_clause : Line (List ReqDecl)
where_clause = after (mark Where) (separated (Comma ∷ []) requirement)

-- member = "associatedtype" name inherit? where? ";"?
abbrev pub member : Line AssocDecl
member = mapped (λ p. record { name = p.0; inherits = p.1.0; clause = p.1.1 })
    (after (mark AssociatedType) (sequence name (sequence (or_else [] inherit) (before (or_else [] where_clause) semicolon))))

-- protocol = access? "protocol" name primaries? inherit? where? "{" member* "}"
abbrev pub protocol : Line ProtocolDecl
protocol = after (skipped access)
    (mapped (λ p. record { name = p.0; primaries = p.1.0; inherits = p.1.1.0; clause = p.1.1.1.0; members = p.1.1.1.1 })
    (after (mark Protocol)
    (sequence name (sequence primary_names (sequence (or_else [] inherit) (sequence (or_else [] where_clause) (in_braces member)))))))

-- function = access? "func" name generics? "(" ")" where? ("{" "}")?
abbrev pub function : Line FunctionDecl
function = after (skipped access) (mapped (λ p. record { name = p.0; params = p.1.0; clause = p.1.1 })
    (after (mark Func) (sequence name (sequence params
    (after (mark OpenParenthesis) (after (labelled Parameters (mark CloseParenthesis)) (before (or_else [] where_clause) no_body)))))))

-- struct = access? "struct" name generics? where? "{" (function ";"?)* "}"
abbrev pub structure : Line StructDecl
structure = after (skipped access) (mapped (λ p. record { name = p.0; params = p.1.0; clause = p.1.1.0; functions = p.1.1.1 })
    (after (mark Struct) (sequence name (sequence params (sequence (or_else [] where_clause) (in_braces (before function semicolon)))))))

-- qstep = "." name | "." "[" name "]" name
abbrev pub qstep : Line StepDecl
qstep = alternative (after (mark Dot) (mapped plain_step name)) (after (mark Dot) bound_step)

-- qtype = name qstep*, with at most 1,000 steps
abbrev pub qtype : Line TypeDecl
qtype = mapped (λ p. record { head = p.0; steps = p.1 }) (sequence name (repetition (at_most 1000 LongType) qstep))

-- ask = qtype | qtype ":" qentity | qtype "==" qtype
abbrev pub ask : Line Ask
ask = alternative (mapped (λ t. asks.Reduced t) qtype) (alternative
    (mapped (λ p. asks.Is p.0 p.1) (sequence qtype (after (mark Colon) qentity)))
    (mapped (λ p. asks.Same p.0 p.1) (sequence qtype (after (mark EqualEqual) qtype))))

-- query = "query" sname "(" ask? ")"
abbrev pub query : Line QueryDecl
query = mapped (λ p. record { outer = p.0.0; function = p.0.1; ask = p.1 })
    (after (mark Query) (sequence sname (in_parentheses (or_else asks.Signature ask))))

-- item = protocol ";"? | function ";"? | struct ";"? | query ";"?
abbrev pub item : Line Item
item = alternative (before (mapped (λ p. items.Protocol p) protocol) semicolon)
    (alternative (before (mapped (λ f. items.Function f) function) semicolon)
    (alternative (before (mapped (λ s. items.Struct s) structure) semicolon)
    (before (mapped (λ q. items.Query q) query) semicolon)))

-- source = item*
abbrev pub source : Line (List Item)
source = repetition unlimited item

-- call = sname ":" sname "(" (qtype ("," qtype)*)? ")"
abbrev pub call : Line CallDecl
call = mapped call_decl
    (sequence sname (after (mark Colon) (sequence sname (in_parentheses (or_else [] (separated (Comma ∷ []) qtype))))))

-- calls = (call ";"?)*
abbrev pub calls : Line (List CallDecl)
calls = repetition unlimited (before call semicolon)

-- The grammar of the source text, one definition for each line of the written grammar (docs/LANGUAGE.md), and the parts
-- that its texts stand for.
use Rattle.std.specs.Prelude.{true, false, List, [], ◌∷◌, Option, Some, None}
use Rattle.swreq_grammar.specs.declared.token.Token.{Token}
use Rattle.swreq_grammar.specs.Grammar.{Grammar, unlimited, at_most, terminal, empty, mapped, sequence, alternative, repetition, labelled}
use Rattle.swreq_decl.specs.declared.terminal.Terminal.{Terminal}
use Rattle.swreq_decl.specs.declared.terminal.Terminal.TheVariants.{Name, Query, Protocol, AssociatedType, Func, Where, SelfType, AnyObject, Public, Internal, FilePrivate, Private, Struct, OpenBrace, CloseBrace, OpenParenthesis, CloseParenthesis, Less, Greater, Comma, Colon, Semicolon, Dot, Ampersand, EqualEqual, OpenBracket, CloseBracket}
use Rattle.swreq_decl.specs.declared.kind.Kind.{Kind}
use Rattle.swreq_decl.specs.declared.kind.Kind.TheVariants.{Parameters, Body, LongType}
use Rattle.swreq_decl.specs.declared.skeleton.Span.{Span}
use Rattle.swreq_decl.specs.declared.skeleton.Entity.{Entity}
use Rattle.swreq_decl.specs.declared.skeleton.StepDecl.{StepDecl}
use Rattle.swreq_decl.specs.declared.skeleton.StepDecl.TheVariants as steps
use Rattle.swreq_decl.specs.declared.skeleton.TypeDecl.{TypeDecl}
use Rattle.swreq_decl.specs.declared.skeleton.ReqDecl.{ReqDecl}
use Rattle.swreq_decl.specs.declared.skeleton.ReqDecl.TheVariants as requirements
use Rattle.swreq_decl.specs.declared.skeleton.AssocDecl.{AssocDecl}
use Rattle.swreq_decl.specs.declared.skeleton.ProtocolDecl.{ProtocolDecl}
use Rattle.swreq_decl.specs.declared.skeleton.ParamDecl.{ParamDecl}
use Rattle.swreq_decl.specs.declared.skeleton.FunctionDecl.{FunctionDecl}
use Rattle.swreq_decl.specs.declared.skeleton.StructDecl.{StructDecl}
use Rattle.swreq_decl.specs.declared.skeleton.Ask.{Ask}
use Rattle.swreq_decl.specs.declared.skeleton.Ask.TheVariants as asks
use Rattle.swreq_decl.specs.declared.skeleton.QueryDecl.{QueryDecl}
use Rattle.swreq_decl.specs.declared.skeleton.Item.{Item}
use Rattle.swreq_decl.specs.declared.skeleton.Item.TheVariants as items

-- a line of the grammar, with what its texts stand for
abbrev pub Line : Type 0 → Type 1
Line A = Grammar Terminal Kind A

-- ---- words for lines

-- a token of this terminal
abbrev pub mark : Terminal → Line (Token Terminal)
mark t = terminal (t ∷ [])

-- the first and then the second, which gives the value
abbrev pub after : {A B : Type 0} → Line A → Line B → Line B
after g h = mapped (λ p. p.1) (sequence g h)

-- the first, which gives the value, and then the second
abbrev pub before : {A B : Type 0} → Line A → Line B → Line A
before g h = mapped (λ p. p.0) (sequence g h)

-- x?, with the value where there is none
abbrev pub or_else : {A : Type 0} → A → Line A → Line A
or_else default g = alternative g (empty default)

-- x?, of which nothing is kept
abbrev pub skipped : {A : Type 0} → Line A → Line (Unit {0})
skipped g = or_else tt (mapped (λ x. tt) g)

-- x (s x)*, with one of the terminals for s
abbrev pub separated : {A : Type 0} → List Terminal → Line A → Line (List A)
separated separators g = mapped (λ p. p.0 ∷ p.1) (sequence g (repetition unlimited (after (terminal separators) g)))

-- "<" x ("," x)* ">"
abbrev pub in_angles : {A : Type 0} → Line A → Line (List A)
in_angles g = after (mark Less) (before (separated (Comma ∷ []) g) (mark Greater))

-- "{" x* "}"
abbrev pub in_braces : {A : Type 0} → Line A → Line (List A)
in_braces g = after (mark OpenBrace) (before (repetition unlimited g) (mark CloseBrace))

-- "(" x ")"
abbrev pub in_parentheses : {A : Type 0} → Line A → Line A
in_parentheses g = after (mark OpenParenthesis) (before g (mark CloseParenthesis))

-- the first, and the second says what its value is for
abbrev pub continued : {A B : Type 0} → Line A → Line (A → B) → Line B
continued g h = mapped (λ p. p.1 p.0) (sequence g h)

abbrev pub span : Token Terminal → Span
span t = record { start = t.start; end = t.end }

-- a name; `query` is a name too
unfoldable pub name : Line Span
name = mapped span (terminal (Name ∷ Query ∷ []))

unfoldable pub semicolon : Line (Unit {0})
semicolon = skipped (mark Semicolon)

-- ---- the lines

-- What alternatives have in common at their front is read before the choice, so that the next token tells which one it
-- is: in `inherit`, `requirement`, `ask`, `qstep`, and in `item`, where it is the access. `Written` has the lines as they
-- are written, and the whole source has the same texts and values by these and by those (the law `source_as_written`).

-- the first word of a type
unfoldable pub head : Line Span
head = mapped span (terminal (Name ∷ Query ∷ SelfType ∷ []))

abbrev pub plain_step : Span → StepDecl
plain_step s = steps.Plain s

-- type = (name | "Self") ("." name)*, with at most 1,000 steps
unfoldable pub written_type : Line TypeDecl
written_type = mapped (λ p. record { head = p.0; steps = p.1 })
    (sequence head (repetition (at_most 1000 LongType) (after (mark Dot) (mapped plain_step name))))

-- args = "<" type ("," type)* ">"
unfoldable pub args : Line (List TypeDecl)
args = in_angles written_type

-- args?
unfoldable pub arguments : Line (List TypeDecl)
arguments = or_else [] args

abbrev pub any_object : Token Terminal → Entity
any_object t = record { span = span t; layout = true; args = [] }

-- entity = name args? | "AnyObject"
unfoldable pub entity : Line Entity
entity = alternative (mapped (λ p. record { span = p.0; layout = false; args = p.1 }) (sequence name arguments))
    (mapped any_object (mark AnyObject))

-- qentity = name | "AnyObject"
unfoldable pub qentity : Line Entity
qentity = alternative (mapped (λ s. record { span = s; layout = false; args = [] }) name) (mapped any_object (mark AnyObject))

-- bounds = entity ("&" entity)*
unfoldable pub bounds : Line (List Entity)
bounds = separated (Ampersand ∷ []) entity

-- inherit = ":" bounds ("," bounds)*, the bounds as one list
unfoldable pub inherit : Line (List Entity)
inherit = after (mark Colon) (separated (Comma ∷ Ampersand ∷ []) entity)

-- requirement = type ":" bounds | type "==" type
unfoldable pub requirement : Line ReqDecl
requirement = continued written_type (alternative
    (mapped (λ found subject. requirements.Bound subject found) (after (mark Colon) bounds))
    (mapped (λ right left. requirements.Same left right) (after (mark EqualEqual) written_type)))

-- where = "where" requirement ("," requirement)*
unfoldable pub where_clause : Line (List ReqDecl)
where_clause = after (mark Where) (separated (Comma ∷ []) requirement)

-- inherit?
unfoldable pub inherits : Line (List Entity)
inherits = or_else [] inherit

-- where?
unfoldable pub conditions : Line (List ReqDecl)
conditions = or_else [] where_clause

-- member = "associatedtype" name inherit? where? ";"?
unfoldable pub member : Line AssocDecl
member = mapped (λ p. record { name = p.0; inherits = p.1.0; clause = p.1.1 })
    (after (mark AssociatedType) (sequence name (sequence inherits (before conditions semicolon))))

-- access = "public" | "internal" | "fileprivate" | "private"
unfoldable pub access : Line (Token Terminal)
access = terminal (Public ∷ Internal ∷ FilePrivate ∷ Private ∷ [])

-- primaries = "<" name ("," name)* ">"
unfoldable pub primaries : Line (List Span)
primaries = in_angles name

-- primaries?
unfoldable pub primary_names : Line (List Span)
primary_names = or_else [] primaries

-- protocol = access? "protocol" name primaries? inherit? where? "{" member* "}", here without the access
unfoldable pub protocol : Line ProtocolDecl
protocol = mapped (λ p. record { name = p.0; primaries = p.1.0; inherits = p.1.1.0; clause = p.1.1.1.0; members = p.1.1.1.1 })
    (after (mark Protocol) (sequence name (sequence primary_names (sequence inherits (sequence conditions (in_braces member))))))

-- param = name (":" bounds)?
unfoldable pub param : Line ParamDecl
param = mapped (λ p. record { name = p.0; bounds = p.1 }) (sequence name (or_else [] (after (mark Colon) bounds)))

-- generics = "<" param ("," param)* ">"
unfoldable pub generics : Line (List ParamDecl)
generics = in_angles param

-- generics?
unfoldable pub params : Line (List ParamDecl)
params = or_else [] generics

-- ("{" "}")?; any other token after the brace is refused as a body
unfoldable pub no_body : Line (Unit {0})
no_body = skipped (after (mark OpenBrace) (labelled Body (mark CloseBrace)))

-- function = access? "func" name generics? "(" ")" where? ("{" "}")?, here without the access; any other token after the
-- parenthesis is refused as parameters
unfoldable pub function : Line FunctionDecl
function = mapped (λ p. record { name = p.0; params = p.1.0; clause = p.1.1 })
    (after (mark Func) (sequence name
    (sequence params (after (mark OpenParenthesis) (after (labelled Parameters (mark CloseParenthesis)) (before conditions no_body))))))

-- function ";"?, with its access
unfoldable pub inner_function : Line FunctionDecl
inner_function = before (after (skipped access) function) semicolon

-- struct = access? "struct" name generics? where? "{" (function ";"?)* "}", here without the access
unfoldable pub structure : Line StructDecl
structure = mapped (λ p. record { name = p.0; params = p.1.0; clause = p.1.1.0; functions = p.1.1.1 })
    (after (mark Struct) (sequence name (sequence params (sequence conditions (in_braces inner_function)))))

-- "[" name "]" name
unfoldable pub bound_step : Line StepDecl
bound_step = mapped (λ p. steps.Bound p.0 p.1) (after (mark OpenBracket) (sequence name (after (mark CloseBracket) name)))

-- qstep = "." name | "." "[" name "]" name
unfoldable pub qstep : Line StepDecl
qstep = after (mark Dot) (alternative bound_step (mapped plain_step name))

-- qtype = name qstep*, with at most 1,000 steps
unfoldable pub qtype : Line TypeDecl
qtype = mapped (λ p. record { head = p.0; steps = p.1 }) (sequence name (repetition (at_most 1000 LongType) qstep))

-- ask = qtype | qtype ":" qentity | qtype "==" qtype
unfoldable pub ask : Line Ask
ask = continued qtype (alternative
    (mapped (λ bound t. asks.Is t bound) (after (mark Colon) qentity))
    (or_else (λ t. asks.Reduced t) (mapped (λ right left. asks.Same left right) (after (mark EqualEqual) qtype))))

-- ask?
unfoldable pub asked : Line Ask
asked = or_else asks.Signature ask

-- one name is of a signature at the top; of two the first is of its struct
abbrev pub of_signature : Span × Option Span → Option Span × Span
of_signature (s, None) = (None, s)
of_signature (s, Some f) = (Some s, f)

-- sname = name ("." name)?
unfoldable pub sname : Line (Option Span × Span)
sname = mapped of_signature (sequence name (or_else None (mapped (λ s. Some s) (after (mark Dot) name))))

-- query = "query" sname "(" ask? ")"
unfoldable pub query : Line QueryDecl
query = mapped (λ p. record { outer = p.0.0; function = p.0.1; ask = p.1 }) (after (mark Query) (sequence sname (in_parentheses asked)))

-- protocol | function | struct, without the access
unfoldable pub declaration : Line Item
declaration = alternative (mapped (λ p. items.Protocol p) protocol)
    (alternative (mapped (λ f. items.Function f) function) (mapped (λ s. items.Struct s) structure))

-- protocol | function | struct | query
unfoldable pub bare_item : Line Item
bare_item = alternative (after access declaration) (alternative declaration (mapped (λ q. items.Query q) query))

-- item = protocol ";"? | function ";"? | struct ";"? | query ";"?
unfoldable pub item : Line Item
item = before bare_item semicolon

-- source = item*
unfoldable pub source : Line (List Item)
source = repetition unlimited item

-- The terminal symbols of the grammar, and which terminal a token is.
use Rattle.std.specs.Prelude.{ℕ, List, [], ◌∷◌, Option, Some, None, if◌then◌else◌, take, drop, map}
use Rattle.std.specs.List.{slice_get}
use Rattle.std.specs.Str.{bytes_eq}
use Rattle.swreq_lex.specs.declared.token.Token as lexed
use Rattle.swreq_lex.specs.declared.token.TokenKind.{TokenKind}
use Rattle.swreq_lex.specs.declared.token.TokenKind.TheVariants as kinds
use Rattle.swreq_grammar.specs.declared.token.Token.{Token}
use Rattle.swreq_decl.specs.declared.terminal.Terminal.{Terminal}
use Rattle.swreq_decl.specs.declared.terminal.Terminal.TheVariants.{Name, Query, Underscore, Protocol, AssociatedType, Func, Where, SelfType, AnyObject, Public, Internal, FilePrivate, Private, Class, Struct, Enum, Actor, Extension, Typealias, Import, Var, Let, Init, Subscript, Static, Mutating, OpaqueSome, ExistentialAny, AnyType, Each, Repeat, MetatypeOf, ProtocolMetatypeOf, Async, Throws, Rethrows, OpenBrace, CloseBrace, OpenParenthesis, CloseParenthesis, Less, Greater, Comma, Colon, Semicolon, Dot, Ampersand, EqualEqual, OpenBracket, CloseBracket, At, Backtick, Tilde, Question, Exclamation, Equal, Arrow}

-- Terminals are told apart by their numbers.
abbrev pub number : Terminal → ℕ
number Name = 0
number Query = 1
number Underscore = 2
number Protocol = 3
number AssociatedType = 4
number Func = 5
number Where = 6
number SelfType = 7
number AnyObject = 8
number Public = 9
number Internal = 10
number FilePrivate = 11
number Private = 12
number Class = 13
number Struct = 14
number Enum = 15
number Actor = 16
number Extension = 17
number Typealias = 18
number Import = 19
number Var = 20
number Let = 21
number Init = 22
number Subscript = 23
number Static = 24
number Mutating = 25
number OpaqueSome = 26
number ExistentialAny = 27
number AnyType = 28
number Each = 29
number Repeat = 30
number MetatypeOf = 31
number ProtocolMetatypeOf = 32
number Async = 33
number Throws = 34
number Rethrows = 35
number OpenBrace = 36
number CloseBrace = 37
number OpenParenthesis = 38
number CloseParenthesis = 39
number Less = 40
number Greater = 41
number Comma = 42
number Colon = 43
number Semicolon = 44
number Dot = 45
number Ampersand = 46
number EqualEqual = 47
number OpenBracket = 48
number CloseBracket = 49
number At = 50
number Backtick = 51
number Tilde = 52
number Question = 53
number Exclamation = 54
number Equal = 55
number Arrow = 56

-- ---- which terminal a token is

abbrev pub or_underscore : Option Terminal → Terminal
or_underscore (Some t) = t
or_underscore None = Underscore

-- the entry of a table; past its end, where no token points, the underscore, which no text of the grammar has
abbrev pub entry : List Terminal → ℕ → Terminal
entry table n = or_underscore (slice_get table n)

-- the bytes from one offset up to another
abbrev pub slice : List ℕ → (start end : ℕ) → List ℕ
slice text start end = drop start (take end text)

-- the bytes of `query`
abbrev pub query_word : List ℕ
query_word = 113 ∷ 117 ∷ 101 ∷ 114 ∷ 121 ∷ []

abbrev pub name_or_query : List ℕ → Terminal
name_or_query word = if bytes_eq word query_word then Query else Name

-- the reserved words, in the order in which the tokens count them
abbrev pub reserved_words : List Terminal
reserved_words =
    Protocol ∷ AssociatedType ∷ Func ∷ Where ∷ SelfType ∷ AnyObject ∷ Public ∷ Internal ∷ FilePrivate ∷ Private ∷
    Class ∷ Struct ∷ Enum ∷ Actor ∷ Extension ∷ Typealias ∷ Import ∷ Var ∷ Let ∷ Init ∷ Subscript ∷ Static ∷
    Mutating ∷ OpaqueSome ∷ ExistentialAny ∷ AnyType ∷ Each ∷ Repeat ∷ MetatypeOf ∷ ProtocolMetatypeOf ∷ Async ∷
    Throws ∷ Rethrows ∷ []

-- the marks, in the order in which the tokens count them
abbrev pub marks : List Terminal
marks =
    OpenBrace ∷ CloseBrace ∷ OpenParenthesis ∷ CloseParenthesis ∷ Less ∷ Greater ∷ Comma ∷ Colon ∷ Semicolon ∷ Dot ∷
    Ampersand ∷ EqualEqual ∷ OpenBracket ∷ CloseBracket ∷ At ∷ Backtick ∷ Tilde ∷ Question ∷ Exclamation ∷ Equal ∷
    Arrow ∷ []

abbrev pub by_kind : List ℕ → TokenKind → Terminal
by_kind word kinds.Name = name_or_query word
by_kind word (kinds.Reserved n) = entry reserved_words n
by_kind word kinds.Underscore = Underscore
by_kind word (kinds.Mark n) = entry marks n

abbrev pub terminal_of : List ℕ → lexed.Token → Terminal
terminal_of text t = by_kind (slice text t.start t.end) t.kind

-- The tokens of a text, each with its terminal.
abbrev pub with_terminals : List ℕ → List lexed.Token → List (Token Terminal)
with_terminals text ts = map (λ t. record { terminal = terminal_of text t; start = t.start; end = t.end }) ts

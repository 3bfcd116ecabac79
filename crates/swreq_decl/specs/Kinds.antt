-- The table of the tokens that are refused as not supported.
use Rattle.std.specs.Prelude.{Option, Some, None}
use Rattle.swreq_decl.specs.declared.terminal.Terminal.{Terminal}
use Rattle.swreq_decl.specs.declared.terminal.Terminal.TheVariants as terminal
use Rattle.swreq_decl.specs.declared.kind.Kind.{Kind}
use Rattle.swreq_decl.specs.declared.kind.Kind.TheVariants as kinds

-- The kind of a refused token by the token alone. None is a syntax error.
abbrev pub kind_by_token : Terminal → Option Kind
kind_by_token terminal.Class = Some kinds.Class
kind_by_token terminal.Struct = Some kinds.Struct
kind_by_token terminal.Enum = Some kinds.Enum
kind_by_token terminal.Actor = Some kinds.Actor
kind_by_token terminal.Extension = Some kinds.Extension
kind_by_token terminal.Typealias = Some kinds.Typealias
kind_by_token terminal.Import = Some kinds.Import
kind_by_token terminal.Func = Some kinds.Member
kind_by_token terminal.Var = Some kinds.Member
kind_by_token terminal.Let = Some kinds.Member
kind_by_token terminal.Init = Some kinds.Member
kind_by_token terminal.Subscript = Some kinds.Member
kind_by_token terminal.Static = Some kinds.Member
kind_by_token terminal.Mutating = Some kinds.Member
kind_by_token terminal.OpaqueSome = Some kinds.Existential
kind_by_token terminal.ExistentialAny = Some kinds.Existential
kind_by_token terminal.AnyType = Some kinds.Existential
kind_by_token terminal.Each = Some kinds.ParameterPack
kind_by_token terminal.Repeat = Some kinds.ParameterPack
kind_by_token terminal.MetatypeOf = Some kinds.Metatype
kind_by_token terminal.ProtocolMetatypeOf = Some kinds.Metatype
kind_by_token terminal.Async = Some kinds.Effect
kind_by_token terminal.Throws = Some kinds.Effect
kind_by_token terminal.Rethrows = Some kinds.Effect
kind_by_token terminal.At = Some kinds.Attribute
kind_by_token terminal.Backtick = Some kinds.Backtick
kind_by_token terminal.Tilde = Some kinds.SuppressedRequirement
kind_by_token terminal.Question = Some kinds.Optional
kind_by_token terminal.Exclamation = Some kinds.Optional
kind_by_token terminal.OpenBracket = Some kinds.Array
kind_by_token terminal.OpenParenthesis = Some kinds.Tuple
kind_by_token terminal.Arrow = Some kinds.Arrow
kind_by_token terminal.Equal = Some kinds.DefaultValue
kind_by_token terminal.Less = Some kinds.GenericArguments
kind_by_token _ = None

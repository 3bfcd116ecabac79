-- The refusals of the crates below, as refusals of a text.
use Rattle.swreq_print.specs.swreq_lex.declared.refusal.LexErr.{LexErr}
use Rattle.swreq_print.specs.swreq_lex.declared.refusal.LexErr.TheVariants as lexical
use Rattle.swreq_print.specs.swreq_decl.declared.refusal.ParseErr.{ParseErr}
use Rattle.swreq_print.specs.swreq_decl.declared.refusal.ParseErr.TheVariants as grammar
use Rattle.swreq_valid.specs.swreq_resolve.declared.refusal.NameErr.{NameErr}
use Rattle.swreq_valid.specs.swreq_resolve.declared.refusal.NameErr.TheVariants as names
use Rattle.swreq_valid.specs.swreq_complete.declared.limit.Limits.{Limits}
use Rattle.swreq_valid.specs.swreq_complete.declared.limit.Which.{Which}
use Rattle.swreq_valid.specs.swreq_complete.declared.limit.Which.TheVariants.{Rules, Length}
use Rattle.swreq_print.specs.declared.refusal.RefusalKind.{RefusalKind}
use Rattle.swreq_print.specs.declared.refusal.RefusalKind.TheVariants as refusals

abbrev pub lexical_refusal : LexErr → RefusalKind
lexical_refusal (lexical.NotUtf8 at) = refusals.NotUtf8 at
lexical_refusal (lexical.BadCharacter at) = refusals.BadCharacter at
lexical_refusal (lexical.OpenComment at) = refusals.OpenComment at
lexical_refusal lexical.Memory = refusals.OutOfMemory

abbrev pub refusal_of : ParseErr → RefusalKind
refusal_of (grammar.Lex fault) = lexical_refusal fault
refusal_of (grammar.Syntax at) = refusals.Syntax at
refusal_of (grammar.Unsupported at kind) = refusals.Unsupported at kind
refusal_of grammar.Memory = refusals.OutOfMemory

abbrev pub name_refusal : NameErr → RefusalKind
name_refusal (names.Duplicate at) = refusals.Duplicate at
name_refusal (names.NotAProtocol at) = refusals.NotAProtocol at
name_refusal (names.ConcreteType at) = refusals.ConcreteType at
name_refusal (names.NoSuchMember at) = refusals.NoSuchMember at
name_refusal (names.UnknownSignature at) = refusals.UnknownSignature at
name_refusal (names.WrongArity at) = refusals.WrongArity at
name_refusal (names.Cycle at) = refusals.Cycle at
name_refusal names.Memory = refusals.OutOfMemory

abbrev pub limit_refusal : Limits → Which → RefusalKind
limit_refusal limits Rules = refusals.LimitRules limits.max_rules
limit_refusal limits Length = refusals.LimitLength limits.max_length

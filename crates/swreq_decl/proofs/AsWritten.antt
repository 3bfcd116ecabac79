-- The source and the calls by their lines and by their lines as they are written.
use Rattle.std.specs.Prelude.{[], ◌∷◌}
use Rattle.swreq_grammar.specs.Grammar.{unlimited, at_most, mapped, labelled}
use Rattle.swreq_decl.specs.declared.terminal.Terminal.TheVariants.{Query, Protocol, AssociatedType, Func, Struct, Where, OpenBrace, CloseBrace, OpenParenthesis, CloseParenthesis, Comma, Colon, Dot, EqualEqual}
use Rattle.swreq_decl.specs.declared.kind.Kind.TheVariants.{Parameters, LongType}
use Rattle.swreq_decl.specs.declared.skeleton.ReqDecl.TheVariants as requirements
use Rattle.swreq_decl.specs.declared.skeleton.Ask.TheVariants as asks
use Rattle.swreq_decl.specs.declared.skeleton.Item.TheVariants as items
use Rattle.swreq_decl.specs.Source as lines
use Rattle.swreq_decl.specs.Source.{mark, after, before, or_else, separated, skipped}
use Rattle.swreq_decl.specs.Calls as calls
use Rattle.swreq_decl.specs.Written as written
use Rattle.swreq_decl.specs.Written.{SameTexts}
use Rattle.swreq_decl.proofs.SameTexts.{same, then, mapped_same, sequence_same, either, repetition_same, after_same, before_same, or_else_same, separated_same}
use Rattle.swreq_decl.proofs.Factoring.{two_ways, three_ways, swapped, grouped, after_either, with_front}
use Rattle.swreq_decl.proofs.Separating.{inherit_as_written}

inherits_as_written : SameTexts lines.inherits (or_else [] written.inherit)
unfolding lines.inherits
inherits_as_written = or_else_same [] inherit_as_written

requirement_as_written : SameTexts lines.requirement written.requirement
unfolding lines.requirement
requirement_as_written =
    two_ways lines.written_type (λ found subject. requirements.Bound subject found) (after (mark Colon) lines.bounds)
    (λ right left. requirements.Same left right) (after (mark EqualEqual) lines.written_type)

conditions_as_written : SameTexts lines.conditions (or_else [] written.where_clause)
unfolding lines.conditions lines.where_clause
conditions_as_written = or_else_same [] (after_same (mark Where) (separated_same (Comma ∷ []) requirement_as_written))

member_as_written : SameTexts lines.member written.member
unfolding lines.member
member_as_written = mapped_same _ (after_same (mark AssociatedType)
    (sequence_same (same lines.name) (sequence_same inherits_as_written (before_same lines.semicolon conditions_as_written))))

-- ---- items

protocol_as_written : SameTexts (after (skipped lines.access) lines.protocol) written.protocol
unfolding lines.protocol
protocol_as_written =
    after_same (skipped lines.access) (mapped_same _ (after_same (mark Protocol)
    (sequence_same (same lines.name)
    (sequence_same (same lines.primary_names) (sequence_same inherits_as_written (sequence_same conditions_as_written
    (after_same (mark OpenBrace) (before_same (mark CloseBrace) (repetition_same unlimited member_as_written)))))))))

function_as_written : SameTexts (after (skipped lines.access) lines.function) written.function
unfolding lines.function
function_as_written =
    after_same (skipped lines.access) (mapped_same _ (after_same (mark Func)
    (sequence_same (same lines.name) (sequence_same (same lines.params)
    (after_same (mark OpenParenthesis)
    (after_same (labelled Parameters (mark CloseParenthesis)) (before_same lines.no_body conditions_as_written)))))))

structure_as_written : SameTexts (after (skipped lines.access) lines.structure) written.structure
unfolding lines.structure lines.inner_function
structure_as_written =
    after_same (skipped lines.access) (mapped_same _ (after_same (mark Struct)
    (sequence_same (same lines.name) (sequence_same (same lines.params) (sequence_same conditions_as_written
    (after_same (mark OpenBrace)
    (before_same (mark CloseBrace) (repetition_same unlimited (before_same lines.semicolon function_as_written)))))))))

-- ---- queries

qstep_as_written : SameTexts lines.qstep written.qstep
unfolding lines.qstep
qstep_as_written = then (after_either (mark Dot) lines.bound_step (mapped lines.plain_step lines.name))
    (swapped (after (mark Dot) lines.bound_step) (after (mark Dot) (mapped lines.plain_step lines.name)))

qtype_as_written : SameTexts lines.qtype written.qtype
unfolding lines.qtype
qtype_as_written = mapped_same _ (sequence_same (same lines.name) (repetition_same (at_most 1000 LongType) qstep_as_written))

ask_as_written : SameTexts lines.ask written.ask
unfolding lines.ask
ask_as_written =
    then
    (three_ways lines.qtype (λ bound t. asks.Is t bound) (after (mark Colon) lines.qentity) (λ right left. asks.Same left right)
    (after (mark EqualEqual) lines.qtype) (λ t. asks.Reduced t))
    (then (grouped _ _ _)
    (then (swapped _ _)
    (either (mapped_same _ qtype_as_written)
    (either (mapped_same _ (sequence_same qtype_as_written (same (after (mark Colon) lines.qentity))))
    (mapped_same _ (sequence_same qtype_as_written (after_same (mark EqualEqual) qtype_as_written)))))))

query_as_written : SameTexts lines.query written.query
unfolding lines.query lines.asked
query_as_written =
    mapped_same _ (after_same (mark Query) (sequence_same (same lines.sname)
    (after_same (mark OpenParenthesis) (before_same (mark CloseParenthesis) (or_else_same asks.Signature ask_as_written)))))

-- ---- the source

item_as_written : SameTexts lines.item written.item
unfolding lines.item lines.bare_item lines.declaration
item_as_written =
    then
    (with_front lines.access (λ p. items.Protocol p) lines.protocol (λ f. items.Function f) lines.function
    (λ s. items.Struct s) lines.structure (mapped (λ q. items.Query q) lines.query) lines.semicolon)
    (either (before_same lines.semicolon (mapped_same _ protocol_as_written))
    (either (before_same lines.semicolon (mapped_same _ function_as_written))
    (either (before_same lines.semicolon (mapped_same _ structure_as_written))
    (before_same lines.semicolon (mapped_same _ query_as_written)))))

pub source_as_written : SameTexts lines.source written.source
unfolding lines.source
source_as_written = repetition_same unlimited item_as_written

-- ---- calls

call_types_as_written : SameTexts calls.call_types (or_else [] (separated (Comma ∷ []) written.qtype))
unfolding calls.call_types calls.qtypes
call_types_as_written = or_else_same [] (separated_same (Comma ∷ []) qtype_as_written)

call_as_written : SameTexts calls.call written.call
unfolding calls.call
call_as_written =
    mapped_same calls.call_decl (sequence_same (same lines.sname) (after_same (mark Colon) (sequence_same (same lines.sname)
    (after_same (mark OpenParenthesis) (before_same (mark CloseParenthesis) call_types_as_written)))))

pub calls_as_written : SameTexts calls.calls written.calls
unfolding calls.calls
calls_as_written = repetition_same unlimited (before_same lines.semicolon call_as_written)

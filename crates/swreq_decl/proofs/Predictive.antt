-- One token ahead tells how to read the source and calls, and each of their labels is of one place alone.
use Rattle.std.proofs.Common.{◌≡◌, true, refl}
use Rattle.swreq_grammar.specs.Reader.{is_predictive}
use Rattle.swreq_grammar.specs.Refusal.{is_well_labelled}
use Rattle.swreq_decl.specs.Terminals.{number}
use Rattle.swreq_decl.specs.Source.{name, semicolon, head, written_type, args, arguments, entity, qentity, bounds, inherit, requirement, where_clause, inherits, conditions, member, access, primaries, primary_names, protocol, param, generics, params, no_body, function, inner_function, structure, bound_step, qstep, qtype, ask, asked, sname, query, declaration, bare_item, item, source}
use Rattle.swreq_decl.specs.Calls.{qtypes, call_types, call, calls}

pub source_is_predictive : is_predictive number source ≡ true
unfolding name semicolon head written_type args arguments entity qentity bounds inherit requirement where_clause inherits conditions member
    access primaries primary_names protocol param generics params no_body function inner_function structure bound_step qstep qtype ask asked
    sname query declaration bare_item item source
source_is_predictive = refl

pub source_is_well_labelled : is_well_labelled source ≡ true
unfolding name semicolon head written_type args arguments entity qentity bounds inherit requirement where_clause inherits conditions member
    access primaries primary_names protocol param generics params no_body function inner_function structure bound_step qstep qtype ask asked
    sname query declaration bare_item item source
source_is_well_labelled = refl

pub calls_are_predictive : is_predictive number calls ≡ true
unfolding name semicolon bound_step qstep qtype sname qtypes call_types call calls
calls_are_predictive = refl

pub calls_are_well_labelled : is_well_labelled calls ≡ true
unfolding name semicolon bound_step qstep qtype sname qtypes call_types call calls
calls_are_well_labelled = refl

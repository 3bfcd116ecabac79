use Rattle.swreq_lowering.proofs.Standing.{protocols_in_order, structs_in_order, functions_in_order, all_nested_in_order}
use Rattle.swreq_lowering.proofs.laws.requirements_in_written_order.Goals as goal

pub returns-clause-protocols : goal.returns-clause-protocols
returns-clause-protocols c w stands = protocols_in_order c.args.text.now c.tokens_are_slices.ensures w stands

pub returns-clause-structs : goal.returns-clause-structs
returns-clause-structs c w stands = structs_in_order c.args.text.now c.tokens_are_slices.ensures w stands

pub returns-clause-functions : goal.returns-clause-functions
returns-clause-functions c w stands = functions_in_order c.args.text.now c.tokens_are_slices.ensures w stands

pub returns-clause-nested : goal.returns-clause-nested
returns-clause-nested c w stands = all_nested_in_order c.args.text.now c.tokens_are_slices.ensures w stands

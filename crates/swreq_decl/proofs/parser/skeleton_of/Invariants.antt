use Rattle.swreq_decl.proofs.Growing.{AreSorted}
use Rattle.swreq_decl.proofs.parser.skeleton_of.Given as goal

abbrev pub invariant-loop-item : goal.invariant-loop-item
invariant-loop-item l = AreSorted l.yielded l.protocols.items l.structs.items l.functions.items l.queries.items

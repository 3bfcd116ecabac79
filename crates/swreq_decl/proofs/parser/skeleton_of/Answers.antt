use Rattle.swreq_decl.proofs.Growing.{one_protocol, one_struct, one_function, one_query}
use Rattle.swreq_decl.proofs.parser.skeleton_of.Goals as goal

pub loop-item-preserved-in-Continue-1 : goal.loop-item-preserved-in-Continue-1
loop-item-preserved-in-Continue-1 c =
    rw c.in_ok-push-in-Protocol.ensures.items
    (one_protocol c.loop-item.yielded c.in-Some.item c.loop-item.protocols.items c.loop-item.structs.items c.loop-item.functions.items
    c.loop-item.queries.items c.in-Protocol.protocol c.in-Protocol.is c.loop-item.invariant)

pub loop-item-preserved-in-Continue-branch-2 : goal.loop-item-preserved-in-Continue-branch-2
loop-item-preserved-in-Continue-branch-2 c =
    rw c.in_ok-push-in-Struct.ensures.items
    (one_struct c.loop-item.yielded c.in-Some.item c.loop-item.protocols.items c.loop-item.structs.items c.loop-item.functions.items
    c.loop-item.queries.items c.in-Struct.structure c.in-Struct.is c.loop-item.invariant)

pub loop-item-preserved-in-Continue-branch-3 : goal.loop-item-preserved-in-Continue-branch-3
loop-item-preserved-in-Continue-branch-3 c =
    rw c.in_ok-push-in-Function.ensures.items
    (one_function c.loop-item.yielded c.in-Some.item c.loop-item.protocols.items c.loop-item.structs.items c.loop-item.functions.items
    c.loop-item.queries.items c.in-Function.function c.in-Function.is c.loop-item.invariant)

pub loop-item-preserved : goal.loop-item-preserved
loop-item-preserved c =
    rw c.in_ok-push-in-Query.ensures.items (one_query c.loop-item.yielded c.in-Some.item c.loop-item.protocols.items
    c.loop-item.structs.items c.loop-item.functions.items c.loop-item.queries.items c.in-Query.query c.in-Query.is c.loop-item.invariant)

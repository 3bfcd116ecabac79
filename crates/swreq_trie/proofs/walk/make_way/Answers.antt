use Rattle.std.proofs.Common.{length}
use Rattle.swreq_trie.specs.Index.{begin_of}
use Rattle.swreq_trie.proofs.Paths.{leads_kept}
use Rattle.swreq_trie.proofs.Marks.{keeps_itself}
use Rattle.swreq_trie.proofs.Index.{only_on_way, passing_kept}
use Rattle.swreq_trie.proofs.walk.make_way.Goals as goal

pub returns-clause-leads : goal.returns-clause-leads
returns-clause-leads c = leads_kept c.make_path.new.edges c.add_inside.new.edges c.add_inside.ensures.grown c.args.side.now.left.now 0
    c.in_ok-node.node c.in_ok-node.ensures.leads

pub returns-clause-listed : goal.returns-clause-listed
returns-clause-listed c =
    passing_kept c.make_path.new.edges c.add_inside.new.edges c.make_path.new.passing.items c.make_path.new.passing.items
    c.add_inside.ensures.grown
    (keeps_itself c.make_path.new.passing.items) _ c.args.side.now.left.now (length c.args.side.now.left.now) c.in_ok-node.ensures.listed

pub returns-clause-passes : goal.returns-clause-passes
returns-clause-passes c =
    let side = c.args.side.now in
    only_on_way c.make_path.new.edges c.add_inside.new.edges c.add_inside.ensures.grown
    (begin_of side.index (record { left = side.left.now; number = side.number })) side.left.now
    c.args.passing.now.items c.make_path.new.passing.items c.make_path.ensures.only

pub returns-in_err-add_inside-clause-passes : goal.returns-in_err-add_inside-clause-passes
returns-in_err-add_inside-clause-passes c =
    let side = c.args.side.now in
    only_on_way c.make_path.new.edges c.add_inside.new.edges c.add_inside.ensures.grown
    (begin_of side.index (record { left = side.left.now; number = side.number })) side.left.now
    c.args.passing.now.items c.make_path.new.passing.items c.make_path.ensures.only

use Rattle.std.proofs.Common.{◌∙◌, List, [], ap, ◌++◌}
use Rattle.std.proofs.lemmas.List.{get_or_default}
use Rattle.swreq_names.specs.declared.directory.Declaration.{Declaration}
use Rattle.swreq_names.specs.Directories.{names_of}
use Rattle.swreq_names.proofs.Declaring.{gathered_more, all_gathered}
use Rattle.swreq_names.proofs.declarers.all_names.Goals as goal

pub loop-directory-preserved : goal.loop-directory-preserved
loop-directory-preserved c =
    gathered_more c.args.members.now c.loop-directory.all.items c.add_copies.new.all.items
    (names_of c.directory-item.result) c.loop-directory.directory-index
    (c.in_ok-add_copies.ensures ∙ ap (λ (ds : List Declaration). c.loop-directory.all.items ++ names_of ds) c.items.ensures)
    (ap names_of (c.directory-item.is ∙ get_or_default c.args.members.now c.loop-directory.directory-index c.directory-item.result []
    c.loop-directory-test.true)) c.loop-directory.invariant

pub returns : goal.returns
returns c = all_gathered c.args.members.now c.loop-directory.all.items c.loop-directory.directory-index c.loop-directory-test.false
    c.loop-directory.invariant

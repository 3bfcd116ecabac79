use Rattle.std.proofs.Common.{◌↔◌, [], get_or, Contains, subst}
use Rattle.swreq_names.specs.Spaces.{Spaces}
use Rattle.swreq_names.specs.Directories.{names_of}
use Rattle.swreq_names.proofs.declared.Declared.declarers.Goals as goal

pub returns : goal.returns
returns c j =
    subst (λ (d : Spaces). Contains c.of_name.result.now j ↔ Contains (names_of (get_or d.members j [])) c.args.name.now) c.self.view_is
    (c.of_name.ensures c.self.inside.protocols.value.members.items c.self.invariant.0 j)

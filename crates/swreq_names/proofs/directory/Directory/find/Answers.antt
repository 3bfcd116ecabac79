use Rattle.std.proofs.Common.{◌∙◌, List, Contains, subst, sym}
use Rattle.swreq_names.specs.declared.directory.Declaration.{Declaration}
use Rattle.swreq_names.specs.Directories.{names_of}
use Rattle.swreq_names.proofs.Firsts.{none_placed}
use Rattle.swreq_names.proofs.directory.Directory.find.Goals as goal

pub returns-in_err-rank : goal.returns-in_err-rank
returns-in_err-rank c =
    c.from_residual.ensures ∙ sym (none_placed (names_of c.args.self.now) c.args.name.now 0
    (λ h. c.in_err-rank.ensures ((c.self.invariant.same c.args.name.now).1
    (subst (λ (ds : List Declaration). Contains (names_of ds) c.args.name.now) (sym c.self.view_is) h))))

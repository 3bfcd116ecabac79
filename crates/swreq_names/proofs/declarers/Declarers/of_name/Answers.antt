use Rattle.std.proofs.Common.{◌↔◌, ℕ, List, [], get_or, Contains, subst, sym}
use Rattle.swreq_rank.proofs.swreq_lemmas.Members.{no_member}
use Rattle.swreq_names.specs.Directories.{names_of}
use Rattle.swreq_names.proofs.declarers.Declarers.of_name.Goals as goal

pub returns-in-Some : goal.returns-in-Some
returns-in-Some c members are j =
    subst (λ (list : List ℕ). Contains list j ↔ Contains (names_of (get_or members j [])) c.args.name.now) (sym c.at.ensures)
    (are.listed c.in-Some.rank c.args.name.now c.in-Some.ensures j)

pub returns-in-None : goal.returns-in-None
returns-in-None c members are j = (λ h. no_member j h, λ h. absurd (c.in-None.ensures (are.all j c.args.name.now h)))

use Rattle.std.proofs.Common.{◌∙◌, sym}
use Rattle.swreq_reqsig.proofs.Passing.{mark_read, read_mark}
use Rattle.swreq_reqsig.proofs.saying.is_marked_self.Goals as goal

pub returns-in-None : goal.returns-in-None
returns-in-None c =
    let marks = c.args.marks.now in let k = c.args.owner.rank in
    ((λ t. (c.in-None.is, mark_read marks k (sym c.is_marked.ensures ∙ t))), λ h. c.is_marked.ensures ∙ read_mark marks k h.1)

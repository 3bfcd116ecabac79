use Rattle.std.proofs.Common.{◌∙◌, ◌<◌, ap, Bool, false, length, List, replicate, subst, sym, true, ℕ}
use Rattle.std.proofs.lemmas.List.{length-replicate, length-set}
use Rattle.swreq_reqsig.specs.Marks.{kept_at}
use Rattle.swreq_reqsig.proofs.Passing.{reached_by_one}
use Rattle.swreq_reqsig.proofs.reaching.reached.Goals as goal

pub close-requires : goal.close-requires
close-requires c =
    let n = c.protocols-protocols.result in
    ap (λ (z : List Bool). length z) c.in_ok-marks.ensures ∙ length-set (replicate n false) c.args.p.rank true ∙ length-replicate n false
    ∙ c.protocols-protocols.ensures

pub returns : goal.returns
returns c terms =
    let f = c.args.selection.now in
    let below = subst (λ (n : ℕ). c.args.p.rank < n) (sym c.protocols-protocols.ensures) c.requires in
    reached_by_one c.protocols-protocols.result
    (kept_at terms f.setting.places.now f.flags.now) c.args.p c.in_ok-marks.marks.items c.close.new.marks.items
    below c.in_ok-marks.ensures (c.close.ensures terms)

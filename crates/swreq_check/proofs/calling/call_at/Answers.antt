use Rattle.std.proofs.Common.{◌∙◌, Some, ap, sym}
use Rattle.std.proofs.lemmas.Option.{slice_get-get_or}
use Rattle.swreq_check.proofs.calling.call_at.Goals as goal

pub returns : goal.returns
returns c =
    let call = c.index-calls-place.result in
    slice_get-get_or c.args.calls.now c.args.place call c.requires ∙ ap Some (sym c.index-calls-place.is)

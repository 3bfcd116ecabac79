use Rattle.std.proofs.Common.{◌∙◌, [], ap, slice_index_or, subst, sym, ℕ}
use Rattle.swreq_reqsig.specs.Outlines.{ArePlaces}
use Rattle.swreq_reqsig.proofs.Selecting.{named_in, outlines_count}
use Rattle.swreq_reqsig.proofs.Spoken.{places_are}
use Rattle.swreq_reqsig.proofs.saying.places_of.Goals as goal

pub returns-clause-places : goal.returns-clause-places
returns-clause-places c =
    c.at.ensures ∙ ap (λ (n : ℕ). slice_index_or c.args.selection.now.setting.named.now n []) c.list_of.ensures

pub returns-clause-are : goal.returns-clause-are
returns-clause-are c =
    let f = c.args.selection.now in
    subst (ArePlaces f.setting.outlines.now f.flags.now)
    (sym (c.at.ensures ∙ ap (λ (n : ℕ). slice_index_or f.setting.named.now n []) c.list_of.ensures))
    (places_are f.setting.outlines.now f.flags.now f.setting.named.now (named_in f.setting) c.args.name
    (c.args.selection.now.flagged ∙ outlines_count f))

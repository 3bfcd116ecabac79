use Rattle.std.proofs.Common.{◌∙◌, ℕ, List, Option, MatchOption, slice_get, Contains, sym, ap, subst}
use Rattle.swreq_derive.specs.swreq_param.declared.ids.ProtoId.{ProtoId}
use Rattle.swreq_lexicon.specs.Symbols.{StandsAt}
use Rattle.swreq_lexicon.proofs.Rows.{nowhere}
use Rattle.swreq_lexicon.proofs.ordered.Ordered.place_of.Goals as goal

pub returns-in_err-place : goal.returns-in_err-place
returns-in_err-place c =
    let order = c.args.self.now in
    let p = c.args.protocol in
    subst (λ (place : Option ℕ). MatchOption place (Contains order p → ⊥) (StandsAt order p)) (sym c.from_residual.ensures) (λ h.
    nowhere c.self.inside.protos.items c.self.inside.places.items c.self.invariant p
    (ap (λ (places : List ℕ). slice_get places p.rank) (sym c.deref.ensures.value) ∙ sym c.in_err-place.ensures)
    (subst (λ (ps : List ProtoId). Contains ps p) (sym c.self.view_is) h))

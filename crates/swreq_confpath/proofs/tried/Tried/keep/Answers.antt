use Rattle.std.proofs.Common.{◌∙◌, ◌++◌, [], ◌∷◌, inl, inr, is_some, refl, sym, ap, ap₂}
use Rattle.std.specs.Map.{lookup}
use Rattle.indexmap.proofs.CallerLemmas.{insert_entry-new}
use Rattle.indexmap.specs.IndexMap.{get}
use Rattle.swreq_confpath.specs.contracts.places.PlacePartialEq.TheImpl.{eq-value}
use Rattle.swreq_confpath.specs.Spots.{Spot}
use Rattle.swreq_confpath.proofs.Covering.{one_there}
use Rattle.swreq_confpath.proofs.Keeping.{is_reached, not_found}
use Rattle.swreq_confpath.proofs.tried.Tried.keep.Goals as goal

pub returns-then-contains_key : goal.returns-then-contains_key
returns-then-contains_key c s there =
    let found = ap (λ spots. is_some (lookup (eq-value.it c.args.place) spots)) (sym c.self.view_is)
    ∙ (sym c.contains_key.ensures ∙ c.if-contains_key.true) in
    inl (is_reached c.args.place c.args.self.now found, refl)

pub returns : goal.returns
returns c s there =
    let none = not_found (get eq-value.it c.self.inside.numbers c.args.place) (sym c.contains_key.ensures ∙ c.if-contains_key.false) in
    let same = one_there c.args.self.now c.args.index (c.spot.result.0.now, c.spot.result.1.now) s c.spot.ensures there in
    let numbers = c.in_ok-numbers.ensures ∙ ap (λ (x : Spot). x.1 ++ c.args.number ∷ []) same in
    inr (c.in_ok-insert.ensures.entries ∙ (insert_entry-new eq-value.it c.self.inside.numbers c.args.place c.in_ok-numbers.numbers none
    ∙ ap₂ (λ spots ns. spots ++ (c.args.place, ns) ∷ []) c.self.view_is numbers))

-- What is kept of places: one that was reached is found by its look-up.
use Rattle.std.proofs.Common.{◌≡◌, Bool, true, false, cond, IsTrue, List, [], ◌∷◌, Option, None, Some, is_some, refl, sym, ap, ap₂, subst, ◌∙◌, true≢false}
use Rattle.std.specs.Bool.{Decides}
use Rattle.std.specs.Map.{lookup}
use Rattle.std.specs.Ordering.{eq_by_cmp}
use Rattle.std.proofs.lemmas.Bool.{and_parts, eqb-true}
use Rattle.swreq_print.proofs.swreq_lemmas.Members.{first_member, later_member}
use Rattle.swreq_print.specs.swreq_word.Order.{word_cmp}
use Rattle.swreq_print.specs.swreq_word.OrderLaws.{word_equal}
use Rattle.swreq_confpath.specs.contracts.places.PlacePartialEq.TheImpl.{eq-value}
use Rattle.swreq_confpath.specs.contracts.places.PlaceEq.TheImpl.Laws.{laws-law}
use Rattle.swreq_confpath.specs.declared.places.Place.{Place}
use Rattle.swreq_confpath.specs.declared.places.Place.TheVariants.{Start, Conformance}
use Rattle.swreq_confpath.specs.Spots.{IsReached, Spot}

-- places that `==` finds equal are the same
same_place : (x y : Place) → eq-value.it x y ≡ true → x ≡ y
same_place Start Start h = refl
same_place Start (Conformance v q) h = absurd (true≢false (sym h))
same_place (Conformance u p) Start h = absurd (true≢false (sym h))
same_place (Conformance u p) (Conformance v q) h =
    let k = and_parts (eq_by_cmp word_cmp u v) _ h in
    let e = eqb-true p.rank q.rank k.1 in
    let f : p ≡ q = λ i. record { rank = e i } in
    ap₂ Conformance (word_equal u v k.0) f

pub places_decide : (x y : Place) → Decides (eq-value.it x y) (x ≡ y)
places_decide x y = ((λ h. same_place x y h), λ e. subst (λ z. IsTrue (eq-value.it x z)) e (laws-law.refl x))

pub is_reached : (p : Place) (spots : List Spot) → is_some (lookup (eq-value.it p) spots) ≡ true → IsReached spots p
is_reached p [] h = absurd (true≢false (sym h))
is_reached p (s ∷ spots) h = by (eq-value.it p s.0) refl (λ k. is_reached p spots k)
  where
    by : (b : Bool) → eq-value.it p s.0 ≡ b → (is_some (lookup (eq-value.it p) spots) ≡ true → IsReached spots p) → IsReached (s ∷ spots) p
    by true e rest = (s, first_member s spots, sym (same_place p s.0 e))
    by false e rest =
        let r = rest (sym (ap (λ z. is_some (cond z (Some s.1) (lookup (eq-value.it p) spots))) e) ∙ h) in
        (r.0, later_member s r.0 spots r.1, r.2)

pub not_found : {X : Type 0} (o : Option X) → is_some o ≡ false → o ≡ None
not_found None h = refl
not_found (Some x) h = absurd (true≢false h)

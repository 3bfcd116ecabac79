-- Tables that begin with others.
use Rattle.std.proofs.Common.{◌≡◌, suc, List, [], ◌∷◌, ◌++◌, length, refl, ap, ◌∙◌, arith, length-append}
use Rattle.std.proofs.lemmas.List.{get_or_append_left}
use Rattle.swreq_param.specs.Terms.{Term, self}
use Rattle.swreq_param.specs.Tables.{term_at, Extends}

pub unchanged : (terms : List Term) → Extends terms terms
unchanged terms = record { longer = omega arith; stands = λ t h. refl }

pub onward : (a b c : List Term) → Extends a b → Extends b c → Extends a c
onward a b c h k = record {
  longer = omega (arith, h.longer, k.longer);
  stands = λ t of. k.stands t (omega (arith, h.longer, of)) ∙ h.stands t of;
}

-- a table with more at its end
pub at_end : (old more new : List Term) → new ≡ old ++ more → Extends old new
at_end old more new e = record {
  longer = omega (arith, ap length e, length-append old more);
  stands = λ t of. ap (λ ts. term_at ts t) e ∙ get_or_append_left old more self t.place of;
}

pub rest_of : (old new : List Term) → Extends old new → (more : List Term) × (new ≡ old ++ more)
rest_of [] new h = (new, refl)
rest_of (t ∷ ts) [] h = absurd (omega (arith, h.longer))
rest_of (t ∷ ts) (u ∷ us) h =
    let k = rest_of ts us
    (record { longer = omega (arith, h.longer); stands = λ x of. h.stands (record { place = suc x.place }) (omega (arith, of)) }) in
    let e : u ≡ t = h.stands (record { place = 0 }) (omega arith) in
    (k.0, λ i. e i ∷ k.1 i)

use Rattle.std.proofs.{Common.{◌≡◌, ◌∙◌, ◌<◌, Some, ap, arith, inl, inr, length, subst, sym, true≢false}, lemmas.Bool.{cases_lt}}
use Rattle.std.proofs.lemmas.Option.{same_Some}
use Rattle.swreq_machine.specs.swreq_param.{declared.ids.TermId.{TermId}, Tables.{term_at}, Terms.{self}}
use Rattle.swreq_explain.proofs.history.id_of_self.Goals as goal

pub loop-place-preserved : goal.loop-place-preserved
loop-place-preserved c = λ t l is. elim (cases_lt t.place c.loop-place.place) [
  | inl i ↦ c.loop-place.invariant t i is
  | inr i ↦ (let place : t.place ≡ c.loop-place.place = omega (arith, i, l) in
      let same : t ≡ record { place = c.loop-place.place } = λ j. record { place = place j } in
      let set = c.is_self.ensures.1 (subst (λ (z : TermId). term_at c.args.table.now z ≡ self) same is) in
      absurd (true≢false (sym set ∙ c.if-is_self.false)))
]

pub returns-then-is_self : goal.returns-then-is_self
returns-then-is_self c = λ t of.
    let found : TermId = record { place = c.loop-place.place } in
    let is = c.is_self.ensures.0 c.if-is_self.true in
    let test = c.loop-place-test.true in
    let len = c.len-count.ensures.len in
    let within : c.loop-place.place < length c.args.table.now = omega (arith, test, len) in (
      λ same. ap Some (c.len-count.ensures.distinct found t within of (is ∙ sym same)),
      λ same. subst (λ (z : TermId). term_at c.args.table.now z ≡ self) (same_Some _ _ same) is,
    )

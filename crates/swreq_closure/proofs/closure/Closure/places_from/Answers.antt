use Rattle.std.proofs.Common.{◌≡◌, ◌∙◌, ℕ, ap, subst, sym, Bool, false, List, None, Some, Option, MatchOption, Bor}
use Rattle.swreq_closure.specs.Bits.{has}
use Rattle.swreq_closure.specs.Chains.{leads}
use Rattle.swreq_closure.specs.Walks.{Rows, row_at, row_has}
use Rattle.swreq_closure.proofs.Matrices.{rows_tell}
use Rattle.swreq_closure.specs.declared.bits.Bits.{Bits}
use Rattle.swreq_closure.proofs.closure.Closure.places_from.Goals as goal

pub returns : goal.returns
returns c = by c.known.result c.known.ensures
  where
    rows : Rows
    rows = c.deref.result.now

    from : ℕ
    from = c.args.from

    tells : (to : ℕ) → row_has (row_at rows from) to ≡ leads c.args.self.now from to
    tells to =
        ap (λ (r : Rows). row_has (row_at r from) to) c.deref.ensures.value
        ∙ sym (rows_tell c.self.inside.rows.items c.self.invariant from to) ∙ ap (λ m. leads m from to) c.self.view_is

    by : (found : Option (Bor Bits)) → MatchOption found (row_at rows from ≡ None) (λ row. row_at rows from ≡ Some row.now)
        → MatchOption found ((to : ℕ) → leads c.args.self.now from to ≡ false)
        (λ places. (to : ℕ) → has places.now to ≡ leads c.args.self.now from to)
    by None none = λ to. sym (tells to) ∙ ap (λ r. row_has r to) none
    by (Some row) some = λ to. sym (ap (λ r. row_has r to) some) ∙ tells to

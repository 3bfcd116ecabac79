use Rattle.std.proofs.Common.{◌≡◌, ℕ, ◌+◌, Some, MatchOption, slice_get, sym, subst}
use Rattle.swreq_derive.specs.Instances.{HasNumber}
use Rattle.swreq_derivation.proofs.KeyLemmas.{nowhere, numbered}
use Rattle.swreq_derivation.proofs.stated.Stated.number_of.Goals as goal

pub returns : goal.returns
returns c =
    subst (λ z. HasNumber (c.in_ok-place.place + 1) z c.args.statement) c.self.view_is
    (numbered c.key_of-key.result c.self.inside.keys.keys c.args.statement c.in_ok-place.place c.key_of-key.ensures
    (sym c.in_ok-place.ensures.index))

pub returns-in_err-place : goal.returns-in_err-place
returns-in_err-place c =
    subst (λ o. MatchOption o ((k : ℕ) → slice_get c.args.self.now k ≡ Some c.args.statement → ⊥)
    (λ n. HasNumber n c.args.self.now c.args.statement)) (sym c.from_residual.ensures)
    (λ k w. nowhere c.key_of-key.result c.self.inside.keys.keys c.args.statement c.key_of-key.ensures (sym c.in_err-place.ensures.found) k
    (rw c.self.view_is w))

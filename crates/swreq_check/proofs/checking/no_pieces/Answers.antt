use Rattle.std.proofs.Common.{◌≡◌, ◌+◌, ◌∙◌, ◌∷◌, ◌++◌, [], List, Option, None, ap, get_or, length, refl, ℕ, zero, suc}
use Rattle.std.proofs.lemmas.List.{length-append}
use Rattle.swreq_check.proofs.checking.no_pieces.Goals as goal

none_more : {A : Type 0} (xs : List (Option A)) → ((k : ℕ) → get_or xs k None ≡ None) → (k : ℕ) → get_or (xs ++ None ∷ []) k None ≡ None
none_more [] h zero = refl
none_more [] h (suc k) = refl
none_more (x ∷ xs) h zero = h zero
none_more (x ∷ xs) h (suc k) = none_more xs (λ j. h (suc j)) k

pub loop-preserved : goal.loop-preserved
loop-preserved c = (
  ap length c.in_ok-push.ensures.items ∙ length-append c.loop.pieces.items _ ∙ ap (λ n. n + 1) c.loop.invariant.0,
  λ k. ap (λ xs. get_or xs k None) c.in_ok-push.ensures.items ∙ none_more c.loop.pieces.items c.loop.invariant.1 k,
)

-- Type parameters with one step more.
use Rattle.std.proofs.Common.{◌≡◌, ◌∙◌, sym, ap, ap₂, subst, ℕ, ◌+◌, ◌<◌, List, length, take, get_or}
use Rattle.std.proofs.lemmas.List.{take_more}
use Rattle.swreq_print.specs.swreq_param.ComparisonLaws.{with_more}
use Rattle.swreq_print.specs.swreq_param.declared.ids.Step.{Step}
use Rattle.swreq_print.specs.swreq_param.Terms.{Term, with_steps}
use Rattle.swreq_print.specs.swreq_param.Terms.Term.{Member}

-- What stands for the first k steps stands with the next one for one more.
pub with_one : (t u v : Term) (steps items : List Step) (k : ℕ) (d : Step) → items ≡ steps → k < length items
    → v ≡ with_steps t (take k steps)
    → u ≡ Member v (get_or items k d) → u ≡ with_steps t (take (k + 1) steps)
with_one t u v steps items k d e l h i =
    let m : k < length steps = subst (λ z. k < length z) e l in
    i ∙ ap₂ (λ z y. Member z (get_or y k d)) h e
    ∙ sym (with_more t (take k steps) (get_or steps k d)) ∙ ap (with_steps t) (sym (take_more steps k d m))

use Rattle.std.proofs.{Common.{◌≡◌, ◌∙◌, ◌-◌, [], ◌∷◌, ◌++◌, ap, arith, get_or, length, sym, take, take_all, suc}, Math.Seq.{take-suc}}
use Rattle.swreq_machine.specs.swreq_param.{ComparisonLaws.{with_more}, declared.ids.Step.TheVariants.{Bound}, Terms.{with_steps}}
use Rattle.swreq_machine.specs.swreq_param.Terms.Term.{Generic, Member}
use Rattle.swreq_explain.proofs.validity.split.Goals as goal

pub returns-in_ok-steps-in-len1-up : goal.returns-in_ok-steps-in-len1-up
returns-in_ok-steps-in-len1-up c =
    let t = c.args.t.now in
    let xs = c.items.result.now in
    let n = length xs - 1 in
    let last = get_or xs n (Bound (record { rank = 0 })) in
    let some = c.in-len1-up.len_at_least in
    let whole : xs ≡ take n xs ++ last ∷ []
    = sym (take_all (suc n) xs (omega (arith, some))) ∙ take-suc xs n (Bound (record { rank = 0 })) (omega (arith, some)) in
    let front : c.new-steps.result ≡ take n xs = c.new-steps.ensures ∙ c.in_ok-steps-in-len1-up.ensures.items in
    ap (with_steps (Generic t.head)) (sym c.items.ensures ∙ whole) ∙ with_more (Generic t.head) (take n xs) last
    ∙ ap (λ z. Member (with_steps (Generic t.head) z) last) (sym front)

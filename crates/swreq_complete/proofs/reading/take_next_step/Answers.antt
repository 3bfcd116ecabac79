use Rattle.std.proofs.Common.{◌≡◌, ℕ, ◌<◌, ◌≤◌, List, refl, subst, Some}
use Rattle.std.specs.List.{slice_get}
use Rattle.swreq_rule.specs.swreq_word.Relations.{IsIrreducible}
use Rattle.swreq_rule.specs.Reduction.{FirstRedex}
use Rattle.swreq_rule.specs.Steps.{Step}
use Rattle.swreq_complete.specs.Reading.{AreRead}
use Rattle.swreq_complete.proofs.Indexing.{rule_of_redex}
use Rattle.swreq_complete.proofs.Places.{read_after, kept_counts}
use Rattle.swreq_complete.proofs.reading.take_next_step.Goals as goal

pub returns-in-None-clause-end : goal.returns-in-None-clause-end
returns-in-None-clause-end c =
    (refl, subst (IsIrreducible (Step c.args.rules.now)) c.deref.ensures.value (rw c.in-None.is at c.in_ok-next_redex.ensures.redex))

pub returns-in-Some-clause-read : goal.returns-in-Some-clause-read
returns-in-Some-clause-read c =
    let rules = c.args.rules.now in let w = c.args.word.now.items in let redex = c.in-Some.redex in
    let counts = c.next_redex.new.counts.items in
    let first : FirstRedex rules w redex.at redex.number =
    subst (λ u. FirstRedex rules u redex.at redex.number) c.deref.ensures.value (rw c.in-Some.is at c.in_ok-next_redex.ensures.redex) in
    let kept = kept_counts counts c.truncate.new.self.items c.count_within.result redex.at c.truncate.ensures.items
    (subst (λ (xs : List ℕ). (k n : ℕ) → k < c.count_within.result → slice_get xs k ≡ Some n → n ≤ redex.at) c.deref-in-Some.ensures.value
    c.count_within.ensures) in
    read_after rules w c.take_step_of.new.w.items redex.at redex.number counts c.truncate.new.self.items first
    (c.take_step_of.ensures.step rules redex.number
    (rule_of_redex rules w redex.at redex.number c.rule.result.now first c.rule.ensures) first)
    (subst (λ u. AreRead rules u counts) c.deref.ensures.value c.in_ok-next_redex.ensures.read)
    (λ k n g. (kept k n g).0) (λ k n g. (kept k n g).1)

use Rattle.std.proofs.Common.{refl, sym, ◌∙◌, true≢false}
use Rattle.swreq_rule.specs.swreq_word.Overlap.{Overlap}
use Rattle.swreq_rule.proofs.Numbers.{rule_read}
use Rattle.swreq_pair.proofs.Located.{found_overlap, none_of_one, decided}
use Rattle.swreq_pair.proofs.sides.is_pair.Goals as goal

pub returns-then-overlaps : goal.returns-then-overlaps
returns-then-overlaps c =
    let rules = c.args.rules.now in let place = c.args.place in
    let first = c.index-rules-place.result in let second = c.index-rules-place-2.result in
    let a = rule_read rules place.i first c.requires.first.0 c.requires.first.1 c.index-rules-place.is in
    let b = rule_read rules place.j second c.requires.second.0 c.requires.second.1 c.index-rules-place-2.is in
    let l = c.symbols-l.result.now in let m = c.symbols-m.result.now in (
      (λ _.
          found_overlap rules place first second a b l m c.symbols-l.ensures c.symbols-m.ensures (c.overlaps.ensures.0 c.if-overlaps.true)),
      (λ _. refl),
    )

pub returns-then-place : goal.returns-then-place
returns-then-place c =
    let rules = c.args.rules.now in let place = c.args.place in
    let first = c.index-rules-place.result in let second = c.index-rules-place-2.result in
    let a = rule_read rules place.i first c.requires.first.0 c.requires.first.1 c.index-rules-place.is in
    let b = rule_read rules place.j second c.requires.second.0 c.requires.second.1 c.index-rules-place-2.is in
    let l = c.symbols-l.result.now in let m = c.symbols-m.result.now in
    let not : Overlap l m place.at → ⊥ = λ o. true≢false (sym (c.overlaps.ensures.1 o) ∙ c.if-overlaps.false) in (
      (λ e. absurd (true≢false (sym e))),
      (λ h. absurd (none_of_one rules place first second a b l m c.symbols-l.ensures c.symbols-m.ensures not c.if-place.true h)),
    )

pub returns : goal.returns
returns c =
    let rules = c.args.rules.now in let place = c.args.place in
    let first = c.index-rules-place.result in let second = c.index-rules-place-2.result in
    let a = rule_read rules place.i first c.requires.first.0 c.requires.first.1 c.index-rules-place.is in
    let b = rule_read rules place.j second c.requires.second.0 c.requires.second.1 c.index-rules-place-2.is in
    let l = c.symbols-l.result.now in let m = c.symbols-m.result.now in
    let not : Overlap l m place.at → ⊥ = λ o. true≢false (sym (c.overlaps.ensures.1 o) ∙ c.if-overlaps.false) in
    decided rules place first second a b l m c.symbols-l.ensures c.symbols-m.ensures not c.if-place.false
    c.contains.result c.contains.ensures

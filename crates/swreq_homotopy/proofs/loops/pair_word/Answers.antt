use Rattle.std.proofs.Common.{◌≡◌, ◌-◌, refl, ◌∙◌, ap, ◌++◌, length, take, drop, min}
use Rattle.swreq_rule.proofs.swreq_word.Cuts.{whole_rest}
use Rattle.swreq_rule.proofs.Numbers.{rule_read, number_some, number_within}
use Rattle.std.proofs.lemmas.List.{drop_min}
use Rattle.swreq_homotopy.proofs.loops.pair_word.Goals as goal

pub returns : goal.returns
returns c =
    let rules = c.args.rules.now in
    let place = c.args.place in
    let p = c.requires.2 in
    let first = c.index-rules-place.result in
    let second = c.index-rules-place-2.result in
    let left = c.symbols-left.result.now in
    let other = c.symbols-other.result.now in
    let inside : c.min-inside.result ≡ min (length left - place.at) (length other) = c.min-inside.ensures in
    record {
      first = first;
      second = second;
      first_at = rule_read rules place.i first (number_some rules place.i p.first p.first_at)
          (number_within rules place.i p.first p.first_at) c.index-rules-place.is;
      second_at = rule_read rules place.j second (number_some rules place.j p.second p.second_at)
          (number_within rules place.j p.second p.second_at) c.index-rules-place-2.is;
      word_is =
          c.in_ok-extend_from_slice.ensures.items
          ∙ ap (λ x. x ++ take (length other - c.min-inside.result) (drop c.min-inside.result other)) c.in_ok-word.ensures.items
          ∙ ap (λ x. left ++ x)
          (whole_rest other c.min-inside.result ∙ ap (λ n. drop n other) inside ∙ drop_min (length left - place.at) other)
          ∙ rw (c.symbols-left.ensures, c.symbols-other.ensures) refl;
    }

use Rattle.std.proofs.Common.{◌≡◌, ◌∙◌, true, sym, subst}
use Rattle.swreq_complete.{specs.{swreq_rule.Reduction.{Reduces}, swreq_path.Paths.{HasTarget}}, proofs.swreq_path.Leading.{one_end}}
use Rattle.swreq_births.proofs.Ends.{one_reduct}
use Rattle.swreq_births.proofs.types.path_between.Goals as goal

pub compose-requires-clause-first : goal.compose-requires-clause-first
compose-requires-clause-first c =
    let rules = c.args.rules.now in
    let same : c.in_ok-first.first ≡ c.in_ok-last.last = sym c.symbols.ensures ∙ c.are_same.ensures.0 c.if-are_same.true
    ∙ c.symbols-2.ensures in
    let end = one_end rules c.in_ok-back.back.steps c.in_ok-back.back.start c.in_ok-last.last c.in_ok-inverse.inverse.start
    c.in_ok-last.ensures c.in_ok-inverse.ensures.start in
    subst (HasTarget rules c.in_ok-forth.forth) (same ∙ end) c.in_ok-first.ensures

pub returns-clause-target : goal.returns-clause-target
returns-clause-target c alike =
    let rules = c.args.rules.now in
    let a = c.in_ok-forth.ensures.target in
    let b = c.in_ok-back.ensures.target in
    let one = one_end rules c.in_ok-forth.forth.steps c.in_ok-forth.forth.start a.0 c.in_ok-first.first a.1 c.in_ok-first.ensures in
    let two = one_end rules c.in_ok-back.back.steps c.in_ok-back.back.start b.0 c.in_ok-last.last b.1 c.in_ok-last.ensures in
    let same : c.are_same.result ≡ true = c.are_same.ensures.1
    (c.symbols.ensures ∙ sym one ∙ one_reduct rules c.args.from.now c.args.to.now a.0 b.0 alike a.2 b.2 ∙ two
    ∙ sym c.symbols-2.ensures) in
    absurd (let other = c.if-are_same.false in cc)

pub returns-then-are_same-clause-alike : goal.returns-then-are_same-clause-alike
returns-then-are_same-clause-alike c =
    let rules = c.args.rules.now in
    let a = c.in_ok-forth.ensures.target in
    let b = c.in_ok-back.ensures.target in
    let one = one_end rules c.in_ok-forth.forth.steps c.in_ok-forth.forth.start a.0 c.in_ok-first.first a.1 c.in_ok-first.ensures in
    let two = one_end rules c.in_ok-back.back.steps c.in_ok-back.back.start b.0 c.in_ok-last.last b.1 c.in_ok-last.ensures in
    let same : c.in_ok-first.first ≡ c.in_ok-last.last = sym c.symbols.ensures ∙ c.are_same.ensures.0 c.if-are_same.true
    ∙ c.symbols-2.ensures in
    (a.0, a.2, subst (Reduces rules c.args.to.now) (sym (one ∙ same ∙ sym two)) b.2)

use Rattle.std.proofs.{Common.{◌≡◌, ◌∙◌, inl, inr, arith, subst, sym, true≢false}, lemmas.Bool.{cases_lt}}
use Rattle.swreq_explain.{specs.Uses.{Uses}, proofs.Makings.{used_place, used_round}}
use Rattle.swreq_explain.proofs.numbered.first_use.Goals as goal

pub uses-requires-clause-round : goal.uses-requires-clause-round
uses-requires-clause-round c =
    let within = used_round c.args.makings c.args.round c.args.place c.requires in let test = c.loop-earlier-test.true in omega
    (arith, within, test)

pub uses-requires-clause-place : goal.uses-requires-clause-place
uses-requires-clause-place c = used_place c.args.makings c.args.round c.args.place c.requires

pub loop-earlier-preserved : goal.loop-earlier-preserved
loop-earlier-preserved c i l u = elim (cases_lt i c.loop-earlier.earlier) [
  | inl h ↦ c.loop-earlier.invariant i h u
  | inr h ↦ (let same : i ≡ c.loop-earlier.earlier = omega (arith, h, l) in
      let set = c.uses.ensures.1 (subst (λ n. Uses c.args.makings.rounds.now n c.args.place) same u) in
      absurd (true≢false (sym set ∙ c.if-uses.false)))
]

pub returns-clause-first : goal.returns-clause-first
returns-clause-first c = record {
  uses = c.requires;
  none_before = λ i l u. c.loop-earlier.invariant i (let end = c.loop-earlier-test.false in omega (arith, l, end)) u;
}

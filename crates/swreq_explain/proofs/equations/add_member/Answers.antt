use Rattle.std.proofs.Common.{[], ◌∷◌, ap, refl, subst, sym}
use Rattle.swreq_births.specs.declared.history.Equation.{Equation}
use Rattle.swreq_readings.specs.swreq_word.declared.symbols.Symbol.TheVariants.{Name, Proto}
use Rattle.swreq_explain.{specs.Numbering.{AreBasic, IsBasicBy}, proofs.NumberingLemmas.{basic_more}}
use Rattle.swreq_explain.proofs.equations.add_member.Goals as goal

pub returns-clause-basic : goal.returns-clause-basic
returns-clause-basic c =
    let e = c.in_ok-e.e in
    let member = c.member_at-member.result in
    let members = c.args.world.now.lexicon.symbols in
    let is = subst (λ (z : Equation). IsBasicBy members z.reason z.left z.right) (sym c.in_ok-e.ensures) (
      member,
      c.member_at-member.ensures,
      ap (λ n. Proto n ∷ Name member.name.rank ∷ []) (sym c.if-member-p.false),
      refl,
    ) in
    subst (AreBasic members) (sym c.in_ok-push.ensures.items) (basic_more members c.args.given.now.items e c.requires.basic is)

use Rattle.std.proofs.Common.{◌∙◌, ◌<◌, List, length, refl, subst, sym}
use Rattle.swreq_machine.{proofs.swreq_lemmas.Elements.{there_is}, specs.swreq_rule.declared.rules.Rule.{Rule}}
use Rattle.swreq_explain.proofs.history.system_of.Goals as goal

pub returns : goal.returns
returns c =
    let (r, at) = there_is c.args.makings.rounds.now c.args.round c.requires in
    let (more, split, are) = c.in_ok-add_used.ensures r at in
    record {
      round = r;
      there = at;
      base = refl;
      below = c.saturating_sub.ensures;
      rules = c.new.ensures ∙ c.in_ok-rules.ensures.items r at;
      few = subst (λ (z : List Rule). length z < 4294967295) (sym c.new.ensures) c.in_ok-rules.ensures.few;
      given = record {
        basic = c.in_ok-given.given.items;
        more = more;
        given_are = c.new-2.ensures ∙ split;
        sides = c.in_ok-given.ensures.sides;
        are_basic = c.in_ok-given.ensures.basic;
        are_of = are;
      };
    }

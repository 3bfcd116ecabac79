use Rattle.std.proofs.Common.{◌∙◌}
use Rattle.swreq_param.proofs.Growing.{onward}
use Rattle.swreq_lexicon.specs.swreq_derive.declared.requirements.Requirement.TheVariants.{Same}
use Rattle.swreq_lexicon.specs.swreq_derive.Derivation.TermRequirement.{Equals}
use Rattle.swreq_lowering.specs.Requirements.{equality}
use Rattle.swreq_lowering.specs.Types.{type_in}
use Rattle.swreq_lowering.specs.Words.{words_by}
use Rattle.swreq_lowering.proofs.Growing.{of_stays, adds_one}
use Rattle.swreq_lowering.proofs.requirements.add_same.Goals as goal

pub returns-clause-adds : goal.returns-clause-adds
returns-clause-adds c =
    let w = words_by c.args.words.now in
    let s = c.in_ok-t.ensures.spells in
    let r = c.in_ok-u.ensures.spells in
    adds_one c.args.table.now c.spell-2.new.table c.args.into.now.items c.push.new.self.items
    (record { requirement = Same c.in_ok-t.t c.in_ok-u.u; left_at = c.args.left.now.head.start; right_at = c.args.right.now.head.start })
    (equality (type_in w c.args.context c.args.left.now) c.args.left.now.head.start
    (type_in w c.args.context c.args.right.now) c.args.right.now.head.start)
    (onward c.args.table.now c.spell.new.table c.spell-2.new.table s.extends r.extends)
    c.in_ok-push.ensures.items
    (of_stays c.spell.new.table c.spell-2.new.table c.in_ok-t.t r.extends s.is_of, r.is_of)
    (λ i. record {
      requirement = Equals ((r.extends.stands c.in_ok-t.t s.is_of ∙ s.stands) i) (r.stands i);
      left_at = c.args.left.now.head.start;
      right_at = c.args.right.now.head.start;
    })

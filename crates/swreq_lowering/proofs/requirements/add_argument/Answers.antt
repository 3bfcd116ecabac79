use Rattle.std.proofs.Common.{ap, ◌∙◌}
use Rattle.swreq_param.specs.declared.ids.NameId.{NameId}
use Rattle.swreq_param.specs.declared.ids.Step.TheVariants.{Name}
use Rattle.swreq_param.specs.Terms.Term.{Member}
use Rattle.swreq_param.specs.Tables.{term_at}
use Rattle.swreq_param.proofs.Growing.{onward}
use Rattle.swreq_lexicon.specs.swreq_derive.declared.requirements.Requirement.TheVariants.{Same}
use Rattle.swreq_lexicon.specs.swreq_derive.Derivation.TermRequirement.{Equals}
use Rattle.swreq_lowering.specs.Requirements.{argument}
use Rattle.swreq_lowering.specs.Words.{words_by}
use Rattle.swreq_lowering.proofs.Growing.{extends_interned, of_stays, adds_one}
use Rattle.swreq_lowering.proofs.requirements.add_argument.Goals as goal

pub returns-clause-adds : goal.returns-clause-adds
returns-clause-adds c =
    let t = term_at c.args.table.now c.args.subject in
    let p = c.in_ok-left.ensures.ok in
    let q = c.in_ok-right.ensures.spells in
    adds_one c.args.table.now c.spell.new.table c.args.into.now.items c.push.new.self.items
    (record {
      requirement = Same c.in_ok-left.left c.in_ok-right.right;
      left_at = c.args.written.now.at;
      right_at = c.args.written.now.given.now.head.start;
    })
    (argument (words_by c.args.words.now) c.args.context t c.args.written.now.at c.args.written.now.name c.args.written.now.given.now)
    (onward c.args.table.now c.member.new.self c.spell.new.table
    (extends_interned c.args.table.now c.member.new.self _ c.in_ok-left.left p) q.extends)
    c.in_ok-push.ensures.items
    (of_stays c.member.new.self c.spell.new.table c.in_ok-left.left q.extends p.is_of, q.is_of)
    (λ i. record {
      requirement = Equals ((q.extends.stands c.in_ok-left.left p.is_of ∙ p.stands
          ∙ ap (λ (n : NameId). Member t (Name n)) c.name_of.ensures) i) (q.stands i);
      left_at = c.args.written.now.at;
      right_at = c.args.written.now.given.now.head.start;
    })

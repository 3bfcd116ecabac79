-- The answers on a walk along a path.
use Rattle.std.proofs.Common.{refl, sym, ap, subst, arith, ◌≡◌, ◌++◌, ◌+◌, ◌-◌, drop, ◌∙◌}
use Rattle.swreq_param.specs.Tables.{term_at}
use Rattle.swreq_readings.specs.Readable.{read_word, AllowsWord}
use Rattle.swreq_readings.proofs.ReadingLemmas.{is_still, both_still, term_still, word_right, word_still}
use Rattle.swreq_births.{specs.Systems.{rules_at}, proofs.{Alike.{both_as}, Headed.{headed, stands_before}, Asking.{side_allows}}}
use Rattle.swreq_births.proofs.PathSteps.{goes_along, goes_on, is_number, went_on, rule_before, step_by}
use Rattle.swreq_derivation.proofs.DerivationLemmas.{continues_anyway, continues_if, continues_then, grows_then}
use Rattle.swreq_complete.specs.{swreq_rule.Steps.{RuleAt}, swreq_path.Paths.{put_side, replaced_side, StepsLead}}
use Rattle.swreq_births.proofs.unfolding.+lines_of_rule.Goals as goal

pub walk_along-rule_of-rule-requires : goal.walk_along-rule_of-rule-requires
walk_along-rule_of-rule-requires t c =
    let path = c.args.path.now in
    let rules = c.rules_before-rules.result.now in
    let step = c.step_of-step.result.now in
    let go = goes_along rules _ path c.loop-k.k step c.loop-k.word c.requires.path.end c.rules_before-rules.ensures c.step_of-step.ensures
    c.loop-k.invariant.left c.requires.path.leads in
    is_number rules step.rule go.leads.rule go.leads.is_rule

pub walk_along-lines_of_rule-requires : goal.walk_along-lines_of_rule-requires
walk_along-lines_of_rule-requires t c =
    let b = c.args.history.now in
    let g = b.alphabet in
    let s0 = c.args.derivation.now in
    let s = c.loop-k.derivation in
    let s1 = c.read_word.new.derivation in
    let at = c.args.at in
    let path = c.args.path.now in
    let rules = c.rules_before-rules.result.now in
    let step = c.step_of-step.result.now in
    let rule = c.rule_of-rule.result.now in
    let by = step_by rules _ path c.loop-k.k step c.loop-k.word c.requires.path.end c.rules_before-rules.ensures c.step_of-step.ensures
    c.loop-k.invariant.left c.requires.path.leads rule c.rule_of-rule.ensures in
    let among = rule_before (rules_at b at.system) at.rule step.rule rule
    (subst (λ z. RuleAt z step.rule rule) c.rules_before-rules.ensures c.rule_of-rule.ensures) in
    let asks = headed b c.requires.path.rules.system.history at.system (step.rule - 1) rule among.1 in
    let here = c.in_ok-v.ensures.stands ∙ ap (λ z. read_word g (term_at s.table c.args.subject) z) c.symbols.ensures
    ∙ ap (λ z. read_word g z step.before) (term_still s0 s c.loop-k.invariant.continues.grows c.args.subject c.requires.word.subject) in
    let says = word_right g s1 (term_at s0.table c.args.subject) step.before (replaced_side step.forward rule ++ step.after)
    (subst (AllowsWord g s1 (term_at s0.table c.args.subject)) by.source
    (word_still g s s1 c.in_ok-v.ensures.continues.grows (term_at s0.table c.args.subject) c.loop-k.word c.loop-k.invariant.both.right)) in
    let allows = side_allows g s1 (term_at s1.table c.in_ok-v.v) rule step.forward step.after asks
    (subst (λ z. AllowsWord g s1 z (replaced_side step.forward rule ++ step.after)) (sym here) says) in
    let x = stands_before b at c.before-in-loop-k.result step.rule rule c.requires.path.rules.system c.before-in-loop-k.ensures among.0
    among.1 in (
      omega (arith, c.decreases, x.same, x.earlier),
      record { rule = x.there; subject = c.in_ok-v.ensures.is_of; head = allows },
    )

pub walk_along-take_step-requires : goal.walk_along-take_step-requires
walk_along-take_step-requires t c =
    let g = c.args.history.now.alphabet in
    let s0 = c.args.derivation.now in
    let s = c.loop-k.derivation in
    let s1 = c.read_word.new.derivation in
    let s2 = c.lines_of_rule.new.derivation in
    let path = c.args.path.now in
    let rules = c.rules_before-rules.result.now in
    let step = c.step_of-step.result.now in
    let rule = c.rule_of-rule.result.now in
    let gr = grows_then c.in_ok-v.ensures.continues.grows c.in_ok-lines_of_rule.ensures.continues.grows in
    let g02 = grows_then c.loop-k.invariant.continues.grows gr in
    let is = is_still s0 s c.loop-k.invariant.continues.grows c.args.subject c.requires.word.subject in
    let by = step_by rules _ path c.loop-k.k step c.loop-k.word c.requires.path.end c.rules_before-rules.ensures c.step_of-step.ensures
    c.loop-k.invariant.left c.requires.path.leads rule c.rule_of-rule.ensures in record {
      subject = is_still s0 s2 g02 c.args.subject c.requires.word.subject;
      both = both_as g s2 (term_at s1.table c.in_ok-v.v) _ _ _ _ _ (c.in_ok-v.ensures.stands
          ∙ ap (λ z. read_word g (term_at s.table c.args.subject) z) c.symbols.ensures
          ∙ ap (λ z. read_word g z step.before) (sym (term_still s s2 gr c.args.subject is))) refl refl c.in_ok-lines_of_rule.ensures.both;
      word = subst (λ z. AllowsWord g s2 z (step.before ++ (replaced_side step.forward rule ++ step.after)))
          (sym (term_still s0 s2 g02 c.args.subject c.requires.word.subject))
          (subst (AllowsWord g s2 (term_at s0.table c.args.subject)) by.source
          (word_still g s s2 gr (term_at s0.table c.args.subject) c.loop-k.word c.loop-k.invariant.both.right));
    }

pub walk_along-join-requires : goal.walk_along-join-requires
walk_along-join-requires t c =
    let g = c.args.history.now.alphabet in
    let s0 = c.args.derivation.now in
    let s = c.loop-k.derivation in
    let s1 = c.read_word.new.derivation in
    let s2 = c.lines_of_rule.new.derivation in
    let s3 = c.take_step.new.derivation in
    let path = c.args.path.now in
    let rules = c.rules_before-rules.result.now in
    let step = c.step_of-step.result.now in
    let rule = c.rule_of-rule.result.now in
    let g2 = grows_then c.in_ok-v.ensures.continues.grows c.in_ok-lines_of_rule.ensures.continues.grows in
    let gr = grows_then g2 c.in_ok-take_step.ensures.continues.grows in
    let g03 = grows_then c.loop-k.invariant.continues.grows gr in
    let is = is_still s s2 g2 c.args.subject (is_still s0 s c.loop-k.invariant.continues.grows c.args.subject c.requires.word.subject) in
    let by = step_by rules _ path c.loop-k.k step c.loop-k.word c.requires.path.end c.rules_before-rules.ensures c.step_of-step.ensures
    c.loop-k.invariant.left c.requires.path.leads rule c.rule_of-rule.ensures in record {
      subject = is_still s0 s3 g03 c.args.subject c.requires.word.subject;
      first = both_as g s3 (term_at s0.table c.args.subject) _ path.start _ c.loop-k.word _
          (sym (term_still s0 s3 g03 c.args.subject c.requires.word.subject))
          (sym c.symbols-in-loop-k.ensures) (sym c.symbols-in-loop-k-2.ensures)
          (both_still g s s3 gr (term_at s0.table c.args.subject) path.start c.loop-k.word c.loop-k.invariant.both);
      second = both_as g s3 (term_at s2.table c.args.subject) _ (step.before ++ (replaced_side step.forward rule ++ step.after)) _
          (step.before ++ (put_side step.forward rule ++ step.after)) _
          (sym (term_still s2 s3 c.in_ok-take_step.ensures.continues.grows c.args.subject is)) (sym by.source ∙ sym
          c.symbols-in-loop-k-2.ensures)
          (sym by.target ∙ sym (c.in_ok-next.ensures c.loop-k.word by.next by.leads) ∙ sym c.symbols-in-loop-k-3.ensures)
          c.in_ok-take_step.ensures.both;
    }

pub walk_along-loop-k-preserved : goal.walk_along-loop-k-preserved
walk_along-loop-k-preserved t c =
    let g = c.args.history.now.alphabet in
    let i = c.loop-k.invariant in
    let path = c.args.path.now in
    let steps = path.steps in
    let step = c.step_of-step.result.now in
    let rules = c.rules_before-rules.result.now in
    let s0 = c.args.derivation.now in
    let s3 = c.take_step.new.derivation in
    let gr = grows_then (grows_then c.in_ok-v.ensures.continues.grows c.in_ok-lines_of_rule.ensures.continues.grows)
    c.in_ok-take_step.ensures.continues.grows in
    let g03 = grows_then i.continues.grows gr in
    let go = goes_along rules _ path c.loop-k.k step c.loop-k.word c.requires.path.end c.rules_before-rules.ensures c.step_of-step.ensures
    i.left c.requires.path.leads in
    let here : c.in_ok-next.next ≡ go.next = c.in_ok-next.ensures c.loop-k.word go.next go.leads in record {
      both = both_as g c.join.new.derivation _ (term_at s0.table c.args.subject) _ path.start _ c.in_ok-next.next
          (term_still s0 s3 g03 c.args.subject c.requires.word.subject) c.symbols-in-loop-k.ensures c.symbols-in-loop-k-3.ensures
          c.in_ok-join.ensures.both;
      left = λ b l. (let other = goes_on rules steps c.loop-k.k step c.loop-k.word b c.step_of-step.ensures (i.left b l) in
          subst (λ z. StepsLead rules (drop (c.loop-k.k + 1) steps) z b)
          (sym (c.in_ok-next.ensures c.loop-k.word other.next other.leads)) other.rest);
      done = λ b l. i.done b (went_on rules steps c.loop-k.k step c.loop-k.word go.next b c.step_of-step.ensures go.leads
          (subst (λ z. StepsLead rules (drop (c.loop-k.k + 1) steps) z b) here l));
      continues = continues_then (continues_then (continues_then (continues_then i.continues (continues_anyway
          c.in_ok-v.ensures.continues)) c.in_ok-lines_of_rule.ensures.continues) (continues_if (λ b f. f.alphabet)
          c.in_ok-take_step.ensures.continues)) (continues_anyway c.in_ok-join.ensures.continues);
    }

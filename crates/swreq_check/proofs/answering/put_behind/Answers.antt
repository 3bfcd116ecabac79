use Rattle.std.proofs.Common.{◌≡◌, ◌∙◌, [], Some, append-nil, ap, rules, subst, sym, true}
use Rattle.std.specs.Bool.{Decides}
use Rattle.std.proofs.lemmas.Bool.Decides.{not_from_Decides}
use Rattle.std.proofs.lemmas.Result.{on_ok_weaker}
use Rattle.swreq_machine.specs.swreq_derive.Derivation.{Derivable, TermRequirement}
use Rattle.swreq_machine.specs.swreq_derive.Derivation.TermStatement.{Requires}
use Rattle.swreq_machine.specs.swreq_derive.Facts.{requirement_of}
use Rattle.swreq_machine.specs.swreq_lowering.declared.ids.Asks.{Asks}
use Rattle.swreq_machine.specs.swreq_lowering.declared.ids.FuncId.{FuncId}
use Rattle.swreq_machine.specs.swreq_lowering.ByTable.{asks_by, query_by}
use Rattle.swreq_machine.specs.swreq_lowering.Queries.TermAsks.{AsksRequirement}
use Rattle.swreq_machine.specs.swreq_symbols.Known.{IsAskedIn}
use Rattle.swreq_machine.specs.swreq_symbols.Meaning.{facts_of}
use Rattle.swreq_machine.specs.swreq_world.FactsAt.{source_of}
use Rattle.swreq_machine.specs.swreq_world.Worlds.{signature_at}
use Rattle.swreq_query.specs.Answers.Answer.{Yes}
use Rattle.swreq_query.specs.declared.verdict.Verdict.TheVariants as verdicts
use Rattle.swreq_check.specs.Contents.{backing_of}
use Rattle.swreq_check.specs.QueryLines.{BacksYes, HasAnswer}
use Rattle.swreq_check.specs.Settings.{world_in}
use Rattle.swreq_check.proofs.Asking.{machine_function}
use Rattle.swreq_check.proofs.Flags.{query_in}
use Rattle.swreq_check.proofs.Lines.{behind_others, behind_yes}
use Rattle.swreq_check.proofs.answering.put_behind.Goals as goal

pub put_backing-requires-clause-yes : goal.put_backing-requires-clause-yes
put_backing-requires-clause-yes c =
    let terms = c.args.table.now in
    let own = c.args.means.now.own in
    let ids = own.s.now.world.now in
    let w = world_in terms own.s.now in
    let r = requirement_of terms c.in-Requirement.r in
    let decides : Decides c.eq.result (c.args.verdict ≡ Some verdicts.Yes) = search rules in
    let has : HasAnswer w true Yes (query_by terms c.args.query.now) = (c.requires.verdict verdicts.Yes).1 (decides.0 c.if-eq.true) in
    let asks : AsksRequirement has.1.0 ≡ AsksRequirement r = sym has.1.1 ∙ ap (asks_by terms) c.in-Requirement.is in
    let same : has.1.0 ≡ r = cc in record {
      ids = subst (IsAskedIn terms ids.lexicon) c.in-Requirement.is
          (query_in ids terms c.requires.means.own.ready.text c.args.query.now c.requires.query.is).1;
      derivable = subst (λ (f : FuncId). Derivable (facts_of w) (source_of (signature_at w f)) (Requires r))
          (machine_function c.args.query.now own.f c.requires.query.asks)
          (subst (λ (z : TermRequirement). Derivable (facts_of w) (source_of (signature_at w c.args.query.now.f)) (Requires z)) same
          has.1.2);
    }

pub returns-then-eq-clause-backing : goal.returns-then-eq-clause-backing
returns-then-eq-clause-backing c =
    let terms = c.args.table.now in
    let own = c.args.means.now.own in
    let w = world_in terms own.s.now in
    let b = backing_of own.s.now.content in
    let q = query_by terms c.args.query.now in
    let r = requirement_of terms c.in-Requirement.r in
    let decides : Decides c.eq.result (c.args.verdict ≡ Some verdicts.Yes) = search rules in
    let has : HasAnswer w true Yes q = (c.requires.verdict verdicts.Yes).1 (decides.0 c.if-eq.true) in
    let asks = sym (machine_function c.args.query.now own.f c.requires.query.asks) in
    on_ok_weaker c.put_backing.result
    (λ (text, backs, grown). (
      text,
      behind_yes w b q text r has (ap (asks_by terms) c.in-Requirement.is) (subst (λ (f : FuncId). BacksYes w b f r text) asks backs),
      grown,
    ))
    c.put_backing.ensures.backing

pub returns-else-eq-clause-backing : goal.returns-else-eq-clause-backing
returns-else-eq-clause-backing c =
    let s = c.args.means.now.own.s.now in
    let w = world_in c.args.table.now s in
    let q = query_by c.args.table.now c.args.query.now in
    let decides : Decides c.eq.result (c.args.verdict ≡ Some verdicts.Yes) = search rules in (
      [],
      behind_others w (backing_of s.content) q c.args.verdict c.requires.verdict (not_from_Decides c.eq.result decides c.if-eq.false),
      sym (append-nil c.args.out.now.items),
    )

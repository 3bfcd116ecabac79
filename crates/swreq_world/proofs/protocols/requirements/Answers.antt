use Rattle.std.proofs.Common.{[], sym, ap, ◌∙◌, arith}
use Rattle.std.proofs.lemmas.Option.{get_or_from_slice_get}
use Rattle.swreq_lowering.specs.ByTable.{AreOf, placed}
use Rattle.swreq_lowering.specs.Words.{words_by}
use Rattle.swreq_lowering.proofs.Growing.{are_of_stay, placed_stay}
use Rattle.swreq_world.specs.Text.{requirements_named}
use Rattle.swreq_world.proofs.Filled.{fills_more}
use Rattle.swreq_world.proofs.protocols.requirements.Goals as goal

pub loop-rank-preserved : goal.loop-rank-preserved
loop-rank-preserved c =
    let w = words_by c.args.words.now in
    let names = c.args.words.now.lexicon.now.protocols in
    let within = c.loop-rank-test.true in
    record {
      within = omega arith;
      filled = fills_more AreOf placed (λ a b x. are_of_stay a b x) (λ a b x. placed_stay a b x)
          (requirements_named w) names c.loop-rank.rank [] c.args.table.now c.loop-rank.table c.listed.new.table
          c.loop-rank.made.items c.push.new.self.items c.in_ok-list.list
          (omega arith) c.loop-rank.invariant.filled c.in_ok-list.ensures.extends c.in_ok-list.ensures.of
          (c.in_ok-list.ensures.means ∙ ap (requirements_named w)
          (sym (get_or_from_slice_get names c.loop-rank.rank c.proto_name-name.result.now [] c.proto_name-name.ensures)))
          c.in_ok-push.ensures.items;
    }

use Rattle.std.proofs.Common.{ℕ, List, subst}
use Rattle.std.specs.List.{flat_map}
use Rattle.std.proofs.lemmas.Result.{on_err_weaker}
use Rattle.swreq_text.specs.Joined.{GrewByPart}
use Rattle.swreq_text.proofs.Grown.{grew_first, grew_next, on_err}
use Rattle.swreq_print.specs.swreq_lexicon.Views.{LexiconView}
use Rattle.swreq_machine.specs.swreq_world.Worlds.{signature_at}
use Rattle.swreq_query.specs.Systems.{rule_line}
use Rattle.swreq_query.proofs.Systems.{system_by_parts}
use Rattle.swreq_machine.specs.swreq_symbols.Texts.{world_of}
use Rattle.swreq_query.proofs.system.put_system.Goals as goal

pub returns-in_err-put_head-clause-err : goal.returns-in_err-put_head-clause-err
returns-in_err-put_head-clause-err c =
    let w = world_of c.args.text.now in
    on_err c.from_residual.result
    (subst (λ (text : List ℕ). GrewByPart c.args.out.now.items text c.put_head.new.out.items)
    (system_by_parts w (signature_at w c.args.f) c.args.rules.now)
    (grew_first _ _ _ (flat_map (rule_line c.args.text.now.world.now.lexicon) c.args.rules.now) c.in_err-put_head.ensures.err))

pub returns-clause-err : goal.returns-clause-err
returns-clause-err c =
    let w = world_of c.args.text.now in
    on_err_weaker c.put_rules.result
    (λ part. subst (λ (text : List ℕ). GrewByPart c.args.out.now.items text c.put_rules.new.out.items)
    (system_by_parts w (signature_at w c.args.f) c.args.rules.now)
    (grew_next _ _ _ _ _ c.in_ok-put_head.ensures.ok
    (subst (λ (x : LexiconView). GrewByPart c.put_head.new.out.items (flat_map (rule_line x) c.args.rules.now) c.put_rules.new.out.items)
    c.lexicon.ensures part)))
    c.put_rules.ensures.err

use Rattle.std.proofs.Common.{◌∙◌, sym, ap, arith, ◌++◌, length, map}
use Rattle.std.proofs.lemmas.Result.{IfOk-weaker}
use Rattle.swreq_lexicon.specs.swreq_derive.declared.requirements.Requirement.{Requirement}
use Rattle.swreq_lowering.specs.declared.ids.Written.{Written}
use Rattle.swreq_world.specs.Entries.{around}
use Rattle.swreq_world.proofs.KeptFronts.{end_changed, own_within}
use Rattle.swreq_world.proofs.entry.whole_after.Goals as goal

abbrev bare : Written → Requirement
bare r = r.requirement

pub with_end-requires : goal.with_end-requires
with_end-requires c =
    let own = own_within bare (around c.args.entries.now c.args.last.now.outer) c.args.last.now.own c.args.list.items c.requires in
    let same = ap length c.items.ensures in
    omega (arith, own, same)

pub returns-then-are_together : goal.returns-then-are_together
returns-then-are_together c =
    let struct_of_last = around c.args.entries.now c.args.last.now.outer in
    let struct_of_entry = around c.args.entries.now c.args.entry.now.outer in
    let own = c.items-then-are_together.result.now in
    let same = ap (around c.args.entries.now) (c.are_together.ensures c.if-are_together.true) in
    let changed =
    end_changed bare struct_of_last c.items.result.now c.args.list.items
    (c.requires ∙ ap (λ z. map bare (struct_of_last ++ z)) (sym c.items.ensures)) own in
    IfOk-weaker c.with_end.result _ _
    (λ v e. e ∙ changed ∙ ap (λ z. map bare (z ++ own)) same ∙ ap (λ z. map bare (struct_of_entry ++ z)) c.items-then-are_together.ensures)
    c.with_end.ensures

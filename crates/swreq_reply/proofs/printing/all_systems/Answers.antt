use Rattle.std.proofs.Common.{◌∙◌, ◌<◌, ◌++◌, List, ap, arith, length, subst, ℕ}
use Rattle.std.proofs.lemmas.List.{length-map}
use Rattle.swreq_query.specs.Systems.{IsSystemText}
use Rattle.swreq_valid.specs.swreq_world.ByTable.{signature_by}
use Rattle.swreq_valid.specs.swreq_world.Worlds.{no_signature}
use Rattle.swreq_valid.specs.swreq_symbols.Texts.{world_of}
use Rattle.swreq_check.specs.Made.{text_at}
use Rattle.swreq_reply.specs.Pieces.{IsWhole, MadeView}
use Rattle.swreq_check.proofs.Lines.{lines_all, lines_next, lines_none}
use Rattle.swreq_reply.proofs.Printed.{system_at, systems_counted}
use Rattle.swreq_reply.proofs.printing.all_systems.Goals as goal

pub loop-k-init : goal.loop-k-init
loop-k-init c = lines_none (IsSystemText (world_of c.args.m.now.text)) (world_of c.args.m.now.text).signatures _ c.new-out.ensures.items

pub loop-k-preserved : goal.loop-k-preserved
loop-k-preserved c =
    let m = c.args.m.now in
    let whole = subst IsWhole c.m.view_is c.m.invariant in
    let counted = systems_counted _ _ c.m.view_is whole c.requires in
    let below : c.loop-k.k < length m.text.world.now.signatures = omega (arith, counted, c.loop-k-test.true) in
    lines_next (IsSystemText (world_of m.text)) (world_of m.text).signatures c.loop-k.k no_signature _ _ _
    (omega (arith, below, length-map m.text.world.now.signatures (signature_by m.text.table.now))) c.loop-k.invariant
    (system_at m whole c.requires (record { place = c.loop-k.k }) below)
    (c.in_ok-append_bytes.ensures.ok ∙ ap (λ (t : List ℕ). c.loop-k.out.items ++ t)
    (c.text_at.ensures ∙ ap (λ (z : MadeView). text_at z.pieces c.loop-k.k) c.m.view_is))

pub returns : goal.returns
returns c =
    let m = c.args.m.now in
    let counted = systems_counted _ _ c.m.view_is (subst IsWhole c.m.view_is c.m.invariant) c.requires in
    lines_all (IsSystemText (world_of m.text)) (world_of m.text).signatures c.loop-k.k _
    (omega (arith, counted, length-map m.text.world.now.signatures (signature_by m.text.table.now), c.loop-k-test.false))
    c.loop-k.invariant

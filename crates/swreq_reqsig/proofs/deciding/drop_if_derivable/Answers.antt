use Rattle.std.proofs.Common.{◌∙◌, ap, arith, false, length, sym}
use Rattle.std.proofs.lemmas.List.{length-set}
use Rattle.swreq_reqsig.proofs.Signatures.{flag_within, flags_count, met_by, place_there}
use Rattle.swreq_valid.proofs.swreq_symbols.OfTexts.{text_over}
use Rattle.swreq_reqsig.proofs.deciding.drop_if_derivable.Goals as goal

pub index_mut-requires : goal.index_mut-requires
index_mut-requires g c =
    let s = c.args.setting.now in
    let x = place_there s.text.world.now s.places.now c.args.at s.all c.requires.at in
    let l = flag_within s.text.world.now s.text.table.now (text_over s.text) s.limits c.args.at c.args.flags.now.items x.0 x.2
    c.requires.left in
    let o = c.args.flags.now.ok in
    omega (arith, l, o)

pub is_derivable_without-requires-clause-flags : goal.is_derivable_without-requires-clause-flags
is_derivable_without-requires-clause-flags g c =
    let s = c.args.setting.now in
    let x = place_there s.text.world.now s.places.now c.args.at s.all c.requires.at in
    ap length c.deref.ensures.value ∙ length-set c.args.flags.now.items c.args.at false
    ∙ flags_count s.text.world.now s.text.table.now (text_over s.text) s.limits c.args.at c.args.flags.now.items x.0 x.2 c.requires.left
    ∙ ap length (sym s.all)

pub index_mut-requires-2 : goal.index_mut-requires-2
index_mut-requires-2 g c =
    let s = c.args.setting.now in
    let x = place_there s.text.world.now s.places.now c.args.at s.all c.requires.at in
    let l = flag_within s.text.world.now s.text.table.now (text_over s.text) s.limits c.args.at c.args.flags.now.items x.0 x.2
    c.requires.left in
    let o = c.args.flags.now.ok in
    omega (arith, l, o)

pub returns-clause-met : goal.returns-clause-met
returns-clause-met g c =
    let s = c.args.setting.now in
    let x = place_there s.text.world.now s.places.now c.args.at s.all c.requires.at in
    met_by s.text.world.now s.text.table.now (text_over s.text) s.limits c.args.at c.args.flags.now.items x.0 x.2 c.requires.left
    c.requires.well_formed c.deref.result.now c.in_ok-derivable.derivable c.deref.ensures.value
    (c.in_ok-derivable.ensures.answer x.0 x.1)
    (g.W.Watch.told c.args.watch.now) (g.W.Watch.told c.is_derivable_without.new.watch) c.in_ok-derivable.ensures.settled

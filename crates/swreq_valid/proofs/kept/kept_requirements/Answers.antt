use Rattle.std.proofs.Common.{◌≡◌, ◌∙◌, ◌<◌, ap, arith, sym, subst₂, refl, Bool, List, length, map, ◌++◌, slice_get, Some}
use Rattle.std.proofs.lemmas.Option.{slice_get_read}
use Rattle.swreq_valid.specs.Flags.{chosen}
use Rattle.swreq_valid.specs.Keeping.{kept_in}
use Rattle.swreq_valid.specs.Plans.{in_protocol}
use Rattle.swreq_valid.proofs.OfKept.{all_lists, one_list}
use Rattle.swreq_valid.proofs.OfProtocols.{proto_within}
use Rattle.swreq_valid.proofs.kept.kept_requirements.Goals as goal

pub bare_requirements-list-requires : goal.bare_requirements-list-requires
bare_requirements-list-requires c = proto_within c.args.world.now.lexicon c.requires.ids c.loop-k.k c.proto_at-p.result c.proto_at-p.ensures

pub loop-k-preserved : goal.loop-k-preserved
loop-k-preserved c =
    let w = c.args.world.now in
    let lists : List (List Bool) = c.items-lists.result.now in
    let within : c.loop-k.k < length lists =
    (let a = c.loop-k-test.true in let b = c.protocols-k-end.ensures in let e = c.requires.ids.each_once in
    let f = c.requires.keep.protocols in
    let g = ap length c.items-lists.ensures in omega (arith, a, b, e, f, g)) in
    let at : slice_get lists c.loop-k.k ≡ Some c.index-lists-k.result =
    slice_get_read lists (length lists) c.loop-k.k c.index-lists-k.result refl within c.index-lists-k.is in
    one_list w w.lexicon.written_order c.args.keep.now.lists c.loop-k.k c.proto_at-p.result c.items.result.now
    c.loop-k.v.items c.add_kept.new.wanted.items
    (kept_in w w.lexicon.written_order c.args.keep.now.lists) c.proto_at-p.ensures
    (subst₂ (λ (xs : List (List Bool)) (f : List Bool). slice_get xs c.loop-k.k ≡ Some f) c.items-lists.ensures (sym c.items.ensures) at)
    (c.in_ok-add_kept.ensures
    ∙ ap (λ z. c.loop-k.v.items ++ map (in_protocol c.proto_at-p.result) (chosen z c.items.result.now)) c.bare_requirements-list.ensures)
    c.loop-k.invariant

pub returns : goal.returns
returns c =
    let w = c.args.world.now in
    all_lists w w.lexicon.written_order c.args.keep.now.lists c.loop-k.k c.loop-k.v.items
    (kept_in w w.lexicon.written_order c.args.keep.now.lists)
    (let a = c.loop-k-test.false in let b = c.protocols-k-end.ensures in let e = c.requires.ids.each_once in
    omega (arith, a, b, e)) c.loop-k.invariant

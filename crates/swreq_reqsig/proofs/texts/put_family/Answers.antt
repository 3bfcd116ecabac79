use Rattle.std.proofs.Common.{◌≡◌, ◌++◌, ◌<◌, ap, arith, length, List, refl, slice_get, Some, subst₂, sym, ℕ}
use Rattle.std.proofs.lemmas.Option.{slice_get_read}
use Rattle.swreq_valid.proofs.OfProtocols.{proto_within}
use Rattle.swreq_reqsig.specs.Texts.{family_text}
use Rattle.swreq_reqsig.proofs.Printed.{lines_done, one_line}
use Rattle.swreq_valid.specs.swreq_symbols.Texts.{world_of}
use Rattle.swreq_valid.proofs.swreq_symbols.OfTexts.{text_over}
use Rattle.swreq_reqsig.proofs.texts.put_family.Goals as goal

pub put_numbered-requires : goal.put_numbered-requires
put_numbered-requires c =
    proto_within c.args.text.now.world.now.lexicon (text_over c.args.text.now).closed.ids c.loop-k.k c.proto_at-p.result
    c.proto_at-p.ensures

pub loop-k-preserved : goal.loop-k-preserved
loop-k-preserved c =
    let w = world_of c.args.text.now in
    let kept = c.args.family.now.kept in
    let k = c.loop-k.k in
    let lists : List (List ℕ) = c.items-lists.result.now in
    let within : k < length lists =
    (let a = c.loop-k-test.true in let b = c.protocols-k-end.ensures in let f = c.requires in
    let g = ap length c.items-lists.ensures in omega (arith, a, b, f, g)) in
    let at : slice_get lists k ≡ Some c.index-lists-k.result =
    slice_get_read lists (length lists) k c.index-lists-k.result refl within c.index-lists-k.is in
    one_line w w.lexicon.written_order kept k c.proto_at-p.result c.items.result.now c.loop-k.out.items c.put_numbered.new.out.items
    (c.args.out.now.items ++ family_text w kept) c.proto_at-p.ensures
    (subst₂ (λ (xs : List (List ℕ)) (f : List ℕ). slice_get xs k ≡ Some f) c.items-lists.ensures (sym c.items.ensures) at)
    c.in_ok-put_numbered.ensures c.loop-k.invariant

pub returns : goal.returns
returns c =
    let w = world_of c.args.text.now in
    let kept = c.args.family.now.kept in
    lines_done w w.lexicon.written_order kept c.loop-k.k c.loop-k.out.items (c.args.out.now.items ++ family_text w kept)
    (let a = c.loop-k-test.false in let b = c.protocols-k-end.ensures in
    let e = (text_over c.args.text.now).closed.ids.each_once in omega (arith, a, b, e))
    c.loop-k.invariant

use Rattle.std.proofs.{lemmas.List.{length-map}, Common.{length, Some, arith, refl, ap, ◌∙◌, ◌++◌}}
use Rattle.swreq_machine.specs.{swreq_lowering.declared.ids.Written.{Written}, swreq_world.Worlds.{requirements_of}}
use Rattle.swreq_machine.{specs.swreq_valid.Plans.{bare}, proofs.swreq_symbols.OfTexts.{ids_over, text_over}}
use Rattle.swreq_machine.proofs.swreq_valid.{Listing.{parts_all}, OfProtocols.{part_at, proto_within}}
use Rattle.swreq_explain.{proofs.NumberingLemmas.{short_list}, specs.Numbering.{numbered_from, numbered_in}}
use Rattle.swreq_explain.proofs.numbered.all_numbered.Goals as goal

pub bare_requirements-requires : goal.bare_requirements-requires
bare_requirements-requires c = proto_within c.args.text.now.world.now.lexicon (ids_over c.args.text.now) c.loop-k.k c.proto_at-p.result
    c.proto_at-p.ensures

pub add_numbered-requires : goal.add_numbered-requires
add_numbered-requires c =
    let w = c.args.text.now.world.now in
    let p = c.proto_at-p.result in
    let short = short_list w (text_over c.args.text.now).short.protocols p in
    let count = ap length c.bare_requirements.ensures ∙ length-map (requirements_of w p) (λ (r : Written). r.requirement) in
    omega (arith, short, count)

pub loop-k-preserved : goal.loop-k-preserved
loop-k-preserved c =
    let w = c.args.text.now.world.now in
    part_at (numbered_in w) (λ p. numbered_from (Some p) 1 (bare (requirements_of w p)))
    (λ p ps. refl) w.lexicon.written_order c.loop-k.k c.proto_at-p.result
    c.loop-k.numbered.items c.add_numbered.new.numbered.items (numbered_in w w.lexicon.written_order) c.proto_at-p.ensures
    (c.in_ok-add_numbered.ensures
    ∙ ap (λ z. c.loop-k.numbered.items ++ numbered_from (Some c.proto_at-p.result) 1 z) c.bare_requirements.ensures) c.loop-k.invariant

pub returns : goal.returns
returns c =
    let w = c.args.text.now.world.now in
    parts_all (numbered_in w) (λ p. numbered_from (Some p) 1 (bare (requirements_of w p))) refl
    (λ p ps. refl) w.lexicon.written_order c.loop-k.k c.loop-k.numbered.items (numbered_in w w.lexicon.written_order)
    (let a = c.loop-k-test.false in let b = c.protocols-k-end.ensures in let e = (ids_over c.args.text.now).each_once in
    omega (arith, a, b, e)) c.loop-k.invariant

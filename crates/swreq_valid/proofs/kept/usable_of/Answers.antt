use Rattle.std.proofs.lemmas.List.Elements.{Contains-get_or}
use Rattle.swreq_rounds.specs.swreq_derive.Facts.{requirement_of}
use Rattle.swreq_world.specs.Worlds.{requirements_of}
use Rattle.swreq_valid.specs.Keeping.{IsUsableBy}
use Rattle.swreq_valid.proofs.Made.{written_known}
use Rattle.swreq_valid.proofs.OfKept.{told_here, told_of, told_to_end}
use Rattle.swreq_symbols.proofs.OfText.{protocol_written}
use Rattle.swreq_symbols.specs.Texts.{world_of}
use Rattle.swreq_symbols.proofs.OfTexts.{text_over}
use Rattle.swreq_valid.proofs.kept.usable_of.Goals as goal

pub is_usable-requires : goal.is_usable-requires
is_usable-requires c =
    written_known c.args.text.now.table.now c.args.text.now.world.now.lexicon
    (requirements_of c.args.text.now.world.now c.args.protocol) c.bare_requirements-list.result.now c.bare_requirements-list.ensures
    (protocol_written c.args.text.now.world.now c.args.text.now.table.now (text_over c.args.text.now) c.args.protocol) _
    (Contains-get_or c.bare_requirements-list.result.now c.loop-k.k _ c.loop-k-test.true)

pub loop-k-preserved : goal.loop-k-preserved
loop-k-preserved c =
    told_here (λ r. IsUsableBy (world_of c.args.text.now) c.args.rules.now c.args.protocol
    (requirement_of c.args.text.now.table.now r))
    c.bare_requirements-list.result.now
    c.loop-k.k _ c.loop-k.flags.items c.push.new.self.items c.in_ok-shown.shown c.loop-k-test.true c.in_ok-push.ensures.items
    c.loop-k.invariant c.in_ok-shown.ensures

pub returns : goal.returns
returns c =
    told_of c.args.text.now.world.now c.args.text.now.table.now c.args.rules.now c.args.protocol c.bare_requirements-list.result.now
    c.loop-k.flags.items
    c.bare_requirements-list.ensures
    (told_to_end (λ r. IsUsableBy (world_of c.args.text.now) c.args.rules.now c.args.protocol
    (requirement_of c.args.text.now.table.now r)) c.bare_requirements-list.result.now
    c.loop-k.k c.loop-k.flags.items c.loop-k-test.false c.loop-k.invariant)

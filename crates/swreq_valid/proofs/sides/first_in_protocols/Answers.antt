use Rattle.std.proofs.Common.{arith, refl, []}
use Rattle.swreq_rounds.specs.swreq_derive.Derivation.Source.{SelfOf}
use Rattle.swreq_symbols.specs.Meaning.{facts_of, symbols_of}
use Rattle.swreq_world.specs.Worlds.{requirements_of}
use Rattle.swreq_valid.specs.Sides.{IsShownSide, protocol_sides, sides, sides_in}
use Rattle.swreq_valid.proofs.FirstSide.{fails_at, hold_all, holds_at, none_yet}
use Rattle.swreq_valid.proofs.OfProtocols.{proto_within, protocol_found, protocol_listed}
use Rattle.swreq_symbols.specs.Texts.{world_of}
use Rattle.swreq_symbols.proofs.OfTexts.{text_over}
use Rattle.swreq_valid.proofs.sides.first_in_protocols.Goals as goal

pub loop-k-init : goal.loop-k-init
loop-k-init c = none_yet (IsShownSide (symbols_of c.args.text.now.world.now.lexicon)
    (facts_of (world_of c.args.text.now)) c.args.rules.now) (protocol_sides (world_of c.args.text.now))

pub requirements-list-requires : goal.requirements-list-requires
requirements-list-requires c =
    proto_within c.args.text.now.world.now.lexicon (text_over c.args.text.now).closed.ids c.loop-k.k c.proto_at-p.result
    c.proto_at-p.ensures

pub first_invalid-requires : goal.first_invalid-requires
first_invalid-requires c = record {
  list = protocol_listed c.args.text.now.world.now c.args.text.now.table.now
      (text_over c.args.text.now) c.proto_at-p.result c.requirements-list.result.now
      c.requirements-list.ensures;
}

pub loop-k-preserved : goal.loop-k-preserved
loop-k-preserved c =
    holds_at (IsShownSide (symbols_of c.args.text.now.world.now.lexicon) (facts_of (world_of c.args.text.now)) c.args.rules.now)
    (sides_in (world_of c.args.text.now))
    (λ p. sides (SelfOf p) (requirements_of (world_of c.args.text.now) p)) refl
    (λ p ps. refl) c.args.text.now.world.now.lexicon.written_order c.loop-k.k c.proto_at-p.result c.in_ok-first.first c.proto_at-p.ensures
    c.loop-k.invariant (protocol_found c.args.text.now.world.now c.args.text.now.table.now (IsShownSide
    (symbols_of c.args.text.now.world.now.lexicon)
    (facts_of (world_of c.args.text.now)) c.args.rules.now) c.proto_at-p.result c.requirements-list.result.now
    c.in_ok-first.first c.requirements-list.ensures (c.in_ok-first.ensures [])) c.in-None.is

pub returns-in-Some : goal.returns-in-Some
returns-in-Some c =
    fails_at (IsShownSide (symbols_of c.args.text.now.world.now.lexicon) (facts_of (world_of c.args.text.now)) c.args.rules.now)
    (sides_in (world_of c.args.text.now))
    (λ p. sides (SelfOf p) (requirements_of (world_of c.args.text.now) p)) refl (λ p ps. refl)
    c.args.text.now.world.now.lexicon.written_order c.loop-k.k c.proto_at-p.result c.in_ok-first.first c.in-Some.at c.proto_at-p.ensures
    c.loop-k.invariant (protocol_found c.args.text.now.world.now c.args.text.now.table.now (IsShownSide
    (symbols_of c.args.text.now.world.now.lexicon)
    (facts_of (world_of c.args.text.now)) c.args.rules.now) c.proto_at-p.result c.requirements-list.result.now
    c.in_ok-first.first c.requirements-list.ensures (c.in_ok-first.ensures [])) c.in-Some.is

pub returns : goal.returns
returns c =
    hold_all (IsShownSide (symbols_of c.args.text.now.world.now.lexicon) (facts_of (world_of c.args.text.now)) c.args.rules.now)
    (sides_in (world_of c.args.text.now))
    (λ p. sides (SelfOf p) (requirements_of (world_of c.args.text.now) p)) refl
    (λ p ps. refl) c.args.text.now.world.now.lexicon.written_order c.loop-k.k
    (let a = c.loop-k-test.false in let b = c.protocols-k-end.ensures in let e = (text_over c.args.text.now).closed.ids.each_once in
    omega (arith, a, b, e)) c.loop-k.invariant

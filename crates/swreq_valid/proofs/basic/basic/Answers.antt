use Rattle.std.proofs.Common.{arith, refl, ◌∷◌}
use Rattle.swreq_rounds.specs.Given.{basic_equations, basic_of, doubled, named_from}
use Rattle.swreq_symbols.specs.Meaning.{symbols_of}
use Rattle.swreq_valid.proofs.Listing.{parts_all}
use Rattle.swreq_valid.proofs.OfProtocols.{basic_at}
use Rattle.swreq_valid.proofs.basic.basic.Goals as goal

pub loop-k-preserved : goal.loop-k-preserved
loop-k-preserved c =
    basic_at c.args.world.now.lexicon _ c.proto_at-p.result _ _ c.proto_at-p.ensures c.in_ok-add_protocol.ensures c.loop-k.invariant

pub returns : goal.returns
returns c =
    let m = symbols_of c.args.world.now.lexicon in
    parts_all (basic_of m) (λ p. doubled p ∷ named_from p 0 m.members) refl
    (λ p ps. refl) c.args.world.now.lexicon.written_order c.loop-k.k c.loop-k.v.items (basic_equations m)
    (let a = c.loop-k-test.false in let b = c.protocols-k-end.ensures in let e = c.requires.each_once in
    omega (arith, a, b, e)) c.loop-k.invariant

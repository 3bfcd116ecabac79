use Rattle.std.{proofs.Common.{◌≡◌, ◌∷◌, [], arith, map, refl, subst, sym}, specs.Bool.{if◌then◌else◌}}
use Rattle.swreq_machine.{specs.swreq_symbols.Meaning.{symbols_of}, proofs.swreq_symbols.OfTexts.{ids_over}}
use Rattle.swreq_machine.proofs.swreq_valid.{Listing.{parts_all}, OfProtocols.{basic_at}}
use Rattle.swreq_explain.specs.Numbering.{sides_of}
use Rattle.swreq_machine.specs.swreq_rounds.Given.{basic_equations, basic_of, doubled, named_from}
use Rattle.swreq_explain.proofs.equations.basic.Goals as goal

pub loop-k-preserved : goal.loop-k-preserved
loop-k-preserved c = record {
  basic = c.in_ok-add_protocol.ensures.basic;
  sides = basic_at c.args.makings.text.world.now.lexicon c.loop-k.k c.proto_at-p.result (map sides_of c.loop-k.given.items)
      (map sides_of c.add_protocol.new.given.items)
      c.proto_at-p.ensures c.in_ok-add_protocol.ensures.sides c.loop-k.invariant.sides;
}

pub returns : goal.returns
returns c =
    let x = c.args.makings.text.world.now.lexicon in
    let m = symbols_of x in
    let sides = parts_all (basic_of m) (λ p. doubled p ∷ named_from p 0 m.members) refl (λ p ps. refl) x.written_order c.loop-k.k
    (map sides_of c.loop-k.given.items) (basic_equations m)
    (let a = c.loop-k-test.false in let b = c.protocols-k-end.ensures in let e = (ids_over c.args.makings.text).each_once in
    omega (arith, a, b, e)) c.loop-k.invariant.sides in
    record {
      sides = subst (λ b. map sides_of c.loop-k.given.items ≡ (if b then basic_equations m else [])) (sym c.if-not-makings.false) sides;
      basic = c.loop-k.invariant.basic;
    }

use Rattle.std.proofs.{Common.{◌≡◌, ◌∙◌, [], ◌∷◌, ◌++◌, append_assoc, ap, arith, map}, lemmas.List.{length-map, map-append}}
use Rattle.swreq_machine.proofs.{swreq_lemmas.Elements.{there_is}, swreq_valid.OfProtocols.{name_more, names_all}}
use Rattle.swreq_machine.specs.swreq_symbols.Meaning.{member_name, symbols_of}
use Rattle.swreq_explain.specs.Numbering.{sides_of}
use Rattle.swreq_machine.specs.swreq_rounds.Given.{doubled, named_from}
use Rattle.swreq_explain.proofs.equations.add_protocol.Goals as goal

pub loop-rank-preserved : goal.loop-rank-preserved
loop-rank-preserved c =
    let x = c.args.world.now.lexicon in
    let rank = c.loop-rank.rank in
    let p = c.args.p in
    let test = c.loop-rank-test.true in
    let count = c.members-rank-end.ensures in
    let (d, at) = there_is x.symbols rank (omega (arith, test, count)) in
    record {
      basic = c.in_ok-add_member.ensures.basic;
      sides = name_more p x.symbols rank d (map sides_of c.loop-rank.given.items) (map sides_of c.add_member.new.given.items)
          (map sides_of c.push.new.self.items ++ named_from p 0 (symbols_of x).members) at
          (c.in_ok-add_member.ensures.sides d at) c.loop-rank.invariant.sides;
    }

pub returns : goal.returns
returns c =
    let x = c.args.world.now.lexicon in
    let p = c.args.p in
    let e = c.in_ok-e.e in
    let old = c.args.given.now.items in
    let ms = (symbols_of x).members in
    let test = c.loop-rank-test.false in
    let end = c.members-rank-end.ensures in
    let count = length-map x.symbols member_name in
    let sides : sides_of e ≡ doubled p = ap sides_of c.in_ok-e.ensures in
    record {
      sides =
          names_all p ms c.loop-rank.rank (map sides_of c.loop-rank.given.items) (map sides_of c.push.new.self.items ++ named_from p 0 ms)
          (omega (arith, test, end, count)) c.loop-rank.invariant.sides
          ∙ ap (λ z. map sides_of z ++ named_from p 0 ms) c.in_ok-push.ensures.items
          ∙ ap (λ z. z ++ named_from p 0 ms) (map-append sides_of old (e ∷ []))
          ∙ append_assoc (map sides_of old) (sides_of e ∷ []) (named_from p 0 ms)
          ∙ ap (λ z. map sides_of old ++ z ∷ named_from p 0 ms) sides;
      basic = c.loop-rank.invariant.basic;
    }

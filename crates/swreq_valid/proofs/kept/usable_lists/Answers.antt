use Rattle.std.proofs.Common.{◌∙◌, ap, arith, ◌++◌, ◌∷◌, [], length, length-append}
use Rattle.swreq_valid.proofs.OfKept.{tell_more}
use Rattle.swreq_symbols.specs.Texts.{world_of}
use Rattle.swreq_valid.proofs.kept.usable_lists.Goals as goal

pub loop-rank-preserved : goal.loop-rank-preserved
loop-rank-preserved c = record {
  told = tell_more (world_of c.args.text.now) c.args.rules.now c.loop-rank.rank c.loop-rank.lists.items
      c.push.new.self.items c.in_ok-flags.flags.items
      (let n = c.loop-rank.invariant.count in let o = c.loop-rank.lists.ok in omega (arith, n, o))
      (c.in_ok-push.ensures.items ∙ ap (λ z. c.loop-rank.lists.items ++ z ∷ []) c.new-list.ensures)
      c.loop-rank.invariant.told c.in_ok-flags.ensures;
  count = (let n = c.loop-rank.invariant.count in let o = c.loop-rank.lists.ok in let q = c.push.new.self.ok in
      let e = ap length c.in_ok-push.ensures.items in let d = length-append c.loop-rank.lists.items (c.new-list.result ∷ []) in
      omega (arith, n, o, q, e, d));
}

pub returns : goal.returns
returns c k l =
    c.loop-rank.invariant.told k (let a = c.loop-rank-test.false in let b = c.protocols-rank-end.ensures in omega (arith, a, b, l))

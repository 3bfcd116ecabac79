use Rattle.std.proofs.Common.{◌↔◌, List, length, Contains, ap, subst, arith}
use Rattle.swreq_rank.specs.Ranks.{Bytes}
use Rattle.swreq_lexicon.proofs.Places.{names_length}
use Rattle.swreq_lexicon.proofs.protocols.ranks_of.Goals as goal

pub returns-clause-ranking : goal.returns-clause-ranking
returns-clause-ranking c = record {
  sorted = c.len-count.ensures.sorted;
  same =
      subst (λ (xs : List Bytes). (q : Bytes) → Contains c.of-ranks.result q ↔ Contains xs q) c.in_ok-names.ensures c.of-ranks.ensures.same;
}

pub returns-clause-few : goal.returns-clause-few
returns-clause-few c =
    let size = ap length c.in_ok-names.ensures in
    let names = names_length c.args.text.now c.args.protocols.now in
    let few = c.of-ranks.ensures.count in
    omega (arith, size, names, few)

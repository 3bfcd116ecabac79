use Rattle.std.proofs.Common.{◌+◌, ◌≡◌, ◌++◌, ◌∷◌, [], sym, subst, suc, take, arith}
use Rattle.swreq_map.specs.Follows.{AreConforming}
use Rattle.swreq_map.proofs.Finding.{conforming_more, conforming_same}
use Rattle.swreq_map.proofs.map.add_conforming.Goals as goal

pub returns-in_ok-push-in-Some-clause-found : goal.returns-in_ok-push-in-Some-clause-found
returns-in_ok-push-in-Some-clause-found c =
    let xs = c.args.symbols.now in
    let k = c.args.k in
    let s = c.in-Some.ensures.answer in
    let one : k + 1 ≡ suc k = omega arith in
    subst (AreConforming c.args.class.now.rules.now c.args.class.now.protocols c.args.class.now.word.now (take (k + 1) xs))
    (sym c.in_ok-push-in-Some.ensures.items)
    (subst (λ n. AreConforming c.args.class.now.rules.now c.args.class.now.protocols c.args.class.now.word.now (take n xs)
    (c.args.found.now.items ++ c.in-Some.p ∷ [])) (sym one)
    (conforming_more c.args.class.now.rules.now c.args.class.now.protocols c.args.class.now.word.now xs k
    c.symbol_at.result c.args.found.now.items
    c.symbol_at.ensures c.requires.so_far c.in-Some.p s.0 s.1 s.2))

pub returns-in-None-clause-found : goal.returns-in-None-clause-found
returns-in-None-clause-found c =
    let xs = c.args.symbols.now in
    let k = c.args.k in
    let one : k + 1 ≡ suc k = omega arith in
    subst (λ n. AreConforming c.args.class.now.rules.now c.args.class.now.protocols c.args.class.now.word.now
    (take n xs) c.args.found.now.items) (sym one)
    (conforming_same c.args.class.now.rules.now c.args.class.now.protocols c.args.class.now.word.now xs k
    c.symbol_at.result c.args.found.now.items
    c.symbol_at.ensures c.requires.so_far c.in-None.ensures.answer)

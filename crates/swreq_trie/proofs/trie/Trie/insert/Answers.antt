use Rattle.std.proofs.Common.{◌≡◌, ◌-◌, [], ◌∷◌, ◌++◌, length, take, sym, ◌∙◌, ap, subst, arith, List}
use Rattle.std.proofs.Math.Seq.{take-length}
use Rattle.std.proofs.lemmas.List.{take-append-le}
use Rattle.swreq_rule.specs.swreq_word.declared.symbols.Symbol.{Symbol}
use Rattle.swreq_trie.specs.declared.trie.Entry.{Entry}
use Rattle.swreq_trie.specs.Index.{IsIndex}
use Rattle.swreq_trie.proofs.Index.{index_forgot, index_more}
use Rattle.swreq_trie.proofs.trie.Trie.insert.Goals as goal

pub invariant_of-self-in-Ok : goal.invariant_of-self-in-Ok
invariant_of-self-in-Ok c =
    let t = c.self.inside in
    let n = c.make_way.new in
    let e = c.make_way.ensures in
    let stored = t.entries.items in
    let entry : Entry = record { left = c.args.left.now; number = c.args.number } in
    let same : c.new-word.result ≡ c.args.left.now = c.new-word.ensures ∙ c.in_ok-from_slice.ensures.items in
    index_more t.edges n.edges t.ends.items n.ends.items t.passing.items n.passing.items t.inside.items n.inside.items t.lengths
    stored c.self.invariant entry c.len-index.result (omega (arith, c.len-index.ensures, t.entries.ok.0))
    e.grown e.forked e.ends e.passing e.inside e.passes e.stands
    c.mark.new.ends.items c.in-Ok.node c.in-Ok.ensures.leads c.mark.ensures c.in-Ok.ensures.listed c.in-Ok.ensures.spots
    c.requires c.push.new.self.items c.with-self-inside.result
    (c.in_ok-push.ensures.items ∙ ap (λ (x : List Symbol). stored ++ (record { left = x; number = c.args.number }) ∷ []) same)
    c.with-self-inside.ensures.shortest c.with-self-inside.ensures.longest

pub invariant_of-self-in-Err : goal.invariant_of-self-in-Err
invariant_of-self-in-Err c =
    let t = c.self.inside in
    let n = c.make_way.new in
    let e = c.make_way.ensures in
    let stored = t.entries.items in
    let last : Entry = record { left = c.new-word.result; number = c.args.number } in
    let all_but_one : c.push.new.self.len - 1 ≡ length stored = omega (arith, c.in_ok-push.ensures.len, t.entries.ok.0) in
    let popped : c.pop-entry.new.self.items ≡ stored =
    c.pop-entry.ensures.rest ∙ ap (λ xs. take (c.push.new.self.len - 1) xs) c.in_ok-push.ensures.items
    ∙ ap (λ k. take k (stored ++ last ∷ [])) all_but_one
    ∙ take-append-le (length stored) stored (last ∷ []) (omega arith) ∙ take-length stored in
    subst (IsIndex n.edges n.ends.items c.forget.new.lists.items c.forget-in-Err.new.lists.items t.lengths) (sym popped)
    (index_forgot t.edges n.edges t.ends.items n.ends.items t.passing.items n.passing.items t.inside.items n.inside.items t.lengths
    stored c.self.invariant (record { left = c.args.left.now; number = c.args.number })
    c.len-index.result (omega (arith, c.len-index.ensures, t.entries.ok.0))
    e.grown e.forked e.ends e.passing e.inside e.passes e.stands
    c.forget.new.lists.items c.forget-in-Err.new.lists.items c.forget.ensures c.forget-in-Err.ensures)

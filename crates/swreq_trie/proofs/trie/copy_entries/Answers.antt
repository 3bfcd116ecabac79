use Rattle.std.proofs.Common.{◌≡◌, [], ◌∷◌, ◌++◌, length, take, get_or, sym, ◌∙◌, ap, arith}
use Rattle.std.proofs.Math.Seq.{take-length}
use Rattle.std.proofs.lemmas.List.{take_more}
use Rattle.swreq_trie.specs.declared.trie.Entry.{Entry}
use Rattle.swreq_trie.proofs.trie.copy_entries.Goals as goal

pub loop-entry-preserved : goal.loop-entry-preserved
loop-entry-preserved c =
    let entries = c.args.entries.now in
    let n = c.loop-entry.entry-index in
    let entry = c.entry-item.result in
    let is = c.entry-item.is in
    let read : entry ≡ get_or entries n entry = cc in
    let left = c.in_ok-left.ensures.cases in
    let copy : Entry = record { left = c.in_ok-left.left; number = entry.number } in
    let same : copy ≡ get_or entries n entry = (λ i. record { left = left i; number = entry.number }) ∙ read in
    let so_far = c.loop-entry.invariant in
    c.in_ok-push.ensures.items ∙ (λ i. so_far i ++ same i ∷ []) ∙ sym (take_more entries n entry c.loop-entry-test.true)

pub returns : goal.returns
returns c =
    let entries = c.args.entries.now in
    let all : c.loop-entry.entry-index ≡ length entries = omega arith in
    c.loop-entry.invariant ∙ ap (λ n. take n entries) all ∙ take-length entries

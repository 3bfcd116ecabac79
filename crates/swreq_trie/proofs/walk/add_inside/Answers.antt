use Rattle.std.proofs.Common.{◌≡◌, ℕ, inl, get_or, arith}
use Rattle.std.proofs.lemmas.Option.{slice_get-get_or}
use Rattle.swreq_trie.specs.declared.trie.Entry.{Entry}
use Rattle.swreq_trie.specs.Paths.{IsChild}
use Rattle.swreq_trie.specs.Index.{IsWithin, spot_of}
use Rattle.swreq_trie.proofs.Paths.{grown_on, grown_itself}
use Rattle.swreq_trie.proofs.Marks.{keeps_on, keeps_itself, only_on}
use Rattle.swreq_trie.proofs.Index.{inside_on, none_inside, all_inside, within_kept}
use Rattle.swreq_trie.proofs.walk.add_inside.Goals as goal

pub loop-at-init : goal.loop-at-init
loop-at-init c = record {
  spots = none_inside c.args.edges.now c.args.inside.now.items c.args.side (record { left = c.args.left.now; number = c.args.number });
  only = λ n s h. inl h;
  grown = grown_itself c.args.edges.now;
  forked = c.requires;
  inside = keeps_itself c.args.inside.now.items;
  some = omega arith;
}

pub returns-in_err-add_inside_at-clause-inside : goal.returns-in_err-add_inside_at-clause-inside
returns-in_err-add_inside_at-clause-inside c = keeps_on _ c.loop-at.inside.items _ c.loop-at.invariant.inside c.add_inside_at.ensures.inside

pub returns-in_err-add_inside_at-clause-only : goal.returns-in_err-add_inside_at-clause-only
returns-in_err-add_inside_at-clause-only c =
    let i = c.loop-at.invariant in
    let new = c.add_inside_at.new in
    let left = c.args.left.now in
    let entry : Entry = record { left = left; number = c.args.number } in
    only_on (λ n s. (at : ℕ) × (s ≡ spot_of c.args.side entry at) × IsWithin c.loop-at.edges left at n)
    (λ n s. (s ≡ spot_of c.args.side entry c.loop-at.at) × IsChild new.edges 0 (get_or left c.loop-at.at _) n)
    (λ n s. (at : ℕ) × (s ≡ spot_of c.args.side entry at) × IsWithin new.edges left at n)
    c.args.inside.now.items c.loop-at.inside.items new.inside.items
    (λ n s h. (h.0, h.1, within_kept c.loop-at.edges new.edges c.add_inside_at.ensures.grown left h.0 n h.2))
    (λ n s h. (c.loop-at.at, h.0, (get_or left c.loop-at.at _, i.some, slice_get-get_or left c.loop-at.at _ (omega arith), h.1)))
    i.only c.add_inside_at.ensures.only

pub loop-at-preserved : goal.loop-at-preserved
loop-at-preserved c =
    let i = c.loop-at.invariant in
    let new = c.add_inside_at.new in
    let left = c.args.left.now in
    let entry : Entry = record { left = left; number = c.args.number } in
    record {
      spots = inside_on c.loop-at.edges new.edges c.loop-at.inside.items new.inside.items c.args.side entry c.loop-at.at _
          c.add_inside_at.ensures.grown c.add_inside_at.ensures.inside i.spots c.in_ok-add_inside_at.ensures.spot;
      only = only_on (λ n s. (at : ℕ) × (s ≡ spot_of c.args.side entry at) × IsWithin c.loop-at.edges left at n)
          (λ n s. (s ≡ spot_of c.args.side entry c.loop-at.at) × IsChild new.edges 0 (get_or left c.loop-at.at _) n)
          (λ n s. (at : ℕ) × (s ≡ spot_of c.args.side entry at) × IsWithin new.edges left at n)
          c.args.inside.now.items c.loop-at.inside.items new.inside.items
          (λ n s h. (h.0, h.1, within_kept c.loop-at.edges new.edges c.add_inside_at.ensures.grown left h.0 n h.2))
          (λ n s h. (c.loop-at.at, h.0, (get_or left c.loop-at.at _, i.some, slice_get-get_or left c.loop-at.at _ (omega arith), h.1)))
          i.only c.add_inside_at.ensures.only;
      grown = grown_on _ c.loop-at.edges _ i.grown c.add_inside_at.ensures.grown;
      forked = c.add_inside_at.ensures.forked;
      inside = keeps_on _ c.loop-at.inside.items _ i.inside c.add_inside_at.ensures.inside;
      some = omega arith;
    }

pub returns-clause-spots : goal.returns-clause-spots
returns-clause-spots c =
    all_inside c.loop-at.edges c.loop-at.inside.items c.args.side
    (record { left = c.args.left.now; number = c.args.number }) c.loop-at.at (omega arith)
    c.loop-at.invariant.spots

use Rattle.std.proofs.Common.{◌≡◌, ◌+◌, ◌<◌, ℕ, List, Vec, get_or, inl, length, refl, sym, take, drop, take-append-drop}
use Rattle.std.specs.declared.alloc.Global.{Global}
use Rattle.swreq_rule.specs.swreq_word.declared.symbols.Symbol.{Symbol}
use Rattle.swreq_trie.specs.declared.edges.Edge.{Edge}
use Rattle.swreq_trie.specs.declared.spots.Spot.{Spot}
use Rattle.swreq_trie.specs.Marks.{ListsOnly}
use Rattle.swreq_trie.specs.Paths.{Leads, IsChild, IsGrown}
use Rattle.swreq_trie.specs.Index.{IsOnWay}
use Rattle.swreq_trie.proofs.Paths.{grown_itself, grown_on, leads_on_in}
use Rattle.swreq_trie.proofs.Marks.{keeps_itself, keeps_on, only_on}
use Rattle.swreq_trie.proofs.Index.{none_passing, passing_kept, passing_on, way_kept}
use Rattle.swreq_trie.proofs.walk.make_path.Goals as goal

-- a step on the way of a side lists the start of the side at a node on its way, as the steps before it did
on_way : (old new : List Edge) → IsGrown old new → (left : List Symbol) (begin : Spot) (n : ℕ) (d : Symbol) → n < length left
    → (node : ℕ) → Leads old 0 (take n left) node → (first before after : List (Vec Spot Global))
    → ListsOnly first before (λ m s. (s ≡ begin) × IsOnWay old left m)
    → ListsOnly before after (λ m s. (s ≡ begin) × IsChild new node (get_or left n d) m)
    → ListsOnly first after (λ m s. (s ≡ begin) × IsOnWay new left m)
on_way old new grown left begin n d within node walked first before after =
    only_on (λ m s. (s ≡ begin) × IsOnWay old left m) (λ m s. (s ≡ begin) × IsChild new node (get_or left n d) m)
    (λ m s. (s ≡ begin) × IsOnWay new left m) first before after
    (λ m s h. (h.0, way_kept old new grown left m h.1))
    (λ m s h. (
      h.0,
      (
        take (n + 1) left,
        drop (n + 1) left,
        sym (take-append-drop (n + 1) left),
        leads_on_in old new grown left n d within node m walked h.1,
      ),
    ))

pub loop-symbol-init : goal.loop-symbol-init
loop-symbol-init c = record {
  walked = refl;
  listed = none_passing c.args.edges.now c.args.passing.now.items c.args.begin c.args.left.now;
  only = λ n s h. inl h;
  grown = grown_itself c.args.edges.now;
  forked = c.requires;
  passing = keeps_itself c.args.passing.now.items;
}

pub returns-in_err-node-clause-passing : goal.returns-in_err-node-clause-passing
returns-in_err-node-clause-passing c = keeps_on _ c.loop-symbol.passing.items _ c.loop-symbol.invariant.passing c.make_step.ensures.passing

pub returns-in_err-node-clause-only : goal.returns-in_err-node-clause-only
returns-in_err-node-clause-only c =
    let old = c.loop-symbol in
    on_way old.edges c.make_step.new.edges c.make_step.ensures.grown c.args.left.now c.args.begin old.symbol-index _ c.loop-symbol-test.true
    old.node old.invariant.walked c.args.passing.now.items old.passing.items c.make_step.new.passing.items old.invariant.only
    c.make_step.ensures.only

pub loop-symbol-preserved : goal.loop-symbol-preserved
loop-symbol-preserved c =
    let i = c.loop-symbol.invariant in
    let old = c.loop-symbol in
    let new = c.make_step.new in
    let left = c.args.left.now in
    let n = c.loop-symbol.symbol-index in
    let walked : Leads new.edges 0 (take (n + 1) left) c.in_ok-node.node =
    leads_on_in old.edges new.edges c.make_step.ensures.grown left n _ c.loop-symbol-test.true
    old.node c.in_ok-node.node i.walked c.in_ok-node.ensures.child in
    record {
      walked = walked;
      listed = passing_on new.edges new.passing.items c.args.begin left n c.in_ok-node.node
          (passing_kept old.edges new.edges old.passing.items new.passing.items c.make_step.ensures.grown c.make_step.ensures.passing
          c.args.begin left n i.listed)
          walked c.in_ok-node.ensures.listed;
      only = on_way old.edges new.edges c.make_step.ensures.grown left c.args.begin n _ c.loop-symbol-test.true old.node i.walked
          c.args.passing.now.items old.passing.items new.passing.items i.only c.make_step.ensures.only;
      grown = grown_on _ old.edges _ i.grown c.make_step.ensures.grown;
      forked = c.make_step.ensures.forked;
      passing = keeps_on _ old.passing.items _ i.passing c.make_step.ensures.passing;
    }

-- Paths through a side of a pair, and the loop that two of them make.
use Rattle.std.proofs.Common.{◌≡◌, ℕ, sym, ◌∙◌, subst, subst₂, List, ◌++◌}
use Rattle.swreq_rule.specs.swreq_word.declared.symbols.Symbol.{Symbol}
use Rattle.swreq_rule.specs.declared.rules.Rule.{Rule}
use Rattle.swreq_rule.specs.declared.rules.Place.{Place}
use Rattle.swreq_rule.specs.Reduction.{Reduces}
use Rattle.swreq_rule.proofs.Remaining.{one_result}
use Rattle.swreq_pair.specs.Pairs.{IsPair}
use Rattle.swreq_pair.specs.PairWords.{IsPairWord}
use Rattle.swreq_pair.proofs.OnePair.{one_pair}
use Rattle.swreq_path.specs.declared.steps.RewriteStep.{RewriteStep}
use Rattle.swreq_path.specs.declared.paths.Path.{Path}
use Rattle.swreq_path.specs.declared.paths.Loop.{Loop}
use Rattle.swreq_path.specs.Inverse.{inverse}
use Rattle.swreq_path.specs.Paths.{StepsLead, HasTarget}
use Rattle.swreq_path.proofs.Leading.{one_end}
use Rattle.swreq_path.proofs.Reducing.{reduce_lead, reduce_chain}
use Rattle.swreq_homotopy.specs.Loops.{SidesReduceToOne, ReducesThrough, IsLoopOfPair}
use Rattle.swreq_pair.proofs.PairWords.{both_put}
use Rattle.swreq_homotopy.proofs.PairSteps.{side_is}

module _ (rules : List Rule) where
  pub through_leads : (steps : List RewriteStep) (at number : ℕ) (w side end : List Symbol)
      → ReducesThrough rules steps at number w side end → StepsLead rules steps w end
  through_leads steps at number w side end r =
      subst (λ xs. StepsLead rules xs w end) (sym r.steps_are) (side, r.goes_to_side.leads, reduce_lead rules r.others side end r.reduces)

  -- the target of such a path, which begins at this word
  pub through_target : (path : Path) (at number : ℕ) (w side end : List Symbol) → path.start ≡ w
      → ReducesThrough rules path.steps at number w side end → HasTarget rules path end
  through_target path at number w side end e r =
      subst (λ u. StepsLead rules path.steps u end) (sym e) (through_leads path.steps at number w side end r)

  pub target_is : (path : Path) (at number : ℕ) (w side end v : List Symbol) → path.start ≡ w
      → ReducesThrough rules path.steps at number w side end → HasTarget rules path v → v ≡ end
  target_is path at number w side end v e r h = one_end rules path.steps path.start v end h (through_target path at number w side end e r)

  through_reduces : (steps : List RewriteStep) (at number : ℕ) (w side end : List Symbol) → ReducesThrough rules steps at number w side end
      → Reduces rules side end
  through_reduces steps at number w side end r =
      record { steps = reduce_chain rules r.others side end r.reduces; irreducible = r.irreducible }

  -- the two paths through the sides of a pair
  module _ (place : Place) (left right w : List Symbol) (p : IsPair rules place left right) (is : IsPairWord rules place w)
      (out back : List RewriteStep) (l r m n : List Symbol) (a : ReducesThrough rules out 0 place.i w l m)
      (b : ReducesThrough rules back place.at place.j w r n) where
    left_is : l ≡ left
    left_is = side_is rules a.first place.i 0 p.first w left l p.first_at (both_put rules place left right w p is).0 a.goes_to_side

    right_is : r ≡ right
    right_is =
        side_is rules b.first place.j place.at p.second w right r p.second_at (both_put rules place left right w p is).1 b.goes_to_side

    -- where the sides reduce to one word, both paths end with it
    pub one_word : SidesReduceToOne rules place → m ≡ n
    one_word s =
        let e = one_pair rules place s.0 s.1 left right s.3 p in
        let f = subst (λ x. Reduces rules x s.2) (e.0 ∙ sym left_is) s.4 in
        let g = subst (λ x. Reduces rules x s.2) (e.1 ∙ sym right_is) s.5 in
        one_result rules l m s.2 (through_reduces out 0 place.i w l m a) f
        ∙ one_result rules r s.2 n g (through_reduces back place.at place.j w r n b)

    -- where both paths end with one word, the one and then the inverse of the other make the loop of the pair
    pub loop_is : m ≡ n → (round : Loop) → round.path.start ≡ w → round.path.steps ≡ out ++ inverse back → IsLoopOfPair rules place round
    loop_is e round start steps = record {
      left = left;
      right = right;
      end = m;
      out = out;
      back = back;
      sides = p;
      word_is = subst (IsPairWord rules place) (sym start) is;
      through_left = subst₂ (λ u x. ReducesThrough rules out 0 place.i u x m) (sym start) left_is a;
      through_right = subst₂ (λ u x. ReducesThrough rules back place.at place.j u x m) (sym start) right_is
          (subst (λ x. ReducesThrough rules back place.at place.j w r x) (sym e) b);
      steps_are = steps;
    }

  -- the same of two such paths, by what is told of each as it is made
  module _ (place : Place) (left right w : List Symbol) (p : IsPair rules place left right) (is : IsPairWord rules place w)
      (out back : Path) (v x : List Symbol) (v_is : v ≡ w) (x_is : x ≡ w) (from_v : out.start ≡ v) (from_x : back.start ≡ x)
      (through : (side : List Symbol) × (end : List Symbol) × ReducesThrough rules out.steps 0 place.i v side end)
      (other : (side : List Symbol) × (end : List Symbol) × ReducesThrough rules back.steps place.at place.j x side end)
      (m n : List Symbol) (out_to : HasTarget rules out m) (back_to : HasTarget rules back n) where
    out_reduces : ReducesThrough rules out.steps 0 place.i w through.0 through.1
    out_reduces = subst (λ u. ReducesThrough rules out.steps 0 place.i u through.0 through.1) v_is through.2

    back_reduces : ReducesThrough rules back.steps place.at place.j w other.0 other.1
    back_reduces = subst (λ u. ReducesThrough rules back.steps place.at place.j u other.0 other.1) x_is other.2

    out_end : m ≡ through.1
    out_end = target_is out 0 place.i v through.0 through.1 m from_v through.2 out_to

    back_end : n ≡ other.1
    back_end = target_is back place.at place.j x other.0 other.1 n from_x other.2 back_to

    pub ends_meet : SidesReduceToOne rules place → m ≡ n
    ends_meet s =
        out_end
        ∙ one_word place left right w p is out.steps back.steps through.0 other.0 through.1 other.1 out_reduces back_reduces s
        ∙ sym back_end

    pub makes_loop : m ≡ n → (round : Loop) → round.path.start ≡ out.start → round.path.steps ≡ out.steps ++ inverse back.steps
        → IsLoopOfPair rules place round
    makes_loop e round start steps =
        loop_is place left right w p is out.steps back.steps through.0 other.0 through.1 other.1 out_reduces back_reduces
        (sym out_end ∙ e ∙ back_end) round (start ∙ from_v ∙ v_is) steps

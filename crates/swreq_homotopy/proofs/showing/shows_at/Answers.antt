use Rattle.std.proofs.Common.{◌≡◌, refl, sym, subst, arith, length, Some}
use Rattle.std.specs.List.{slice_get}
use Rattle.std.proofs.lemmas.Grind.{common_steps}
use Rattle.std.proofs.lemmas.Option.{slice_get_read}
use Rattle.swreq_homotopy.specs.Evidence.{AreOfOthers}
use Rattle.swreq_homotopy.proofs.Others.{rest_is, no_symbols, front_of, back_of}
use Rattle.swreq_homotopy.proofs.showing.shows_at.Goals as goal

pub returns-then-not-are_of_others : goal.returns-then-not-are_of_others
returns-then-not-are_of_others c =
    let steps = c.args.steps.now in
    let at = c.args.at in
    let x = c.index-steps-at.result in
    let is : slice_get steps at ≡ Some x = slice_get_read steps (length steps) at x refl c.requires c.index-steps-at.is in (
      λ h. cc,
      λ s. let yes = c.are_of_others.ensures.1 (front_of c.args.keep.now c.args.may.now steps at x is s) in
          let no = c.if-not-are_of_others.true in cc,
    )

pub returns : goal.returns
returns c =
    let steps = c.args.steps.now in
    let keep = c.args.keep.now in
    let at = c.args.at in
    let x = c.index-steps-at.result in
    let is : slice_get steps at ≡ Some x = slice_get_read steps (length steps) at x refl c.requires c.index-steps-at.is in
    let before : length c.symbols.result.now ≡ 0 = grind (arith, common_steps) in
    let after : length c.symbols-2.result.now ≡ 0 = grind (arith, common_steps) in (
      λ t. record {
        bare = record {
          step = x;
          is_step = is;
          none_before = no_symbols x.before c.symbols.result.now c.symbols.ensures before;
          none_after = no_symbols x.after c.symbols-2.result.now c.symbols-2.ensures after;
        };
        kept = c.is_marked.ensures.0 c.if-not-is_marked.false;
        may_go = c.is_marked-2.ensures.0 c.if-not-is_marked-2.false;
        front_others = c.are_of_others.ensures.0 c.if-not-are_of_others.false;
        back_others = subst (AreOfOthers keep x.rule) (rest_is steps at) (c.are_of_others-2.ensures.0 t);
      },
      λ s. c.are_of_others-2.ensures.1 (subst (AreOfOthers keep x.rule) (sym (rest_is steps at))
          (back_of keep c.args.may.now steps at x is s)),
    )

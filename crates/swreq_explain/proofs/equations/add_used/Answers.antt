use Rattle.std.proofs.Common.{[], ◌∷◌, ◌++◌, Some, add-one, append_assoc, ap, get_or, slice_get, subst, sym, take, true≢false, ◌∙◌, ◌≡◌}
use Rattle.std.proofs.lemmas.Option.{slice_get-get_or}
use Rattle.swreq_machine.specs.{swreq_symbols.Meaning.{symbols_of}, swreq_valid.Flags.{chosen}}
use Rattle.swreq_explain.{specs.{Numbering.{AreEquationsOf}, Rounds.{origin_of}}, proofs.Makings.{made, unused_flag, used_flag}}
use Rattle.swreq_explain.proofs.NumberingLemmas.{chosen_all, chosen_no, chosen_yes, equations_more, no_requirement}
use Rattle.swreq_explain.proofs.equations.add_used.Goals as goal
use Rattle.swreq_explain.proofs.equations.add_used.Goals.{then-uses+in_ok-e+in_ok-push, else-uses}

pub loop-k-preserved : goal.loop-k-preserved
loop-k-preserved c = λ r at.
    let makings = c.args.makings in
    let all = makings.all.now in
    let k = c.loop-k.k in
    let m = symbols_of makings.text.world.now.lexicon in
    let x = get_or all k no_requirement in
    let (more, split, h) = c.loop-k.invariant r at in
    let is : slice_get all k ≡ Some x = slice_get-get_or all k no_requirement c.loop-k-test.true in
    elim c.if-uses.branch [
      | then-uses+in_ok-e+in_ok-push w ↦
          (let e = w.in_ok-e.e in (
            more ++ e ∷ [],
            ap (λ z. z.items) w.given-is ∙ w.in_ok-push.ensures.items ∙ ap (λ z. z ++ e ∷ []) split
                ∙ append_assoc c.args.given.now.items more (e ∷ []),
            rw (add-one, chosen_yes all r.used k x (used_flag makings c.args.round k r at (c.uses.ensures.0 w.if-uses.true)) is)
                (equations_more m makings.text.table.now (origin_of makings) c.args.round (chosen (take k all) (take k r.used)) more x e h
                (w.in_ok-e.ensures x is)),
          ))
      | else-uses w ↦ (
        more,
        ap (λ z. z.items) w.given-is ∙ split,
        rw (
          add-one,
          chosen_no all r.used k (unused_flag makings c.args.round k r at c.loop-k-test.true
              (λ u. true≢false (sym (c.uses.ensures.1 u) ∙ w.if-uses.false))),
        ) h,
      )
    ]

pub returns : goal.returns
returns c = λ r at.
    let makings = c.args.makings in
    let all = makings.all.now in
    let same = (made makings).flags c.args.round r at in
    let (more, split, h) = c.loop-k.invariant r at in (
      more,
      split,
      subst (λ z. AreEquationsOf (symbols_of makings.text.world.now.lexicon) makings.text.table.now (origin_of makings) c.args.round z more)
          (chosen_all all r.used c.loop-k.k same c.loop-k-test.false) h,
    )

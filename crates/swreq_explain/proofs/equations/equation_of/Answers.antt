use Rattle.std.proofs.{Common.{◌≡◌, ◌∙◌, get_or, refl, subst, sym}, lemmas.Option.{same_Some, slice_get-get_or}}
use Rattle.swreq_machine.{proofs.swreq_lemmas.Elements.{get_contains}, specs.swreq_symbols.Meaning.{symbols_of}}
use Rattle.swreq_births.specs.declared.history.Reason.TheVariants.{Required}
use Rattle.swreq_explain.specs.{declared.numbered.Numbered.{Numbered}, Numbering.{IsEquationIn}, Rounds.{origin_of}}
use Rattle.swreq_explain.proofs.{Makings.{made}, NumberingLemmas.{no_requirement}}
use Rattle.swreq_explain.proofs.equations.equation_of.Goals as goal

pub equation-requires : goal.equation-requires
equation-requires c =
    let m = c.args.makings in
    (made m).of_text _ (get_contains m.all.now c.args.place _ (slice_get-get_or m.all.now c.args.place no_requirement c.requires.place))

pub owned-requires : goal.owned-requires
owned-requires c =
    let m = c.args.makings in
    ((made m).of_text _ (get_contains m.all.now c.args.place _ (slice_get-get_or m.all.now c.args.place no_requirement c.requires.place))).0

pub returns : goal.returns
returns c = λ x is.
    let m = c.args.makings in
    let all = m.all.now in
    let there = slice_get-get_or all c.args.place no_requirement c.requires.place in
    let same : get_or all c.args.place no_requirement ≡ x = same_Some _ _ (sym there ∙ is) in
    subst (λ (z : Numbered). IsEquationIn (symbols_of m.text.world.now.lexicon) m.text.table.now (origin_of m) c.args.round z (record {
      left = c.in_ok-left.left;
      right = c.in_ok-left.right;
      reason = Required (get_or all c.args.place no_requirement).owner (get_or all c.args.place no_requirement).number
          c.in_ok-requirement.requirement c.shown_by-shown.result;
    })) same (
      c.shown_by-shown.result,
      c.shown_by-shown.ensures _ there,
      record {
        left = c.in_ok-left.ensures.left;
        right = c.in_ok-left.ensures.right;
        reason = record { requirement = c.in_ok-requirement.requirement; stands = c.in_ok-requirement.ensures; is = refl };
      },
    )

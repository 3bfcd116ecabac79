use Rattle.std.proofs.{Common.{◌≡◌, ◌∙◌, ◌<◌, Some, ap, arith, false, get_or, length, slice_get, sym}, lemmas.Option.{same_Some}}
use Rattle.std.proofs.lemmas.Option.{slice_get-get_or}
use Rattle.swreq_machine.proofs.swreq_lemmas.Elements.{there_is}
use Rattle.swreq_explain.proofs.Makings.{made}
use Rattle.swreq_explain.proofs.numbered.uses.Goals as goal

pub bounds-used-place : goal.bounds-used-place
bounds-used-place c =
    let (r, at) = there_is c.args.makings.rounds.now c.args.round c.requires.round in
    let same : length c.used-used.result.now ≡ length c.args.makings.all.now =
    ap length (c.used-used.ensures r at) ∙ (made c.args.makings).flags c.args.round r at in
    let place : c.args.place < length c.args.makings.all.now = c.requires.place in
    omega (arith, same, place)

pub returns : goal.returns
returns c =
    let (r, at) = there_is c.args.makings.rounds.now c.args.round c.requires.round in
    let used = c.used-used.result.now in
    let k = c.args.place in
    let is : used ≡ r.used = c.used-used.ensures r at in
    let same : length used ≡ length c.args.makings.all.now = ap length is ∙ (made c.args.makings).flags c.args.round r at in
    let place : k < length c.args.makings.all.now = c.requires.place in
    let there : slice_get used k ≡ Some (get_or used k false) = slice_get-get_or used k false (omega (arith, same, place)) in (
      (λ t. (r, at, ap (λ z. slice_get z k) (sym is) ∙ there ∙ ap Some t)),
      (λ u. (let (s, at_s, set) = u in
          let other : used ≡ s.used = c.used-used.ensures s at_s in
          same_Some _ _ (sym there ∙ ap (λ z. slice_get z k) other ∙ set))),
    )

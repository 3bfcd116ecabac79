use Rattle.std.proofs.Common.{◌≡◌, ◌∙◌, ◌+◌, ◌<◌, [], ◌∷◌, ◌++◌, Some, ap, get_or, length, subst, sym, take}
use Rattle.std.proofs.lemmas.List.{get_or_default, length-set, take_all}
use Rattle.swreq_lexicon.specs.Heirs.{position_at}
use Rattle.swreq_lexicon.proofs.Upwards.{AreAdded, base_more, base_past}
use Rattle.swreq_lexicon.proofs.heirs.add_heir.Goals as goal
use Rattle.swreq_lexicon.proofs.heirs.add_heir.Goals.{in-Some+in_ok-push, in_default}

pub loop-base-preserved : goal.loop-base-preserved
loop-base-preserved c =
    let positions = c.args.positions.now in
    let bases = c.args.bases.now in
    let i = c.loop-base.base-index in
    let old = c.args.lists.now in
    let lists = c.loop-base.lists in
    let b = get_or bases i 0 in
    let within = c.loop-base-test.true in
    let is = get_or_default bases i 0 b within in
    elim c.match-position_at.branch [
      | in-Some+in_ok-push w ↦
          let m = w.in-Some.position in
          let there : position_at positions b ≡ Some m = sym c.position_at.ensures ∙ w.in-Some.is in
          let size = c.loop-base.invariant.size in
          let below : m < length lists = subst (λ n. m < n) (sym size) (c.requires b m there) in
          let now = w.lists-is ∙ w.in_ok-push.ensures in
          record {
            size = ap length now ∙ length-set lists m (get_or lists m [] ++ c.args.heir ∷ []) ∙ size;
            added = subst (AreAdded positions (take (i + 1) bases) c.args.heir old) (sym now)
                (base_more positions bases i b c.args.heir old lists within is c.loop-base.invariant.added m there below);
          }
      | in_default w ↦
          record {
            size = ap length w.lists-is ∙ c.loop-base.invariant.size;
            added = subst (AreAdded positions (take (i + 1) bases) c.args.heir old) (sym w.lists-is)
                (base_past positions bases i b c.args.heir old lists within is c.loop-base.invariant.added
                (sym c.position_at.ensures ∙ w.in_default.is));
          }
    ]

pub returns-clause-added : goal.returns-clause-added
returns-clause-added c =
    subst (λ bases. AreAdded c.args.positions.now bases c.args.heir c.args.lists.now c.loop-base.lists)
    (take_all c.loop-base.base-index c.args.bases.now c.loop-base-test.false) c.loop-base.invariant.added

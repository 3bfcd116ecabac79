use Rattle.std.proofs.Common.{◌≡◌, ◌∙◌, ℕ, List, ap, sym, subst, get_or, length, arith}
use Rattle.std.proofs.lemmas.Option.{slice_get-get_or}
use Rattle.std.proofs.lemmas.Result.{IfOk-weaker}
use Rattle.swreq_closure.specs.Chains.{next}
use Rattle.swreq_lexicon.specs.Heirs.{AreDirectHeirs}
use Rattle.swreq_lexicon.proofs.Upwards.{AreAdded, first, heirs_more}
use Rattle.swreq_lexicon.proofs.heirs.direct_heirs.Goals as goal

pub loop-k-preserved : goal.loop-k-preserved
loop-k-preserved c =
    let order = c.args.order.now in
    let places = c.args.protocols.now.places in
    let k = c.loop-k.k in
    let q = get_or order k first in
    record {
      size = c.in_ok-add_heir.ensures.len ∙ c.loop-k.invariant.size;
      are = heirs_more order places c.args.positions.now c.args.direct.now k q c.loop-k.lists c.add_heir.new.lists
          (slice_get-get_or order k first c.loop-k-test.true)
          (subst (λ bases. AreAdded c.args.positions.now bases k c.loop-k.lists c.add_heir.new.lists)
          (c.bases_of-bases.ensures ∙ ap (next c.args.direct.now) c.place.ensures) c.in_ok-add_heir.ensures.added)
          c.loop-k.invariant.are;
    }

pub returns-clause-are : goal.returns-clause-are
returns-clause-are c =
    let order = c.args.order.now in
    let end = c.loop-k-test.false in
    let within = c.loop-k.auto.k-end in
    let all : c.loop-k.k ≡ length order = omega (arith, end, within) in
    let AreAll : ℕ → List (List ℕ) → Type 0 =
    AreDirectHeirs order c.args.protocols.now.places c.args.positions.now c.args.direct.now in
    let are : AreAll (length order) c.loop-k.lists = subst (λ n. AreAll n c.loop-k.lists) all c.loop-k.invariant.are in
    IfOk-weaker c.into_seqs.result _ _ (λ heirs e. subst (AreAll (length order)) (sym e) are) c.into_seqs.ensures

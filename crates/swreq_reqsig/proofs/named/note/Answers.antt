use Rattle.std.proofs.Common.{◌∙◌, ◌++◌, ◌∷◌, [], ap, ℕ, slice_index_or, slice_set}
use Rattle.std.proofs.lemmas.Result.{IfOk-weaker}
use Rattle.swreq_reqsig.proofs.Naming.{noted}
use Rattle.swreq_reqsig.proofs.named.note.Goals as goal

pub returns : goal.returns
returns c =
    let lists = c.args.lists.now in
    IfOk-weaker c.push.result _ _ (λ x e. noted lists c.args.name c.args.k c.requires c.push.new.self
    (e ∙ ap (λ (n : ℕ). slice_set lists n (slice_index_or lists n [] ++ c.args.k ∷ [])) c.list_of.ensures)) c.push.ensures

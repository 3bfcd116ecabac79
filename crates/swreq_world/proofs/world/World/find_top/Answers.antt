use Rattle.std.proofs.Common.{List, None, refl, sym, ap, ◌∙◌}
use Rattle.swreq_lexicon.specs.Views.{LexiconView}
use Rattle.swreq_lowering.specs.Signatures.{func_id}
use Rattle.swreq_lexicon.specs.swreq_names.declared.signature.Signature.{Signature}
use Rattle.swreq_world.specs.Inside.{view_of}
use Rattle.swreq_world.proofs.Looking.{found}
use Rattle.swreq_world.proofs.world.World.find_top.Goals as goal

pub returns : goal.returns
returns c =
    let inside = c.self.inside in
    let names = c.resolved.ensures ∙ ap (λ (l : LexiconView). l.resolved) c.deref.ensures in
    let id = c.func_id.ensures ∙ ap (λ (order : List Signature). func_id order c.in_ok-signature.signature) c.deref-2.ensures in
    found (view_of inside) c.args.self.now inside.signatures inside.order.value c.resolved.result.now
    (None) c.args.name.now c.in_ok-signature.signature c.func_id.result c.self.view_is refl
    id c.self.invariant.order names (sym c.find_signature.ensures ∙ c.in_ok-signature.was)

use Rattle.std.proofs.Common.{◌≤◌, List, ℕ, Some, refl, sym, subst, ap, ◌∙◌, [], length, get_or}
use Rattle.swreq_lexicon.specs.Views.{LexiconView}
use Rattle.swreq_lowering.specs.Signatures.{func_id}
use Rattle.swreq_lexicon.specs.swreq_names.Names.{NamesView}
use Rattle.swreq_lexicon.specs.swreq_names.declared.signature.Signature.{Signature}
use Rattle.swreq_world.specs.Inside.{view_of}
use Rattle.swreq_world.proofs.Looking.{found}
use Rattle.swreq_world.proofs.Within.{found_small}
use Rattle.swreq_world.proofs.world.World.find_nested.Goals as goal

pub returns : goal.returns
returns c =
    let inside = c.self.inside in
    let names = c.resolved.ensures ∙ ap (λ (l : LexiconView). l.resolved) c.deref.ensures in
    let id = c.func_id.ensures ∙ ap (λ (order : List Signature). func_id order c.in_ok-signature.signature) c.deref-2.ensures in
    found (view_of inside) c.args.self.now inside.signatures inside.order.value c.resolved.result.now
    (Some c.args.outer.now) c.args.name.now c.in_ok-signature.signature c.func_id.result c.self.view_is refl
    id c.self.invariant.order names (sym c.find_nested.ensures ∙ c.in_ok-signature.was)

pub func_id-requires : goal.func_id-requires
func_id-requires c =
    let names = c.resolved.ensures ∙ ap (λ (l : LexiconView). l.resolved) c.deref.ensures in
    let short : (i : ℕ) → length (get_or c.resolved.result.now.declared.nested i []) ≤ 1048576 =
    λ i. subst (λ (n : NamesView). length (get_or n.declared.nested i []) ≤ 1048576) (sym names) (c.self.invariant.functions_of i) in
    found_small c.resolved.result.now.declared short c.args.outer.now c.args.name.now c.in_ok-signature.signature
    (sym c.find_nested.ensures ∙ c.in_ok-signature.was)

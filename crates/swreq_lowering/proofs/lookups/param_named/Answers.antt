use Rattle.std.proofs.Common.{Some, sym, ap, ◌∙◌, arith}
use Rattle.swreq_lexicon.specs.swreq_names.Spaces.{param_of}
use Rattle.swreq_lexicon.specs.swreq_names.Names.{NamesView}
use Rattle.swreq_lowering.proofs.Referring.{outer_below, own_below}
use Rattle.swreq_lowering.proofs.lookups.param_named.Goals as goal

pub overflow_cast-result : goal.overflow_cast-result
overflow_cast-result c =
    let d = c.args.words.now.lexicon.now.resolved.declared in
    let same = ap (λ (n : NamesView). param_of n.declared c.args.signature c.args.name.now) (sym c.resolved.ensures) in
    let below = outer_below d c.args.signature c.args.name.now c.in-Outer.place
    (same ∙ sym c.find_param.ensures ∙ c.in_ok-place.was ∙ ap Some c.in-Outer.is) in
    let few = c.args.words.now.few.outer c.args.signature in
    omega arith

pub overflow_cast-result-in-Own : goal.overflow_cast-result-in-Own
overflow_cast-result-in-Own c =
    let d = c.args.words.now.lexicon.now.resolved.declared in
    let same = ap (λ (n : NamesView). param_of n.declared c.args.signature c.args.name.now) (sym c.resolved.ensures) in
    let below = own_below d c.args.signature c.args.name.now c.in-Own.place
    (same ∙ sym c.find_param.ensures ∙ c.in_ok-place.was ∙ ap Some c.in-Own.is) in
    let few = c.args.words.now.few.own c.args.signature in
    omega arith

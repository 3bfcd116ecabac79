use Rattle.swreq_resolve.proofs.DeclaredOrder.{declared_in_order}
use Rattle.swreq_resolve.proofs.TypeNames.{type_to, type_from, of_the_text}
use Rattle.swreq_resolve.proofs.laws.refusals_of_types_are_the_refused.Goals as goal

pub returns-clause-all : goal.returns-clause-all
returns-clause-all c stands g written t r =
    let text = c.args.text.now in
    let s = c.args.skeleton.now in
    let order = declared_in_order text s c.tokens_are_slices.ensures stands in
    (type_to text s order g written t r, type_from text s order g written t r)

pub returns-clause-of_the_text : goal.returns-clause-of_the_text
returns-clause-of_the_text c = of_the_text c.args.text.now c.args.skeleton.now

use Rattle.swreq_param.specs.Tables.{term_at}
use Rattle.std.proofs.Common.{◌≡◌, ◌∙◌}
use Rattle.swreq_param.specs.Terms.Term.{Generic}
use Rattle.swreq_lowering.specs.declared.context.Context.TheVariants as contexts
use Rattle.swreq_lowering.specs.Requirements.{in_bounds}
use Rattle.swreq_lowering.specs.Signatures.{own_depth}
use Rattle.swreq_lowering.specs.Words.{words_by}
use Rattle.swreq_lowering.proofs.Growing.{extends_interned, adds_later, adds_same, on_ok}
use Rattle.swreq_lowering.proofs.signatures.add_param.Goals as goal

pub returns-clause-adds : goal.returns-clause-adds
returns-clause-adds c =
    let w = words_by c.args.words.now in
    let s = c.in_ok-term.ensures.ok in
    let is : term_at c.param.new.self c.in_ok-term.term
    ≡ Generic (record { depth = own_depth c.args.words.now.skeleton.now c.args.signature; index = c.args.index }) =
    s.stands ∙ (λ i. Generic (record { depth = c.own_depth-depth.ensures i; index = c.args.index })) in
    on_ok c.add_bounds.result
    (λ a. adds_same c.args.table.now c.add_bounds.new.table c.args.into.now.items c.add_bounds.new.into.items _ _
    (adds_later c.args.table.now c.param.new.self c.add_bounds.new.table c.args.into.now.items c.add_bounds.new.into.items _
    (extends_interned c.args.table.now c.param.new.self _ c.in_ok-term.term s) a)
    (λ i. in_bounds w (contexts.Signature c.args.signature) (is i) c.args.param.now.name.start (c.items.ensures i)))
    c.add_bounds.ensures.adds

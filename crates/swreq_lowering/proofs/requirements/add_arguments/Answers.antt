use Rattle.std.proofs.Common.{◌∙◌, ◌∷◌, [], inl, inr, get_or, arith}
use Rattle.std.proofs.lemmas.List.{get_or_default}
use Rattle.swreq_lexicon.specs.swreq_decl.declared.skeleton.Span.{Span}
use Rattle.swreq_param.specs.Tables.{term_at}
use Rattle.swreq_lowering.specs.Requirements.{argument, arguments}
use Rattle.swreq_lowering.specs.Words.{words_by}
use Rattle.swreq_lowering.proofs.Growing.{adds_then, adds_same}
use Rattle.swreq_lowering.proofs.Places.{arguments_more, arguments_all}
use Rattle.swreq_lowering.proofs.requirements.add_arguments.Goals as goal

pub loop-k-preserved : goal.loop-k-preserved
loop-k-preserved c =
    let w = words_by c.args.words.now in
    let t = term_at c.args.table.now c.args.subject in
    let same = c.loop-k.invariant.added.extends.stands c.args.subject c.requires in
    let none : Span = record { start = 0; end = 0 } in
    let n : Span = get_or c.primaries_named-names.result.now c.loop-k.k none in
    record {
      in_names = omega arith;
      in_given = omega arith;
      added = adds_same c.args.table.now c.add_argument.new.table c.args.into.now.items c.add_argument.new.into.items _ _
          (adds_then c.args.table.now c.loop-k.table c.add_argument.new.table c.args.into.now.items c.loop-k.into.items
          c.add_argument.new.into.items _ _ c.loop-k.invariant.added
          (adds_same c.loop-k.table c.add_argument.new.table c.loop-k.into.items c.add_argument.new.into.items _ _
          c.in_ok-add_argument.ensures.adds
          (λ i. argument w c.args.context (same i) c.args.entity.now.span.start n c.index-given-k.result ∷ [])))
          (arguments_more w c.args.context t c.args.entity.now.span.start c.primaries_named-names.result.now c.items-given.result.now
          c.loop-k.k
          n c.index-given-k.result c.loop-k-test.true c.if-k-given.true
          (get_or_default c.primaries_named-names.result.now c.loop-k.k none n c.loop-k-test.true) c.index-given-k.is);
    }

pub returns-else-k-given-clause-adds : goal.returns-else-k-given-clause-adds
returns-else-k-given-clause-adds c =
    adds_same c.args.table.now c.loop-k.table c.args.into.now.items c.loop-k.into.items _ _ c.loop-k.invariant.added
    (arguments_all (words_by c.args.words.now) c.args.context
    (term_at c.args.table.now c.args.subject) c.args.entity.now.span.start c.primaries_named-names.result.now c.items-given.result.now
    c.loop-k.k
    (inr (omega arith)) c.loop-k.invariant.in_names c.loop-k.invariant.in_given
    ∙ (λ i. arguments (words_by c.args.words.now) c.args.context (term_at c.args.table.now c.args.subject) c.args.entity.now.span.start
    (c.primaries_named-names.ensures i) (c.items-given.ensures i)))

pub returns-after-loop-k-clause-adds : goal.returns-after-loop-k-clause-adds
returns-after-loop-k-clause-adds c =
    adds_same c.args.table.now c.loop-k.table c.args.into.now.items c.loop-k.into.items _ _ c.loop-k.invariant.added
    (arguments_all (words_by c.args.words.now) c.args.context
    (term_at c.args.table.now c.args.subject) c.args.entity.now.span.start c.primaries_named-names.result.now c.items-given.result.now
    c.loop-k.k
    (inl (omega arith)) c.loop-k.invariant.in_names c.loop-k.invariant.in_given
    ∙ (λ i. arguments (words_by c.args.words.now) c.args.context (term_at c.args.table.now c.args.subject) c.args.entity.now.span.start
    (c.primaries_named-names.ensures i) (c.items-given.ensures i)))

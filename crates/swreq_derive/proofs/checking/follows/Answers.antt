use Rattle.std.proofs.Common.{sym, true≢false, subst, [], ◌∷◌}
use Rattle.swreq_derive.specs.Instances.{AreStated}
use Rattle.swreq_derive.specs.Lines.{stated_by}
use Rattle.swreq_derive.proofs.LineLemmas.{follows_from, follows_never, stated_of}
use Rattle.swreq_derive.proofs.checking.follows.Goals as goal

pub invariant_of-i-in-One-clause-premise_over : goal.invariant_of-i-in-One-clause-premise_over
invariant_of-i-in-One-clause-premise_over g c =
    (stated_of c.args.table.now (g.F.Facts.meaning c.args.facts.now) c.args.earlier.now c.items.result.now
    (c.in-One.premise ∷ []) c.requires.earlier c.in-One.ensures).0

pub invariant_of-i-in-Two : goal.invariant_of-i-in-Two
invariant_of-i-in-Two g c =
    let stated = stated_of c.args.table.now (g.F.Facts.meaning c.args.facts.now) c.args.earlier.now c.items.result.now
    (c.in-Two.first ∷ c.in-Two.second ∷ []) c.requires.earlier c.in-Two.ensures in
    record { distinct = c.requires.distinct; first_over = stated.0; second_over = stated.1.0; conclusion_over = c.requires.line.1 }

pub returns-in-Zero : goal.returns-in-Zero
returns-in-Zero g c =
    follows_from c.args.table.now (g.F.Facts.meaning c.args.facts.now) (stated_by c.args.earlier.now) c.args.line.now [] _
    (subst (λ ns. AreStated (stated_by c.args.earlier.now) ns []) c.items.ensures c.in-Zero.ensures) c.gives_from_none.ensures

pub returns-in-One : goal.returns-in-One
returns-in-One g c =
    follows_from c.args.table.now (g.F.Facts.meaning c.args.facts.now)
    (stated_by c.args.earlier.now) c.args.line.now (c.in-One.premise ∷ []) _
    (subst (λ ns. AreStated (stated_by c.args.earlier.now) ns (c.in-One.premise ∷ [])) c.items.ensures c.in-One.ensures)
    c.gives_from_one.ensures

pub returns-in-Two : goal.returns-in-Two
returns-in-Two g c =
    follows_from c.args.table.now (g.F.Facts.meaning c.args.facts.now) (stated_by c.args.earlier.now) c.args.line.now
    (c.in-Two.first ∷ c.in-Two.second ∷ []) _
    (subst (λ ns. AreStated (stated_by c.args.earlier.now) ns (c.in-Two.first ∷ c.in-Two.second ∷ [])) c.items.ensures c.in-Two.ensures)
    c.gives_from_two.ensures

pub returns-in-Other : goal.returns-in-Other
returns-in-Other g c = (
  (λ e. absurd (true≢false (sym e))),
  λ f. absurd (follows_never c.args.table.now (g.F.Facts.meaning c.args.facts.now) (stated_by c.args.earlier.now) c.args.line.now
      (λ sts h n. c.in-Other.ensures sts (subst (λ ns. AreStated (stated_by c.args.earlier.now) ns sts) (sym c.items.ensures) h) n) f),
)

use Rattle.std.proofs.Common.{length, get_or, refl, subst, Contains}
use Rattle.std.proofs.lemmas.List.Elements.{Contains-get_or}
use Rattle.swreq_machine.specs.swreq_valid.Plans.{listed}
use Rattle.swreq_minimal.proofs.Inserting.{any, belongs_here, belongs_last, in_listed, none_more, nothing_yet}
use Rattle.swreq_minimal.proofs.candidates.place_of.Goals as goal

pub is_same-requires : goal.is_same-requires
is_same-requires c = (
  c.requires.0 (get_or c.args.found.now c.loop-k.k any) (Contains-get_or c.args.found.now c.loop-k.k any c.loop-k-test.true),
  c.requires.1,
)

pub is_before-requires : goal.is_before-requires
is_before-requires c = (
  c.requires.1,
  c.requires.0 (get_or c.args.found.now c.loop-k.k any) (Contains-get_or c.args.found.now c.loop-k.k any c.loop-k-test.true),
)

pub returns-then-is_same : goal.returns-then-is_same
returns-then-is_same c =
    subst (Contains (listed c.args.table.now c.args.found.now)) (c.is_same.ensures.0 c.if-is_same.true)
    (in_listed c.args.table.now (get_or c.args.found.now c.loop-k.k any) c.args.found.now
    (Contains-get_or c.args.found.now c.loop-k.k any c.loop-k-test.true))

pub returns-then-is_before : goal.returns-then-is_before
returns-then-is_before c =
    belongs_here c.args.table.now c.args.found.now c.args.r c.loop-k.k any c.loop-k-test.true c.loop-k.invariant
    (c.is_before.ensures.0 c.if-is_before.true)

pub loop-k-init : goal.loop-k-init
loop-k-init c = nothing_yet c.args.table.now c.args.found.now c.args.r

pub loop-k-preserved : goal.loop-k-preserved
loop-k-preserved c =
    none_more c.args.table.now c.args.found.now c.args.r c.loop-k.k any c.loop-k-test.true c.loop-k.invariant
    (λ e. let a = c.is_same.ensures.1 e in let b = c.if-is_same.false in cc)
    (λ e. let a = c.is_before.ensures.1 e in let b = c.if-is_before.false in cc)

pub returns : goal.returns
returns c =
    belongs_last c.args.table.now c.args.found.now c.args.r c.loop-k.k (length c.args.found.now) c.loop-k-test.false refl c.loop-k.invariant

use Rattle.std.proofs.Common.{◌≤◌, ◌+◌, arith, length, take, vec_capacity, subst, sym, rules, length-take-le}
use Rattle.std.proofs.lemmas.List.{take_more}
use Rattle.std.proofs.lemmas.List.{take_all}
use Rattle.swreq_candidates.proofs.swreq_param.Growing.{onward, unchanged}
use Rattle.swreq_homotopy.specs.swreq_word.declared.symbols.Symbol.TheVariants.{Proto}
use Rattle.swreq_minimal.specs.Typed.{Identifies, IsTypeBy}
use Rattle.swreq_minimal.proofs.Typing.{id_there, part_least}
use Rattle.swreq_minimal.proofs.typed.type_of.Goals as goal

pub loop-k-init : goal.loop-k-init
loop-k-init c =
    let room : length c.args.word.now + 1 ≤ vec_capacity c.in_ok-test.test = search rules in
    record {
      typed = c.in_ok-at.ensures.typed c.args.by.now.world.now.lexicon c.args.by.now.rules.now;
      extends = unchanged c.begin.new.table;
      room = room;
    }

pub go_on-requires-clause-at : goal.go_on-requires-clause-at
go_on-requires-clause-at c =
    id_there (IsTypeBy c.args.by.now.world.now.lexicon c.args.by.now.rules.now c.args.by.now.params (take c.loop-k.k c.args.word.now))
    c.loop-k.table c.loop-k.at c.loop-k.invariant.typed

pub go_on-requires-clause-tested : goal.go_on-requires-clause-tested
go_on-requires-clause-tested c =
    let t = c.loop-k-test.true in
    let r = c.loop-k.invariant.room in
    let e = length-take-le c.loop-k.k c.args.word.now (omega (arith, t)) in
    record { least = part_least c.args.by.now.rules.now c.args.word.now c.loop-k.k c.requires; fits = omega (arith, t, r, e) }

pub returns-in_err-next-clause-extends : goal.returns-in_err-next-clause-extends
returns-in_err-next-clause-extends c =
    onward c.args.table.now c.begin.new.table c.go_on.new.table c.begin.ensures.extends
    (onward c.begin.new.table c.loop-k.table c.go_on.new.table c.loop-k.invariant.extends c.go_on.ensures.extends)

pub loop-k-preserved : goal.loop-k-preserved
loop-k-preserved c =
    let r = c.loop-k.invariant.room in
    let m = c.go_on.ensures.room in
    record {
      typed =
          subst (λ z. Identifies (IsTypeBy c.args.by.now.world.now.lexicon c.args.by.now.rules.now c.args.by.now.params z) c.go_on.new.table
          c.in_ok-next.next)
          (sym (take_more c.args.word.now c.loop-k.k (Proto 0) c.loop-k-test.true))
          (c.in_ok-next.ensures.typed c.args.by.now.params c.loop-k.invariant.typed);
      extends = onward c.begin.new.table c.loop-k.table c.go_on.new.table c.loop-k.invariant.extends c.go_on.ensures.extends;
      room = omega (arith, r, m);
    }

pub returns-clause-typed : goal.returns-clause-typed
returns-clause-typed c =
    subst (λ z. Identifies (IsTypeBy c.args.by.now.world.now.lexicon c.args.by.now.rules.now c.args.by.now.params z) c.loop-k.table
    c.loop-k.at)
    (take_all c.loop-k.k c.args.word.now c.loop-k-test.false) c.loop-k.invariant.typed

pub returns-clause-extends : goal.returns-clause-extends
returns-clause-extends c = onward c.args.table.now c.begin.new.table c.loop-k.table c.begin.ensures.extends c.loop-k.invariant.extends

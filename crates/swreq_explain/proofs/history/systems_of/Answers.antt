use Rattle.std.proofs.Common.{◌≡◌, ◌+◌, arith, length, subst, sym}
use Rattle.swreq_machine.specs.swreq_symbols.Meaning.{symbols_of}
use Rattle.swreq_explain.{specs.Rounds.{AreFirstSystems, origin_of}, proofs.HistoryLemmas.{no_systems, systems_more}}
use Rattle.swreq_explain.proofs.history.systems_of.Goals as goal

pub loop-k-init : goal.loop-k-init
loop-k-init c =
    let m = symbols_of c.args.makings.text.world.now.lexicon in
    let terms = c.args.makings.text.table.now in
    let o = origin_of c.args.makings in
    subst (AreFirstSystems m terms o 0) (sym c.new-systems.ensures.items) (no_systems m terms o)

pub loop-k-preserved : goal.loop-k-preserved
loop-k-preserved c =
    let m = symbols_of c.args.makings.text.world.now.lexicon in
    let terms = c.args.makings.text.table.now in
    let o = origin_of c.args.makings in
    subst (AreFirstSystems m terms o (c.loop-k.k + 1)) (sym c.in_ok-push.ensures.items)
    (systems_more m terms o c.loop-k.k c.loop-k.systems.items _ c.loop-k.invariant c.in_ok-system.ensures)

pub returns : goal.returns
returns c =
    let makings = c.args.makings in
    let last : c.loop-k.k ≡ length makings.rounds.now =
    omega (arith, c.loop-k-test.false, c.loop-k.auto.k-end, c.count-k-end.ensures.count) in
    subst (λ n. AreFirstSystems (symbols_of makings.text.world.now.lexicon) makings.text.table.now
    (origin_of makings) n c.loop-k.systems.items) last
    c.loop-k.invariant

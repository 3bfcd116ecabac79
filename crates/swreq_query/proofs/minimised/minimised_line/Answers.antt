use Rattle.std.proofs.Common.{◌≡◌, ◌⊎◌, ◌++◌, ℕ, List, inr, sym, subst}
use Rattle.std.proofs.lemmas.Result.{IfErr-weaker, err_from_is_err_and, on_err_weaker, on_ok_weaker}
use Rattle.swreq_text.specs.Joined.{GrewByPart}
use Rattle.swreq_machine.specs.swreq_world.ByTable.{world_by}
use Rattle.swreq_machine.specs.swreq_world.Worlds.{signature_at}
use Rattle.swreq_machine.specs.swreq_valid.Plans.{AreKnown}
use Rattle.swreq_machine.specs.swreq_valid.Rounds.{last_rules}
use Rattle.swreq_query.specs.Signatures.{IsMinimisedLine}
use Rattle.swreq_machine.specs.swreq_world.FactsAt.{written_list}
use Rattle.swreq_query.proofs.Lines.{line_read}
use Rattle.swreq_query.proofs.Minimising.{signature_fails, signature_tells, signature_wants}
use Rattle.swreq_query.proofs.minimised.minimised_line.Goals as goal

pub returns-in_err-list-clause-failed : goal.returns-in_err-list-clause-failed
returns-in_err-list-clause-failed g c =
    let w = world_by c.args.table.now c.args.world.now in
    let s = signature_at w c.args.f in
    let p = err_from_is_err_and c.from_residual.result c.from_residual.ensures.1 in
    rw (p.1, p.2)
    (signature_fails c.args.limits w (last_rules c.args.protocols.now.rounds) s (g.W.Watch.told c.args.watch.now)
    (g.W.Watch.told c.minimise.new.watch)
    c.args.machine.now.params c.requires.machine.params c.in_err-list.field-0.0
    (c.in_err-list.ensures.failed (written_list s) c.requires.machine.machine))

pub invariant_of-put_line : goal.invariant_of-put_line
invariant_of-put_line g c = record { belong = ∣ c.in_ok-list.ensures.text ∣₁ }

pub put_line-requires : goal.put_line-requires
put_line-requires g c = subst (AreKnown c.minimise.new.table c.args.world.now.lexicon) (sym c.deref.ensures.value)
    c.in_ok-list.ensures.known

pub returns-clause-line : goal.returns-clause-line
returns-clause-line g c =
    let s = signature_at (world_by c.args.table.now c.args.world.now) c.args.f in
    on_ok_weaker c.put_line.result
    (line_read (λ (line : List ℕ). c.put_line.new.out.items ≡ c.args.out.now.items ++ line)
    c.args.table.now c.minimise.new.table c.args.world.now c.args.f
    c.args.machine.now.params c.params.result c.in_ok-list.list.items c.deref.result.now
    c.requires.machine.params c.params.ensures c.deref.ensures.value
    (c.in_ok-list.ensures.minimised (written_list s) c.requires.machine.machine)
    (c.in_ok-list.ensures.same (written_list s) c.requires.machine.machine))
    c.put_line.ensures.line

pub returns-clause-part : goal.returns-clause-part
returns-clause-part g c =
    let w = world_by c.args.table.now c.args.world.now in
    let s = signature_at w c.args.f in
    on_err_weaker {Q = (c.put_line.new.out.items ≡ c.args.out.now.items)
    ⊎ ((line : List ℕ) × IsMinimisedLine w s line × GrewByPart c.args.out.now.items line c.put_line.new.out.items)}
    c.put_line.result
    (λ part. inr (line_read (λ (line : List ℕ). GrewByPart c.args.out.now.items line c.put_line.new.out.items)
    c.args.table.now c.minimise.new.table c.args.world.now c.args.f
    c.args.machine.now.params c.params.result c.in_ok-list.list.items c.deref.result.now
    c.requires.machine.params c.params.ensures c.deref.ensures.value
    (c.in_ok-list.ensures.minimised (written_list s) c.requires.machine.machine)
    (c.in_ok-list.ensures.same (written_list s) c.requires.machine.machine) part))
    c.put_line.ensures.part

pub returns-clause-unchanged : goal.returns-clause-unchanged
returns-clause-unchanged g c = IfErr-weaker c.put_line.result _ _ (λ failed is other. absurd (other is)) c.put_line.ensures.failed

pub returns-clause-told : goal.returns-clause-told
returns-clause-told g c =
    let w = world_by c.args.table.now c.args.world.now in
    let s = signature_at w c.args.f in
    on_ok_weaker c.put_line.result
    (λ e. signature_tells c.args.limits w (last_rules c.args.protocols.now.rounds) s (g.W.Watch.told c.args.watch.now)
    (g.W.Watch.told c.minimise.new.watch)
    c.args.machine.now.params c.requires.machine.params (c.in_ok-list.ensures.told (written_list s) c.requires.machine.machine))
    c.put_line.ensures.line

pub returns-clause-failed : goal.returns-clause-failed
returns-clause-failed g c =
    let w = world_by c.args.table.now c.args.world.now in
    let s = signature_at w c.args.f in
    IfErr-weaker c.put_line.result _ _
    (λ failed is. signature_wants c.args.limits w (last_rules c.args.protocols.now.rounds) s (g.W.Watch.told c.args.watch.now)
    (g.W.Watch.told c.minimise.new.watch)
    c.args.machine.now.params c.requires.machine.params failed is (c.in_ok-list.ensures.told (written_list s) c.requires.machine.machine))
    c.put_line.ensures.failed

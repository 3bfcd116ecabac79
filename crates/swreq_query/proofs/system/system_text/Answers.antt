use Rattle.std.proofs.Common.{◌≡◌, ◌++◌, ℕ, List, inr}
use Rattle.std.proofs.lemmas.Result.{on_err_weaker, on_ok_weaker}
use Rattle.swreq_text.specs.Joined.{GrewByPart}
use Rattle.swreq_machine.specs.swreq_world.Worlds.{signature_at}
use Rattle.swreq_query.proofs.Lines.{system_read}
use Rattle.swreq_machine.specs.swreq_symbols.Texts.{world_of}
use Rattle.swreq_query.proofs.system.system_text.Goals as goal

pub returns-clause-ok : goal.returns-clause-ok
returns-clause-ok c =
    let w = world_of c.args.text.now in
    on_ok_weaker c.put_system.result
    (system_read (λ (text : List ℕ). c.put_system.new.out.items ≡ c.args.out.now.items ++ text)
    w (signature_at w c.args.f) c.args.machine.now c.rules.result.now c.in_ok-rules.rules.items c.deref.result.now
    c.requires.machine c.requires.params c.rules.ensures c.in_ok-rules.ensures.reduced c.deref.ensures.value)
    c.put_system.ensures.ok

pub returns-clause-err : goal.returns-clause-err
returns-clause-err c =
    let w = world_of c.args.text.now in
    on_err_weaker c.put_system.result
    (λ part. inr (system_read (λ (text : List ℕ). GrewByPart c.args.out.now.items text c.put_system.new.out.items)
    w (signature_at w c.args.f) c.args.machine.now c.rules.result.now c.in_ok-rules.rules.items c.deref.result.now
    c.requires.machine c.requires.params c.rules.ensures c.in_ok-rules.ensures.reduced c.deref.ensures.value part))
    c.put_system.ensures.err

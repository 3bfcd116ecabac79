use Rattle.std.proofs.{Common.{sym, subst}, lemmas.List.{take_more}}
use Rattle.swreq_readings.specs.Readable.{IsCarried}
use Rattle.swreq_readings.proofs.ReadingLemmas.{carried_then, symbol_after}
use Rattle.swreq_derivation.proofs.DerivationLemmas.{continues_then}
use Rattle.swreq_readings.proofs.along.carry_all.Goals as goal

pub carry-requires-clause-symbol : goal.carry-requires-clause-symbol
carry-requires-clause-symbol c =
    let i = c.loop-k.invariant in
    symbol_after c.args.alphabet.now c.args.derivation.now c.loop-k.derivation c.args.from c.args.to c.args.word.now c.loop-k.k _ _
    i.continues.grows c.loop-k-test.true c.requires.word i.carried

pub loop-k-preserved : goal.loop-k-preserved
loop-k-preserved c =
    let i = c.loop-k.invariant in
    let e = c.in_ok-next.ensures in
    let n = c.carry.new.derivation in
    record {
      carried = subst (λ z. IsCarried c.args.alphabet.now c.args.derivation.now n c.args.from c.args.to z c.in_ok-next.next)
          (sym (take_more c.args.word.now c.loop-k.k _ c.loop-k-test.true))
          (carried_then c.args.alphabet.now _ _ n _ _ _ _ _ _ e.continues.grows i.carried e.carried);
      continues = continues_then i.continues e.continues;
    }

pub returns-in_err-next-clause-continues : goal.returns-in_err-next-clause-continues
returns-in_err-next-clause-continues c = continues_then c.loop-k.invariant.continues c.in_err-next.ensures.continues

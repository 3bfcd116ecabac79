use Rattle.std.proofs.Common.{◌≡◌, ◌<◌, rules, length, sym, subst, IfOk}
use Rattle.swreq_homotopy.specs.swreq_word.declared.symbols.Symbol.TheVariants.{Proto}
use Rattle.swreq_minimal.specs.Typed.{Identifies, IsTypeBy}
use Rattle.swreq_minimal.proofs.Typing.{begin_empty, one_taken}
use Rattle.swreq_minimal.proofs.typed.begin.Goals as goal

pub returns-then-is_empty-clause-typed : goal.returns-then-is_empty-clause-typed
returns-then-is_empty-clause-typed c x all =
    let e : length c.args.word.now ≡ 0 = search rules in
    begin_empty x all c.args.params c.args.word.now e

pub returns-clause-typed : goal.returns-clause-typed
returns-clause-typed c x all =
    let l : 0 < length c.args.word.now = search rules in
    subst (λ z. IfOk c.symbol_type.result (Identifies (IsTypeBy x all c.args.params z) c.symbol_type.new.table))
    (sym (one_taken c.args.word.now (Proto 0) l))
    (c.symbol_type.ensures.typed x all)

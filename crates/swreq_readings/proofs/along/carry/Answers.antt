use Rattle.std.proofs.Common.{sym, ap, subst, ◌∙◌}
use Rattle.swreq_derive.specs.swreq_param.Terms.{Term}
use Rattle.swreq_readings.specs.Readable.{AllowsSymbol, read_symbol}
use Rattle.swreq_readings.proofs.ReadingLemmas.{equal_ids_now, equal_ids_still, is_still, symbol_now, term_still}
use Rattle.swreq_derivation.proofs.DerivationLemmas.{continues_anyway, continues_then, grows_then}
use Rattle.swreq_readings.proofs.along.carry.Goals as goal

pub carry_symbol-requires : goal.carry_symbol-requires
carry_symbol-requires c =
    let first = c.in_ok-first.ensures in
    let second = c.in_ok-second.ensures in
    let grows = grows_then first.continues.grows second.continues.grows in
    let on = λ (z : Term). read_symbol c.args.alphabet.now z c.args.symbol in
    let equal = equal_ids_still _ _ grows c.args.from c.args.to c.requires.equal in
    let to = term_still _ _ second.continues.grows c.args.to (is_still _ _ first.continues.grows c.args.to c.requires.equal.1) in
    record {
      symbol = symbol_now c.args.alphabet.now _ _ grows c.args.from c.args.symbol c.requires.equal.0 c.requires.symbol;
      equal = equal;
      first = (
        is_still _ _ second.continues.grows c.in_ok-first.first first.is_of,
        term_still _ _ second.continues.grows c.in_ok-first.first first.is_of ∙ first.stands
            ∙ ap on (sym (term_still _ _ grows c.args.from c.requires.equal.0)),
      );
      second = (second.is_of, second.stands ∙ ap on (sym to));
    }

pub returns-clause-carried : goal.returns-clause-carried
returns-clause-carried c =
    let first = c.in_ok-first.ensures in
    let second = c.in_ok-second.ensures in
    let last = c.in_ok-carry_symbol.ensures in
    let on = λ (z : Term). read_symbol c.args.alphabet.now z c.args.symbol in
    let of = is_still _ _ second.continues.grows c.in_ok-first.first first.is_of in
    let to = term_still _ _ (grows_then first.continues.grows second.continues.grows) c.args.to c.requires.equal.1 in
    record {
      word = (subst (λ z. AllowsSymbol c.args.alphabet.now c.carry_symbol.new.derivation z c.args.symbol) to last.symbol, tt);
      first = term_still _ _ (grows_then second.continues.grows last.continues.grows) c.in_ok-first.first first.is_of ∙ first.stands;
      second = term_still _ _ last.continues.grows c.in_ok-second.second second.is_of ∙ second.stands
          ∙ ap on (term_still _ _ first.continues.grows c.args.to c.requires.equal.1);
      equal = equal_ids_now _ _ last.continues.grows c.in_ok-first.first c.in_ok-second.second of second.is_of last.equal;
    }

pub returns-clause-continues : goal.returns-clause-continues
returns-clause-continues c =
    continues_then (continues_anyway (continues_then c.in_ok-first.ensures.continues c.in_ok-second.ensures.continues))
    c.in_ok-carry_symbol.ensures.continues

pub returns-in_err-second-clause-continues : goal.returns-in_err-second-clause-continues
returns-in_err-second-clause-continues c =
    continues_anyway (continues_then c.in_ok-first.ensures.continues c.in_err-second.ensures.continues)

pub returns-in_err-carry_symbol-clause-continues : goal.returns-in_err-carry_symbol-clause-continues
returns-in_err-carry_symbol-clause-continues c =
    continues_then (continues_anyway (continues_then c.in_ok-first.ensures.continues c.in_ok-second.ensures.continues))
    c.in_err-carry_symbol.ensures.continues

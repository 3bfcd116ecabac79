use Rattle.std.proofs.Common.{ap, subst, sym, ◌∙◌}
use Rattle.swreq_derive.specs.{swreq_param.Tables.{term_at}, Derivation.{TermRequirement.{Conforms}, TermStatement.{Requires}}}
use Rattle.swreq_derivation.specs.{UnderWay.{States}, declared.statements.Bound.TheVariants.{Protocol}}
use Rattle.swreq_derivation.proofs.DerivationLemmas.{continues_anyway, continues_then}
use Rattle.swreq_word.specs.declared.symbols.Symbol.TheVariants.{Member}
use Rattle.swreq_world.specs.swreq_lexicon.declared.pair.ProtocolName.{ProtocolName}
use Rattle.swreq_readings.specs.Readable.{AllowsName, AllowsSymbol, read_symbol}
use Rattle.swreq_readings.proofs.ReadingLemmas.{bound_still, equal_as, equal_ids_still, equal_still, name_still, term_still}
use Rattle.swreq_readings.proofs.along.carry_symbol.Goals as goal

pub returns-in_ok-carry_bound-in-Proto-clause-equal : goal.returns-in_ok-carry_bound-in-Proto-clause-equal
returns-in_ok-carry_bound-in-Proto-clause-equal c =
    let s = c.args.derivation.now in
    let g = c.args.alphabet.now in
    equal_as c.carry_bound.new.derivation _ _ (term_at s.table c.args.from) (term_at s.table c.args.to)
    (c.requires.first.1 ∙ ap (read_symbol g (term_at s.table c.args.from)) c.in-Proto.is)
    (c.requires.second.1 ∙ ap (read_symbol g (term_at s.table c.args.to)) c.in-Proto.is)
    (equal_still g s c.carry_bound.new.derivation c.in_ok-carry_bound-in-Proto.ensures.continues.grows _ _ c.requires.equal.2)

pub returns-in_ok-carry_bound-in-Layout-clause-equal : goal.returns-in_ok-carry_bound-in-Layout-clause-equal
returns-in_ok-carry_bound-in-Layout-clause-equal c =
    let s = c.args.derivation.now in
    let g = c.args.alphabet.now in
    equal_as c.carry_bound-in-Layout.new.derivation _ _ (term_at s.table c.args.from) (term_at s.table c.args.to)
    (c.requires.first.1 ∙ ap (read_symbol g (term_at s.table c.args.from)) c.in-Layout.is)
    (c.requires.second.1 ∙ ap (read_symbol g (term_at s.table c.args.to)) c.in-Layout.is)
    (equal_still g s c.carry_bound-in-Layout.new.derivation c.in_ok-carry_bound-in-Layout.ensures.continues.grows _ _ c.requires.equal.2)

pub carry_bound-requires-in-Member-clause-conforms : goal.carry_bound-requires-in-Member-clause-conforms
carry_bound-requires-in-Member-clause-conforms c =
    let g = c.args.alphabet.now in
    let s = c.args.derivation.now in
    let u = c.carry_name-in-Member.new.derivation in
    let says : AllowsSymbol g s (term_at s.table c.args.from) (Member c.in-Member.rank) = subst
    (AllowsSymbol g s (term_at s.table c.args.from)) c.in-Member.is c.requires.symbol in
    subst (λ (z : ProtocolName). States u (Requires (Conforms (term_at u.table c.args.from) z.proto))) (sym c.member_at-named.ensures)
    (bound_still s u c.in_ok-carry_name-in-Member.ensures.continues.grows c.args.from (Protocol _) c.requires.equal.0 says.1)

pub carry_bound-requires-in-Member-clause-equal : goal.carry_bound-requires-in-Member-clause-equal
carry_bound-requires-in-Member-clause-equal c =
    equal_ids_still _ _ c.in_ok-carry_name-in-Member.ensures.continues.grows c.args.from c.args.to c.requires.equal

pub returns-in_ok-carry_bound-in-Member-clause-symbol : goal.returns-in_ok-carry_bound-in-Member-clause-symbol
returns-in_ok-carry_bound-in-Member-clause-symbol c =
    let g = c.args.alphabet.now in
    let s = c.args.derivation.now in
    let n = c.carry_bound-in-Member.new.derivation in
    let name = c.in_ok-carry_name-in-Member.ensures in
    let t = term_at s.table c.args.to in
    let says : AllowsSymbol g s (term_at s.table c.args.from) (Member c.in-Member.rank) = subst
    (AllowsSymbol g s (term_at s.table c.args.from)) c.in-Member.is c.requires.symbol in
    let conforms : States n (Requires (Conforms t c.member_at-named.result.proto)) = subst
    (λ z. States n (Requires (Conforms z c.member_at-named.result.proto)))
    (term_still s _ name.continues.grows c.args.to c.requires.equal.1) c.in_ok-carry_bound-in-Member.ensures.conforms in
    let both : States n (Requires (Conforms t c.member_at-named.result.proto)) × AllowsName g n t c.member_at-named.result.name
    = (conforms, name_still g _ n c.in_ok-carry_bound-in-Member.ensures.continues.grows t _ name.name) in
    let w = subst (λ (z : ProtocolName). States n (Requires (Conforms t z.proto)) × AllowsName g n t z.name) c.member_at-named.ensures
    both in
    subst (AllowsSymbol g n t) (sym c.in-Member.is) (says.0, w.0, w.1)

pub returns-in_ok-carry_bound-in-Member-clause-equal : goal.returns-in_ok-carry_bound-in-Member-clause-equal
returns-in_ok-carry_bound-in-Member-clause-equal c =
    equal_still c.args.alphabet.now _ c.carry_bound-in-Member.new.derivation c.in_ok-carry_bound-in-Member.ensures.continues.grows _ _
    c.in_ok-carry_name-in-Member.ensures.equal

pub returns-in_err-carry_bound-in-Member-clause-continues : goal.returns-in_err-carry_bound-in-Member-clause-continues
returns-in_err-carry_bound-in-Member-clause-continues c =
    continues_then c.in_ok-carry_name-in-Member.ensures.continues (continues_anyway c.in_err-carry_bound-in-Member.ensures.continues)

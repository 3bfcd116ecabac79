use Rattle.std.proofs.Common.{◌≡◌, ◌∙◌, ◌-◌, None, ap, length, subst, sym, take}
use Rattle.swreq_machine.specs.swreq_param.{Tables.{term_at}, Owned.{as_term}, Terms.Term.{Member}}
use Rattle.swreq_machine.specs.swreq_derive.Derivation.TermStatement.{IsValid}
use Rattle.swreq_derivation.{specs.UnderWay.{States}, proofs.DerivationLemmas.{continues_anyway, continues_if, continues_then}}
use Rattle.swreq_readings.proofs.ReadingLemmas.{equal_as, equal_ids_still, term_still}
use Rattle.swreq_explain.{specs.Stating.{IsSplitOf, alphabet_at, rules_of}, proofs.SideLemmas.{base_shown, ready_still, shown_generic}}
use Rattle.swreq_explain.proofs.SideLemmas.{step_shown}
use Rattle.swreq_readings.specs.Readable.{IsGiven, read_word}
use Rattle.swreq_explain.proofs.validity.validate.Goals as goal

pub read_side-requires : goal.read_side-requires
read_side-requires c =
    let is = subst (IsSplitOf c.args.side.param.now) c.in-Some.is c.in_ok-split.ensures in
    record {
      ready = c.requires.ready;
      word = base_shown (alphabet_at c.args.reader) None (rules_of c.args.reader) (as_term c.args.side.param.now)
          (as_term c.in-Some.base) c.in-Some.step c.args.side.word.now is c.requires.word;
    }

pub declare-requires-clause-scope : goal.declare-requires-clause-scope
declare-requires-clause-scope c =
    ready_still c.args.reader c.args.derivation.now c.read_side.new.derivation c.in_ok-ids-in-Some.ensures.continues.grows c.requires.ready

pub declare-requires-clause-shown : goal.declare-requires-clause-shown
declare-requires-clause-shown c =
    let is = subst (IsSplitOf c.args.side.param.now) c.in-Some.is c.in_ok-split.ensures in
    step_shown (alphabet_at c.args.reader) None (rules_of c.args.reader) (as_term c.args.side.param.now)
    (as_term c.in-Some.base) c.in-Some.step c.args.side.word.now is c.requires.word

pub validate_member-requires : goal.validate_member-requires
validate_member-requires c =
    let g = alphabet_at c.args.reader in
    let s0 = c.args.derivation.now in
    let s1 = c.read_side.new.derivation in
    let s2 = c.declare.new.derivation in
    let g1 = c.in_ok-ids-in-Some.ensures.continues.grows in
    let g2 = c.in_ok-named-in-Some.ensures.continues.grows in
    let ids = c.in_ok-ids-in-Some.ids in
    let r = c.in_ok-ids-in-Some.ensures.read in
    let w = take (length c.args.side.word.now - 1) c.args.side.word.now in
    let stands : term_at s2.table ids.word ≡ read_word g (term_at s1.table c.args.reader.t) w
    = term_still s1 s2 g2 ids.word r.word_of ∙ r.word ∙ ap (λ z. read_word g z w)
    (sym (term_still s0 s1 g1 c.args.reader.t c.requires.ready.for_self)) in
    record {
      base = equal_ids_still s1 s2 g2 ids.itself ids.word (r.itself_of, r.word_of, equal_as s1 _ _ _ _ r.itself r.word r.equal);
      given = subst (λ z. IsGiven g s2 z c.in-Some.step c.in_ok-named-in-Some.named) (sym stands) c.in_ok-named-in-Some.ensures.given;
    }

pub returns-in_ok-add_generic-in-None-clause-continues : goal.returns-in_ok-add_generic-in-None-clause-continues
returns-in_ok-add_generic-in-None-clause-continues c =
    let is = subst (IsSplitOf c.args.side.param.now) c.in-None.is c.in_ok-split.ensures in
    let fits = shown_generic c.args.reader c.args.side c.args.side.param.now.head _ is c.requires.word c.in_ok-t-in-None.ensures.stands in
    continues_then (continues_anyway c.in_ok-t-in-None.ensures.continues) (continues_if fits c.in_ok-add_generic-in-None.ensures.continues)

pub returns-in_err-add_generic-in-None-clause-continues : goal.returns-in_err-add_generic-in-None-clause-continues
returns-in_err-add_generic-in-None-clause-continues c =
    let is = subst (IsSplitOf c.args.side.param.now) c.in-None.is c.in_ok-split.ensures in
    let fits = shown_generic c.args.reader c.args.side c.args.side.param.now.head _ is c.requires.word c.in_ok-t-in-None.ensures.stands in
    continues_then (continues_anyway c.in_ok-t-in-None.ensures.continues) (continues_if fits c.in_err-add_generic-in-None.ensures.continues)

pub returns-in_ok-v-in-Some : goal.returns-in_ok-v-in-Some
returns-in_ok-v-in-Some c =
    let t = c.args.side.param.now in
    let is = subst (IsSplitOf t) c.in-Some.is c.in_ok-split.ensures in
    let s1 = c.read_side.new.derivation in
    let s2 = c.declare.new.derivation in
    let g2 = c.in_ok-named-in-Some.ensures.continues.grows in
    let ids = c.in_ok-ids-in-Some.ids in
    let r = c.in_ok-ids-in-Some.ensures.read in
    let base : term_at s2.table ids.itself ≡ as_term c.in-Some.base = term_still s1 s2 g2 ids.itself r.itself_of ∙ r.itself in
    let whole : Member (term_at s2.table ids.itself) c.in-Some.step ≡ as_term t = ap (λ z. Member z c.in-Some.step) base ∙ sym is in
    record {
      is_of = c.in_ok-v-in-Some.ensures.is_of;
      stands = c.in_ok-v-in-Some.ensures.stands ∙ whole;
      says = subst (λ z. States c.validate_member.new.derivation (IsValid z)) whole c.in_ok-v-in-Some.ensures.says;
      continues = continues_then (continues_then c.in_ok-ids-in-Some.ensures.continues c.in_ok-named-in-Some.ensures.continues)
          c.in_ok-v-in-Some.ensures.continues;
    }

pub returns-in_err-named-in-Some-clause-continues : goal.returns-in_err-named-in-Some-clause-continues
returns-in_err-named-in-Some-clause-continues c =
    continues_then c.in_ok-ids-in-Some.ensures.continues c.in_err-named-in-Some.ensures.continues

pub returns-in_err-v-in-Some-clause-continues : goal.returns-in_err-v-in-Some-clause-continues
returns-in_err-v-in-Some-clause-continues c =
    continues_then (continues_then c.in_ok-ids-in-Some.ensures.continues c.in_ok-named-in-Some.ensures.continues)
    c.in_err-v-in-Some.ensures.continues

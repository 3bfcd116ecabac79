use Rattle.std.proofs.Common.{◌∙◌, OnOk, subst, sym}
use Rattle.swreq_machine.specs.swreq_derive.Derivation.TermStatement.{Requires}
use Rattle.swreq_derivation.{specs.UnderWay.{States}, proofs.DerivationLemmas.{continues_anyway, continues_then, grows_then}}
use Rattle.swreq_readings.{specs.Readable.{AllowsWord}, proofs.ReadingLemmas.{term_still, word_still}}
use Rattle.swreq_explain.{specs.Stating.{alphabet_at, symbol_of}, proofs.SideLemmas.{allowed_bound, bound_is, linked, read_ids}}
use Rattle.swreq_explain.proofs.SideLemmas.{ready_still}
use Rattle.swreq_explain.proofs.stating.state_bound.Goals as goal

pub link-requires-clause-scope : goal.link-requires-clause-scope
link-requires-clause-scope c =
    ready_still c.args.reader c.args.derivation.now c.bound_by_member.new.derivation
    (grows_then c.in_ok-ids.ensures.continues.grows c.in_ok-bound_by_member.ensures.continues.grows) c.requires.side.ready

pub link-requires-clause-word : goal.link-requires-clause-word
link-requires-clause-word c =
    let d = c.args.reader in
    let g = alphabet_at d in
    let s = c.args.derivation.now in
    let n = c.read_side.new.derivation in
    let u = c.bound_by_member.new.derivation in
    let g1 = c.in_ok-ids.ensures.continues.grows in
    let g2 = c.in_ok-bound_by_member.ensures.continues.grows in
    subst (λ z. AllowsWord g u z c.args.side.word.now) (sym (term_still s u (grows_then g1 g2) d.t c.requires.side.ready.for_self))
    (word_still g n u g2 _ c.args.side.word.now c.in_ok-ids.ensures.read.says)

pub add_same_bound-requires : goal.add_same_bound-requires
add_same_bound-requires c =
    let d = c.args.reader in
    let ids = c.in_ok-ids.ids in
    let now = linked d c.args.side c.args.derivation.now _ _ _ c.in_ok-ids.ensures.continues.grows
    c.in_ok-bound_by_member.ensures.continues.grows c.in_ok-link.ensures.continues.grows c.requires.side.ready.for_self ids
    (symbol_of c.args.bound) _ c.in_ok-ids.ensures.read c.requires.vanishes.0 c.in_ok-link.ensures.both.right in
    record {
      conforms = allowed_bound c.args.bound (alphabet_at d) c.link.new.derivation ids.word now.allows;
      equal = read_ids d c.args.side _ c.link.new.derivation ids now.read;
    }

pub returns-clause-says : goal.returns-clause-says
returns-clause-says c =
    let ids = c.in_ok-ids.ids in
    let read = c.in_ok-ids.ensures.read in
    let s = c.link.new.derivation in
    let itself = term_still c.read_side.new.derivation s
    (grows_then c.in_ok-bound_by_member.ensures.continues.grows c.in_ok-link.ensures.continues.grows) ids.itself read.itself_of
    ∙ read.itself in
    subst (λ z. OnOk c.add_same_bound.result (States c.add_same_bound.new.derivation (Requires z)))
    (bound_is c.args.bound s.table ids.itself _ itself) c.add_same_bound.ensures.conforms

pub returns-then-branch-clause-says : goal.returns-then-branch-clause-says
returns-then-branch-clause-says c =
    subst (λ z. States c.bound_by_member.new.derivation (Requires z))
    (bound_is c.args.bound c.read_side.new.derivation.table c.in_ok-ids.ids.itself _ c.in_ok-ids.ensures.read.itself)
    (c.in_ok-bound_by_member.ensures.says c.if-branch.true)

pub returns-clause-continues : goal.returns-clause-continues
returns-clause-continues c =
    continues_then (continues_then (continues_then c.in_ok-ids.ensures.continues c.in_ok-bound_by_member.ensures.continues)
    c.in_ok-link.ensures.continues) (continues_anyway c.add_same_bound.ensures.continues)

pub returns-in_err-link-clause-continues : goal.returns-in_err-link-clause-continues
returns-in_err-link-clause-continues c =
    continues_then (continues_then c.in_ok-ids.ensures.continues c.in_ok-bound_by_member.ensures.continues)
    c.in_err-link.ensures.continues

pub returns-then-branch-clause-continues : goal.returns-then-branch-clause-continues
returns-then-branch-clause-continues c =
    continues_then c.in_ok-ids.ensures.continues c.in_ok-bound_by_member.ensures.continues

pub returns-in_err-bound_by_member-clause-continues : goal.returns-in_err-bound_by_member-clause-continues
returns-in_err-bound_by_member-clause-continues c =
    continues_then c.in_ok-ids.ensures.continues c.in_err-bound_by_member.ensures.continues

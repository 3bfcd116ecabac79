use Rattle.std.proofs.Common.{ap, ◌∙◌}
use Rattle.swreq_readings.{specs.Readable.{read_word}, proofs.ReadingLemmas.{equal_still, is_still, term_still, word_still}}
use Rattle.swreq_explain.specs.Stating.{alphabet_at}
use Rattle.swreq_derivation.proofs.DerivationLemmas.{continues_anyway, continues_then}
use Rattle.swreq_explain.proofs.validity.read_side.Goals as goal

pub returns-clause-read : goal.returns-clause-read
returns-clause-read c =
    let d = c.args.reader in
    let g = alphabet_at d in
    let w = c.args.side.word.now in
    let s0 = c.args.derivation.now in
    let s1 = c.read_type.new.derivation in
    let s2 = c.read_word.new.derivation in
    let g1 = c.in_ok-itself.ensures.continues.grows in
    let g2 = c.in_ok-word.ensures.continues.grows in
    record {
      itself_of = is_still s1 s2 g2 c.in_ok-itself.itself c.in_ok-itself.ensures.is_of;
      word_of = c.in_ok-word.ensures.is_of;
      itself = term_still s1 s2 g2 c.in_ok-itself.itself c.in_ok-itself.ensures.is_of ∙ c.in_ok-itself.ensures.stands;
      word = c.in_ok-word.ensures.stands ∙ ap (λ z. read_word g z w) (term_still s0 s1 g1 d.t c.requires.ready.for_self);
      says = word_still g s1 s2 g2 _ w c.in_ok-itself.ensures.word;
      equal = equal_still g s1 s2 g2 _ _ c.in_ok-itself.ensures.equal;
    }

pub returns-clause-continues : goal.returns-clause-continues
returns-clause-continues c = continues_then c.in_ok-itself.ensures.continues (continues_anyway c.in_ok-word.ensures.continues)

pub returns-in_err-word-clause-continues : goal.returns-in_err-word-clause-continues
returns-in_err-word-clause-continues c = continues_then c.in_ok-itself.ensures.continues (continues_anyway c.in_err-word.ensures.continues)

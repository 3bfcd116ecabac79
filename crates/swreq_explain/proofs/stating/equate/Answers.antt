use Rattle.std.proofs.Common.{◌≡◌, ◌∙◌, ap, sym}
use Rattle.swreq_machine.specs.swreq_param.Tables.{term_at}
use Rattle.swreq_readings.{specs.Readable.{read_word}, proofs.ReadingLemmas.{equal_as, equal_ids_now, is_still, term_still}}
use Rattle.swreq_explain.{specs.Stating.{alphabet_at}, proofs.SideLemmas.{read_ids, read_still, ready_still}}
use Rattle.swreq_derivation.proofs.DerivationLemmas.{continues_anyway, continues_then, grows_then}
use Rattle.swreq_explain.proofs.stating.equate.Goals as goal

pub link-requires-clause-scope : goal.link-requires-clause-scope
link-requires-clause-scope c =
    ready_still c.args.reader c.args.derivation.now c.read_side-2.new.derivation
    (grows_then c.in_ok-first.ensures.continues.grows c.in_ok-last.ensures.continues.grows) c.requires.left.ready

pub read_side-requires-2 : goal.read_side-requires-2
read_side-requires-2 c = record {
  ready = ready_still c.args.reader c.args.derivation.now c.read_side.new.derivation c.in_ok-first.ensures.continues.grows
      c.requires.right.ready;
  word = c.requires.right.word;
}

pub add_trans-requires-clause-first : goal.add_trans-requires-clause-first
add_trans-requires-clause-first c =
    let d = c.args.reader in
    let s2 = c.read_side-2.new.derivation in
    let s3 = c.link.new.derivation in
    let t = term_at c.read_side.new.derivation.table d.t in
    read_ids d c.args.right t s3 c.in_ok-last.last
    (read_still d c.args.right t s2 s3 c.in_ok-link.ensures.continues.grows c.in_ok-last.last c.in_ok-last.ensures.read)

pub add_trans-requires-clause-second : goal.add_trans-requires-clause-second
add_trans-requires-clause-second c =
    let d = c.args.reader in
    let g = alphabet_at d in
    let u = c.args.left.word.now in
    let v = c.args.right.word.now in
    let s0 = c.args.derivation.now in
    let s1 = c.read_side.new.derivation in
    let s2 = c.read_side-2.new.derivation in
    let s3 = c.link.new.derivation in
    let g1 = c.in_ok-first.ensures.continues.grows in
    let g2 = c.in_ok-last.ensures.continues.grows in
    let g3 = c.in_ok-link.ensures.continues.grows in
    let term_0 = term_at s0.table d.t in
    let term_1 = term_at s1.table d.t in
    let term_2 = term_at s2.table d.t in
    let first = read_still d c.args.left term_0 s1 s3 (grows_then g2 g3) c.in_ok-first.first c.in_ok-first.ensures.read in
    let last = read_still d c.args.right term_1 s2 s3 g3 c.in_ok-last.last c.in_ok-last.ensures.read in
    let same_1 : term_1 ≡ term_0 = term_still s0 s1 g1 d.t c.requires.left.ready.for_self in
    let same_2 : term_2 ≡ term_1 = term_still s1 s2 g2 d.t (is_still s0 s1 g1 d.t c.requires.left.ready.for_self) in (
      last.word_of,
      first.word_of,
      equal_as s3 _ _ _ _ (last.word ∙ ap (λ z. read_word g z v) (sym same_2))
          (first.word ∙ ap (λ z. read_word g z u) (sym (same_2 ∙ same_1))) c.in_ok-link.ensures.both.equal,
    )

pub add_symm-requires : goal.add_symm-requires
add_symm-requires c =
    let s1 = c.read_side.new.derivation in
    let s2 = c.read_side-2.new.derivation in
    let s3 = c.link.new.derivation in
    let g2 = c.in_ok-last.ensures.continues.grows in
    let g3 = c.in_ok-link.ensures.continues.grows in
    equal_ids_now s3 c.add_trans.new.derivation c.in_ok-add_trans.ensures.continues.grows c.in_ok-last.last.itself c.in_ok-first.first.word
    (is_still s2 s3 g3 c.in_ok-last.last.itself c.in_ok-last.ensures.read.itself_of)
    (is_still s1 s3 (grows_then g2 g3) c.in_ok-first.first.word c.in_ok-first.ensures.read.word_of) c.in_ok-add_trans.ensures.equal

pub add_trans-requires-2-clause-first : goal.add_trans-requires-2-clause-first
add_trans-requires-2-clause-first c =
    let d = c.args.reader in
    let s1 = c.read_side.new.derivation in
    let s2 = c.read_side-2.new.derivation in
    let s3 = c.link.new.derivation in
    let s4 = c.add_trans.new.derivation in
    let s5 = c.add_symm.new.derivation in
    let g = grows_then (grows_then c.in_ok-last.ensures.continues.grows c.in_ok-link.ensures.continues.grows)
    (grows_then c.in_ok-add_trans.ensures.continues.grows c.in_ok-add_symm.ensures.continues.grows) in
    let t = term_at c.args.derivation.now.table d.t in
    read_ids d c.args.left t s5 c.in_ok-first.first (read_still d c.args.left t s1 s5 g c.in_ok-first.first c.in_ok-first.ensures.read)

pub add_trans-requires-2-clause-second : goal.add_trans-requires-2-clause-second
add_trans-requires-2-clause-second c =
    let s1 = c.read_side.new.derivation in
    let s2 = c.read_side-2.new.derivation in
    let s3 = c.link.new.derivation in
    let s4 = c.add_trans.new.derivation in
    let g2 = c.in_ok-last.ensures.continues.grows in
    let g34 = grows_then c.in_ok-link.ensures.continues.grows c.in_ok-add_trans.ensures.continues.grows in
    equal_ids_now s4 c.add_symm.new.derivation c.in_ok-add_symm.ensures.continues.grows c.in_ok-first.first.word c.in_ok-last.last.itself
    (is_still s1 s4 (grows_then g2 g34) c.in_ok-first.first.word c.in_ok-first.ensures.read.word_of)
    (is_still s2 s4 g34 c.in_ok-last.last.itself c.in_ok-last.ensures.read.itself_of) c.in_ok-add_symm.ensures.equal

pub returns : goal.returns
returns c =
    let d = c.args.reader in
    let s0 = c.args.derivation.now in
    let s1 = c.read_side.new.derivation in
    let s2 = c.read_side-2.new.derivation in
    let s3 = c.link.new.derivation in
    let s4 = c.add_trans.new.derivation in
    let s5 = c.add_symm.new.derivation in
    let s6 = c.add_trans-2.new.derivation in
    let g2 = c.in_ok-last.ensures.continues.grows in
    let g6 = c.in_ok-add_trans-2.ensures.continues.grows in
    let g25 = grows_then (grows_then c.in_ok-link.ensures.continues.grows c.in_ok-add_trans.ensures.continues.grows)
    c.in_ok-add_symm.ensures.continues.grows in
    let term_0 = term_at s0.table d.t in
    let term_1 = term_at s1.table d.t in
    let first = read_still d c.args.left term_0 s1 s5 (grows_then g2 g25) c.in_ok-first.first c.in_ok-first.ensures.read in
    let last = read_still d c.args.right term_1 s2 s5 g25 c.in_ok-last.last c.in_ok-last.ensures.read in
    let first_now = read_still d c.args.left term_0 s5 s6 g6 c.in_ok-first.first first in
    let last_now = read_still d c.args.right term_1 s5 s6 g6 c.in_ok-last.last last in
    record {
      equated = record {
        ids = (first_now.itself_of, last_now.itself_of);
        first = first_now.itself;
        last = last_now.itself;
        equal = equal_as s6 _ _ _ _ (sym first.itself) (sym last.itself) c.in_ok-add_trans-2.ensures.equal;
      };
      continues = continues_then (continues_then (continues_then c.in_ok-first.ensures.continues c.in_ok-last.ensures.continues)
          c.in_ok-link.ensures.continues) (continues_anyway (continues_then (continues_then c.in_ok-add_trans.ensures.continues
          c.in_ok-add_symm.ensures.continues) c.in_ok-add_trans-2.ensures.continues));
    }

pub returns-in_err-last-clause-continues : goal.returns-in_err-last-clause-continues
returns-in_err-last-clause-continues c = continues_then c.in_ok-first.ensures.continues c.in_err-last.ensures.continues

pub returns-in_err-link-clause-continues : goal.returns-in_err-link-clause-continues
returns-in_err-link-clause-continues c =
    continues_then (continues_then c.in_ok-first.ensures.continues c.in_ok-last.ensures.continues) c.in_err-link.ensures.continues

pub returns-in_err-add_trans-clause-continues : goal.returns-in_err-add_trans-clause-continues
returns-in_err-add_trans-clause-continues c =
    continues_then (continues_then (continues_then c.in_ok-first.ensures.continues c.in_ok-last.ensures.continues)
    c.in_ok-link.ensures.continues) (continues_anyway c.in_err-add_trans.ensures.continues)

pub returns-in_err-add_symm-clause-continues : goal.returns-in_err-add_symm-clause-continues
returns-in_err-add_symm-clause-continues c =
    continues_then (continues_then (continues_then c.in_ok-first.ensures.continues c.in_ok-last.ensures.continues)
    c.in_ok-link.ensures.continues) (continues_anyway (continues_then c.in_ok-add_trans.ensures.continues
    c.in_err-add_symm.ensures.continues))

pub returns-in_err-add_trans-2-clause-continues : goal.returns-in_err-add_trans-2-clause-continues
returns-in_err-add_trans-2-clause-continues c =
    continues_then (continues_then (continues_then c.in_ok-first.ensures.continues c.in_ok-last.ensures.continues)
    c.in_ok-link.ensures.continues) (continues_anyway (continues_then (continues_then c.in_ok-add_trans.ensures.continues
    c.in_ok-add_symm.ensures.continues) c.in_err-add_trans-2.ensures.continues))

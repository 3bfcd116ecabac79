use Rattle.std.proofs.Common.{refl, sym}
use Rattle.swreq_word.proofs.Tables.{stands_at, words_differ, known, inserted}
use Rattle.swreq_word.proofs.table.WordTable.intern.Goals as goal

pub returns-in-Some-clause-ok : goal.returns-in-Some-clause-ok
returns-in-Some-clause-ok c =
    known c.args.self.now c.args.w.now (record { place = c.in-Some.place })
    (stands_at c.self.inside.words.keys c.args.self.now c.self.view_is c.args.w.now c.in-Some.place (sym c.in-Some.ensures.index))

pub returns-in-Some-clause-distinct : goal.returns-in-Some-clause-distinct
returns-in-Some-clause-distinct c = words_differ c.self.inside.words.keys c.args.self.now c.self.view_is c.len-count.ensures.unique

pub returns-in_err-word-in-None-clause-distinct : goal.returns-in_err-word-in-None-clause-distinct
returns-in_err-word-in-None-clause-distinct c =
    words_differ c.self.inside.words.keys c.args.self.now c.self.view_is c.len-count.ensures.unique

pub returns-in_err-place-in-None-clause-distinct : goal.returns-in_err-place-in-None-clause-distinct
returns-in_err-place-in-None-clause-distinct c = words_differ c.insert_full.new.self.keys _ refl c.insert_full.ensures.unique

pub returns-in_ok-place-in-None-clause-distinct : goal.returns-in_ok-place-in-None-clause-distinct
returns-in_ok-place-in-None-clause-distinct c = words_differ c.insert_full.new.self.keys _ refl c.insert_full.ensures.unique

pub returns-in_ok-place-in-None-clause-ok : goal.returns-in_ok-place-in-None-clause-ok
returns-in_ok-place-in-None-clause-ok c =
    inserted c.self.inside.words.keys c.args.self.now c.self.view_is c.args.w.now c.in_ok-word-in-None.word c.insert_full.new.self.keys
    (record { place = c.in_ok-place-in-None.place }) c.in_ok-word-in-None.ensures.items
    (sym c.in-None.ensures.found) c.in_ok-place-in-None.ensures.keys c.in_ok-place-in-None.ensures.index

use Rattle.std.proofs.Common.{◌≡◌, ℕ, ◌≤◌, List, subst, Some}
use Rattle.std.specs.List.{slice_get}
use Rattle.swreq_complete.proofs.Places.{read_more, tell_more}
use Rattle.swreq_complete.proofs.reading.add.Goals as goal

pub returns-clause-read : goal.returns-clause-read
returns-clause-read c =
    read_more c.args.rules.now c.args.word.now c.args.counts.now.items c.push.new.self.items c.no_less-next.result c.requires.so_far
    (tell_more c.args.rules.now c.args.word.now _ c.args.count c.no_less-next.result c.no_less-next.ensures.count c.requires.tells)
    (subst (λ (xs : List ℕ). (k n : ℕ) → slice_get xs k ≡ Some n → n ≤ c.no_less-next.result) c.deref.ensures.value
    c.no_less-next.ensures.counts) c.in_ok-push.ensures.items

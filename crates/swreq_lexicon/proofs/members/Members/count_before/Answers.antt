use Rattle.std.proofs.Common.{◌∙◌, ℕ, List, sym, ap}
use Rattle.swreq_closure.specs.Bits.{has}
use Rattle.swreq_closure.proofs.Counts.{count_none}
use Rattle.swreq_closure.proofs.Sets.{none_without_words}
use Rattle.swreq_lexicon.specs.Symbols.{row_of}
use Rattle.swreq_lexicon.proofs.members.Members.count_before.Goals as goal

pub returns-in-None : goal.returns-in-None
returns-in-None c =
    let none = ap (λ (rows : List (List ℕ)). row_of rows c.args.name) (sym (c.deref.ensures.value ∙ c.self.view_is)) ∙ c.in-None.ensures in
    sym (count_none (has (row_of c.args.self.now c.args.name)) c.args.place
    (λ k. ap (λ (row : List ℕ). has row k) none ∙ none_without_words k))

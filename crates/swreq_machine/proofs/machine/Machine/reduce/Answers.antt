use Rattle.std.proofs.Common.{◌≡◌, ◌∙◌, ap, sym, subst, subst₂, [], IsTrue}
use Rattle.swreq_valid.specs.swreq_param.Tables.{term_at}
use Rattle.swreq_valid.specs.swreq_param.Terms.{head, with_steps}
use Rattle.swreq_valid.specs.swreq_param.Terms.Term.{Generic}
use Rattle.swreq_map.specs.swreq_complete.Complete.{IsComplete}
use Rattle.swreq_valid.specs.swreq_symbols.Texts.{world_of}
use Rattle.swreq_machine.specs.LeastTypes.{BeginsBy}
use Rattle.swreq_valid.specs.Rounds.{last_rules}
use Rattle.swreq_machine.proofs.Answering.{derivable_shown, valid_answer}
use Rattle.swreq_machine.proofs.Reducing.{least_in, reduced_is}
use Rattle.swreq_machine.proofs.Typed.{begins_head}
use Rattle.swreq_valid.proofs.swreq_symbols.OfTexts.{text_over}
use Rattle.swreq_machine.proofs.machine.Machine.reduce.Goals as goal

pub returns-then-valid-clause-reduced : goal.returns-then-valid-clause-reduced
returns-then-valid-clause-reduced c list is v =
    let rules = last_rules c.args.self.now.rounds in
    let u = c.walk-valid.new.word.items in
    reduced_is (world_of c.args.text.now) (text_over c.args.text.now).closed c.args.self.now list is
    (term_at c.args.text.now.table.now c.args.subject) u
    c.if-valid.ensures.least.0 c.if-valid.ensures.least.1 v (subst IsComplete c.rules-rules.ensures c.count-complete.ensures.complete)
    (with_steps (Generic c.head_of-scratch-inside.result) c.read_steps.new.steps.items)
    (λ q b.
    let same : c.head_of-scratch-inside.result ≡ head q =
    c.head_of-scratch-inside.ensures (head q).depth (head q).index _
    (c.deref.ensures.value ∙ begins_head c.args.text.now.world.now.lexicon rules q [] u b) in
    ap (λ g. with_steps (Generic g) c.read_steps.new.steps.items) same
    ∙ c.read_steps.ensures.steps q
    (subst₂ (λ r z. BeginsBy c.args.text.now.world.now.lexicon r q [] z) (sym c.rules-rules.ensures)
    (sym c.deref-then-valid.ensures.value) b))

pub returns-then-valid-clause-word : goal.returns-then-valid-clause-word
returns-then-valid-clause-word c list is v =
    least_in (world_of c.args.text.now) (text_over c.args.text.now).closed c.args.self.now list is
    (term_at c.args.text.now.table.now c.args.subject) c.walk-valid.new.word.items
    c.if-valid.ensures.least.0 c.if-valid.ensures.least.1 v

pub returns-else-valid-clause-reduced : goal.returns-else-valid-clause-reduced
returns-else-valid-clause-reduced c list is v =
    absurd (let shown : IsTrue c.walk-valid.result =
    c.walk-valid.ensures.valid.1 (derivable_shown (world_of c.args.text.now) (text_over c.args.text.now).closed c.args.self.now list is
    (term_at c.args.text.now.table.now c.args.subject) v) in
    let fails = c.if-valid.false in cc)

pub returns-else-valid-clause-word : goal.returns-else-valid-clause-word
returns-else-valid-clause-word c list is v =
    absurd (let shown : IsTrue c.walk-valid.result =
    c.walk-valid.ensures.valid.1 (derivable_shown (world_of c.args.text.now) (text_over c.args.text.now).closed c.args.self.now list is
    (term_at c.args.text.now.table.now c.args.subject) v) in
    let fails = c.if-valid.false in cc)

pub returns-then-valid-clause-valid : goal.returns-then-valid-clause-valid
returns-then-valid-clause-valid c list is =
    valid_answer (world_of c.args.text.now) (text_over c.args.text.now).closed c.args.self.now list is
    (term_at c.args.text.now.table.now c.args.subject)
    c.walk-valid.result c.walk-valid.ensures.valid

pub returns-else-valid-clause-valid : goal.returns-else-valid-clause-valid
returns-else-valid-clause-valid c list is =
    valid_answer (world_of c.args.text.now) (text_over c.args.text.now).closed c.args.self.now list is
    (term_at c.args.text.now.table.now c.args.subject)
    c.walk-valid.result c.walk-valid.ensures.valid

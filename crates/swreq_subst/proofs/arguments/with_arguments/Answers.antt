use Rattle.std.proofs.Common.{◌≡◌, ◌<◌, ◌∙◌, length, get_or, map, sym, ap, subst}
use Rattle.std.proofs.lemmas.List.{get_or-map}
use Rattle.std.proofs.lemmas.Result.{IfOk-weaker}
use Rattle.swreq_machine.specs.swreq_param.declared.ids.TermId.{TermId}
use Rattle.swreq_machine.specs.swreq_param.OwnedLaws.{heads_same}
use Rattle.swreq_machine.specs.swreq_param.Tables.{term_at}
use Rattle.swreq_machine.specs.swreq_param.Terms.{head, self, with_steps}
use Rattle.swreq_machine.specs.swreq_param.Terms.Term.{Generic}
use Rattle.swreq_subst.specs.Arguments.{argument_of, place_of, with_arguments}
use Rattle.swreq_subst.proofs.Replacing.{substitute_steps}
use Rattle.swreq_subst.proofs.arguments.with_arguments.Goals as goal

pub bounds-args-place_of : goal.bounds-args-place_of
bounds-args-place_of c =
    let u = c.in_ok-owned.owned in
    let e : head (term_at c.args.table.now c.args.u) ≡ u.head = ap head (sym c.in_ok-owned.ensures) ∙ heads_same (Generic u.head) u.steps in
    subst (λ k. k < length c.args.args.now) (ap (place_of c.args.params) e ∙ sym c.place_of.ensures) c.requires.u.1

pub returns-clause-stands : goal.returns-clause-stands
returns-clause-stands c =
    let u = c.in_ok-owned.owned in
    let k = place_of c.args.params u.head in
    let of = argument_of c.args.params (map (term_at c.args.table.now) c.args.args.now) in
    let first : TermId = record { place = 0 } in
    let h : head (term_at c.args.table.now c.args.u) ≡ u.head = ap head (sym c.in_ok-owned.ensures) ∙ heads_same (Generic u.head) u.steps in
    let within : k < length c.args.args.now = subst (λ z. place_of c.args.params z < length c.args.args.now) h c.requires.u.1 in
    let read : term_at c.args.table.now (get_or c.args.args.now c.place_of.result first) ≡ of u.head
    = ap (λ z. term_at c.args.table.now (get_or c.args.args.now z first)) c.place_of.ensures
    ∙ sym (get_or-map (term_at c.args.table.now) c.args.args.now k first self within) in
    let e = ap (λ z. with_steps z c.items.result.now) read ∙ (ap (with_steps (of u.head)) c.items.ensures
    ∙ (sym (substitute_steps of (Generic u.head) u.steps)
    ∙ ap (with_arguments c.args.params (map (term_at c.args.table.now) c.args.args.now)) c.in_ok-owned.ensures)) in
    IfOk-weaker c.followed.result _ _ (λ id h. h ∙ e) c.followed.ensures.stands

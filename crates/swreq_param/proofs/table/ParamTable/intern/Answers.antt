use Rattle.std.proofs.Common.{refl, sym, subst}
use Rattle.std.specs.List.{IsDistinct, list_any}
use Rattle.swreq_param.specs.contracts.table.EntryPartialEq.TheImpl.{eq-value}
use Rattle.swreq_param.specs.Entries.{AreGrounded, term_of, terms_of}
use Rattle.swreq_param.specs.Tables.{Extends, Interned}
use Rattle.swreq_param.proofs.DistinctEntries.{each_once, are_distinct, is_absent}
use Rattle.swreq_param.proofs.Interning.{with_entry_grounded, with_entry_extends, with_entry_interned}
use Rattle.swreq_param.proofs.table.ParamTable.intern.Goals as goal

pub returns-in_err-place-clause-there : goal.returns-in_err-place-clause-there
returns-in_err-place-clause-there c h =
    let es = c.self.inside.entries.keys in
    absurd (is_absent es c.args.self.now c.args.entry c.self.invariant (each_once es
    (rw c.in_err-place.ensures.err at c.in_err-place.ensures.unique)) c.self.view_is c.requires c.in_err-place.ensures.absent h)

pub returns-in_err-place-clause-distinct : goal.returns-in_err-place-clause-distinct
returns-in_err-place-clause-distinct c =
    are_distinct c.insert_full.new.self.keys _
    (subst AreGrounded (sym c.in_err-place.ensures.err) c.self.invariant) c.in_err-place.ensures.unique refl

pub invariant_of-self-2 : goal.invariant_of-self-2
invariant_of-self-2 c =
    let es = c.self.inside.entries.keys in
    subst AreGrounded (sym c.in_ok-place.ensures.keys)
    (with_entry_grounded es c.args.self.now c.args.entry c.self.invariant c.self.view_is c.requires
    (list_any (eq-value.it c.args.entry) es) refl)

pub returns-clause-ok : goal.returns-clause-ok
returns-clause-ok c =
    let es = c.self.inside.entries.keys in
    subst (λ ks. Interned c.args.self.now (terms_of ks) (term_of c.args.self.now c.args.entry) (record { place = c.in_ok-place.place }))
    (sym c.in_ok-place.ensures.keys)
    (with_entry_interned es c.args.self.now c.args.entry c.self.invariant c.self.view_is c.requires
    (list_any (eq-value.it c.args.entry) es) refl
    (subst (IsDistinct eq-value.it) c.in_ok-place.ensures.keys c.in_ok-place.ensures.unique)
    (record { place = c.in_ok-place.place }) c.in_ok-place.ensures.index)

pub returns-clause-extends : goal.returns-clause-extends
returns-clause-extends c =
    let es = c.self.inside.entries.keys in
    subst (λ ks. Extends c.args.self.now (terms_of ks)) (sym c.in_ok-place.ensures.keys)
    (with_entry_extends es c.args.self.now c.args.entry c.self.invariant c.self.view_is c.requires
    (list_any (eq-value.it c.args.entry) es) refl)

pub returns-clause-distinct : goal.returns-clause-distinct
returns-clause-distinct c = are_distinct c.insert_full.new.self.keys _ (invariant_of-self-2 c) c.in_ok-place.ensures.unique refl

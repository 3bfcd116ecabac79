use Rattle.std.proofs.Common.{◌∙◌, sym, subst}
use Rattle.std.proofs.lemmas.Result.{IfOk-weaker}
use Rattle.swreq_confpath.specs.declared.sought.Sought.{Sought}
use Rattle.swreq_machine.specs.swreq_complete.Complete.{IsComplete}
use Rattle.swreq_machine.specs.swreq_valid.Rounds.{last_rules}
use Rattle.swreq_confpath.specs.Parting.{AllSpareOthers}
use Rattle.swreq_confpath.specs.Routes.TermPlace.{Start}
use Rattle.swreq_confpath.proofs.Requirements.{given_of, known_of}
use Rattle.swreq_confpath.proofs.Standing.{none_less}
use Rattle.swreq_confpath.proofs.given.shortest.Goals as goal

pub follow-requires-clause-least : goal.follow-requires-clause-least
follow-requires-clause-least c = none_less (last_rules c.args.machine.now.rounds)

pub invariant_of-aim : goal.invariant_of-aim
invariant_of-aim c =
    let s : Sought = record {
      alloc = c.args.alloc;
      text = c.args.text.now;
      machine = c.args.machine;
      list = c.deref.result;
      changed = c.deref-2.result;
      subject = c.args.t;
      proto = c.args.p;
    } in
    let rules = last_rules c.args.machine.now.rounds in
    let complete : IsComplete rules = subst IsComplete c.rules.ensures c.in_ok-changed.ensures.complete in
    let others : AllSpareOthers rules c.in_ok-changed.changed.items
    = subst (λ z. AllSpareOthers z c.in_ok-changed.changed.items) c.rules.ensures c.in_ok-changed.ensures.others in
    record {
      known = known_of s c.args.f c.requires.machine (c.deref.ensures.value ∙ c.in_ok-list.ensures) complete
          (subst (AllSpareOthers rules) (sym c.deref-2.ensures.value) others) c.requires.derivable;
      target = c.in_ok-target.ensures.stands Start tt;
    }

pub returns : goal.returns
returns c =
    let a = c.args in
    let l = c.deref.result in
    let h = c.deref-2.result in
    let t = a.t in
    let s : Sought
    = record { alloc = a.alloc; text = a.text.now; machine = a.machine; list = l; changed = h; subject = t; proto = a.p } in
    record {
      path = IfOk-weaker c.find.result _ _
          (λ path h. given_of s c.args.f c.requires.machine
          (c.deref.ensures.value ∙ c.in_ok-list.ensures) path h) c.find.ensures;
    }

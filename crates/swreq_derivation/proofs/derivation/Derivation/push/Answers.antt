use Rattle.std.proofs.Common.{subst, sym}
use Rattle.swreq_derive.specs.Facts.{statement_of}
use Rattle.swreq_derivation.specs.{declared.derivation.Derivation.{Derivation}, UnderWay.{AreIdsIn, States}}
use Rattle.swreq_derivation.proofs.DerivationLemmas.{continues_by_line, line_put, says_by_line, under_way_more, unsaid}
use Rattle.swreq_derivation.proofs.derivation.Derivation.push.Goals as goal

pub push-requires-2 : goal.push-requires-2
push-requires-2 c =
    let st = c.args.statement in
    unsaid c.self.inside c.self.invariant st
    (subst (λ (v : Derivation). States v (statement_of v.table st) → ⊥) (sym c.self.view_is) c.requires.unsaid)

pub invariant_of-self-in-Ok : goal.invariant_of-self-in-Ok
invariant_of-self-in-Ok c =
    let ids = subst (λ (v : Derivation). AreIdsIn v.table c.args.statement) (sym c.self.view_is) c.requires.ids in
    let r = under_way_more c.self.inside c.push.new.self.items c.push-2.new.self _ c.self.invariant ids c.in_ok-push.ensures.items
    c.in-Ok.ensures.ok in
    record { ids = r.0; stated = r.1 }

pub returns-in-Ok-clause-says : goal.returns-in-Ok-clause-says
returns-in-Ok-clause-says c =
    says_by_line c.args.self.now c.args.rule c.args.premises.items c.args.statement _
    (line_put c.args.self.now c.args.rule c.args.premises.items c.args.statement c.self.inside _ _ c.self.view_is
    c.in_ok-push.ensures.items c.new-premises.ensures)

pub returns-in-Ok-clause-continues : goal.returns-in-Ok-clause-continues
returns-in-Ok-clause-continues c =
    continues_by_line c.args.self.now c.args.rule c.args.premises.items c.args.statement _
    (line_put c.args.self.now c.args.rule c.args.premises.items c.args.statement c.self.inside _ _ c.self.view_is
    c.in_ok-push.ensures.items c.new-premises.ensures)

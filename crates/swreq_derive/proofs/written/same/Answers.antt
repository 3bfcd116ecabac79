use Rattle.std.proofs.Common.{subst, ◌↔◌, IsTrue}
use Rattle.swreq_derive.proofs.InstanceLemmas.{same_given, IsListed}
use Rattle.swreq_derive.proofs.written.same.Goals as goal

pub returns-in-Some : goal.returns-in-Some
returns-in-Some g c =
    let i = c.args.i.now in
    let m = g.F.Facts.meaning i.facts.now in
    let w = same_given i.table.now m c.args.n i.conclusion c.in-Some.field-0.0
    c.in-Some.field-0.1 i.distinct i.facts_over i.conclusion_over c.in-Some.ensures in
    let s : IsTrue c.is_listed.result ↔ IsListed m.written c.args.n i.conclusion =
    subst (λ ws. IsTrue c.is_listed.result ↔ IsListed ws c.args.n i.conclusion) c.written.ensures c.is_listed.ensures in
    ((λ e. w.0 (s.0 e)), λ q. s.1 (w.1 q))

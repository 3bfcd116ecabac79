use Rattle.std.proofs.Common.{List, Contains, Err, ap, refl, sym, subst}
use Rattle.swreq_names.proofs.swreq_lemmas.Members.{no_member}
use Rattle.swreq_resolve.specs.declared.refusal.Refusal.{Refusal}
use Rattle.swreq_resolve.specs.First.{IsFirst}
use Rattle.swreq_resolve.specs.RefusedTypes.{of_type_on}
use Rattle.swreq_resolve.proofs.Order.{none_refused, least_is_first, one_first}
use Rattle.swreq_resolve.proofs.resolve.resolve_type.Goals as goal

pub returns-in-Some : goal.returns-in-Some
returns-in-Some c =
    let rs : List Refusal = of_type_on c.args.declared.now c.args.signature c.args.text.now c.args.written_type.now in
    let is : IsFirst rs c.in-Some.refusal = least_is_first rs c.in-Some.refusal (sym c.in-Some.ensures) in
    record {
      answer = is;
      resolves = λ e. no_member c.in-Some.refusal (subst (λ (qs : List Refusal). Contains qs c.in-Some.refusal) e is.is);
      refuses = λ r first. ap Err (one_first rs c.in-Some.refusal r is first);
    }

pub returns-in-None : goal.returns-in-None
returns-in-None c =
    let rs : List Refusal = of_type_on c.args.declared.now c.args.signature c.args.text.now c.args.written_type.now in
    let none = none_refused rs (sym c.in-None.ensures) in
    record {
      answer = none;
      resolves = λ _. refl;
      refuses = λ r first. no_member r (subst (λ (qs : List Refusal). Contains qs r) none first.is);
    }

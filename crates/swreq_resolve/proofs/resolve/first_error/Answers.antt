use Rattle.std.proofs.Common.{◌≡◌, Option, MatchOption, inr, sym, subst, refl}
use Rattle.swreq_names.specs.Names.{NamesView, HasDeclared}
use Rattle.swreq_resolve.specs.declared.refusal.NameErr.{NameErr}
use Rattle.swreq_resolve.specs.Resolving.{Resolve, RefusesSkeleton}
use Rattle.swreq_resolve.proofs.Answers.{refused_name, refused_cycle, resolved}
use Rattle.swreq_resolve.proofs.resolve.first_error.Goals as goal

pub returns-in_ok-at-in-None : goal.returns-in_ok-at-in-None
returns-in_ok-at-in-None c =
    let names : NamesView =
    record { declared = c.declared.result.now; direct = c.args.names.now.direct; inherits = c.inheritance-inherits.result.now } in
    let same : c.args.names.now ≡ names = λ i.
    record { declared = sym c.declared.ensures i; direct = c.args.names.now.direct; inherits = sym c.inheritance-inherits.ensures i } in
    let has : HasDeclared c.args.text.now c.args.skeleton.now names =
    subst (HasDeclared c.args.text.now c.args.skeleton.now) same c.requires in
    inr (
      c.in_ok-at-in-None.at,
      refused_cycle c.args.text.now c.args.skeleton.now names has (sym c.in-None.ensures) c.in_ok-at-in-None.at c.in_ok-at-in-None.ensures,
      refl,
    )

pub returns-in_err-at-in-None : goal.returns-in_err-at-in-None
returns-in_err-at-in-None c =
    let names : NamesView =
    record { declared = c.declared.result.now; direct = c.args.names.now.direct; inherits = c.inheritance-inherits.result.now } in
    let same : c.args.names.now ≡ names = λ i.
    record { declared = sym c.declared.ensures i; direct = c.args.names.now.direct; inherits = sym c.inheritance-inherits.ensures i } in
    let has : HasDeclared c.args.text.now c.args.skeleton.now names =
    subst (HasDeclared c.args.text.now c.args.skeleton.now) same c.requires in
    subst (λ (error : Option NameErr). MatchOption error (Resolve c.args.text.now c.args.skeleton.now)
    (RefusesSkeleton c.args.text.now c.args.skeleton.now)) (sym c.from_residual.ensures)
    (resolved c.args.text.now c.args.skeleton.now names has (sym c.in-None.ensures) c.in_err-at-in-None.ensures)

pub returns-in-Some : goal.returns-in-Some
returns-in-Some c =
    let names : NamesView =
    record { declared = c.declared.result.now; direct = c.args.names.now.direct; inherits = c.inheritance-inherits.result.now } in
    let same : c.args.names.now ≡ names = λ i.
    record { declared = sym c.declared.ensures i; direct = c.args.names.now.direct; inherits = sym c.inheritance-inherits.ensures i } in
    let has : HasDeclared c.args.text.now c.args.skeleton.now names =
    subst (HasDeclared c.args.text.now c.args.skeleton.now) same c.requires in
    refused_name c.args.text.now c.args.skeleton.now names has c.in-Some.refusal c.error_of.result
    (sym c.in-Some.ensures) c.error_of.ensures

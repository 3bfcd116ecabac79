use Rattle.std.proofs.Common.{◌∙◌, ◌+◌, ap, length, List, subst, sym, ℕ, Ok, Err}
use Rattle.std.proofs.lemmas.Result.{err_from_is_err_and}
use Rattle.swreq_valid.specs.swreq_lexicon.Views.{LexiconView}
use Rattle.swreq_reqsig.specs.declared.outlines.Outline.{Outline}
use Rattle.swreq_reqsig.specs.Families.{numbers, owned}
use Rattle.swreq_reqsig.specs.Named.{AreNamed, HaveLists}
use Rattle.swreq_reqsig.specs.Outlines.{outlines_of}
use Rattle.swreq_reqsig.proofs.Asking.{names_below}
use Rattle.swreq_reqsig.proofs.InLists.{numbers_count}
use Rattle.swreq_reqsig.proofs.Coming.{answers, gives, only, signs, wants_at_first, wants_memory}
use Rattle.swreq_valid.specs.swreq_symbols.Texts.{world_of}
use Rattle.swreq_valid.proofs.swreq_symbols.OfTexts.{text_over}
use Rattle.swreq_reqsig.proofs.kept.kept_family.Goals as goal

pub returns-in_err-places-clause-answer : goal.returns-in_err-places-clause-answer
returns-in_err-places-clause-answer g c =
    let p = err_from_is_err_and c.from_residual.result c.from_residual.ensures.1 in
    rw (p.1, p.2) (wants_at_first c.args.text.now.world.now c.args.text.now.table.now c.args.limits (g.W.Watch.told c.args.watch.now))

pub returns-in_err-outlines-clause-answer : goal.returns-in_err-outlines-clause-answer
returns-in_err-outlines-clause-answer g c =
    let p = err_from_is_err_and c.from_residual-in_err-outlines.result c.from_residual-in_err-outlines.ensures.1 in
    rw (p.1, p.2) (wants_at_first c.args.text.now.world.now c.args.text.now.table.now c.args.limits (g.W.Watch.told c.args.watch.now))

pub returns-in_err-named-clause-answer : goal.returns-in_err-named-clause-answer
returns-in_err-named-clause-answer g c =
    let p = err_from_is_err_and c.from_residual-in_err-named.result c.from_residual-in_err-named.ensures.1 in
    rw (p.1, p.2) (wants_at_first c.args.text.now.world.now c.args.text.now.table.now c.args.limits (g.W.Watch.told c.args.watch.now))

pub named-requires : goal.named-requires
named-requires g c =
    let w = c.args.text.now.world.now in
    let outlines = outlines_of w.lexicon (owned (world_of c.args.text.now)) in
    subst (λ (z : List Outline). HaveLists (c.names.result + 1) z) (sym (c.deref-2.ensures.value ∙ c.in_ok-outlines.ensures))
    (subst (λ (n : ℕ). HaveLists (n + 1) outlines) (sym (c.names.ensures ∙ ap (λ (x : LexiconView). length x.names) c.lexicon.ensures))
    (names_below w c.args.text.now.table.now (text_over c.args.text.now)))

pub invariant_of-setting : goal.invariant_of-setting
invariant_of-setting g c = record {
  all = c.deref-3.ensures.value ∙ c.in_ok-places.ensures;
  outlined = c.deref-4.ensures.value ∙ c.in_ok-outlines.ensures;
  by_name = ∣ subst (λ (z : List Outline). AreNamed z c.in_ok-named.named) (c.deref-2.ensures.value ∙ sym c.deref-4.ensures.value)
      c.in_ok-named.ensures ∣₁;
}

pub returns-in_err-flags-clause-only : goal.returns-in_err-flags-clause-only
returns-in_err-flags-clause-only g c =
    let p = err_from_is_err_and c.from_residual-in_err-flags.result c.from_residual-in_err-flags.ensures.1 in
    rw (p.1, p.2)
    (only c.args.limits (world_of c.args.text.now) (g.W.Watch.told c.args.watch.now)
    (g.W.Watch.told c.drop_derivable.new.watch) (Err c.in_err-flags.field-0.0) c.in_err-flags.ensures.failed)

pub returns-in_err-family_of-clause-answer : goal.returns-in_err-family_of-clause-answer
returns-in_err-family_of-clause-answer g c =
    let p = err_from_is_err_and c.from_residual-in_err-family_of.result c.from_residual-in_err-family_of.ensures.1 in
    rw (p.1, p.2)
    (wants_memory c.args.text.now.world.now c.args.text.now.table.now c.args.limits 0 c.in_ok-flags.flags.items
    (g.W.Watch.told c.args.watch.now)
    (g.W.Watch.told c.drop_derivable.new.watch) c.in_ok-flags.ensures.gone)

pub returns-clause-answer : goal.returns-clause-answer
returns-clause-answer g c =
    let w = c.args.text.now.world.now in
    answers w c.args.text.now.table.now c.args.limits c.in_ok-flags.flags.items (g.W.Watch.told c.args.watch.now)
    (g.W.Watch.told c.drop_derivable.new.watch) c.in_ok-flags.ensures.gone _
    (c.in_ok-family_of.ensures ∙ ap (numbers w) c.deref-5.ensures.value)

pub returns-clause-only : goal.returns-clause-only
returns-clause-only g c =
    let w = c.args.text.now.world.now in
    let old = g.W.Watch.told c.args.watch.now in
    let new = g.W.Watch.told c.drop_derivable.new.watch in
    only c.args.limits (world_of c.args.text.now) old new (Ok _)
    (answers w c.args.text.now.table.now c.args.limits c.in_ok-flags.flags.items old new c.in_ok-flags.ensures.gone _
    (c.in_ok-family_of.ensures ∙ ap (numbers w) c.deref-5.ensures.value))

pub returns-clause-given : goal.returns-clause-given
returns-clause-given g c =
    let w = c.args.text.now.world.now in
    gives w c.args.text.now.table.now c.args.limits c.in_ok-flags.flags.items (g.W.Watch.told c.args.watch.now)
    (g.W.Watch.told c.drop_derivable.new.watch) c.in_ok-flags.ensures.gone _
    (c.in_ok-family_of.ensures ∙ ap (numbers w) c.deref-5.ensures.value)

pub returns-clause-signatures : goal.returns-clause-signatures
returns-clause-signatures g c =
    let w = c.args.text.now.world.now in
    signs w c.args.text.now.table.now c.args.limits (text_over c.args.text.now) c.requires c.in_ok-flags.flags.items
    (g.W.Watch.told c.args.watch.now) (g.W.Watch.told c.drop_derivable.new.watch) c.in_ok-flags.ensures.gone _
    (c.in_ok-family_of.ensures ∙ ap (numbers w) c.deref-5.ensures.value)

pub returns-clause-protocols : goal.returns-clause-protocols
returns-clause-protocols g c =
    ap length c.in_ok-family_of.ensures ∙ numbers_count c.args.text.now.world.now c.deref-5.result.now
    (text_over c.args.text.now).closed.ids

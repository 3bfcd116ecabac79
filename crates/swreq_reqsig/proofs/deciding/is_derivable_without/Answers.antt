use Rattle.std.proofs.Common.{◌∙◌, [], ap, inl, length, List, refl, slice_get, sym}
use Rattle.std.proofs.lemmas.Option.{MatchOption-at_none, MatchOption-at_some, slice_get-get_or}
use Rattle.std.proofs.lemmas.Result.{err_from_is_err_and}
use Rattle.swreq_reqsig.specs.declared.places.Place.{Place}
use Rattle.swreq_valid.proofs.swreq_watch.Told.{grew_none}
use Rattle.swreq_reqsig.specs.Settings.{text_in}
use Rattle.swreq_reqsig.specs.Told.IsSettled.{without_rounds}
use Rattle.swreq_reqsig.proofs.Asking.{asked_count, asks_answer, asks_settle, follows_not}
use Rattle.swreq_reqsig.proofs.Placing.{place_is}
use Rattle.swreq_valid.proofs.swreq_symbols.OfTexts.{text_over}
use Rattle.swreq_reqsig.proofs.deciding.is_derivable_without.Goals as goal

pub invariant_of-selection : goal.invariant_of-selection
invariant_of-selection g c = record { flagged = c.requires.flags }

pub is_derivable_with-requires-clause-flags : goal.is_derivable_with-requires-clause-flags
is_derivable_with-requires-clause-flags g c =
    let s = c.args.setting.now in
    ap length c.deref.ensures.value
    ∙ asked_count s.text.world.now s.text.table.now (text_over s.text) c.args.at c.args.flags.now c.in-Some.asked.items
    (MatchOption-at_some _ _ _ c.in-Some.is c.in_ok-asked.ensures)

pub is_derivable_with-requires-clause-place : goal.is_derivable_with-requires-clause-place
is_derivable_with-requires-clause-place g c =
    let s = c.args.setting.now in
    place_is s.text.world.now (text_over s.text).closed.ids c.args.at _
    (ap (λ (z : List Place). slice_get z c.args.at) (sym s.all) ∙ slice_get-get_or s.places.now c.args.at _ c.requires.at)

pub returns-in_err-asked-clause-failed : goal.returns-in_err-asked-clause-failed
returns-in_err-asked-clause-failed g c =
    let p = err_from_is_err_and c.from_residual.result c.from_residual.ensures.1 in
    rw (p.1, p.2) ([], inl refl, grew_none (g.W.Watch.told c.args.watch.now))

pub returns-in-None-clause-answer : goal.returns-in-None-clause-answer
returns-in-None-clause-answer g c x there =
    let s = c.args.setting.now in
    follows_not s.text.world.now s.text.table.now (text_over s.text) c.args.flags.now c.args.at x
    (ap (λ (z : List Place). slice_get z c.args.at) (sym s.all) ∙ there)
    (MatchOption-at_none _ _ c.in-None.is c.in_ok-asked.ensures)

pub returns-in-None-clause-settled : goal.returns-in-None-clause-settled
returns-in-None-clause-settled g c = (
  [],
  without_rounds (MatchOption-at_none _ _ c.in-None.is c.in_ok-asked.ensures) refl,
  grew_none (g.W.Watch.told c.args.watch.now),
)

pub returns-in-Some-clause-answer : goal.returns-in-Some-clause-answer
returns-in-Some-clause-answer g c =
    let s = c.args.setting.now in
    asks_answer s.text.world.now s.text.table.now (text_over s.text) s.places.now c.args.flags.now c.args.at s.all _
    (slice_get-get_or s.places.now c.args.at _ c.requires.at) c.in-Some.asked.items c.deref.result.now c.deref.ensures.value
    (MatchOption-at_some _ _ _ c.in-Some.is c.in_ok-asked.ensures) c.is_derivable_with.result c.is_derivable_with.ensures.answer

pub returns-in-Some-clause-settled : goal.returns-in-Some-clause-settled
returns-in-Some-clause-settled g c =
    let s = c.args.setting.now in
    asks_settle s.limits (text_in s) c.args.at c.args.flags.now c.in-Some.asked.items
    (MatchOption-at_some _ _ _ c.in-Some.is c.in_ok-asked.ensures)
    (g.W.Watch.told c.args.watch.now) (g.W.Watch.told c.is_derivable_with.new.watch) c.deref.result.now c.deref.ensures.value
    c.is_derivable_with.result c.is_derivable_with.ensures.told

use Rattle.std.proofs.Common.{◌≡◌, ℕ, Bool, ◌∷◌, ◌++◌, [], List, Option, length, arith, ap, append-nil, length-append, inl, inr, refl, rules, subst}
use Rattle.swreq_machine.specs.swreq_complete.declared.limit.Failed.{Failed}
use Rattle.swreq_machine.specs.swreq_complete.declared.limit.Failed.TheVariants.{Memory}
use Rattle.swreq_machine.specs.swreq_complete.declared.limit.Limits.{Limits}
use Rattle.swreq_machine.specs.swreq_lowering.declared.ids.FuncId.{FuncId}
use Rattle.swreq_machine.proofs.swreq_lemmas.Elements.{get_cases}
use Rattle.swreq_births.proofs.swreq_param.Growing.{onward, unchanged}
use Rattle.swreq_machine.specs.swreq_rule.declared.rules.Rule.{Rule}
use Rattle.swreq_machine.proofs.swreq_symbols.Growing.{world_stays}
use Rattle.swreq_machine.specs.swreq_watch.declared.events.Event.{Event}
use Rattle.swreq_births.proofs.swreq_watch.Told.{grew_none}
use Rattle.swreq_machine.specs.swreq_world.Worlds.{TextWorld, signature_at}
use Rattle.swreq_check.specs.declared.content.Content.{Content}
use Rattle.swreq_check.specs.Made.{AreLinesKept, IsLineKept}
use Rattle.swreq_check.specs.Told.{FailsAt, MinimisingAllTells, MinimisingEndsIn, Tells, TellsOne}
use Rattle.swreq_check.specs.Told.MinimisingAllTells.{nothing, one_more}
use Rattle.swreq_check.specs.Listing.{wants}
use Rattle.swreq_check.proofs.OfChecks.{err_is, told_on}
use Rattle.swreq_check.proofs.Settled.{passed_on}
use Rattle.swreq_check.proofs.minimising.minimised_lines.Goals as goal

-- ---- what is told, and what is kept

module _ (limits : Limits) (now w : TextWorld) (stays : now ≡ w) (wants : Content) (rules : List Rule) (f : FuncId)
    (old mid new : Option (List Event)) (before : Tells (MinimisingAllTells limits w wants rules) old mid) where
  -- one signature more, as the text stands by the table that has grown
  told_more : Tells (TellsOne limits now wants rules (signature_at now f)) mid new → Tells (MinimisingAllTells limits w wants rules) old new
  told_more one = told_on old mid new before (rw stays at one)
      (λ a b parts tells. elim tells [
        | inl none ↦ rw (none, append-nil a) parts
        | inr (asked, part) ↦ one_more (signature_at w f) parts asked part refl
      ])

  -- or it fails there
  fails_in : (failed : Failed) (a b : List Event) → MinimisingAllTells limits w wants rules a
      → FailsAt limits w wants rules (signature_at w f) failed b → MinimisingEndsIn limits w wants rules failed (a ++ b)
  fails_in Memory a b parts (asked, fails) =
      inr (record { before = a; last = b; g = signature_at w f; parts = parts; asked = asked; fails = fails; told_is = refl })
  fails_in failed a b parts (asked, fails) =
      record { before = a; last = b; g = signature_at w f; parts = parts; asked = asked; fails = fails; told_is = refl }

  failed_at : (failed : Failed) → Tells (FailsAt limits now wants rules (signature_at now f) failed) mid new
      → Tells (MinimisingEndsIn limits w wants rules failed) old new
  failed_at failed one = told_on old mid new before (rw stays at one) (fails_in failed)

-- one line more is kept
kept_more : (w : TextWorld) (wants : ℕ → Bool) (lists : List (Option (List ℕ))) (k : ℕ) (entry : Option (List ℕ)) → length lists ≡ k
    → AreLinesKept w wants lists → IsLineKept w wants (record { place = k }) entry → AreLinesKept w wants (lists ++ entry ∷ [])
kept_more w wants lists k entry l before one i e h = elim (get_cases lists entry i e h) [
  | inl at ↦ before i e at
  | inr (at, is) ↦ rw (at, is, l) one
]

-- ---- the loop

pub loop-k-init : goal.loop-k-init
loop-k-init g c = (
  unchanged c.args.table.now,
  c.requires,
  ([], nothing, grew_none (g.W.Watch.told c.args.watch.now)),
  rw c.new-all.ensures.items (λ k entry is. (cc)),
  ap length c.new-all.ensures.items,
)

pub returns-in_err-entry-clause-failed : goal.returns-in_err-entry-clause-failed
returns-in_err-entry-clause-failed g c =
    let stays = world_stays c.args.table.now c.loop-k.table c.loop-k.invariant.0 c.args.l.now.passed.world.now c.requires.text.table in
    rw (err_is c.from_residual.result _ c.from_residual.ensures.1)
    (failed_at _ _ _ stays _ _ (record { place = c.loop-k.k }) _ _ _ c.loop-k.invariant.2 c.in_err-entry.field-0.0
    c.in_err-entry.ensures.failed)

pub returns-in_err-map_err-clause-failed : goal.returns-in_err-map_err-clause-failed
returns-in_err-map_err-clause-failed g c =
    let lost : c.in_err-map_err.field-0.0 ≡ Memory = search rules in
    let stays = world_stays c.args.table.now c.loop-k.table c.loop-k.invariant.0 c.args.l.now.passed.world.now c.requires.text.table in
    let told = told_more _ _ _ stays _ _ (record { place = c.loop-k.k }) _ _ _ c.loop-k.invariant.2 c.in_ok-entry.ensures.told in
    rw (err_is c.from_residual-in_err-map_err.result _ c.from_residual-in_err-map_err.ensures.1, lost) (told.0, inl told.1, told.2)

pub loop-k-preserved : goal.loop-k-preserved
loop-k-preserved g c =
    let l = c.args.l.now in
    let (more, passed, told, kept, count) = c.loop-k.invariant in
    let onwards = c.line_if_wanted.ensures.extends in
    let stays = world_stays c.args.table.now c.loop-k.table more l.passed.world.now c.requires.text.table in
    let longer : c.push.new.self.items ≡ c.loop-k.all.items ++ c.in_ok-entry.entry ∷ [] = search rules in (
      onward c.args.table.now c.loop-k.table c.line_if_wanted.new.table more onwards,
      passed_on c.loop-k.table c.line_if_wanted.new.table onwards l.passed passed,
      told_more _ _ _ stays _ _ (record { place = c.loop-k.k }) _ _ _ told c.in_ok-entry.ensures.told,
      rw longer (kept_more _ _ _ _ _ count kept
          (subst (λ w. IsLineKept w (wants l) (record { place = c.loop-k.k }) c.in_ok-entry.entry) stays c.in_ok-entry.ensures.line)),
      omega (arith, ap length longer, length-append c.loop-k.all.items (c.in_ok-entry.entry ∷ []), count),
    )

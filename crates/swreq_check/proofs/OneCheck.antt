-- A check has one outcome.
use Rattle.std.proofs.Common.{◌≡◌, ◌≢◌, inl, inr, refl, subst, List, Option, None, Result, Ok, Err}
use Rattle.swreq_machine.specs.swreq_derive.Derivation.{TermFacts}
use Rattle.swreq_machine.specs.swreq_rule.declared.rules.Rule.{Rule}
use Rattle.swreq_machine.specs.swreq_rounds.Plan.{Plan}
use Rattle.swreq_machine.specs.swreq_watch.declared.events.Event.{Event}
use Rattle.swreq_machine.specs.swreq_lowering.Requirements.{PlacedRequirement}
use Rattle.swreq_machine.specs.swreq_world.Worlds.{SignatureOver, TextWorld}
use Rattle.swreq_machine.specs.swreq_valid.Built.{Builds, IsBuilt}
use Rattle.swreq_machine.specs.swreq_valid.Sides.{Side}
use Rattle.swreq_machine.specs.swreq_valid.declared.refused.Refused.{Refused}
use Rattle.swreq_machine.specs.swreq_valid.declared.refused.Refused.TheVariants.{Memory}
use Rattle.swreq_machine.proofs.swreq_valid.Building.{only_built}
use Rattle.swreq_machine.specs.swreq_complete.declared.limit.Limits.{Limits}
use Rattle.swreq_check.specs.Machines.{IsChecked, SignaturesCome}
use Rattle.swreq_check.specs.Machines.IsChecked.{protocols_built, protocols_refused}
use Rattle.swreq_check.specs.Machines.SignaturesCome.{all, next, stopped}

abbrev Answer : Type 0
Answer = Result (List Rule) Refused

-- The answer is not that memory ran out.
abbrev IsReal : Answer → Type 0
IsReal (Ok rules) = Unit {0}
IsReal (Err refused) = refused ≢ Memory

module _ (limits : Limits) (plan : Plan) (f : TermFacts) (sides : List Side) where
  untold : (a : Answer) (told : List Event) → IsBuilt limits plan f sides a told → IsReal a → Builds limits plan f sides None None a
  untold (Err Memory) told h real = absurd (real refl)
  untold a told h real = (told, h, refl)

  -- Two answers of a list, if memory did not run out, are one.
  one_answer : (a b : Answer) (t u : List Event) → IsBuilt limits plan f sides a t → IsBuilt limits plan f sides b u → IsReal a → IsReal b
      → a ≡ b
  one_answer a b t u h k real too = elim (only_built limits plan f sides a None None (untold a t h real) b u k) [
    | inl e ↦ e
    | inr (inl e) ↦ absurd (subst IsReal e real refl)
    | inr (inr e) ↦ absurd (subst IsReal e too refl)
  ]

module _ (limits : Limits) (w : TextWorld) where
  one_come : (rules : List Rule) {gs : List (SignatureOver PlacedRequirement)} {a b : Option Refused} {t u : List Event}
      → SignaturesCome limits w rules gs a t → SignaturesCome limits w rules gs b u → a ≡ b
  one_come rules all all = refl
  one_come rules (next own one rest e) (next own' one' rest' e') = one_come rules rest rest'
  one_come rules (next {first = t} own one rest e) (stopped {told = u} refused real come) =
      cc (one_answer limits _ _ _ (Ok own) (Err refused) t u one come tt real)
  one_come rules (stopped {told = t} refused real come) (next {first = u} own one rest e) =
      cc (one_answer limits _ _ _ (Err refused) (Ok own) t u come one real tt)
  one_come rules (stopped {told = t} refused real come) (stopped {told = u} other too came) =
      cc (one_answer limits _ _ _ (Err refused) (Err other) t u come came real too)

  pub one_check : {a b : Option Refused} {t u : List Event} → IsChecked limits w a t → IsChecked limits w b u → a ≡ b
  one_check (protocols_refused {told = t} r real come) (protocols_refused {told = u} s too came) =
      cc (one_answer limits _ _ _ (Err r) (Err s) t u come came real too)
  one_check (protocols_refused {told = t} r real come) (protocols_built {first = u} rules came rest e) =
      cc (one_answer limits _ _ _ (Err r) (Ok rules) t u come came real tt)
  one_check (protocols_built {first = t} rules come rest e) (protocols_refused {told = u} r real came) =
      cc (one_answer limits _ _ _ (Ok rules) (Err r) t u come came tt real)
  one_check (protocols_built {refused = a} {first = t} {more = m} rules come rest e) (protocols_built {first = u} other came too f) =
      let same : rules ≡ other = cc (one_answer limits _ _ _ (Ok rules) (Ok other) t u come came tt tt) in
      one_come other (subst (λ (r : List Rule). SignaturesCome limits w r w.signatures a m) same rest) too

-- From the rounds and the sides to what building comes to.
use Rattle.std.proofs.Common.{◌≡◌, ◌⊎◌, inl, inr, refl, sym, ap, ap₂, subst, List, length, Contains, Option, Result, Ok, Err}
use Rattle.swreq_rounds.specs.swreq_derive.Derivation.{TermFacts}
use Rattle.swreq_complete.specs.swreq_rule.declared.rules.Rule.{Rule}
use Rattle.swreq_complete.specs.swreq_watch.declared.events.Event.{Event}
use Rattle.swreq_complete.specs.declared.limit.Failed.{Failed}
use Rattle.swreq_complete.specs.declared.limit.Failed.TheVariants as failed
use Rattle.swreq_complete.specs.declared.limit.Limits.{Limits}
use Rattle.swreq_complete.specs.declared.limit.Which.{Which}
use Rattle.swreq_complete.specs.Limits.{IsWithin}
use Rattle.swreq_rounds.specs.Plan.{Item, Plan, given}
use Rattle.swreq_rounds.specs.Rounds.{ComesTo, IsLastRound, IsOutcome}
use Rattle.swreq_rounds.proofs.OneOutcome.{outcomes_are_one}
use Rattle.swreq_valid.specs.declared.refused.Refused.{Refused}
use Rattle.swreq_valid.specs.declared.refused.Refused.TheVariants.{Limit, NotATypeParameter, Memory}
use Rattle.swreq_valid.specs.Answers.{Answers}
use Rattle.swreq_valid.specs.Built.{Builds, IsBuilt, IsForMemory, IsOnlyBuilt, Judges, refusal}
use Rattle.swreq_valid.specs.Sides.{IsValidSide, Side}
use Rattle.swreq_valid.proofs.FirstSide.{first_to, not_both, one_first}

module _ (limits : Limits) (plan : Plan) where
  -- ---- outcomes are one

  abbrev Outcome : Type 0
  Outcome = Result (List Rule) Failed

  abbrev ends : List Rule → Outcome
  ends rules = Ok rules

  abbrev stops : Which → List Rule → Outcome
  stops which trace = Err (failed.Limit which trace)

  one_end : (r s : List Rule) (t u : List Event) → IsOutcome limits plan (ends r) t → IsOutcome limits plan (ends s) u → r ≡ s
  one_end r s t u h k = elim (outcomes_are_one limits plan (ends r) (ends s) t u h k) [
    | inl e ↦ (let same : ends r ≡ ends s = e.0 in cc)
    | inr e ↦ elim e [
      | inl i ↦ absurd (let z : ends r ≡ Err failed.Memory = i in cc)
      | inr i ↦ absurd (let z : ends s ≡ Err failed.Memory = i in cc)
    ]
  ]

  no_stop : {A : Type 0} (r : List Rule) (w : Which) (s : List Rule) (t u : List Event) → IsOutcome limits plan (ends r) t
      → IsOutcome limits plan (stops w s) u → A
  no_stop r w s t u h k = absurd (elim (outcomes_are_one limits plan (ends r) (stops w s) t u h k) [
    | inl e ↦ (let same : ends r ≡ stops w s = e.0 in cc)
    | inr e ↦ elim e [ inl i ↦ (let z : ends r ≡ Err failed.Memory = i in cc) | inr i ↦ (let z : stops w s ≡ Err failed.Memory = i in cc) ]
  ])

  abbrev refused : Which → List Rule → Result (List Rule) Refused
  refused which trace = Err (Limit which trace)

  one_stop : (w v : Which) (r s : List Rule) (t u : List Event) → IsOutcome limits plan (stops w r) t → IsOutcome limits plan (stops v s) u
      → refused w r ≡ refused v s
  one_stop w v r s t u h k = elim (outcomes_are_one limits plan (stops w r) (stops v s) t u h k) [
    | inl e ↦ (let same : stops w r ≡ stops v s = e.0 in let a : w ≡ v = cc in let b : r ≡ s = cc in ap₂ refused a b)
    | inr e ↦ elim e [
      | inl i ↦ absurd (let z : stops w r ≡ Err failed.Memory = i in cc)
      | inr i ↦ absurd (let z : stops v s ≡ Err failed.Memory = i in cc)
    ]
  ]

  -- ---- what building comes to

  comes_to_end : (used : List Item) (rules : List Rule) (told : List Event) → IsLastRound limits plan used rules told
      → ComesTo limits plan told
  comes_to_end used rules told l =
      let within : IsWithin limits (length plan.base) (given plan used) rules =
      record { reached = l.ends.1.ended.reached; kept = λ k rule b s e. l.ends.1.kept k rule b e } in
      record { used = used; first = l.first; before = l.before; round = l.round; part = inr (rules, l.due, l.ends.0, within, l.told_is) }

  -- where memory runs out after the last round
  pub memory_at_end : (rules : List Rule) (old new : Option (List Event)) → Answers limits plan old new (Ok rules)
      → Answers limits plan old new (Err failed.Memory)
  memory_at_end rules old new a = (a.0, comes_to_end a.1.0 rules a.0 a.1.1, a.2)

  module _ (f : TermFacts) (sides : List Side) where
    pub builds_failed : (e : Failed) (old new : Option (List Event)) → Answers limits plan old new (Err e)
        → Builds limits plan f sides old new (Err (refusal e))
    builds_failed (failed.Limit which trace) old new a = a
    builds_failed failed.Memory old new a = a

    pub builds_judged : (P : Side → Type 0) (rules : List Rule) (answer : Result (List Rule) Refused) (old new : Option (List Event))
        → ((s : Side) → Contains sides s → P s → IsValidSide f s) → ((s : Side) → Contains sides s → IsValidSide f s → P s)
        → Answers limits plan old new (Ok rules) → Judges P sides rules answer → Builds limits plan f sides old new answer
    builds_judged P rules (Ok r) old new to back a h =
        (a.0, (subst (λ (z : List Rule). IsOutcome limits plan (Ok z) a.0) (sym h.0) a.1, λ s k. to s k (h.1 s k)), a.2)
    builds_judged P rules (Err (Limit which trace)) old new to back a h = absurd h
    builds_judged P rules (Err (NotATypeParameter at)) old new to back a h =
        (a.0, (rules, a.1, first_to P (IsValidSide f) sides at to back h), a.2)
    builds_judged P rules (Err Memory) old new to back a h = (a.0, comes_to_end a.1.0 rules a.0 a.1.1, a.2)

    -- ---- it comes to one thing

    one_built : (a b : Result (List Rule) Refused) (t u : List Event) → IsBuilt limits plan f sides a t → IsBuilt limits plan f sides b u
        → (a ≡ b) ⊎ (IsForMemory a ⊎ IsForMemory b)
    one_built (Ok r) (Ok s) t u h k = inl (ap Ok (one_end r s t u h.0 k.0))
    one_built (Ok r) (Err (Limit w s)) t u h k = no_stop r w s t u h.0 k
    one_built (Ok r) (Err (NotATypeParameter at)) t u h (s, o, k) = absurd (not_both (IsValidSide f) sides at h.1 k)
    one_built (Ok r) (Err Memory) t u h k = inr (inr refl)
    one_built (Err (Limit w r)) (Ok s) t u h k = no_stop s w r u t k.0 h
    one_built (Err (Limit w r)) (Err (Limit v s)) t u h k = inl (one_stop w v r s t u h k)
    one_built (Err (Limit w r)) (Err (NotATypeParameter at)) t u h (s, o, k) = no_stop s w r u t o h
    one_built (Err (Limit w r)) (Err Memory) t u h k = inr (inr refl)
    one_built (Err (NotATypeParameter at)) (Ok s) t u (r, o, h) k = absurd (not_both (IsValidSide f) sides at k.1 h)
    one_built (Err (NotATypeParameter at)) (Err (Limit w s)) t u (r, o, h) k = no_stop r w s t u o k
    one_built (Err (NotATypeParameter at)) (Err (NotATypeParameter to)) t u (r, o, h) (s, p, k) =
        inl (ap (λ n. Err (NotATypeParameter n)) (one_first (IsValidSide f) sides at to h k))
    one_built (Err (NotATypeParameter at)) (Err Memory) t u h k = inr (inr refl)
    one_built (Err Memory) b t u h k = inr (inl refl)

    pub only_built : (answer : Result (List Rule) Refused) (old new : Option (List Event)) → Builds limits plan f sides old new answer
        → IsOnlyBuilt limits plan f sides answer
    only_built (Ok r) old new (t, h, g) b u k = one_built (Ok r) b t u h k
    only_built (Err (Limit w r)) old new (t, h, g) b u k = one_built (Err (Limit w r)) b t u h k
    only_built (Err (NotATypeParameter at)) old new (t, h, g) b u k = one_built (Err (NotATypeParameter at)) b t u h k
    only_built (Err Memory) old new h b u k = inr (inl refl)

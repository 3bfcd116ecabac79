-- Going through the requirements comes out in one way.
use Rattle.std.proofs.Common.{◌≡◌, ◌∙◌, ◌⊎◌, inl, inr, refl, sym, ap, ap₂, subst, ℕ, suc, ◌<◌, ◌≤◌, arith, Bool, List, ◌++◌, length, Result, Ok, Err}
use Rattle.std.proofs.lemmas.Bool.{cases_eq, cases_lt}
use Rattle.std.proofs.lemmas.Option.{same_Some}
use Rattle.swreq_valid.specs.swreq_derive.Derivation.{AssociatedType}
use Rattle.swreq_valid.specs.swreq_derive.Kept.{Owned}
use Rattle.swreq_print.specs.swreq_rule.declared.rules.Rule.{Rule}
use Rattle.swreq_valid.specs.swreq_watch.declared.events.Event.{Event}
use Rattle.swreq_valid.specs.swreq_complete.declared.limit.Limits.{Limits}
use Rattle.swreq_valid.specs.swreq_complete.declared.limit.Which.{Which}
use Rattle.swreq_valid.specs.swreq_complete.declared.limit.Failed.{Failed}
use Rattle.swreq_valid.specs.swreq_complete.declared.limit.Failed.TheVariants.{Limit, Memory}
use Rattle.swreq_valid.specs.swreq_rounds.Plan.{Plan}
use Rattle.swreq_valid.specs.swreq_rounds.Rounds.{IsOutcome}
use Rattle.swreq_valid.proofs.swreq_rounds.OneOutcome.{outcomes_are_one}
use Rattle.swreq_valid.specs.swreq_world.Worlds.{TextWorld}
use Rattle.swreq_reqsig.specs.declared.family.Family.{Family}
use Rattle.swreq_reqsig.specs.Families.{associated_types_of, family_of, family_plan, numbers, owned}
use Rattle.swreq_reqsig.specs.GoingThrough.{AreKept, without}
use Rattle.swreq_reqsig.specs.GoingThrough.AreKept.{further as left_further, whole}
use Rattle.swreq_reqsig.specs.Asked.{AreAsked, IsBeyond, IsOutOfReach}
use Rattle.swreq_reqsig.specs.Reaching.{AreReachedFlags}
use Rattle.swreq_reqsig.specs.Saying.{IsUnsaid}
use Rattle.swreq_reqsig.specs.Told.{WasReduced, IsFamilyOutcome, IsForMemory, IsSettled, IsStopped, StopsAt}
use Rattle.swreq_reqsig.specs.Told.WasReduced.{further, start}
use Rattle.swreq_reqsig.specs.Told.IsSettled.{by_rounds, without_rounds}
use Rattle.swreq_reqsig.proofs.ByReach.{reached_flags_one}
use Rattle.swreq_reqsig.proofs.Leaving.{left_one, within}

-- ---- outcomes of the rounds of one family

module _ (limits : Limits) (plan : Plan) where
  rules_told_one : (r s : List Rule) (a b : List Event) → IsOutcome limits plan (Ok r) a → IsOutcome limits plan (Ok s) b → a ≡ b
  rules_told_one r s a b o u = elim (outcomes_are_one limits plan (Ok r) (Ok s) a b o u) [
    | inl e ↦ e.1
    | inr (inl m) ↦ absurd cc
    | inr (inr m) ↦ absurd cc
  ]

  not_both : (r : List Rule) (which : Which) (trace : List Rule) (a b : List Event) → IsOutcome limits plan (Ok r) a
      → IsOutcome limits plan (Err (Limit which trace)) b → ⊥
  not_both r which trace a b o u = elim (outcomes_are_one limits plan (Ok r) (Err (Limit which trace)) a b o u) [
    | inl e ↦ (let same = e.0 in cc)
    | inr (inl m) ↦ cc
    | inr (inr m) ↦ cc
  ]

  limit_told_one : (which kind : Which) (trace other : List Rule) (a b : List Event) → IsOutcome limits plan (Err (Limit which trace)) a
      → IsOutcome limits plan (Err (Limit kind other)) b → (which ≡ kind) × (trace ≡ other) × (a ≡ b)
  limit_told_one which kind trace other a b o u =
      elim (outcomes_are_one limits plan (Err (Limit which trace)) (Err (Limit kind other)) a b o u) [
        | inl e ↦ (let same = e.0 in ((cc), (cc), e.1))
        | inr (inl m) ↦ absurd cc
        | inr (inr m) ↦ absurd cc
      ]

-- ---- outcomes for one requirement

module _ (limits : Limits) (w : TextWorld) (n : ℕ) (others : List Bool) where
  asked_one : (a b : List Bool) → AreAsked w n others a → AreAsked w n others b → a ≡ b
  asked_one a b are also =
      let same : are.requirement ≡ also.requirement = same_Some _ _ (sym are.stands ∙ also.stands) in
      reached_flags_one (owned w) others also.requirement.proto a b
      (subst (λ (o : Owned). AreReachedFlags (owned w) others o.proto a) same are.reached) also.reached

  not_beyond : (asked : List Bool) → AreAsked w n others asked → IsBeyond w n others → ⊥
  not_beyond asked are is =
      let same : is.requirement ≡ are.requirement = same_Some _ _ (sym is.stands ∙ are.stands) in
      elim is.follows_not [
        | inl unsaid ↦ are.said (subst (λ (o : Owned). IsUnsaid w.lexicon (family_of w others) o.proto o.requirement) same unsaid)
        | inr beyond ↦ (let out : IsOutOfReach (family_of w others) are.requirement =
            subst (IsOutOfReach (family_of w others)) same beyond in
            out.unreached (are.within out.subject out.proto out.says))
      ]

  settled_one : (a b : List Event) → IsSettled limits w n others a → IsSettled limits w n others b → a ≡ b
  settled_one a b (without_rounds i e) (without_rounds j h) = e ∙ sym h
  settled_one a b (without_rounds i e) (by_rounds {asked = s} are o) = absurd (not_beyond s are i)
  settled_one a b (by_rounds {asked = s} are o) (without_rounds i e) = absurd (not_beyond s are i)
  settled_one a b (by_rounds {asked = s} {rules = r} are o) (by_rounds {asked = t} {rules = q} also u) =
      rules_told_one limits (family_plan w s) r q a b o
      (subst (λ (z : List Bool). IsOutcome limits (family_plan w z) (Ok q) b) (asked_one t s also are) u)

  not_settled : (which : Which) (trace : List Rule) (a b : List Event) → IsSettled limits w n others a
      → StopsAt limits w n others which trace b → ⊥
  not_settled which trace a b (without_rounds i e) s = not_beyond s.asked s.are i
  not_settled which trace a b (by_rounds {asked = t} {rules = r} are o) s =
      not_both limits (family_plan w t) r which trace a b o
      (subst (λ (z : List Bool). IsOutcome limits (family_plan w z) (Err (Limit which trace)) b) (asked_one s.asked t s.are are) s.stops)

  stops_told_one : (which kind : Which) (trace other : List Rule) (a b : List Event) → StopsAt limits w n others which trace a
      → StopsAt limits w n others kind other b → (which ≡ kind) × (trace ≡ other) × (a ≡ b)
  stops_told_one which kind trace other a b s u =
      limit_told_one limits (family_plan w s.asked) which kind trace other a b s.stops
      (subst (λ (z : List Bool). IsOutcome limits (family_plan w z) (Err (Limit kind other)) b) (asked_one u.asked s.asked u.are s.are)
      u.stops)

-- ---- outcomes for all requirements

module _ (limits : Limits) (w : TextWorld) where
  abbrev ds : List AssociatedType
  ds = associated_types_of w

  abbrev all : List Owned
  all = owned w

  pub gone_left : {n : ℕ} {flags : List Bool} {told : List Event} → WasReduced limits w n flags told → AreKept ds all n flags
  gone_left (start e f t) = whole e f
  gone_left (further g m t) = left_further (gone_left g) m.decided

  gone_within : {n : ℕ} {flags : List Bool} {told : List Event} → WasReduced limits w n flags told → n ≤ length all
  gone_within g = within ds all (gone_left g)

  told_one : {n : ℕ} {a b : List Bool} {told also : List Event} → WasReduced limits w n a told → WasReduced limits w n b also → told ≡ also
  told_one (start e f t) (start g h u) = t ∙ sym u
  told_one (start e f t) (further g m u) = let l = gone_within g in absurd (omega (arith, l, e))
  told_one (further g m u) (start e f t) = let l = gone_within g in absurd (omega (arith, l, e))
  told_one (further {n = n} {flags = flags} {before = before} {part = part} g m t)
      (further {flags = others} {before = prior} {part = piece} h k u) =
      let same = left_one ds all (gone_left g) (gone_left h) in
      let also = subst (λ (z : List Bool). IsSettled limits w n (without z n) piece) (sym same) k.settled in
      t ∙ ap₂ (λ x y. x ++ y) (told_one g h) (settled_one limits w n (without flags n) part piece m.settled also) ∙ sym u

  -- the requirement at a place was met, and it was settled whether it follows
  record WasMet (m : ℕ) : Type 0 where
    pub flags : List Bool
    pub before : List Event
    pub part : List Event
    pub gone : WasReduced limits w (suc m) flags before
    pub settled : IsSettled limits w m (without flags m) part

  was_met : {n : ℕ} {flags : List Bool} {told : List Event} → WasReduced limits w n flags told → (m : ℕ) → n ≤ m → m < length all → WasMet m
  was_met (start e f t) m l h = absurd (omega (arith, l, h, e))
  was_met (further {n = n} {flags = flags} {before = before} {part = part} g k t) m l h = elim (cases_eq m n) [
    | inl e ↦ subst WasMet (sym e) (record { flags = flags; before = before; part = part; gone = g; settled = k.settled })
    | inr d ↦ was_met g m (omega (arith, l, d)) h
  ]

  -- where the rounds for a requirement pass a limit, one has not gone past it
  not_past : {n : ℕ} {flags : List Bool} {told : List Event} → WasReduced limits w n flags told
      → (which : Which) (trace : List Rule) (also : List Event)
      → (s : IsStopped limits w which trace also) → n ≤ s.place → ⊥
  not_past g which trace also s l =
      let h = gone_within s.gone in
      let k : WasMet s.place = was_met g s.place l (omega (arith, h)) in
      let same = left_one ds all (gone_left k.gone) (gone_left s.gone) in
      not_settled limits w s.place (without s.flags s.place) which trace k.part s.part
      (subst (λ (z : List Bool). IsSettled limits w s.place (without z s.place) k.part) same k.settled) s.stops

  stops_one : (which kind : Which) (trace other : List Rule) (told also : List Event) → IsStopped limits w which trace told
      → IsStopped limits w kind other also
      → (which ≡ kind) × (trace ≡ other) × (told ≡ also)
  stops_one which kind trace other told also s u = elim (cases_eq s.place u.place) [
    | inl e ↦ (let gone = subst (λ (z : ℕ). WasReduced limits w (suc z) u.flags u.before) (sym e) u.gone in
        let same = left_one ds all (gone_left s.gone) (gone_left gone) in
        let stops = subst (λ (z : List Bool). StopsAt limits w s.place (without z s.place) kind other u.part) (sym same)
        (subst (λ (z : ℕ). StopsAt limits w z (without u.flags z) kind other u.part) (sym e) u.stops) in
        let one = stops_told_one limits w s.place (without s.flags s.place) which kind trace other s.part u.part s.stops stops in
        (one.0, one.1, s.told_is ∙ ap₂ (λ x y. x ++ y) (told_one s.gone gone) one.2 ∙ sym u.told_is))
    | inr d ↦ elim (cases_lt s.place u.place) [
      | inl l ↦ absurd (not_past s.gone kind other also u (omega (arith, l)))
      | inr l ↦ absurd (not_past u.gone which trace told s (omega (arith, l, d)))
    ]
  ]

  pub family_outcomes_are_one : (a b : Result Family Failed) (told also : List Event) → IsFamilyOutcome limits w a told
      → IsFamilyOutcome limits w b also
      → ((a ≡ b) × (told ≡ also)) ⊎ (IsForMemory limits w a ⊎ IsForMemory limits w b)
  family_outcomes_are_one (Ok x) (Ok y) told also (flags, g, e) (others, h, k) =
      let kept : x.kept ≡ y.kept = e ∙ ap (numbers w) (left_one ds all (gone_left g) (gone_left h)) ∙ sym k in
      let one : x ≡ y = λ i. record { kept = kept i } in
      inl (ap Ok one, told_one g h)
  family_outcomes_are_one (Ok x) (Err (Limit which trace)) told also (flags, g, e) s = absurd (not_past g which trace also s (omega arith))
  family_outcomes_are_one (Err (Limit which trace)) (Ok y) told also s (flags, g, e) = absurd (not_past g which trace told s (omega arith))
  family_outcomes_are_one (Err (Limit which trace)) (Err (Limit kind other)) told also s u =
      let one = stops_one which kind trace other told also s u in
      inl (ap₂ (λ x y. Err (Limit x y)) one.0 one.1, one.2)
  family_outcomes_are_one (Err Memory) b told also s u = inr (inl refl)
  family_outcomes_are_one a (Err Memory) told also s u = inr (inr refl)

-- What settling does to the rules and to a watcher, step by step.
use Rattle.std.proofs.Common.{◌≡◌, ℕ, suc, ◌-◌, max, ◌≤◌, ◌⊎◌, inl, inr, refl, sym, ◌∙◌, ap, subst, arith, List, [], ◌∷◌, ◌++◌, append_assoc, append-nil, length, length-append, map, Some, Option}
use Rattle.std.specs.List.{slice_get}
use Rattle.std.proofs.lemmas.List.{map-append}
use Rattle.std.proofs.lemmas.Bool.{cases_lt}
use Rattle.std.proofs.lemmas.Option.{slice_get_within}
use Rattle.swreq_rule.specs.swreq_word.declared.symbols.Symbol.{Symbol}
use Rattle.swreq_rule.specs.declared.rules.Rule.{Rule}
use Rattle.swreq_rule.specs.declared.rules.Place.{Place}
use Rattle.swreq_rule.specs.declared.rules.Birth.{Birth}
use Rattle.swreq_rule.specs.declared.rules.Birth.TheVariants.{Pair}
use Rattle.swreq_watch.specs.declared.events.Event.{Event}
use Rattle.swreq_watch.specs.declared.events.Event.TheVariants.{Born}
use Rattle.swreq_watch.specs.Told.{GrewBy}
use Rattle.swreq_watch.proofs.Told.{grew_none, grew_on}
use Rattle.swreq_complete.specs.declared.limit.Limits.{Limits}
use Rattle.swreq_complete.specs.declared.limit.Stop.{Stop}
use Rattle.swreq_complete.specs.declared.limit.Stop.TheVariants.{Limit, Memory}
use Rattle.swreq_complete.specs.Limits.{Keeps, KeepsAll, KeepsButLast, IsWithin}
use Rattle.swreq_complete.specs.Moments.{Before, HasSides}
use Rattle.swreq_complete.specs.Progress.{Settles, SettlesPlace, Progress}
use Rattle.swreq_complete.specs.Settling.{Grown, DoneWithin, StoppedAt, HasCome, HasStopped, HasStoppedAmong}
use Rattle.swreq_complete.specs.Short.{IsOfEquation}
use Rattle.swreq_rule.proofs.swreq_lemmas.Elements.{get_cases, there_is}
use Rattle.swreq_complete.proofs.Closed.{reached}

pub grown_none : (rules : List Rule) (told : Option (List Event)) → Grown rules rules told told
grown_none rules told = record { more = []; new_is = sym (append-nil rules); told_is = grew_none told }

pub grown_one : (rules new : List Rule) (rule : Rule) (told told' : Option (List Event)) → new ≡ rules ++ rule ∷ []
    → GrewBy told told' (Born rule ∷ []) → Grown rules new told told'
grown_one rules new rule told told' e g = record { more = rule ∷ []; new_is = e; told_is = g }

pub grown_on : (a b c : List Rule) (told told' told'' : Option (List Event)) → Grown a b told told'
    → Grown b c told' told'' → Grown a c told told''
grown_on a b c told told' told'' p q = record {
  more = p.more ++ q.more;
  new_is = q.new_is ∙ ap (λ x. x ++ q.more) p.new_is ∙ append_assoc a p.more q.more;
  told_is = subst (GrewBy told told'') (sym (map-append Born p.more q.more))
      (grew_on told told' told'' (map Born p.more) (map Born q.more) p.told_is q.told_is);
}

pub grown_longer : (a b : List Rule) (told told' : Option (List Event)) → Grown a b told told' → length a ≤ length b
grown_longer a b told told' g = let e = simp length-append at (ap length g.new_is) in omega (arith, e)

-- one rule at most stands after those that were there
abbrev pub Adds : List Rule → List Rule → Type 0
Adds old new = (new ≡ old) ⊎ ((rule : Rule) × (new ≡ old ++ rule ∷ []))

pub settles_adds : (old new : List Rule) (m : Birth) (l r : List Symbol) → Settles old new m l r → Adds old new
settles_adds old new m l r s = elim s.outcome [ inl o ↦ inl o.1 | inr o ↦ inr (o.0, o.1) ]

pub place_adds : (old new : List Rule) (place : Place) → SettlesPlace old new place → Adds old new
place_adds old new place s = settles_adds old new (Pair place.i place.j place.at) s.0 s.1 s.3

module _ (limits : Limits) (base : ℕ) (old new : List Rule) (kept : KeepsAll limits base old) (adds : Adds old new) where
  pub all_kept : ((rule : Rule) → slice_get new (length old) ≡ Some rule → Keeps limits (length old) rule) → KeepsAll limits base new
  all_kept one k rule lo e = elim adds [
    | inl a ↦ kept k rule lo (subst (λ t. slice_get t k ≡ Some rule) a e)
    | inr a ↦ elim (get_cases old a.0 k rule (subst (λ t. slice_get t k ≡ Some rule) a.1 e)) [
      | inl h ↦ kept k rule lo h
      | inr h ↦ subst (λ n. Keeps limits n rule) (sym h.0) (one rule (subst (λ n. slice_get new n ≡ Some rule) h.0 e))
    ]
  ]

  pub but_last_kept : KeepsButLast limits base new
  but_last_kept k rule lo l e = elim adds [
    | inl a ↦ kept k rule lo (subst (λ t. slice_get t k ≡ Some rule) a e)
    | inr a ↦ elim (get_cases old a.0 k rule (subst (λ t. slice_get t k ≡ Some rule) a.1 e)) [
      | inl h ↦ kept k rule lo h
      | inr h ↦ absurd (let n = simp length-append at (ap length a.1) in omega (arith, n, l, h.0))
    ]
  ]

  pub one_more : (rule : Rule) → slice_get new (length old) ≡ Some rule → suc (length old) ≡ length new
  one_more rule e = elim adds [
    | inl a ↦
        absurd (let w = slice_get_within old (length old) rule (subst (λ t. slice_get t (length old) ≡ Some rule) a e) in omega (arith, w))
    | inr a ↦ (let n = simp length-append at (ap length a.1) in omega (arith, n))
  ]

-- where a thing done takes a completion on, a stop at it is a stop of the completion
module _ (limits : Limits) (base : ℕ) (given : List (List Symbol × List Symbol)) (Visited Next : Birth → Type 0) (Done : List Rule → Type 0)
    (old new : List Rule) (told told' : Option (List Event))
    (progress : Progress base given old Visited) (kept : KeepsAll limits base old)
    (closed : (n m : Birth) (l r : List Symbol) → HasSides base given old n l r → Before n m → Visited m → Visited n)
    (closed' : (t : List Rule) → Done t → (n m : Birth) (l r : List Symbol) → HasSides base given t n l r → Before n m → Next m → Next n)
    (adds : (t : List Rule) → Done t → Adds old t) (takes_on : (t : List Rule) → Done t → Progress base given t Next) where
  pub goes_on : DoneWithin limits Done old new told told' → HasCome limits base given Next old new told told'
  goes_on d = record { progress = takes_on new d.done; kept = all_kept limits base old new kept (adds new d.done) d.kept; grown = d.grown }

  within : (t : List Rule) → Done t → IsWithin limits base given t
  within t d =
      record { reached = reached base given t Next (takes_on t d) (closed' t d); kept = but_last_kept limits base old t kept (adds t d) }

  pub stops : (s : Stop) → StoppedAt limits Done old new told told' s → HasStopped limits base given old new told told' s
  stops (Limit which) d = (
    record {
      within = within new d.0;
      last = length old;
      rule = d.1.0;
      past_base = progress.has_base;
      is_last = one_more limits base old new kept (adds new d.0) d.1.0 d.1.1;
      is_rule = d.1.1;
      passes = d.1.2;
    },
    d.2,
  )
  stops Memory d = (
    d.0,
    elim d.1 [
      | inl e ↦ subst (IsWithin limits base given) (sym e)
          (record { reached = reached base given old Visited progress closed; kept = λ k rule lo l h. kept k rule lo h })
      | inr h ↦ within d.0 h
    ],
    d.2,
  )

  -- where all that is visited then are equations, so are the births of all rules past the base
  pub stops_among : ((m : Birth) → Next m → IsOfEquation m) → (s : Stop) → StoppedAt limits Done old new told told' s
      → HasStoppedAmong limits base given old new told told' s
  stops_among of (Limit which) d =
      let h = stops (Limit which) d in
      (record { passes = h.0; of_equations = λ k rule lo e. of rule.birth ((takes_on new d.0).born k rule lo e).1 }, h.1)
  stops_among of Memory d = stops Memory d

-- a stop at an equation is a stop
pub stopped_among : (limits : Limits) (base : ℕ) (given : List (List Symbol × List Symbol)) (old new : List Rule)
    (told told' : Option (List Event)) (s : Stop) → HasStoppedAmong limits base given old new told told' s
    → HasStopped limits base given old new told told' s
stopped_among limits base given old new told told' (Limit which) d = (d.0.passes, d.1)
stopped_among limits base given old new told told' Memory d = d

-- a stop after some rules were born
pub stops_later : (limits : Limits) (base : ℕ) (given : List (List Symbol × List Symbol)) (a b c : List Rule)
    (told told' told'' : Option (List Event)) → Grown a b told told'
    → (s : Stop) → HasStopped limits base given b c told' told'' s → HasStopped limits base given a c told told'' s
stops_later limits base given a b c told told' told'' g (Limit which) d = (d.0, grown_on a b c told told' told'' g d.1)
stops_later limits base given a b c told told' told'' g Memory d = (d.0, d.1, grown_on a b d.0 told told' told'' g d.2)

pub stops_among_later : (limits : Limits) (base : ℕ) (given : List (List Symbol × List Symbol)) (a b c : List Rule)
    (told told' told'' : Option (List Event)) → Grown a b told told'
    → (s : Stop) → HasStoppedAmong limits base given b c told' told'' s → HasStoppedAmong limits base given a c told told'' s
stops_among_later limits base given a b c told told' told'' g (Limit which) d = (d.0, grown_on a b c told told' told'' g d.1)
stops_among_later limits base given a b c told told' told'' g Memory d = stops_later limits base given a b c told told' told'' g Memory d

pub goes_later : (limits : Limits) (base : ℕ) (given : List (List Symbol × List Symbol)) (Visited : Birth → Type 0) (a b c : List Rule)
    (told told' told'' : Option (List Event)) → Grown a b told told'
    → HasCome limits base given Visited b c told' told'' → HasCome limits base given Visited a c told told''
goes_later limits base given Visited a b c told told' told'' g d = record
    { progress = d.progress; kept = d.kept; grown = grown_on a b c told told' told'' g d.grown }

-- what ran out of memory before it did anything
pub stops_before : (limits : Limits) (Done : List Rule → Type 0) (old new : List Rule) (told : Option (List Event)) (s : Stop) → s ≡ Memory
    → StoppedAt limits Done old new told told s
stops_before limits Done old new told (Limit which) e = cc
stops_before limits Done old new told Memory e = (old, inl refl, grown_none old told)

-- the same of more that is done
pub does_more : (limits : Limits) (P Q : List Rule → Type 0) (old new : List Rule) (told told' : Option (List Event))
    → ((t : List Rule) → P t → Q t)
    → DoneWithin limits P old new told told' → DoneWithin limits Q old new told told'
does_more limits P Q old new told told' f d = record { done = f new d.done; kept = d.kept; grown = d.grown }

pub stops_more : (limits : Limits) (P Q : List Rule → Type 0) (old new : List Rule) (told told' : Option (List Event))
    → ((t : List Rule) → P t → Q t)
    → (s : Stop) → StoppedAt limits P old new told told' s → StoppedAt limits Q old new told told' s
stops_more limits P Q old new told told' f (Limit which) d = (f new d.0, d.1, d.2)
stops_more limits P Q old new told told' f Memory d = (d.0, elim d.1 [ inl e ↦ inl e | inr p ↦ inr (f d.0 p) ], d.2)

-- nothing was born
pub does_none : (limits : Limits) (Done : List Rule → Type 0) (old : List Rule) (told : Option (List Event)) → Done old
    → DoneWithin limits Done old old told told
does_none limits Done old told d = record {
  done = d;
  kept = λ rule e. absurd (let w = slice_get_within old (length old) rule e in omega (arith, w));
  grown = grown_none old told;
}

-- rules that keep the limits are at most this many
pub kept_length : (limits : Limits) (base : ℕ) (t : List Rule) → KeepsAll limits base t → length t ≤ max base limits.max_rules
kept_length limits base t kept = elim (cases_lt base (length t)) [
  | inl l ↦ (let y = there_is t (length t - 1) (omega (arith, l)) in
      let k = (kept (length t - 1) y.0 (omega (arith, l)) y.1).0 in omega (arith, k, l))
  | inr l ↦ omega (arith, l)
]

pub goes_along : (limits : Limits) (base : ℕ) (given : List (List Symbol × List Symbol))
    (Visited Next : Birth → Type 0) (old new : List Rule)
    (told told' : Option (List Event))
    → (Progress base given new Visited → Progress base given new Next) → HasCome limits base given Visited old new told told'
    → HasCome limits base given Next old new told told'
goes_along limits base given Visited Next old new told told' f d = record { progress = f d.progress; kept = d.kept; grown = d.grown }

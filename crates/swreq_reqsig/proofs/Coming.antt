-- Going through the requirements, one by one.
use Rattle.std.proofs.Common.{◌≡◌, ◌∙◌, inl, inr, refl, sym, subst, ℕ, suc, Bool, true, List, [], ◌++◌, length, replicate, Option, Result, Ok, Err, ap}
use Rattle.std.proofs.lemmas.List.{append-nil}
use Rattle.swreq_valid.specs.swreq_param.Terms.{Term}
use Rattle.swreq_valid.specs.swreq_derive.WellFormed.{AreProtocolsWellFormed}
use Rattle.swreq_valid.specs.swreq_watch.declared.events.Event.{Event}
use Rattle.swreq_valid.specs.swreq_watch.Told.{GrewBy}
use Rattle.swreq_valid.proofs.swreq_watch.Told.{grew_none, grew_on}
use Rattle.swreq_valid.specs.swreq_complete.declared.limit.Limits.{Limits}
use Rattle.swreq_valid.specs.swreq_complete.declared.limit.Failed.{Failed}
use Rattle.swreq_valid.specs.swreq_complete.declared.limit.Failed.TheVariants.{Limit, Memory}
use Rattle.swreq_valid.specs.swreq_symbols.Known.{IsTextOver}
use Rattle.swreq_valid.specs.swreq_symbols.Meaning.{facts_of}
use Rattle.swreq_valid.specs.swreq_world.ByTable.{world_by}
use Rattle.swreq_valid.specs.swreq_world.Worlds.{IdWorld, TextWorld}
use Rattle.swreq_reqsig.specs.declared.family.Family.{Family}
use Rattle.swreq_reqsig.specs.Families.{AreRequirementSignatures, IsGivenFamily, associated_types_of, members, numbers, owned}
use Rattle.swreq_reqsig.specs.GoingThrough.{AreKept, without}
use Rattle.swreq_reqsig.specs.Places.{all_places}
use Rattle.swreq_reqsig.specs.Told.{AnswersFamily, FailsAt, WasReduced, MeetsFamily, IsOnlyFamily}
use Rattle.swreq_reqsig.specs.Told.WasReduced.{further, start}
use Rattle.swreq_reqsig.proofs.InLists.{numbers_by}
use Rattle.swreq_reqsig.proofs.OneFamily.{family_outcomes_are_one, gone_left}
use Rattle.swreq_reqsig.proofs.Placing.{places_count}
use Rattle.swreq_reqsig.proofs.Signatures.{numbered_signatures}

module _ (w : IdWorld) (terms : List Term) (limits : Limits) where
  abbrev W : TextWorld
  W = world_by terms w

  -- one has gone through the requirements down to this one, and the watcher was told what was told
  abbrev pub HasCome : ℕ → List Bool → Option (List Event) → Option (List Event) → Type 0
  HasCome n flags old new = (told : List Event) × WasReduced limits W n flags told × GrewBy old new told

  pub comes_first : (n : ℕ) (flags : List Bool) (old : Option (List Event)) → n ≡ length (all_places w) → flags ≡ replicate n true
      → HasCome n flags old old
  comes_first n flags old e f =
      let count : n ≡ length (owned W) = e ∙ places_count w terms in
      ([], start count (f ∙ ap (λ (k : ℕ). replicate k true) count) refl, grew_none old)

  pub left_at : (k n : ℕ) (flags : List Bool) (old new : Option (List Event)) → k ≡ suc n → HasCome k flags old new
      → AreKept (associated_types_of W) (owned W) (suc n) flags
  left_at k n flags old new e (told, gone, grew) =
      subst (λ (z : ℕ). AreKept (associated_types_of W) (owned W) z flags) e (gone_left limits W gone)

  pub comes_on : (k n : ℕ) (flags left : List Bool) (old mid new : Option (List Event)) → k ≡ suc n → HasCome k flags old mid
      → (part : List Event) × MeetsFamily limits W n flags left part × GrewBy mid new part → HasCome n left old new
  comes_on k n flags left old mid new e (told, gone, grew) (part, met, more) = (
    told ++ part,
    further (subst (λ (z : ℕ). WasReduced limits W z flags told) e gone) met refl,
    grew_on old mid new told part grew more,
  )

  -- the rounds for the next requirement fail
  pub fails_on : (k n : ℕ) (flags : List Bool) (old mid new : Option (List Event)) → k ≡ suc n → HasCome k flags old mid → (failed : Failed)
      → (part : List Event) × FailsAt limits W n (without flags n) failed part × GrewBy mid new part
      → AnswersFamily limits W old new (Err failed)
  fails_on k n flags old mid new e (told, gone, grew) (Limit which trace) (part, stops, more) = (
    told ++ part,
    record {
      place = n;
      flags = flags;
      before = told;
      part = part;
      gone = subst (λ (z : ℕ). WasReduced limits W z flags told) e gone;
      stops = stops;
      told_is = refl;
    },
    grew_on old mid new told part grew more,
  )
  fails_on k n flags old mid new e (told, gone, grew) Memory (part, fails, more) = (
    told ++ part,
    record {
      place = k;
      flags = flags;
      before = told;
      gone = gone;
      part = elim fails [ inl none ↦ inl (ap (λ z. told ++ z) none ∙ append-nil told) | inr comes ↦ inr (n, part, e, comes, refl) ];
    },
    grew_on old mid new told part grew more,
  )

  -- memory runs out between two requirements
  pub wants_memory : (n : ℕ) (flags : List Bool) (old new : Option (List Event)) → HasCome n flags old new
      → AnswersFamily limits W old new (Err Memory)
  wants_memory n flags old new (told, gone, grew) =
      (told, record { place = n; flags = flags; before = told; gone = gone; part = inl refl }, grew)

  -- memory runs out before the first of them
  pub wants_at_first : (told : Option (List Event)) → AnswersFamily limits W told told (Err Memory)
  wants_at_first told =
      let count = length (all_places w) in
      wants_memory count (replicate count true) told told (comes_first count (replicate count true) told refl refl)

  -- one has gone through all
  pub answers : (flags : List Bool) (old new : Option (List Event)) → HasCome 0 flags old new → (family : Family)
      → family.kept ≡ numbers w flags
      → AnswersFamily limits W old new (Ok family)
  answers flags old new (told, gone, grew) family e = (told, (flags, gone, e ∙ sym (numbers_by w terms flags)), grew)

  -- this family is given
  pub gives : (flags : List Bool) (old new : Option (List Event)) → HasCome 0 flags old new → (family : Family)
      → family.kept ≡ numbers w flags
      → IsGivenFamily W family.kept
  gives flags old new (told, gone, grew) family e = (flags, gone_left limits W gone, e ∙ sym (numbers_by w terms flags))

  -- and it is one of requirement signatures
  pub signs : IsTextOver terms w → AreProtocolsWellFormed (facts_of W) → (flags : List Bool) (old new : Option (List Event))
      → HasCome 0 flags old new
      → (family : Family) → family.kept ≡ numbers w flags → AreRequirementSignatures W (members W family.kept)
  signs text well flags old new (told, gone, grew) family e =
      numbered_signatures W text.closed well flags family.kept (gone_left limits W gone) (e ∙ sym (numbers_by w terms flags))

-- an answer is the only one
module _ (limits : Limits) (w : TextWorld) where
  pub only : (old new : Option (List Event)) (a : Result Family Failed) → AnswersFamily limits w old new a → IsOnlyFamily limits w a
  only old new (Ok family) h other told k =
      elim (family_outcomes_are_one limits w (Ok family) other h.0 told h.1 k) [ inl e ↦ inl e.0 | inr e ↦ inr e ]
  only old new (Err (Limit which trace)) h other told k =
      elim (family_outcomes_are_one limits w (Err (Limit which trace)) other h.0 told h.1 k) [ inl e ↦ inl e.0 | inr e ↦ inr e ]
  only old new (Err Memory) h other told k = inr (inl refl)

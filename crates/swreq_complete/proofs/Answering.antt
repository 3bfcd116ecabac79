-- From what settling did to the answer of a completion.
use Rattle.std.proofs.Common.{◌≡◌, ℕ, ◌⊎◌, inl, inr, sym, ◌∙◌, ap, subst, arith, List, [], ◌∷◌, length, take, drop, map, slice_get, MatchOption, Option, Some, Ok, Err}
use Rattle.std.proofs.Math.Seq.{take-append_seam, drop-append_seam}
use Rattle.swreq_rule.specs.swreq_word.declared.symbols.Symbol.{Symbol}
use Rattle.swreq_rule.specs.swreq_word.Relations.{IsIrreducible, Linked}
use Rattle.swreq_rule.proofs.swreq_word.Chains.{linked_chain}
use Rattle.swreq_rule.specs.declared.rules.Rule.{Rule}
use Rattle.swreq_rule.specs.Steps.{Step}
use Rattle.swreq_rule.specs.Reduction.{Reduces}
use Rattle.swreq_pair.specs.CriticalPairs.{PairsMeet}
use Rattle.swreq_pair.proofs.CriticalPairs.{locally}
use Rattle.swreq_watch.specs.declared.events.Event.{Event}
use Rattle.swreq_watch.specs.declared.events.Event.TheVariants.{Start, Born}
use Rattle.swreq_watch.specs.Told.{GrewBy}
use Rattle.swreq_watch.proofs.Told.{grew_on}
use Rattle.swreq_complete.specs.declared.limit.Limits.{Limits}
use Rattle.swreq_complete.specs.declared.limit.Which.{Which}
use Rattle.swreq_complete.specs.declared.limit.Failed.{Failed}
use Rattle.swreq_complete.specs.declared.limit.Failed.TheVariants.{Limit, Memory}
use Rattle.swreq_complete.specs.Complete.{IsComplete, IsFresh}
use Rattle.swreq_rule.specs.swreq_word.Least.{EachFactor, IsLeast}
use Rattle.swreq_complete.specs.Reduced.{IsReducedOf, IsReducedSystem}
use Rattle.swreq_complete.specs.Search.{Found, IsReducedAt}
use Rattle.swreq_complete.specs.Limits.{IsWithin, Passes, EndsWithin}
use Rattle.swreq_complete.specs.Reached.{BeginsWith}
use Rattle.swreq_complete.specs.Answers.{IsAnswer}
use Rattle.swreq_complete.specs.Events.{events, TellsEvents}
use Rattle.swreq_complete.specs.Settling.{Grown}
use Rattle.swreq_complete.proofs.Ended.{pairs_meet}
use Rattle.swreq_rule.proofs.Search.{all_steps}
use Rattle.swreq_complete.proofs.Outcome.{fresh_of_reached}
use Rattle.swreq_complete.proofs.Telling.{kept_length}
use Rattle.swreq_complete.proofs.ReducedSystem.{irreducible_least, is_reduced, reduced_of}

pub over_grown : (old new : List Rule) (told told' : Option (List Event)) → Grown old new told told' → BeginsWith old new
over_grown old new told told' g = ap (take (length old)) g.new_is ∙ take-append_seam old g.more

events_grown : (old new : List Rule) (told told' told'' : Option (List Event)) → GrewBy told told' (Start (length old) ∷ [])
    → Grown old new told' told'' → GrewBy told told'' (events (length old) new)
events_grown old new told told' told'' s g =
    let e : drop (length old) new ≡ g.more = ap (drop (length old)) g.new_is ∙ drop-append_seam old g.more in
    subst (λ x. GrewBy told told'' (Start (length old) ∷ map Born x)) (sym e)
    (grew_on told told' told'' (Start (length old) ∷ []) (map Born g.more) s g.told_is)

module _ (limits : Limits) (given : List (List Symbol × List Symbol)) (base : List Rule) (told told' told'' : Option (List Event))
    (start : GrewBy told told' (Start (length base) ∷ [])) where
  pub memory_told : (t : List Rule) → IsWithin limits (length base) given t → Grown base t told' told''
      → TellsEvents limits base given told told'' (Err Memory)
  memory_told t w g = inr (t, over_grown base t told' told'' g, w, events_grown base t told told' told'' start g)

ended_complete : (base : List Rule) (given : List (List Symbol × List Symbol)) (limits : Limits) (new : List Rule)
    → IsComplete base → BeginsWith base new → EndsWithin limits (length base) given new → IsComplete new
ended_complete base given limits new c o e = record {
  meet = pairs_meet (length base) given new (subst PairsMeet (sym o) c.meet) e.ended;
  fresh = fresh_of_reached (length base) given new e.ended.reached (subst IsFresh (sym o) c.fresh);
  few = (let k = kept_length limits (length base) new e.kept in let f = c.few in let m = limits.in_range.1 in omega (arith, k, f, m));
}

-- the same along the names that the code has for the base and its length
module _ (limits : Limits) (given : List (List Symbol × List Symbol)) (base list : List Rule) (count : ℕ)
    (told told' told'' : Option (List Event))
    (new : List Rule) (same : list ≡ base) (counted : count ≡ length base) (start : GrewBy told told' (Start count ∷ [])) where
  begun : GrewBy told told' (Start (length base) ∷ [])
  begun = subst (λ n. GrewBy told told' (Start n ∷ [])) counted start

  grown : (t : List Rule) → Grown list t told' told'' → Grown base t told' told''
  grown t = subst (λ (x : List Rule). Grown x t told' told'') same

  pub ok_answer : EndsWithin limits count given new × Grown list new told' told''
      → IsAnswer limits base given (Ok new) × TellsEvents limits base given told told'' (Ok new)
      × (IsComplete list → IsComplete new)
  ok_answer d =
      let e : EndsWithin limits (length base) given new = subst (λ n. EndsWithin limits n given new) counted d.0 in
      let g = grown new d.1 in
      let o = over_grown base new told' told'' g in (
        (o, e),
        events_grown base new told told' told'' begun g,
        λ c. ended_complete base given limits new (subst IsComplete same c) o e,
      )

  pub limit_answer : (which : Which) → Passes limits count given new which × Grown list new told' told''
      → IsAnswer limits base given (Err (Limit which new)) × TellsEvents limits base given told told'' (Err (Limit which new))
  limit_answer which d =
      let e : Passes limits (length base) given new which = subst (λ n. Passes limits n given new which) counted d.0 in
      let g = grown new d.1 in
      ((over_grown base new told' told'' g, e), events_grown base new told told' told'' begun g)

  pub memory_answer : (t : List Rule) × IsWithin limits count given t × Grown list t told' told''
      → TellsEvents limits base given told told'' (Err Memory)
  memory_answer d =
      memory_told limits given base told told' told'' begun d.0 (subst (λ n. IsWithin limits n given d.0) counted d.1) (grown d.0 d.2)

  pub passed_answer : (which : Which) → Passes limits count given new which × Grown list new told' told'' → (failed : Failed)
      → (failed ≡ Limit which new) ⊎ (failed ≡ Memory)
      → IsAnswer limits base given (Err failed) × TellsEvents limits base given told told'' (Err failed)
  passed_answer which d failed (inl e) =
      subst (λ (x : Failed). IsAnswer limits base given (Err x) × TellsEvents limits base given told told'' (Err x))
      (sym e) (limit_answer which d)
  passed_answer which d failed (inr e) =
      subst (λ (x : Failed). IsAnswer limits base given (Err x) × TellsEvents limits base given told told'' (Err x)) (sym e)
      (tt, memory_answer (new, d.0.within, d.1))

-- what reduction and the search for the reduced system give over complete rules
pub reduces_least : (rules : List Rule) → IsComplete rules → (u v : List Symbol) → Reduces rules u v
    → Linked (Step rules) u v × IsLeast (Linked (Step rules)) v
reduces_least rules c u v r =
    (linked_chain (all_steps rules r.steps), irreducible_least rules (locally rules c.meet) v r.irreducible)

pub found_reduced : (rules found : List Rule) → IsComplete rules → Found rules found → IsReducedSystem (Linked (Step rules)) found
found_reduced rules found c f = is_reduced rules (locally rules c.meet) found f

pub reduced_in : (rules list : List Rule) → list ≡ rules → IsComplete rules → (k : ℕ) (o : Option Rule)
    → MatchOption o
    ((rule : Rule) → slice_get list k ≡ Some rule → EachFactor rule.left (IsIrreducible (Step list)) → ⊥) (IsReducedAt list k)
    → IsReducedOf (Linked (Step rules)) rules k o
reduced_in rules list e c k o h =
    reduced_of rules (locally rules c.meet) k o
    (subst (λ z.
    MatchOption o ((rule : Rule) → slice_get z k ≡ Some rule → EachFactor rule.left (IsIrreducible (Step z)) → ⊥) (IsReducedAt z k)) e h)

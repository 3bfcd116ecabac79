-- Watchers that are told one after the other.
use Rattle.std.proofs.Common.{◌≡◌, ℕ, ◌+◌, ◌-◌, ◌<◌, ◌≤◌, List, ◌∷◌, Option, Result, Ok, Err, OnOk, OnErr, length, map, take, drop, get_or, set, refl, sym, ◌∙◌, ap, subst, arith}
use Rattle.std.proofs.lemmas.List.{length-drop, length-map, drop_more, take_more, take_more_set, take_all, drop-set-lt, map-set, get_or-map}
use Rattle.std.proofs.lemmas.List.Elements.{AllZip-push}
use Rattle.std.proofs.Math.Seq.{map-set_same}
use Rattle.swreq_watch.specs.declared.events.Event.{Event}
use Rattle.swreq_watch.specs.Told.{GrewBy, EachGrewBy, FirstGrewBy, GrewUpToOne}

-- none was told
pub first_none : (told : List (Option (List Event))) (more : List Event) → FirstGrewBy 0 told told more
first_none told more = record { first = tt; others = refl }

-- past the watchers that were told, both lists are of the same length
others_length : (count : ℕ) (old new : List (Option (List Event))) → drop count new ≡ drop count old
    → length new - count ≡ length old - count
others_length count old new same = sym (length-drop count new) ∙ ap length same ∙ length-drop count old

pub first_more : (count : ℕ) (old new : List (Option (List Event))) (told d : Option (List Event)) (more : List Event) → FirstGrewBy count
    old new more → count < length old → GrewBy (get_or new count d) told more → FirstGrewBy (count + 1) old (set new count told) more
first_more count old new told d more so_far within_old grew =
    let within : count < length new = omega (arith, others_length count old new so_far.others) in
    let cut : get_or new count d ∷ drop (count + 1) new ≡ get_or old count d ∷ drop (count + 1) old =
    sym (drop_more new count d within) ∙ so_far.others ∙ drop_more old count d within_old in
    let head : get_or new count d ≡ get_or old count d = cc in
    let tail : drop (count + 1) new ≡ drop (count + 1) old = cc in
    record {
      first =
          rw (take_more_set new count told within)
          (rw (take_more old count d within_old)
          (AllZip-push (λ t t'. GrewBy t t' more) (take count old) (take count new) (get_or old count d) told so_far.first
          (subst (λ t. GrewBy t told more) head grew)));
      others = drop-set-lt (count + 1) new count told (omega arith) ∙ tail;
    }

within_new : {W : Type 0} → (lists : W → Option (List Event)) (count : ℕ) (old ws : List W) (more : List Event)
    → FirstGrewBy count (map lists old) (map lists ws) more → count < length old → count < length ws
within_new lists count old ws more so_far within =
    omega (arith, others_length count (map lists old) (map lists ws) so_far.others, length-map old lists, length-map ws lists)

-- one more of the values that tell such lists was told
pub first_set : {W : Type 0} → (lists : W → Option (List Event)) (count : ℕ) (old ws : List W) (was is : W) (more : List Event)
    → FirstGrewBy count (map lists old) (map lists ws) more → count < length old → was ≡ get_or ws count was
    → GrewBy (lists was) (lists is) more → FirstGrewBy (count + 1) (map lists old) (map lists (set ws count is)) more
first_set lists count old ws was is more so_far within there grew =
    let there_told : get_or (map lists ws) count (lists was) ≡ lists was =
    get_or-map lists ws count was (lists was) (within_new lists count old ws more so_far within) ∙ ap lists (sym there) in
    rw (map-set lists ws count is)
    (first_more count (map lists old) (map lists ws) (lists is) (lists was) more so_far
    (rw (length-map old lists) within) (rw there_told grew))

-- one of the values ran out of memory, and its list is as it was
pub first_kept : {W : Type 0} → (lists : W → Option (List Event)) (count : ℕ) (old ws : List W) (was is : W) (more : List Event)
    → FirstGrewBy count (map lists old) (map lists ws) more → was ≡ get_or ws count was → lists is ≡ lists was
    → FirstGrewBy count (map lists old) (map lists (set ws count is)) more
first_kept lists count old ws was is more so_far there same = rw (map-set_same lists ws count is was (same ∙ ap lists there)) so_far

-- all were told
pub first_all : (count : ℕ) (old new : List (Option (List Event))) (more : List Event) → FirstGrewBy count old new more → length old ≤ count
    → EachGrewBy old new more
first_all count old new more so_far all_old =
    let all : length new ≤ count = omega (arith, others_length count old new so_far.others) in
    subst (λ o. EachGrewBy o new more) (take_all count old all_old)
    (subst (λ n. EachGrewBy (take count old) n more) (take_all count new all) so_far.first)

-- a watcher was not told, and the answer is an error
pub stopped : {W T E : Type 0} → (lists : W → Option (List Event)) (result : Result T E) (place : ℕ) (old new : List W) (more : List Event)
    → place < length old → FirstGrewBy place (map lists old) (map lists new) more
    → OnErr result (GrewUpToOne (map lists old) (map lists new) more)
stopped lists (Ok x) place old new more within grew = tt
stopped lists (Err e) place old new more within grew = record { place = place; within = rw (length-map old lists) within; grew = grew }

-- what holds in each case holds of an answer and of an error
pub either : {T E P Q : Type 0} → (result : Result T E) → P → Q → OnOk result P × OnErr result Q
either (Ok x) p q = (p, tt)
either (Err e) p q = (tt, q)

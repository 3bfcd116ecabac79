-- Flags for the requirements of all protocols, in a list for each protocol, and the numbers of those whose flags are set.
use Rattle.std.proofs.Common.{◌≡◌, ◌∙◌, refl, sym, ap, ap₂, subst, ℕ, zero, suc, ◌≤◌, ◌+◌, ◌-◌, arith, Bool, true, false, List, [], ◌∷◌, ◌++◌, length, map, take, drop, slice_get, Some, append_assoc, length-append, length-take, length-drop}
use Rattle.std.proofs.lemmas.List.{append-nil, drop_all, length-map}
use Rattle.swreq_valid.specs.swreq_param.declared.ids.ProtoId.{ProtoId}
use Rattle.swreq_valid.specs.swreq_param.Terms.{Term}
use Rattle.swreq_valid.specs.swreq_derive.declared.requirements.Requirement.{Requirement}
use Rattle.swreq_valid.specs.swreq_derive.Derivation.{TermFacts}
use Rattle.swreq_valid.specs.swreq_symbols.Meaning.{facts_of}
use Rattle.swreq_valid.specs.swreq_world.ByTable.{world_by}
use Rattle.swreq_valid.specs.swreq_world.Closed.{AreIds}
use Rattle.swreq_valid.specs.swreq_world.Worlds.{IdWorld, TextWorld, requirements_of}
use Rattle.swreq_valid.specs.swreq_lowering.declared.ids.Written.{Written}
use Rattle.swreq_valid.specs.swreq_lowering.ByTable.{placed_by}
use Rattle.swreq_valid.specs.Flags.{chosen}
use Rattle.swreq_valid.specs.Keeping.{AreFlags}
use Rattle.swreq_valid.specs.Plans.{bare}
use Rattle.swreq_valid.proofs.swreq_symbols.OfText.{requirements_by}
use Rattle.swreq_print.proofs.swreq_lemmas.Elements.{drop_from}
use Rattle.swreq_reqsig.specs.Families.{family_of, flag_lists, in_lists, members, members_in, numbered, numbers, numbers_from, own, owned_in}
use Rattle.swreq_reqsig.specs.Places.{all_places, places_from, places_in}
use Rattle.swreq_reqsig.proofs.OfWorld.{chosen_first, lists_count}

-- ---- list by list

pub one_list : (w : IdWorld) (ps : List ProtoId) (k count : ℕ) (p : ProtoId) (list : List Requirement) (rest mine further : List Bool)
    (old new whole : List (List Bool))
    → slice_get ps k ≡ Some p → list ≡ bare (requirements_of w p) → count ≡ length list → mine ≡ take count rest → further ≡ drop count rest
    → new ≡ old ++ mine ∷ [] → old ++ in_lists w (drop k ps) rest ≡ whole → new ++ in_lists w (drop (k + 1) ps) further ≡ whole
one_list w ps k count p list rest mine further old new whole e b c m n f h =
    let many : count ≡ length (requirements_of w p) = c ∙ ap length b ∙ length-map (requirements_of w p) (λ (r : Written). r.requirement) in
    ap (λ z. z ++ in_lists w (drop (k + 1) ps) further) f
    ∙ append_assoc old (mine ∷ []) (in_lists w (drop (k + 1) ps) further)
    ∙ ap₂ (λ y z. old ++ (y ∷ in_lists w (drop (k + 1) ps) z)) m n
    ∙ ap (λ (z : ℕ). old ++ (take z rest ∷ in_lists w (drop (k + 1) ps) (drop z rest))) many
    ∙ ap (λ z. old ++ in_lists w z rest) (sym (drop_from ps k p e))
    ∙ h

pub lists_done : (w : IdWorld) (ps : List ProtoId) (k : ℕ) (rest : List Bool) (all whole : List (List Bool)) → length ps ≤ k
    → all ++ in_lists w (drop k ps) rest ≡ whole
    → all ≡ whole
lists_done w ps k rest all whole l h = sym (append-nil all) ∙ ap (λ z. all ++ in_lists w z rest) (sym (drop_all k ps l)) ∙ h

-- ---- there is a flag for each requirement

from_count : (p : ProtoId) (n : ℕ) (rs : List Requirement) → length (places_from p n rs) ≡ length rs
from_count p n [] = refl
from_count p n (r ∷ rs) = ap suc (from_count p (suc n) rs)

module _ (w : IdWorld) where
  first_count : (p : ProtoId) (ps : List ProtoId) → length (places_in w (p ∷ ps)) ≡ length (requirements_of w p) + length (places_in w ps)
  first_count p ps =
      length-append (places_from p 1 (bare (requirements_of w p))) (places_in w ps)
      ∙ ap (λ (n : ℕ). n + length (places_in w ps))
      (from_count p 1 (bare (requirements_of w p)) ∙ length-map (requirements_of w p) (λ (r : Written). r.requirement))

  flags_each : (ps : List ProtoId) (flags : List Bool) → length flags ≡ length (places_in w ps)
      → (k : ℕ) (p : ProtoId) (own_flags : List Bool)
      → slice_get ps k ≡ Some p → slice_get (in_lists w ps flags) k ≡ Some own_flags → length own_flags ≡ length (requirements_of w p)
  flags_each [] flags n k p own_flags e h = absurd cc
  flags_each (q ∷ ps) flags n zero p own_flags e h =
      let same : q ≡ p = cc in
      let mine : take (length (requirements_of w q)) flags ≡ own_flags = cc in
      let c = first_count q ps in
      let t = length-take (length (requirements_of w q)) flags in
      ap length (sym mine)
      ∙ (let g : length (take (length (requirements_of w q)) flags) ≡ length (requirements_of w q) = omega (arith, t, c, n) in g)
      ∙ ap (λ (z : ProtoId). length (requirements_of w z)) same
  flags_each (q ∷ ps) flags n (suc k) p own_flags e h =
      let c = first_count q ps in
      let d = length-drop (length (requirements_of w q)) flags in
      flags_each ps (drop (length (requirements_of w q)) flags) (omega (arith, c, d, n)) k p own_flags e h

  pub flags_are : (flags : List Bool) (lists : List (List Bool)) → length flags ≡ length (all_places w) → lists ≡ flag_lists w flags
      → AreFlags w lists
  flags_are flags lists n e = subst (AreFlags w) (sym e) (record {
    protocols = lists_count w w.lexicon.written_order flags;
    requirements = λ k p own_flags i h. flags_each w.lexicon.written_order flags n k p own_flags i h;
  })

  -- ---- over type parameters the lists are the same

  lists_by : (terms : List Term) (ps : List ProtoId) (flags : List Bool) → in_lists (world_by terms w) ps flags ≡ in_lists w ps flags
  lists_by terms [] flags = refl
  lists_by terms (p ∷ ps) flags =
      let n : length (requirements_of (world_by terms w) p) ≡ length (requirements_of w p) =
      ap length (requirements_by w terms p) ∙ length-map (requirements_of w p) (placed_by terms) in
      ap (λ (z : ℕ). take z flags ∷ in_lists (world_by terms w) ps (drop z flags)) n
      ∙ ap (λ z. take (length (requirements_of w p)) flags ∷ z) (lists_by terms ps (drop (length (requirements_of w p)) flags))

  pub flag_lists_by : (terms : List Term) (flags : List Bool) → flag_lists (world_by terms w) flags ≡ flag_lists w flags
  flag_lists_by terms flags = lists_by terms w.lexicon.written_order flags

  pub numbers_by : (terms : List Term) (flags : List Bool) → numbers (world_by terms w) flags ≡ numbers w flags
  numbers_by terms flags = ap (map (numbers_from 1)) (flag_lists_by terms flags)

  -- a list of numbers for each protocol
  pub numbers_count : (flags : List Bool) → AreIds w.lexicon → length (numbers w flags) ≡ length w.lexicon.protocols
  numbers_count flags ids = length-map (flag_lists w flags) (numbers_from 1) ∙ lists_count w w.lexicon.written_order flags ∙ ids.each_once

-- ---- those with the numbers are those whose flags are set

module _ {A : Type 0} where
  drop_past : (xs ys : List A) → drop (length xs) (xs ++ ys) ≡ ys
  drop_past [] ys = refl
  drop_past (x ∷ xs) ys = drop_past xs ys

  numbered_beyond : (xs : List A) (n : ℕ) (flags : List Bool) → length xs ≤ n → numbered xs (numbers_from (suc n) flags) ≡ []
  numbered_beyond xs n [] l = refl
  numbered_beyond xs n (true ∷ flags) l =
      let z : suc n - 1 ≡ n = omega arith in
      ap (λ (i : ℕ). take 1 (drop i xs) ++ numbered xs (numbers_from (suc (suc n)) flags)) z
      ∙ ap (λ d. take 1 d ++ numbered xs (numbers_from (suc (suc n)) flags)) (drop_all n xs l)
      ∙ numbered_beyond xs (suc n) flags (omega (arith, l))
  numbered_beyond xs n (false ∷ flags) l = numbered_beyond xs (suc n) flags (omega (arith, l))

  numbered_from : (front xs : List A) (n : ℕ) (flags : List Bool) → n ≡ length front
      → numbered (front ++ xs) (numbers_from (suc n) flags) ≡ chosen xs flags
  numbered_from front [] n [] e = refl
  numbered_from front (x ∷ xs) n [] e = refl
  numbered_from front [] n (b ∷ flags) e =
      numbered_beyond (front ++ []) n (b ∷ flags) (let l = ap length (append-nil front) in omega (arith, l, e))
  numbered_from front (x ∷ xs) n (true ∷ flags) e =
      let z : suc n - 1 ≡ length front = omega (arith, e) in
      let more = numbered_from (front ++ x ∷ []) xs (suc n) flags (let l = length-append front (x ∷ []) in omega (arith, l, e)) in
      ap (λ (i : ℕ). take 1 (drop i (front ++ (x ∷ xs))) ++ numbered (front ++ (x ∷ xs)) (numbers_from (suc (suc n)) flags)) z
      ∙ ap (λ d. take 1 d ++ numbered (front ++ (x ∷ xs)) (numbers_from (suc (suc n)) flags)) (drop_past front (x ∷ xs))
      ∙ ap (λ d. x ∷ numbered d (numbers_from (suc (suc n)) flags)) (sym (append_assoc front (x ∷ []) xs))
      ∙ ap (λ d. x ∷ d) more
  numbered_from front (x ∷ xs) n (false ∷ flags) e =
      ap (λ d. numbered d (numbers_from (suc (suc n)) flags)) (sym (append_assoc front (x ∷ []) xs))
      ∙ numbered_from (front ++ x ∷ []) xs (suc n) flags (let l = length-append front (x ∷ []) in omega (arith, l, e))

  pub numbered_chosen : (xs : List A) (flags : List Bool) → numbered xs (numbers_from 1 flags) ≡ chosen xs flags
  numbered_chosen xs flags = numbered_from [] xs 0 flags refl

module _ (w : TextWorld) where
  members_are : (ps : List ProtoId) (flags : List Bool)
      → members_in w ps (map (numbers_from 1) (in_lists w ps flags)) ≡ chosen (owned_in w ps) flags
  members_are [] flags = refl
  members_are (p ∷ ps) flags =
      let f : TermFacts = facts_of w in
      let mine = take (length (requirements_of w p)) flags in
      ap₂ (λ a b. map (own p) a ++ b) (numbered_chosen (f.of_protocol p) mine) (members_are ps (drop (length (requirements_of w p)) flags))
      ∙ sym (chosen_first w p ps flags)

  pub members_by_numbers : (flags : List Bool) → members w (numbers w flags) ≡ family_of w flags
  members_by_numbers flags = members_are w.lexicon.written_order flags

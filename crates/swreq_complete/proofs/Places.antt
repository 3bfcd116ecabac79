-- What the first symbols of a word tell of its places, as they are searched and a step is taken.
use Rattle.std.proofs.Common.{◌≡◌, inl, inr, ℕ, ◌<◌, ◌≤◌, List, [], ◌∷◌, ◌++◌, length, length-take, take, refl, sym, ◌∙◌, ap, subst, arith, Some}
use Rattle.std.specs.List.{slice_get}
use Rattle.std.proofs.lemmas.List.{take-append-le}
use Rattle.std.proofs.lemmas.Option.{slice_get_within}
use Rattle.swreq_rule.proofs.swreq_lemmas.Elements.{get_cases, in_whole, there_is}
use Rattle.swreq_rule.specs.swreq_word.declared.symbols.Symbol.{Symbol}
use Rattle.swreq_rule.proofs.swreq_word.Cuts.{cut_rest}
use Rattle.swreq_rule.specs.declared.rules.Rule.{Rule}
use Rattle.swreq_rule.specs.Reduction.{NoneBegins, NoneEarlier, FirstRedex, ReductionStep}
use Rattle.swreq_rule.proofs.Remaining.{same_place}
use Rattle.swreq_trie.proofs.Ways.{fewer}
use Rattle.swreq_complete.specs.Reading.{TellNone, AreRead}

-- none is read at first
pub read_none : (rules : List Rule) (w : List Symbol) (counts : List ℕ) → counts ≡ [] → AreRead rules w counts
read_none rules w counts e = rw e (record { tell = λ at count g. (cc); rising = λ a b m n l g h. (cc) })

-- more symbols tell as much
pub tell_more : (rules : List Rule) (w : List Symbol) (at n m : ℕ) → n ≤ m → TellNone rules w at n → TellNone rules w at m
tell_more rules w at n m le tell v e = tell v (fewer w v n m le e)

pub read_more : (rules : List Rule) (w : List Symbol) (counts more : List ℕ) (next : ℕ) → AreRead rules w counts
    → TellNone rules w (length counts) next
    → ((k n : ℕ) → slice_get counts k ≡ Some n → n ≤ next) → more ≡ counts ++ next ∷ [] → AreRead rules w more
read_more rules w counts more next read tell most e = rw e (record {
  tell = λ at count g. elim (get_cases counts next at count g) [
    | inl h ↦ read.tell at count h
    | inr h ↦ subst (λ k. TellNone rules w k count) (sym h.0) (subst (TellNone rules w (length counts)) (sym h.1) tell)
  ];
  rising = λ a b m n l g h. elim (get_cases counts next b n h) [
    | inl i ↦ (let within = slice_get_within counts b n i in elim (get_cases counts next a m g) [
      | inl j ↦ read.rising a b m n l j i
      | inr j ↦ (let p = j.0 in absurd (omega (arith, p, l, within)))
    ])
    | inr i ↦ (let p = i.1 in elim (get_cases counts next a m g) [
      | inl j ↦ (let q = most a m j in omega (arith, p, q))
      | inr j ↦ (let q = j.1 in omega (arith, p, q))
    ])
  ];
})

-- so no left side begins before the first place that is not read
pub none_read : (rules : List Rule) (w : List Symbol) (counts : List ℕ) → AreRead rules w counts → NoneEarlier rules w (length counts)
none_read rules w counts read before rest e l =
    let c = there_is counts (length before) l in
    subst (NoneBegins rules) (cut_rest w before rest e) (read.tell (length before) c.0 c.1 w refl)

-- the counts up to `kept`, which are within the place
pub kept_counts : (old new : List ℕ) (kept at : ℕ) → new ≡ take kept old → ((k n : ℕ) → k < kept → slice_get old k ≡ Some n → n ≤ at)
    → (k n : ℕ) → slice_get new k ≡ Some n → (slice_get old k ≡ Some n) × (n ≤ at)
kept_counts old new kept at e within k n g =
    let h = subst (λ xs. slice_get xs k ≡ Some n) e g in
    let whole = in_whole old kept k n h in
    let l = simp length-take at (slice_get_within (take kept old) k n h) in
    (whole, within k n (omega (arith, l)) whole)

-- After a step what was told by symbols before its place stays told.
pub read_after : (rules : List Rule) (u v : List Symbol) (at number : ℕ) (old new : List ℕ) → FirstRedex rules u at number
    → ReductionStep rules u v
    → AreRead rules u old → ((k n : ℕ) → slice_get new k ≡ Some n → slice_get old k ≡ Some n)
    → ((k n : ℕ) → slice_get new k ≡ Some n → n ≤ at)
    → AreRead rules v new
read_after rules u v at number old new redex step read kept within = record {
  tell = λ k n g w e. (let le = within k n g in
      let place = step.redex.at_is ∙ same_place rules u step.at at step.number number step.redex redex in
      let before : take n v ≡ take n u = ap (take n) step.target
      ∙ take-append-le n step.redex.before (step.redex.chosen.rule.right ++ step.redex.chosen.begins.0) (omega (arith, le, place))
      ∙ sym (ap (take n) step.redex.cut ∙ take-append-le n step.redex.before step.redex.rest (omega (arith, le, place))) in
      read.tell k n (kept k n g) w (e ∙ before));
  rising = λ a b m n l g h. read.rising a b m n l (kept a m g) (kept b n h);
}

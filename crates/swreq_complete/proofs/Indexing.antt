-- The trie's search is the list's.
use Rattle.std.proofs.Common.{◌≡◌, ℕ, suc, ◌+◌, ◌-◌, ◌<◌, ◌≤◌, ◌⊎◌, inl, inr, refl, sym, ◌∙◌, ap, subst, arith, List, [], ◌∷◌, ◌++◌, length, length-append, length-take, get_or, take, drop, take-append-drop, Option, Some, None, MatchOption}
use Rattle.std.specs.List.{slice_get}
use Rattle.std.proofs.lemmas.Bool.{cases_lt}
use Rattle.std.proofs.lemmas.Option.{slice_get_within, slice_get_read}
use Rattle.swreq_rule.specs.swreq_word.declared.symbols.Symbol.{Symbol}
use Rattle.swreq_rule.specs.swreq_word.Relations.{IsIrreducible}
use Rattle.swreq_rule.proofs.swreq_word.Cuts.{cut_rest}
use Rattle.swreq_rule.proofs.swreq_word.Comparing.{greater_some}
use Rattle.swreq_rule.proofs.swreq_lemmas.Elements.{get_last, get_left, get_cases, there_is}
use Rattle.swreq_rule.specs.declared.rules.Rule.{Rule}
use Rattle.swreq_rule.specs.Steps.{RuleAt, Step}
use Rattle.swreq_rule.proofs.Numbers.{number_some}
use Rattle.swreq_rule.specs.Reduction.{NoneBegins, Chosen, NoneEarlier, FirstRedex}
use Rattle.swreq_rule.specs.Search.{NoneLonger}
use Rattle.swreq_trie.specs.declared.trie.Entry.{Entry}
use Rattle.swreq_trie.specs.Stored as sides
use Rattle.swreq_complete.specs.Index.{IsIndexAfter, IsIndexOf}

pub index_of_none : (before : ℕ) → IsIndexAfter before [] []
index_of_none before = record { as_many = refl; each = λ k rule e. cc }

pub index_of_more : (before : ℕ) (stored more : List Entry) (rules : List Rule) (rule : Rule) → IsIndexAfter before stored rules
    → more ≡ stored ++ (record { left = rule.left; number = suc (before + length rules) }) ∷ []
    → IsIndexAfter before more (rules ++ rule ∷ [])
index_of_more before stored more rules rule index e = subst (λ x. IsIndexAfter before x (rules ++ rule ∷ [])) (sym e) (record {
  as_many = simp length-append (let n = index.as_many in omega (arith, n));
  each = λ k r g. elim (get_cases rules rule k r g) [
    | inl h ↦ get_left stored _ k _ (index.each k r h)
    | inr h ↦ rw (h.1, h.0, ← index.as_many) (get_last stored (record { left = rule.left; number = suc (before + length stored) }))
  ];
})

module _ (stored : List Entry) (rules : List Rule) (index : IsIndexOf stored rules) where
  -- each stored side is that of a rule
  pub of_rule : (k : ℕ) (entry : Entry) → slice_get stored k ≡ Some entry
      → (rule : Rule) × (slice_get rules k ≡ Some rule) × (entry ≡ record { left = rule.left; number = suc k })
  of_rule k entry e =
      let l = slice_get_within stored k entry e in
      let n = index.as_many in
      let r = there_is rules k (omega (arith, l, n)) in
      let f = index.each k r.0 r.1 in
      (r.0, r.1, cc)

  pub none_longer : (n : ℕ) → sides.NoneLonger stored n → NoneLonger rules n
  none_longer n h k rule e = h k (record { left = rule.left; number = suc k }) (index.each k rule e)

  module _ (w : List Symbol) where
    pub none_same : sides.NoneBegins stored w → NoneBegins rules w
    none_same none k rule e b = none k (record { left = rule.left; number = suc k }) (index.each k rule e) b

    pub chosen_same : (n : ℕ) → sides.Shortest stored w n → Chosen rules w n
    chosen_same n p =
        let r = of_rule p.side p.entry p.is_entry in
        let left : p.entry.left ≡ r.0.left = ap (λ (x : Entry). x.left) r.2 in
        let number : n ≡ suc p.side = sym p.number_is ∙ ap (λ (x : Entry). x.number) r.2 in
        record {
          rule = r.0;
          is_rule = (p.side, number, r.1);
          begins = (p.begins.0, p.begins.1 ∙ ap (λ x. x ++ p.begins.0) left);
          least = λ k other e b.
              let h : (length r.0.left < length other.left) ⊎ ((length r.0.left ≡ length other.left) × (p.side ≤ e.0)) =
              subst (λ x. (length x < length other.left) ⊎ ((length x ≡ length other.left) × (p.side ≤ e.0))) left
              (p.least e.0 (record { left = other.left; number = suc e.0 }) (index.each e.0 other e.2) b) in
              elim h [ inl x ↦ inl x | inr x ↦ inr (x.0, (let y = x.1 in let f = e.1 in omega (arith, y, f, number))) ];
        }

module _ (rules : List Rule) (w : List Symbol) (at : ℕ) (earlier : NoneEarlier rules w at) where
  -- the first redex, where one begins there
  pub redex_there : (n : ℕ) → at ≤ length w → Chosen rules (drop at w) n → FirstRedex rules w at n
  redex_there n within p = record {
    before = take at w;
    rest = drop at w;
    cut = sym (take-append-drop at w);
    at_is = rw length-take (omega (arith, within));
    earliest = earlier;
    chosen = p;
  }

  -- and where none does
  pub none_later : NoneBegins rules (drop at w) → NoneEarlier rules w (at + 1)
  none_later none before rest e l = elim (cases_lt (length before) at) [
    | inl m ↦ earlier before rest e m
    | inr m ↦ (let n : length before ≡ at = omega (arith, l, m) in
        subst (NoneBegins rules) (cut_rest w before rest e) (subst (λ k. NoneBegins rules (drop k w)) (sym n) none))
  ]

  -- no left side begins where the word ends
  pub none_in_word : length w ≤ at → IsIrreducible (Step rules) w
  none_in_word le v s =
      let some = greater_some s.rule.right s.rule.left s.rule.down in
      let size = simp length-append at (ap length s.at.source) in
      earlier s.at.before (s.rule.left ++ s.at.after) s.at.source
      (omega (arith, some, size, le)) s.is_rule.0 s.rule s.is_rule.2 (s.at.after, refl)

-- the rule of a first redex, as it is read
pub rule_of_redex : (rules : List Rule) (w : List Symbol) (at n : ℕ) (r : Rule) → FirstRedex rules w at n
    → slice_get rules (n - 1) ≡ Some r → RuleAt rules n r
rule_of_redex rules w at n r p e = let some = number_some rules n p.chosen.rule p.chosen.is_rule in (n - 1, omega (arith, some), e)

-- the rule that was put last, as it is read
pub read_last : (old new all : List Rule) (rule r : Rule) (count : ℕ) → new ≡ old ++ rule ∷ [] → all ≡ new → count ≡ length old
    → r ≡ get_or all count r → r ≡ rule
read_last old new all rule r count e f c g =
    let m = simp length-append at (ap length e) in
    let n = ap length f in
    let h : slice_get all count ≡ Some r = slice_get_read all (length all) count r refl (omega (arith, m, n, c)) g in
    let i : slice_get (old ++ rule ∷ []) (length old) ≡ Some r =
    subst (λ k. slice_get (old ++ rule ∷ []) k ≡ Some r) c (subst (λ (x : List Rule). slice_get x count ≡ Some r) (f ∙ e) h) in
    let j = get_last old rule in
    cc

last_back : (old new : List Rule) (x y : Rule) → old ++ x ∷ [] ≡ new ++ y ∷ [] → new ≡ old
last_back [] [] x y e = refl
last_back [] (b ∷ new) x y e = absurd (let n = simp length-append at (ap length e) in omega (arith, n))
last_back (a ∷ old) [] x y e = absurd (let n = simp length-append at (ap length e) in omega (arith, n))
last_back (a ∷ old) (b ∷ new) x y e = let f = last_back old new x y (cc) in cc

-- what is left where the last rule is taken away again
pub taken_back : (o : Option Rule) (old now new : List Rule) (rule : Rule) → now ≡ old ++ rule ∷ []
    → MatchOption o ((now ≡ []) × (new ≡ [])) (λ r. now ≡ new ++ r ∷ []) → new ≡ old
taken_back None old now new rule e h = absurd (let n = simp length-append at (ap length (sym e ∙ h.0)) in omega (arith, n))
taken_back (Some r) old now new rule e h = last_back old new rule r (sym e ∙ h)

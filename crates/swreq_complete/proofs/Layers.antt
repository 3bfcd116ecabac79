-- Rules in two parts, and the tries of their left sides.
use Rattle.std.proofs.Common.{◌≡◌, ◌⊎◌, inl, inr, ℕ, suc, ◌+◌, ◌<◌, ◌≤◌, List, ◌++◌, length, length-append, slice_get, drop, max, Some, sym, ap, subst, ◌∙◌, arith}
use Rattle.std.proofs.lemmas.Bool.{cases_lt}
use Rattle.std.proofs.lemmas.Option.{slice_get_within}
use Rattle.std.proofs.lemmas.Result.{MatchResult-weaker}
use Rattle.std.specs.Prelude.{Result, MatchResult}
use Rattle.swreq_rule.proofs.swreq_lemmas.Elements.{get_left, get_after, get_either}
use Rattle.swreq_rule.specs.swreq_word.declared.symbols.Symbol.{Symbol}
use Rattle.swreq_rule.specs.declared.rules.Rule.{Rule}
use Rattle.swreq_rule.specs.Reduction.{Chosen}
use Rattle.swreq_rule.specs.Reduction as left_sides
use Rattle.swreq_rule.specs.Search as searches
use Rattle.swreq_rule.specs.Steps.{RuleAt}
use Rattle.swreq_trie.specs.declared.trie.Entry.{Entry}
use Rattle.swreq_trie.specs.Stored.{Begins, NoneBegins, NoneLonger, Shortest}
use Rattle.swreq_trie.specs.Stored as sides
use Rattle.swreq_trie.proofs.Ways.{fewer}
use Rattle.swreq_complete.specs.Index.{IsIndexAfter, IsIndexOf}
use Rattle.swreq_complete.specs.Reading.{TellNone}
use Rattle.swreq_complete.proofs.Indexing.{of_rule, chosen_same, none_same}

pub first_index : (before : ℕ) (stored : List Entry) (rules : List Rule) → before ≡ 0 → IsIndexAfter before stored rules
    → IsIndexOf stored rules
first_index before stored rules e index = record {
  as_many = index.as_many;
  each = λ k rule f. index.each k rule f ∙ ap (λ n. Some (record { left = rule.left; number = suc n })) (omega (arith, e));
}

pub index_joined : (below own : List Entry) (lower upper : List Rule) (before : ℕ) → before ≡ length lower → IsIndexOf below lower
    → IsIndexAfter before own upper
    → IsIndexOf (below ++ own) (lower ++ upper)
index_joined below own lower upper before e a b = record {
  as_many = simp length-append (let n = a.as_many in let m = b.as_many in omega (arith, n, m));
  each = λ k rule f. elim (get_either lower upper k rule f) [
    | inl h ↦ get_left below own k _ (a.each k rule h)
    | inr h ↦ (let g = h.1 in let n = a.as_many in
        let place : k ≡ length below + h.0 = omega (arith, g, n) in
        let number : before + h.0 ≡ k = omega (arith, g, e) in
        ap (slice_get (below ++ own)) place ∙ get_after below own h.0 ∙ b.each h.0 rule h.2
        ∙ ap (λ i. Some (record { left = rule.left; number = suc i })) number)
  ];
}

-- ---- which left side begins a word

module _ (below own : List Entry) (w : List Symbol) where
  none_of_both : NoneBegins below w → NoneBegins own w → NoneBegins (below ++ own) w
  none_of_both a b k entry e s = elim (get_either below own k entry e) [ inl h ↦ a k entry h s | inr h ↦ b h.0 entry h.2 s ]

  shortest_below : (n : ℕ) (p : Shortest below w n)
      → ((k : ℕ) (other : Entry) → slice_get own k ≡ Some other → Begins other w → length p.entry.left ≤ length other.left)
      → Shortest (below ++ own) w n
  shortest_below n p least = record {
    side = p.side;
    entry = p.entry;
    is_entry = get_left below own p.side p.entry p.is_entry;
    number_is = p.number_is;
    begins = p.begins;
    least = λ k other e b. elim (get_either below own k other e) [
      | inl h ↦ p.least k other h b
      | inr h ↦ (let l = least h.0 other h.2 b in let within = slice_get_within below p.side p.entry p.is_entry in let place = h.1 in
          elim (cases_lt (length p.entry.left) (length other.left)) [
            | inl x ↦ inl x
            | inr x ↦ inr (omega (arith, l, x), omega (arith, within, place))
          ])
    ];
  }

  shortest_own : (n : ℕ) (p : Shortest own w n)
      → ((k : ℕ) (other : Entry) → slice_get below k ≡ Some other → Begins other w → length p.entry.left < length other.left)
      → Shortest (below ++ own) w n
  shortest_own n p least = record {
    side = length below + p.side;
    entry = p.entry;
    is_entry = get_after below own p.side ∙ p.is_entry;
    number_is = p.number_is;
    begins = p.begins;
    least = λ k other e b. elim (get_either below own k other e) [
      | inl h ↦ inl (least k other h b)
      | inr h ↦ elim (p.least h.0 other h.2 b) [ inl x ↦ inl x | inr x ↦ inr (x.0, (let y = x.1 in let f = h.1 in omega (arith, y, f))) ]
    ];
  }

  module _ (rules : List Rule) (index : IsIndexOf (below ++ own) rules) where
    pub neither : NoneBegins below w → NoneBegins own w → left_sides.NoneBegins rules w
    neither a b = none_same (below ++ own) rules index w (none_of_both a b)

    pub below_alone : (n : ℕ) → Shortest below w n → NoneBegins own w → Chosen rules w n
    below_alone n p none = chosen_same (below ++ own) rules index w n (shortest_below n p (λ k other e b. absurd (none k other e b)))

    pub own_alone : (n : ℕ) → NoneBegins below w → Shortest own w n → Chosen rules w n
    own_alone n none p = chosen_same (below ++ own) rules index w n (shortest_own n p (λ k other e b. absurd (none k other e b)))

    -- a stored side is that of the rule with its number
    entry_rule : (k : ℕ) (entry : Entry) (n : ℕ) → slice_get (below ++ own) k ≡ Some entry → entry.number ≡ n
        → (r : Rule) × RuleAt rules n r × (entry.left ≡ r.left)
    entry_rule k entry n e is =
        let o = of_rule (below ++ own) rules index k entry e in
        let number : n ≡ suc k = sym is ∙ ap (λ (x : Entry). x.number) o.2 in
        (o.0, (k, number, o.1), ap (λ (x : Entry). x.left) o.2)

    pub below_rule : (n : ℕ) (p : Shortest below w n) → (r : Rule) × RuleAt rules n r × (p.entry.left ≡ r.left)
    below_rule n p = entry_rule p.side p.entry n (get_left below own p.side p.entry p.is_entry) p.number_is

    pub own_rule : (n : ℕ) (p : Shortest own w n) → (r : Rule) × RuleAt rules n r × (p.entry.left ≡ r.left)
    own_rule n p = entry_rule (length below + p.side) p.entry n (get_after below own p.side ∙ p.is_entry) p.number_is

    pub of_both : (first second n : ℕ) (p : Shortest below w first) (q : Shortest own w second)
        → ((a b : Rule) → RuleAt rules first a → RuleAt rules second b
        → ((length b.left < length a.left) × (n ≡ second)) ⊎ ((length a.left ≤ length b.left) × (n ≡ first))) → Chosen rules w n
    of_both first second n p q shorter =
        let a = below_rule first p in
        let b = own_rule second q in
        let long = ap length a.2 in
        let short = ap length b.2 in
        elim (shorter a.0 b.0 a.1 b.1) [
          | inl h ↦ (let l = h.0 in
              subst (Chosen rules w) (sym h.1) (chosen_same (below ++ own) rules index w second (shortest_own second q
              (λ k other e begins. elim (p.least k other e begins) [
                | inl x ↦ omega (arith, l, long, short, x)
                | inr x ↦ (let y = x.0 in omega (arith, l, long, short, y))
              ]))))
          | inr h ↦ (let l = h.0 in
              subst (Chosen rules w) (sym h.1) (chosen_same (below ++ own) rules index w first (shortest_below first p
              (λ k other e begins. elim (q.least k other e begins) [
                | inl x ↦ omega (arith, l, long, short, x)
                | inr x ↦ (let y = x.0 in omega (arith, l, long, short, y))
              ]))))
        ]

-- ---- the longest left side

pub longest_of_both : (lower upper : List Rule) (a b : ℕ) → searches.NoneLonger lower a → searches.NoneLonger upper b
    → searches.NoneLonger (lower ++ upper) (max b a)
longest_of_both lower upper a b h g k rule e = elim (get_either lower upper k rule e) [
  | inl f ↦ (let l = h k rule f in omega (arith, l))
  | inr f ↦ (let l = g f.0 rule f.2 in omega (arith, l))
]

pub longer_after : (before : ℕ) (stored : List Entry) (rules : List Rule) → IsIndexAfter before stored rules → (n : ℕ) → NoneLonger stored n
    → searches.NoneLonger rules n
longer_after before stored rules index n h k rule e = h k (record { left = rule.left; number = suc (before + k) }) (index.each k rule e)

-- what tells that none of either part begins
pub both_tell : (below own : List Entry) (rules : List Rule) → IsIndexOf (below ++ own) rules → (w : List Symbol) (at first second next : ℕ)
    → first ≤ next → second ≤ next
    → sides.TellNone below w at first → sides.TellNone own w at second → TellNone rules w at next
both_tell below own rules index w at first second next l m a b v e =
    neither below own (drop at v) rules index (a v (fewer w v first next l e)) (b v (fewer w v second next m e))

-- ---- where none are borrowed

module _ (stored : List Entry) (rules : List Rule) (index : IsIndexOf stored rules) (w : List Symbol) (at : ℕ) where
  pub alone_found : (found : Result ℕ ℕ) → MatchResult found (Shortest stored (drop at w)) (sides.TellNone stored w at)
      → MatchResult found (Chosen rules (drop at w)) (TellNone rules w at)
  alone_found found m =
      MatchResult-weaker found m (chosen_same stored rules index (drop at w))
      (λ count tell v e. none_same stored rules index (drop at v) (tell v e))

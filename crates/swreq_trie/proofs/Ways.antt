-- A symbol more on the way of a word.
use Rattle.std.proofs.Common.{◌≡◌, ◌⊎◌, inl, inr, ℕ, ◌+◌, ◌<◌, ◌≤◌, List, [], ◌∷◌, ◌++◌, length, length-append, length-take, take, drop, take-append-drop, append-nil, get_or, min, refl, sym, ◌∙◌, ap, subst, arith, Option}
use Rattle.std.proofs.Math.Seq.{take-length}
use Rattle.std.proofs.lemmas.Bool.{cases_lt}
use Rattle.std.proofs.lemmas.List.{take_more, take-append-le, take-take, take_all, get_or-take}
use Rattle.swreq_rule.specs.swreq_word.declared.symbols.Symbol.{Symbol}
use Rattle.swreq_rule.proofs.swreq_word.Cuts.{same_cut}
use Rattle.swreq_trie.specs.declared.edges.Edge.{Edge}
use Rattle.swreq_trie.specs.Paths.{IsChild, NoChild, IsForked, Leads}
use Rattle.swreq_trie.specs.Marks.{EndsAt, Holds}
use Rattle.swreq_trie.specs.Walk.{NoEndUpTo, NoEnd, FirstEnd, IsMet, AreMetUpTo, AreMet}
use Rattle.swreq_trie.specs.declared.walk.Met.{Met}
use Rattle.swreq_trie.proofs.Marks.{holds_last, holds_more, holds_one_more}
use Rattle.swreq_trie.proofs.Paths.{leads_one_more, leads_cut, one_end}

-- a front of a word is its first symbols
pub front_is : (w front rest : List Symbol) (n : ℕ) → w ≡ front ++ rest → length front ≡ n → front ≡ take n w
front_is w front rest n e l =
    let size = simp length-append at (ap length e) in
    (same_cut front rest (take n w) (drop n w) (sym e ∙ sym (take-append-drop n w)) (l ∙ sym (rw length-take (omega (arith, size, l))))).0

-- one symbol further
pub one_further : (edges : List Edge) (w : List Symbol) (n node : ℕ) → Leads edges 0 (take n w) node → (d : Symbol)
    → n < length w → (child : ℕ)
    → IsChild edges node (get_or w n d) child → Leads edges 0 (take (n + 1) w) child
one_further edges w n node walked d l child c =
    subst (λ x. Leads edges 0 x child) (sym (take_more w n d l)) (leads_one_more edges (take n w) (get_or w n d) 0 node child walked c)

module _ (edges : List Edge) (ends : List (Option ℕ)) (w : List Symbol) where
  pub none_yet : NoEndUpTo edges ends w 0
  none_yet front rest node number e l m p h = omega (arith, l, m)

  module _ (n node : ℕ) (walked : Leads edges 0 (take n w) node) (none : NoEndUpTo edges ends w n) (d : Symbol) (l : n < length w) where
    -- where no edge leads on
    pub way_ends : IsForked edges → NoChild edges node (get_or w n d) → NoEnd edges ends w
    way_ends f stop front rest end number e some short p h = elim (cases_lt n (length front)) [
      | inr m ↦ none front rest end number e some m p h
      | inl m ↦ (let first : take (n + 1) front ≡ take (n + 1) w =
          sym (ap (take (n + 1)) e ∙ take-append-le (n + 1) front rest (omega (arith, m))) in
          let r = leads_cut edges (take (n + 1) front) (drop (n + 1) front) 0 end
          (subst (λ x. Leads edges 0 x end) (sym (take-append-drop (n + 1) front)) p) in
          let t = leads_cut edges (take n w) (get_or w n d ∷ []) 0 r.0 (subst (λ x. Leads edges 0 x r.0) (first ∙ take_more w n d l) r.1) in
          let same : t.0 ≡ node = one_end edges f (take n w) 0 t.0 node t.1 walked in
          stop t.2.0 (subst (λ x. IsChild edges x (get_or w n d) t.2.0) same t.2.1))
    ]

    module _ (child : ℕ) (c : IsChild edges node (get_or w n d) child) where
      pub walked_on : Leads edges 0 (take (n + 1) w) child
      walked_on = one_further edges w n node walked d l child c

      pub none_on : IsForked edges → ((number : ℕ) → EndsAt ends child number → ⊥) → NoEndUpTo edges ends w (n + 1)
      none_on f stop front rest end number e some short p h = elim (cases_lt n (length front)) [
        | inr m ↦ none front rest end number e some m p h
        | inl m ↦ (let front_is_it = front_is w front rest (n + 1) e (omega (arith, m, short)) in
            let same : end ≡ child =
            one_end edges f (take (n + 1) w) 0 end child (subst (λ x. Leads edges 0 x end) front_is_it p) walked_on in
            stop number (subst (λ x. EndsAt ends x number) same h))
      ]

      pub found : (number : ℕ) → EndsAt ends child number → FirstEnd edges ends w number
      found number h = record {
        count = n;
        front = take (n + 1) w;
        rest = drop (n + 1) w;
        node = child;
        cut = sym (take-append-drop (n + 1) w);
        longer = rw length-take (omega (arith, l));
        leads = walked_on;
        ends_there = h;
        none_before = none;
        next = rw length-take (omega arith);
      }

  -- the nodes that were met, so far
  module _ (n node : ℕ) (walked : Leads edges 0 (take n w) node) (d : Symbol) (l : n < length w) where
    -- where no edge leads on
    module _ (forked : IsForked edges) (stop : NoChild edges node (get_or w n d)) where
      leads_nowhere : (front rest : List Symbol) (end : ℕ) → w ≡ front ++ rest → n < length front → Leads edges 0 front end → ⊥
      leads_nowhere front rest end e m p =
          let first : take (n + 1) front ≡ take (n + 1) w =
          sym (ap (take (n + 1)) e ∙ take-append-le (n + 1) front rest (omega (arith, m))) in
          let r = leads_cut edges (take (n + 1) front) (drop (n + 1) front) 0 end
          (subst (λ x. Leads edges 0 x end) (sym (take-append-drop (n + 1) front)) p) in
          let t = leads_cut edges (take n w) (get_or w n d ∷ []) 0 r.0 (subst (λ x. Leads edges 0 x r.0) (first ∙ take_more w n d l) r.1) in
          let same : t.0 ≡ node = one_end edges forked (take n w) 0 t.0 node t.1 walked in
          stop t.2.0 (subst (λ x. IsChild edges x (get_or w n d) t.2.0) same t.2.1)

      pub leads_to_none : (end : ℕ) → Leads edges 0 w end → ⊥
      leads_to_none end p = leads_nowhere w [] end (sym (append-nil w)) l p

      pub met_all : (nodes : List Met) → AreMetUpTo edges ends w n nodes → AreMet edges ends w nodes
      met_all nodes met = record {
        right = met.right;
        ended = λ front rest end number e some p h. elim (cases_lt n (length front)) [
          | inl long ↦ absurd (leads_nowhere front rest end e long p)
          | inr short ↦ met.ended front rest end number e some short p h
        ];
        last = λ end p. absurd (leads_to_none end p);
      }

    -- one more
    pub met_more : (nodes more : List Met) → AreMetUpTo edges ends w n nodes → IsForked edges → (child depth : ℕ)
        → IsChild edges node (get_or w n d) child
        → depth ≡ n + 1 → ((number : ℕ) → EndsAt ends child number → Holds more (record { node = child; depth = depth }))
        → ((other : Met) → Holds nodes other → Holds more other)
        → ((other : Met) → Holds more other → Holds nodes other ⊎ (other ≡ record { node = child; depth = depth }))
        → AreMetUpTo edges ends w (n + 1) more
    met_more nodes more met forked child depth c deep ended kept only = record {
      right = λ m h. elim (only m h) [
        | inl i ↦ met.right m i
        | inr i ↦ subst (IsMet edges w) (sym i) (record {
          front = take (n + 1) w;
          rest = drop (n + 1) w;
          cut = sym (take-append-drop (n + 1) w);
          depth_is = deep ∙ sym (rw length-take (omega (arith, l)));
          leads = one_further edges w n node walked d l child c;
        })
      ];
      ended = λ front rest end number e some short p h. elim (cases_lt n (length front)) [
        | inr m ↦ kept (record { node = end; depth = length front }) (met.ended front rest end number e some m p h)
        | inl m ↦ (let front_is_it = front_is w front rest (n + 1) e (omega (arith, m, short)) in
            let same : end ≡ child = one_end edges forked (take (n + 1) w) 0 end child (subst (λ x. Leads edges 0 x end) front_is_it p)
            (one_further edges w n node walked d l child c) in
            let as_deep : depth ≡ length front = omega (arith, deep, m, short) in
            subst (λ x. Holds more (record { node = x; depth = length front })) (sym same)
            (subst (λ x. Holds more (record { node = child; depth = x })) as_deep
            (ended number (subst (λ x. EndsAt ends x number) same h))))
      ];
    }

  pub none_met : (nodes : List Met) → nodes ≡ [] → AreMetUpTo edges ends w 0 nodes
  none_met nodes is = rw is (record {
    right = λ m h. (let e = h.1 in cc);
    ended = λ front rest node number e some short p h. absurd (omega (arith, some, short));
  })

  -- the whole way was walked
  pub met_whole : (n node : ℕ) → n ≡ length w → Leads edges 0 (take n w) node → IsForked edges → (nodes more : List Met) (depth : ℕ)
      → AreMetUpTo edges ends w n nodes → depth ≡ length w → more ≡ nodes ++ (record { node = node; depth = depth }) ∷ []
      → AreMet edges ends w more
  met_whole n node size walked forked nodes more depth met deep is =
      let last : Met = record { node = node; depth = depth } in
      let whole : take n w ≡ w = ap (λ k. take k w) size ∙ take-length w in
      let leads : Leads edges 0 w node = subst (λ x. Leads edges 0 x node) whole walked in
      record {
        right = λ m h. elim (holds_one_more nodes more last is m h) [
          | inl i ↦ met.right m i
          | inr i ↦
              subst (IsMet edges w) (sym i) (record { front = w; rest = []; cut = sym (append-nil w); depth_is = deep; leads = leads })
        ];
        ended = λ front rest end number e some p h. subst (λ x. Holds x (record { node = end; depth = length front })) (sym is)
            (holds_more nodes (last ∷ []) (record { node = end; depth = length front })
            (met.ended front rest end number e some (let s = simp length-append at (ap length e) in omega (arith, s, size)) p h));
        last = λ end p. (let same : end ≡ node = one_end edges forked w 0 end node p leads in
            subst (λ x. Holds more (record { node = x; depth = length w })) (sym same)
            (subst (λ x. Holds more (record { node = node; depth = x })) deep
            (subst (λ x. Holds x last) (sym is) (holds_last nodes last))));
      }

  pub none_at_end : (n : ℕ) → n ≡ length w → NoEndUpTo edges ends w n → NoEnd edges ends w
  none_at_end n e = subst (NoEndUpTo edges ends w) e

-- ---- words with the same first symbols

module _ (w v : List Symbol) where
  pub fewer : (n m : ℕ) → n ≤ m → take m v ≡ take m w → take n v ≡ take n w
  fewer n m le e = sym (take-take n m v le) ∙ ap (take n) e ∙ take-take n m w le

  as_long : (n : ℕ) → n ≤ length w → take n v ≡ take n w → n ≤ length v
  as_long n le e =
      let s : min n (length v) ≡ min n (length w) = sym (length-take n v) ∙ ap length e ∙ length-take n w in omega (arith, s, le)

  -- Where that is more than all of the one they are one.
  pub same_word : (n : ℕ) → length w < n → take n v ≡ take n w → v ≡ w
  same_word n l e =
      let s : min n (length v) ≡ min n (length w) = sym (length-take n v) ∙ ap length e ∙ length-take n w in
      sym (take_all n v (omega (arith, s, l))) ∙ e ∙ take_all n w (omega (arith, l))

  module _ (edges : List Edge) (ends : List (Option ℕ)) where
    none_there : (n : ℕ) → n ≤ length w → take n v ≡ take n w → NoEndUpTo edges ends w n → NoEndUpTo edges ends v n
    none_there n le e none front rest node number is some short p h =
        let size = simp length-append at (ap length is) in
        let first : front ≡ take (length front) w = front_is v front rest (length front) is refl ∙ fewer (length front) n short e in
        none front (drop (length front) w) node number
        (sym (take-append-drop (length front) w) ∙ ap (λ x. x ++ drop (length front) w) (sym first)) some short p h

    -- where no edge leads on by the next symbol
    pub none_told : (n node : ℕ) → Leads edges 0 (take n w) node → NoEndUpTo edges ends w n → (d : Symbol) → n < length w → IsForked edges
        → NoChild edges node (get_or w n d) → take (n + 1) v ≡ take (n + 1) w → NoEnd edges ends v
    none_told n node walked none d l forked stop e =
        let first = fewer n (n + 1) (omega arith) e in
        let next : get_or v n d ≡ get_or w n d =
        sym (get_or-take (n + 1) v n d (omega arith)) ∙ ap (λ x. get_or x n d) e ∙ get_or-take (n + 1) w n d (omega arith) in
        let longer = as_long (n + 1) (omega (arith, l)) e in
        way_ends edges ends v n node (subst (λ x. Leads edges 0 x node) (sym first) walked)
        (none_there n (omega (arith, l)) first none) d (omega (arith, longer))
        forked (subst (NoChild edges node) (sym next) stop)

    -- where the whole way was walked
    pub none_told_at_end : (n : ℕ) → n ≡ length w → NoEndUpTo edges ends w n
        → take (length w + 1) v ≡ take (length w + 1) w → NoEnd edges ends v
    none_told_at_end n whole none e =
        subst (NoEnd edges ends) (sym (same_word (length w + 1) (omega arith) e)) (none_at_end edges ends w n whole none)

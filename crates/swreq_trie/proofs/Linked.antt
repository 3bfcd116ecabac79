-- Edges in chains, as they are sought and put in.
use Rattle.std.proofs.Common.{◌≡◌, ◌⊎◌, inl, inr, ℕ, suc, ◌+◌, ◌<◌, ◌≤◌, List, [], ◌∷◌, ◌++◌, length, length-append, refl, sym, ◌∙◌, ap, subst, arith, Option, Some, None, MatchOption, ◌==◌}
use mathlib.Core.List.{map-append}
use Rattle.std.specs.Bool.{Decides}
use Rattle.std.specs.List.{slice_get}
use Rattle.std.proofs.Math.ListN.{set}
use Rattle.std.proofs.lemmas.Bool.{cases_eq}
use Rattle.std.proofs.lemmas.Bool.Decides.{Decides-and, Decides-eqb, Decides-like}
use Rattle.std.proofs.lemmas.Option.{slice_get_within}
use Rattle.swreq_rule.proofs.swreq_lemmas.Elements.{get_left, get_last, get_cases, get_map, get_of_map, set_here, set_kept, set_cases}
use Rattle.swreq_rule.specs.swreq_word.contracts.symbols.SymbolPartialEq.TheImpl as symbol-impl
use Rattle.swreq_rule.specs.swreq_word.declared.symbols.Symbol.{Symbol}
use Rattle.swreq_rule.proofs.swreq_word.Comparing.{symbol_decides}
use Rattle.swreq_trie.specs.declared.edges.Edge.{Edge}
use Rattle.swreq_trie.specs.declared.chains.Link.{Link}
use Rattle.swreq_trie.specs.contracts.edges.EdgePartialEq.TheImpl as edge-impl
use Rattle.swreq_trie.specs.Paths.{IsChild, NoChild, IsForked, IsGrown}
use Rattle.swreq_trie.specs.Marks.{EndsAt, SameEnds}
use Rattle.swreq_trie.specs.Chains.{AreChained, AreLast, AreLinked, IsIn, IsLeft, chain_of, edges_of}

-- the derived `==` tells whether two edges are one

edge_is : (a b : Edge) → (a.from ≡ b.from) × (a.symbol ≡ b.symbol) → a ≡ b
edge_is a b e = λ i. record { from = e.0 i; symbol = e.1 i }

pub edge_decides : (a b : Edge) → Decides (edge-impl.eq-value.it a b) (a ≡ b)
edge_decides a b =
    Decides-like (edge-impl.eq-value.it a b) (edge_is a b)
    (λ e. (ap (λ (x : Edge). x.from) e, ap (λ (x : Edge). x.symbol) e))
    (Decides-and (a.from == b.from) (symbol-impl.eq-value.it a.symbol b.symbol)
    (Decides-eqb a.from b.from) (symbol_decides a.symbol b.symbol))

-- ---- an edge is sought

edge_at : (links : List Link) (k : ℕ) (link : Link) → slice_get links k ≡ Some link → slice_get (edges_of links) k ≡ Some link.edge
edge_at links = get_map (λ (link : Link). link.edge) links

-- each edge is in its chain
in_its_chain : (links : List Link) (edge : Edge) (k : ℕ) → slice_get (edges_of links) k ≡ Some edge → IsIn links (chain_of edge) k
in_its_chain links edge k e = let r = get_of_map (λ (link : Link). link.edge) links k edge e in (r.0, r.1, ap chain_of r.2)

is_within : (links : List Link) (chain k : ℕ) → IsIn links chain k → k < length links
is_within links chain k i = slice_get_within links k i.0 i.1

ended_is : (heads : List (Option ℕ)) (chain : ℕ) (found : Option ℕ)
    → MatchOption found ((number : ℕ) → EndsAt heads chain number → ⊥) (λ number. EndsAt heads chain number)
    → (j : ℕ) → EndsAt heads chain j → found ≡ Some j
ended_is heads chain None m j e = absurd (m j e)
ended_is heads chain (Some n) m j e = let same : n ≡ j = cc in ap Some same

ended_there : (heads : List (Option ℕ)) (chain : ℕ) (found : Option ℕ)
    → MatchOption found ((number : ℕ) → EndsAt heads chain number → ⊥) (λ number. EndsAt heads chain number)
    → (j : ℕ) → found ≡ Some j → EndsAt heads chain j
ended_there heads chain None m j e = cc
ended_there heads chain (Some n) m j e = let same : n ≡ j = cc in subst (EndsAt heads chain) same m

-- from the last edge of its chain on
pub left_first : (links : List Link) (heads : List (Option ℕ)) → AreChained links heads → (edge : Edge) (chain : ℕ) → chain ≡ chain_of edge
    → (found : Option ℕ)
    → MatchOption found ((number : ℕ) → EndsAt heads chain number → ⊥) (λ number. EndsAt heads chain number) → IsLeft links edge found
left_first links heads chained edge chain is found m =
    let h : AreLast links chain (length links) (EndsAt heads chain) = chained.headed chain in
    record {
      all = λ k e. (let i : IsIn links chain k = subst (λ c. IsIn links c k) (sym is) (in_its_chain links edge k e) in
          let r = h.all k (is_within links chain k i) i in (r.0, ended_is heads chain found m r.0 r.1, r.2));
      right = λ j e. (let r = h.right j (ended_there heads chain found m j e) in subst (λ c. IsIn links c j) is r.1);
    }

-- how many places are left
abbrev pub places_left : Option ℕ → ℕ
places_left None = 0
places_left (Some k) = suc k

fewer : (before : Option ℕ) (place : ℕ) → ((j : ℕ) → before ≡ Some j → j < place) → places_left before < suc place
fewer None place l = omega arith
fewer (Some j) place l = let m = l j refl in omega (arith, m)

module _ (links : List Link) (edge : Edge) (last : Option ℕ) (left : IsLeft links edge last) where
  pub found_none : last ≡ None → NoChild (edges_of links) edge.from edge.symbol
  found_none is child c = let r = left.all c.0 c.2 in let e = r.1 in cc

  module _ (place : ℕ) (is : last ≡ Some place) where
    pub place_within : place < length links
    place_within = is_within links (chain_of edge) place (left.right place is)

    module _ (link : Link) (there : slice_get links place ≡ Some link) where
      pub found_there : link.edge ≡ edge → IsChild (edges_of links) edge.from edge.symbol (place + 1)
      found_there e = (place, omega arith, edge_at links place link there ∙ ap Some e)

      same_chain : chain_of link.edge ≡ chain_of edge
      same_chain =
          let i = left.right place is in
          let f = i.1 in
          let same : link ≡ i.0 = cc in
          ap (λ (x : Link). chain_of x.edge) same ∙ i.2

      module _ (linked : AreLinked links) where
        pub fewer_left : places_left link.before < places_left last
        fewer_left = rw is (fewer link.before place (λ j e. ((linked place link there).right j e).0))

        -- the one before it in its chain, where it is another edge
        pub left_before : (link.edge ≡ edge → ⊥) → IsLeft links edge link.before
        left_before other =
            let before = linked place link there in
            record {
              all = λ k e. (let r = left.all k e in
                  let f = r.1 in
                  let at : r.0 ≡ place = cc in
                  let low = r.2 in
                  elim (cases_eq k place) [
                    | inl same ↦ absurd (other (let g = edge_at links place link there in
                        let h = subst (λ n. slice_get (edges_of links) n ≡ Some edge) same e in cc))
                    | inr differs ↦ before.all k (omega (arith, low, at, differs))
                        (subst (λ c. IsIn links c k) (sym same_chain) (in_its_chain links edge k e))
                  ]);
              right = λ j e. subst (λ c. IsIn links c j) same_chain (before.right j e).1;
            }

-- ---- an edge is put in

pub none_chained : AreChained [] []
none_chained = record {
  linked = λ k link e. cc;
  headed = λ chain. record { all = λ k l i. absurd (omega (arith, l)); right = λ j e. cc };
  forked = λ node symbol a b p q. (let e = p.2 in cc);
}

last_like : (links : List Link) (chain count : ℕ) (Last Other : ℕ → Type 0) → ((j : ℕ) → Last j → Other j) → ((j : ℕ) → Other j → Last j)
    → AreLast links chain count Last → AreLast links chain count Other
last_like links chain count Last Other to from l = record {
  all = λ k m i. (let r = l.all k m i in (r.0, to r.0 r.1, r.2));
  right = λ j o. l.right j (from j o);
}

-- room for more heads
pub chained_same : (links : List Link) (heads heads' : List (Option ℕ)) → SameEnds heads heads' → AreChained links heads
    → AreChained links heads'
chained_same links heads heads' same chained = record {
  linked = chained.linked;
  headed = λ chain. last_like links chain (length links) (EndsAt heads chain) (EndsAt heads' chain)
      (λ j. (same chain j).0) (λ j. (same chain j).1) (chained.headed chain);
  forked = chained.forked;
}

module _ (links : List Link) (heads : List (Option ℕ)) (chained : AreChained links heads) (edge : Edge) (before : Option ℕ) where
  abbrev link : Link
  link = record { edge = edge; before = before }

  abbrev more : List Link
  more = links ++ link ∷ []

  edges_more : edges_of more ≡ edges_of links ++ edge ∷ []
  edges_more = map-append (λ (x : Link). x.edge) links (link ∷ [])

  longer : length more ≡ length links + 1
  longer = simp length-append refl

  in_more : (chain k : ℕ) → IsIn links chain k → IsIn more chain k
  in_more chain k i = (i.0, get_left links (link ∷ []) k i.0 i.1, i.2)

  in_cases : (chain k : ℕ) → IsIn more chain k → IsIn links chain k ⊎ ((k ≡ length links) × (chain_of edge ≡ chain))
  in_cases chain k i = elim (get_cases links link k i.0 i.1) [
    | inl h ↦ inl (i.0, h, i.2)
    | inr h ↦ inr (h.0, ap (λ (x : Link). chain_of x.edge) (sym h.1) ∙ i.2)
  ]

  last_more : (chain count : ℕ) (Last : ℕ → Type 0) → count ≤ length links → AreLast links chain count Last → AreLast more chain count Last
  last_more chain count Last short l = record {
    all = λ k m i. elim (in_cases chain k i) [ inl h ↦ l.all k m h | inr h ↦ absurd (let e = h.0 in omega (arith, e, m, short)) ];
    right = λ j e. (let r = l.right j e in (r.0, in_more chain j r.1));
  }

  module _ (chain : ℕ) (is_chain : chain ≡ chain_of edge)
      (found : MatchOption before ((number : ℕ) → EndsAt heads chain number → ⊥) (λ number. EndsAt heads chain number)) where
    linked_new : AreLast more (chain_of edge) (length links) (λ j. before ≡ Some j)
    linked_new = subst (λ c. AreLast more c (length links) (λ j. before ≡ Some j)) is_chain
        (last_more chain (length links) (λ j. before ≡ Some j) (omega arith)
        (last_like links chain (length links) (EndsAt heads chain) (λ j. before ≡ Some j)
        (ended_is heads chain before found) (ended_there heads chain before found)
        (chained.headed chain)))

    linked_more : AreLinked more
    linked_more k other e = elim (get_cases links link k other e) [
      | inl h ↦ (let l = slice_get_within links k other h in
          last_more (chain_of other.edge) k (λ j. other.before ≡ Some j) (omega (arith, l)) (chained.linked k other h))
      | inr h ↦ rw (h.0, h.1) linked_new
    ]

    module _ (number : ℕ) (is_number : number ≡ length links) (room : chain < length heads) where
      abbrev heads' : List (Option ℕ)
      heads' = set heads chain (Some number)

      headed_all : (c k : ℕ) → k < length more → IsIn more c k → (j : ℕ) × EndsAt heads' c j × (k ≤ j)
      headed_all c k l i = elim (cases_eq c chain) [
        | inl e ↦ (
          number,
          subst (λ n. EndsAt heads' n number) (sym e) (set_here heads chain (Some number) room),
          omega (arith, l, longer, is_number),
        )
        | inr differs ↦ elim (in_cases c k i) [
          | inl h ↦ (let r = (chained.headed c).all k (is_within links c k h) h in
              elim (set_kept heads chain (Some number) c (Some r.0) r.1) [
                | inl kept ↦ (r.0, kept, r.2)
                | inr other ↦ absurd (differs other.0)
              ])
          | inr h ↦ absurd (differs (sym h.1 ∙ sym is_chain))
        ]
      ]

      headed_right : (c j : ℕ) → EndsAt heads' c j → (j < length more) × IsIn more c j
      headed_right c j e = elim (set_cases heads chain (Some number) c (Some j) e) [
        | inl h ↦ (let r = (chained.headed c).right j h in let l = r.0 in (omega (arith, l, longer), in_more c j r.1))
        | inr h ↦ (let f = h.1 in
            let at : length links ≡ j = (let same : j ≡ number = cc in sym (same ∙ is_number)) in
            (omega (arith, at, longer), subst (IsIn more c) at (link, get_last links link, sym is_chain ∙ sym h.0)))
      ]

      module _ (new : NoChild (edges_of links) edge.from edge.symbol) where
        none_other : (node : ℕ) (symbol : Symbol) (k : ℕ) → slice_get (edges_of links) k ≡ Some (record { from = node; symbol = symbol })
            → record { from = node; symbol = symbol } ≡ edge → ⊥
        none_other node symbol k e same = new (suc k) (k, refl, e ∙ ap Some same)

        forked_more : IsForked (edges_of links ++ edge ∷ [])
        forked_more node symbol a b p q =
            let edges = edges_of links in
            let this : Edge = record { from = node; symbol = symbol } in
            let f = p.1 in
            let g = q.1 in
            elim (get_cases edges edge p.0 this p.2) [
              | inl h ↦ elim (get_cases edges edge q.0 this q.2) [
                | inl i ↦ chained.forked node symbol a b (p.0, p.1, h) (q.0, q.1, i)
                | inr i ↦ absurd (none_other node symbol p.0 h i.1)
              ]
              | inr h ↦ elim (get_cases edges edge q.0 this q.2) [
                | inl i ↦ absurd (none_other node symbol q.0 i h.1)
                | inr i ↦ (let at = h.0 in let and = i.0 in omega (arith, f, g, at, and))
              ]
            ]

        pub chained_more : AreChained more heads'
        chained_more = record {
          linked = linked_more;
          headed = λ c. record { all = headed_all c; right = headed_right c };
          forked = subst IsForked (sym edges_more) forked_more;
        }

  pub grown_more : IsGrown (edges_of links) (edges_of more)
  grown_more k other e = rw edges_more (get_left (edges_of links) (edge ∷ []) k other e)

  pub child_more : IsChild (edges_of more) edge.from edge.symbol (length links + 1)
  child_more = (length links, omega arith, edge_at more (length links) link (get_last links link))

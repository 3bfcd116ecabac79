-- Edges in chains, in which they are found: each edge names the one before it in its chain, and each chain its last one.
use Rattle.std.specs.Prelude.{◌≡◌, ℕ, ◌+◌, ◌-◌, ◌%◌, ◌^◌, ◌<◌, ◌≤◌, min, List, map, length, slice_get, Option, Some}
use Rattle.swreq_rule.specs.swreq_word.declared.symbols.Symbol.{Symbol}
use Rattle.swreq_rule.specs.swreq_word.declared.symbols.Symbol.TheVariants.{Proto, Member, Param, Name, Layout}
use Rattle.swreq_trie.specs.declared.edges.Edge.{Edge}
use Rattle.swreq_trie.specs.declared.chains.Link.{Link}
use Rattle.swreq_trie.specs.Paths.{IsForked}
use Rattle.swreq_trie.specs.Marks.{EndsAt}

-- the number of a symbol among those of its kind
abbrev pub number_of : Symbol → ℕ
number_of (Proto rank) = rank
number_of (Member rank) = rank
number_of (Param depth index) = index
number_of (Name rank) = rank
number_of Layout = 0

-- The chain of an edge. Those of one node go side by side, by the numbers of its symbols, so that a node with many edges has no long one.
unfoldable pub chain_of : Edge → ℕ
chain_of edge = min (edge.from + number_of edge.symbol % 4096) (2 ^ 64 - 1)

abbrev pub edges_of : List Link → List Edge
edges_of links = map (λ (link : Link). link.edge) links

-- the edge at the place is in this chain
abbrev pub IsIn : List Link → ℕ → ℕ → Type 0
IsIn links chain k = (link : Link) × (slice_get links k ≡ Some link) × (chain_of link.edge ≡ chain)

-- Of those of the first `count` edges that are in this chain, the last one, if there is one.
pub record AreLast (links : List Link) (chain count : ℕ) (Last : ℕ → Type 0) : Type 0 where
  pub all : (k : ℕ) → k < count → IsIn links chain k → (j : ℕ) × Last j × (k ≤ j)
  pub right : (j : ℕ) → Last j → (j < count) × IsIn links chain j

-- each edge names the last one before it in its chain
abbrev pub AreLinked : List Link → Type 0
AreLinked links = (k : ℕ) (link : Link) → slice_get links k ≡ Some link → AreLast links (chain_of link.edge) k (λ j. link.before ≡ Some j)

-- and so each chain the last one of all, and each edge is there once
pub record AreChained (links : List Link) (heads : List (Option ℕ)) : Type 0 where
  pub linked : AreLinked links
  pub headed : (chain : ℕ) → AreLast links chain (length links) (EndsAt heads chain)
  pub forked : IsForked (edges_of links)

-- the sought edge stands at none of the places, or at this one or before it, which is in its chain
pub record IsLeft (links : List Link) (edge : Edge) (last : Option ℕ) : Type 0 where
  pub all : (k : ℕ) → slice_get (edges_of links) k ≡ Some edge → (j : ℕ) × (last ≡ Some j) × (k ≤ j)
  pub right : (j : ℕ) → last ≡ Some j → IsIn links (chain_of edge) j

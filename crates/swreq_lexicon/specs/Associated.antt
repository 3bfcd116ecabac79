-- What protocols declare and inherit, and the orders of associated types and member symbols.
use Rattle.std.specs.Prelude.{◌≡◌, ◌⊎◌, ℕ, Bool, true, cond, not, ◌&&◌, nat_eq, List, Contains}
use Rattle.std.specs.List.{list_any}
use Rattle.std.specs.declared.cmp.Ordering.{Ordering}
use Rattle.std.specs.Ordering.{nat_cmp, then_cmp, on}
pub use Rattle.swreq_closure.specs.Bits.{count_below}
use Rattle.swreq_derive.specs.swreq_param.declared.ids.NameId.{NameId}
use Rattle.swreq_derive.specs.swreq_param.declared.ids.ProtoId.{ProtoId}
use Rattle.swreq_lexicon.specs.declared.pair.ProtocolName.{ProtocolName}
use Rattle.swreq_lexicon.specs.Lexicons.{pair}

-- the protocol with a rank, and the name with a rank
abbrev pub protocol : ℕ → ProtoId
protocol r = record { rank = r }

abbrev pub name : ℕ → NameId
name r = record { rank = r }

-- `inherits p q` tells whether p inherits q
module _ (inherits : ProtoId → ProtoId → Bool) where
  -- how many of the first n protocols P inherits
  abbrev pub depth : ℕ → ProtoId → ℕ
  depth n p = count_below (λ q. inherits p (protocol q)) n

  -- Some protocol that P inherits declares A.
  abbrev pub inherits_name : List ProtocolName → ProtoId → NameId → Bool
  inherits_name associated p a = list_any (λ d. nat_eq a.rank d.name.rank && inherits p d.proto) associated

  -- The associated type A of P is a root if and only if no protocol that P inherits declares A.
  abbrev pub is_root : List ProtocolName → ProtocolName → Bool
  is_root associated d = not (inherits_name associated d.proto d.name)

  -- Associated types are ordered by name, then roots before others, then by protocol.
  abbrev pub assoc_cmp : List ProtocolName → ProtocolName → ProtocolName → Ordering
  assoc_cmp associated = then_cmp (on (λ d. d.name.rank) nat_cmp)
      (then_cmp (on (λ d. cond (is_root associated d) 0 1) nat_cmp) (on (λ d. d.proto.rank) nat_cmp))

  -- P inherits the name A if and only if P inherits a protocol that declares A.
  abbrev pub InheritsName : List ProtocolName → ProtoId → NameId → Type 0
  InheritsName associated p a = (q : ProtoId) × (inherits p q ≡ true) × Contains associated (pair q a)

  -- P has the member name A if and only if P declares A or inherits it.
  abbrev pub HasMember : List ProtocolName → ProtoId → NameId → Type 0
  HasMember associated p a = Contains associated (pair p a) ⊎ InheritsName associated p a

  -- A protocol that inherits more protocols comes first. Two that inherit the same number are ordered by rank.
  abbrev pub order_cmp : ℕ → ProtoId → ProtoId → Ordering
  order_cmp n = then_cmp (λ p q. nat_cmp (depth n q) (depth n p)) (on (λ p. p.rank) nat_cmp)

  -- Member symbols [P:A] are ordered by name, then by protocol in that order.
  abbrev pub symbol_cmp : ℕ → ProtocolName → ProtocolName → Ordering
  symbol_cmp n = then_cmp (on (λ d. d.name.rank) nat_cmp) (on (λ d. d.proto) (order_cmp n))

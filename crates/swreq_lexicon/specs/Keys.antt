-- The keys by which associated types and protocols are ranked.
use Rattle.std.specs.Prelude.{ℕ, zero, suc, Bool, List, [], ◌∷◌, ◌++◌}
use Rattle.swreq_derive.specs.swreq_param.declared.ids.ProtoId.{ProtoId}
use Rattle.swreq_lexicon.specs.declared.pair.ProtocolName.{ProtocolName}
use Rattle.swreq_lexicon.specs.declared.associated.AssocKey.{AssocKey}
use Rattle.swreq_lexicon.specs.declared.symbols.OrderKey.{OrderKey}
use Rattle.swreq_lexicon.specs.Associated.{protocol, inherits_name, depth}

abbrev pub pair_of : AssocKey → ProtocolName
pair_of k = record { proto = k.proto; name = k.name }

-- the key that an associated type is ranked by
abbrev pub key : (ProtoId → ProtoId → Bool) → List ProtocolName → ProtocolName → AssocKey
key inherits associated d = record { name = d.name; inherited = inherits_name inherits associated d.proto d.name; proto = d.proto }

-- the key that one of n protocols is ordered by
abbrev pub order_key : (ProtoId → ProtoId → Bool) → ℕ → ProtoId → OrderKey
order_key inherits n p = record { depth = record { 0 = depth inherits n p }; proto = p }

-- the keys of the first protocols, by rank
abbrev pub order_keys : (ProtoId → ProtoId → Bool) → ℕ → ℕ → List OrderKey
order_keys inherits n zero = []
order_keys inherits n (suc r) = order_keys inherits n r ++ order_key inherits n (protocol r) ∷ []

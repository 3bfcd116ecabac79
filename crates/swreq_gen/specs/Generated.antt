-- The generated text of a number, line by line.
use Rattle.std.specs.Prelude.{ℕ, List, ◌++◌, ◌+◌, [], ◌==◌, nat_lt, map, codes, if◌then◌else◌}
use Rattle.std.specs.List.{range_with_len, flat_map}
use Rattle.std.specs.Fmt.{decimal}
use Rattle.swreq_text.specs.Joined.{joined}

-- the number of the protocol that the k-th of n protocols leads to: the next one, or the first one after the last
abbrev pub next_of : ℕ → ℕ → ℕ
next_of n k = if k == n then 1 else k + 1

-- `Ak`
abbrev pub member : ℕ → List ℕ
member k = codes "A" ++ decimal k

-- `A1.A2` and so on up to `Ak`
abbrev pub chain : ℕ → List ℕ
chain k = joined (codes ".") (map member (range_with_len 1 k))

-- what stands before the k-th member of a chain: a dot, but nothing before the first
abbrev pub dot : ℕ → List ℕ
dot k = if nat_lt 1 k then codes "." else []

-- `protocol Lk { associatedtype Ak: Lm }`
abbrev pub protocol_line : ℕ → ℕ → List ℕ
protocol_line n k =
    codes "protocol L" ++ decimal k ++ codes " { associatedtype A" ++ decimal k ++ codes ": L" ++ decimal (next_of n k) ++ codes " }\n"

abbrev pub function_line : List ℕ
function_line = codes "func f<T: L1, U: L1>() where T.A1 == U.A1 { }\n"

-- `query f(T.chain : Lm)`, with the text of the chain
abbrev pub chain_line : List ℕ → ℕ → List ℕ
chain_line path m = codes "query f(T." ++ path ++ codes " : L" ++ decimal m ++ codes ")\n"

-- `query f(T.chain == U.chain)`, with the text of the chain
abbrev pub same_line : List ℕ → List ℕ
same_line path = codes "query f(T." ++ path ++ codes " == U." ++ path ++ codes ")\n"

-- `query f(T.Ak : L1)`
abbrev pub member_line : ℕ → List ℕ
member_line k = codes "query f(T.A" ++ decimal k ++ codes " : L1)\n"

-- The four queries of k. They ask whether T's chain of k members conforms to the protocol that the k-th leads to, whether it equals U's
-- chain, whether it conforms to the k-th protocol, and whether the k-th member of T conforms to the first one.
abbrev pub query_lines : ℕ → ℕ → List ℕ
query_lines n k = chain_line (chain k) (next_of n k) ++ same_line (chain k) ++ chain_line (chain k) k ++ member_line k

abbrev pub last_line : List ℕ
last_line = codes "query f()\n"

-- the lines of 1 up to n, one after another
abbrev pub each_line : (ℕ → List ℕ) → ℕ → List ℕ
each_line line n = flat_map line (range_with_len 1 n)

abbrev pub generated : ℕ → List ℕ
generated n = each_line (protocol_line n) n ++ function_line ++ each_line (query_lines n) n ++ last_line

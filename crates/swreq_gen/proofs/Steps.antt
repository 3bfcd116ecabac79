-- One line more, and one member more of a chain.
use Rattle.std.proofs.Common.{◌≡◌, ◌∙◌, ◌++◌, ◌∷◌, [], ◌+◌, ◌-◌, ◌≤◌, ◌<◌, List, ℕ, zero, suc, ap, ap₂, refl, sym, map, codes, true, nat_lt, if◌then◌else◌, arith}
use Rattle.std.proofs.lemmas.List.{append_assoc, append-nil}
use Rattle.std.proofs.lemmas.List.FromFn.{map-range_with_len_more}
use Rattle.std.proofs.lemmas.Grind.{flat_map-append}
use Rattle.std.specs.List.{range_with_len, flat_map}
use Rattle.std.specs.Fmt.{decimal}
use Rattle.swreq_text.specs.Joined.{joined, followed}
use Rattle.swreq_gen.specs.Generated.{each_line, chain, member, dot}

map_same : (xs : List ℕ) → map (λ x. x) xs ≡ xs
map_same [] = refl
map_same (x ∷ xs) = ap (λ ys. x ∷ ys) (map_same xs)

-- a range of numbers with one more at the end
range_more : (a n : ℕ) → range_with_len a (n + 1) ≡ range_with_len a n ++ (a + n) ∷ []
range_more a n = sym (map_same (range_with_len a (n + 1))) ∙ map-range_with_len_more (λ x. x) a n (a + n) refl
    ∙ ap (λ xs. xs ++ (a + n) ∷ []) (map_same (range_with_len a n))

-- the lines of 1 up to k, with the line after them
each_more : (line : ℕ → List ℕ) (k : ℕ) → each_line line (k + 1) ≡ each_line line k ++ line (k + 1)
each_more line k =
    ap (flat_map line) (range_more 1 k) ∙ flat_map-append line (range_with_len 1 k) ((1 + k) ∷ [])
    ∙ ap (λ t. each_line line k ++ t) (append-nil (line (1 + k))) ∙ ap (λ i. each_line line k ++ line i) (omega arith)

pub grown : (line : ℕ → List ℕ) (k : ℕ) (old before after : List ℕ) → before ≡ old ++ each_line line k → after ≡ before ++ line (k + 1)
    → after ≡ old ++ each_line line (k + 1)
grown line k old before after was is =
    is ∙ ap (λ t. t ++ line (k + 1)) was ∙ append_assoc old (each_line line k) (line (k + 1)) ∙ ap (λ t. old ++ t) (sym (each_more line k))

-- texts, each after a separator, with one more at the end
followed_more : (separator : List ℕ) (texts : List (List ℕ)) (text : List ℕ)
    → followed separator (texts ++ text ∷ []) ≡ followed separator texts ++ (separator ++ text)
followed_more separator [] text = ap (λ t. separator ++ t) (append-nil text)
followed_more separator (first ∷ rest) text =
    let front = followed separator rest in
    ap (λ t. separator ++ (first ++ t)) (followed_more separator rest text)
    ∙ ap (λ t. separator ++ t) (sym (append_assoc first front (separator ++ text)))
    ∙ sym (append_assoc separator (first ++ front) (separator ++ text))

-- texts with a separator between them, with one more at the end
joined_more : (separator first : List ℕ) (rest : List (List ℕ)) (text : List ℕ)
    → joined separator ((first ∷ rest) ++ text ∷ []) ≡ joined separator (first ∷ rest) ++ (separator ++ text)
joined_more separator first rest text =
    ap (λ t. first ++ t) (followed_more separator rest text) ∙ sym (append_assoc first (followed separator rest) (separator ++ text))

members_more : (k : ℕ) → map member (range_with_len 1 (k + 1)) ≡ map member (range_with_len 1 k) ++ member (k + 1) ∷ []
members_more k = map-range_with_len_more member 1 k (k + 1) (omega arith)

chain_more : (j : ℕ) → chain (suc j + 1) ≡ chain (suc j) ++ (codes "." ++ member (suc j + 1))
chain_more j = ap (joined (codes ".")) (members_more (suc j))
    ∙ joined_more (codes ".") (member 1) (map member (range_with_len 2 j)) (member (suc j + 1))

chain_next : (k : ℕ) → 1 < k → chain k ≡ chain (k - 1) ++ (codes "." ++ member k)
chain_next k more =
    let at : suc (k - 2) + 1 ≡ k = omega arith in
    let before : suc (k - 2) ≡ k - 1 = omega arith in
    ap chain (sym at) ∙ chain_more (k - 2) ∙ ap₂ (λ a b. chain a ++ (codes "." ++ member b)) before at

dotted_more : (k : ℕ) → 1 < k → dot k ≡ codes "."
dotted_more k more =
    let test : nat_lt 1 k ≡ true = search (arith, more) in
    ap (λ b. if b then codes "." else []) test

-- the first chain has no dot, and each next one has one
pub lengthened : (k : ℕ) (old dotted letter new : List ℕ) → 1 ≤ k → old ≡ chain (k - 1) → dotted ≡ old ++ dot k
    → letter ≡ dotted ++ codes "A" → new ≡ letter ++ decimal k → new ≡ chain k
lengthened zero old dotted letter new from was d l n = absurd (omega arith)
lengthened (suc zero) old dotted letter new from was d l n =
    n ∙ ap (λ t. t ++ decimal 1) (l ∙ ap (λ t. t ++ codes "A") (d ∙ ap (λ t. t ++ []) was)) ∙ sym (append-nil (member 1))
lengthened (suc (suc j)) old dotted letter new from was d l n =
    let k = suc (suc j) in
    let before : List ℕ = chain (k - 1) in
    n ∙ ap (λ t. t ++ decimal k) (l ∙ ap (λ t. t ++ codes "A") (d ∙ ap₂ (λ s t. s ++ t) was (dotted_more k (omega arith))))
    ∙ append_assoc (before ++ codes ".") (codes "A") (decimal k) ∙ append_assoc before (codes ".") (member k)
    ∙ sym (chain_next k (omega arith))

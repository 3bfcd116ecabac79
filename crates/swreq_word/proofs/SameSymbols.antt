-- Words that begin alike, and symbols that are the same, part by part.
use Rattle.std.proofs.Common.{◌≡◌, ℕ, List, ◌∷◌}
use Rattle.swreq_word.specs.declared.symbols.Symbol.{Symbol}
use Rattle.swreq_word.specs.declared.symbols.Symbol.TheVariants.{Proto, Member, Param, Name}

pub same_heads : {x y : Symbol} {u v : List Symbol} → x ∷ u ≡ y ∷ v → x ≡ y
same_heads e = cc

pub same_tails : {x y : Symbol} {u v : List Symbol} → x ∷ u ≡ y ∷ v → u ≡ v
same_tails e = cc

pub same_protocols : {p q : ℕ} → Proto p ≡ Proto q → p ≡ q
same_protocols e = cc

pub same_members : {k j : ℕ} → Member k ≡ Member j → k ≡ j
same_members e = cc

pub same_names : {m n : ℕ} → Name m ≡ Name n → m ≡ n
same_names e = cc

pub same_params : {d i e j : ℕ} → Param d i ≡ Param e j → (d ≡ e) × (i ≡ j)
same_params h = ((cc), (cc))

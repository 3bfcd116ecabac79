-- What a map keeps with words: the properties that end left sides after them.
use Rattle.std.specs.Prelude.{◌≡◌, ◌↔◌, ◌⊎◌, ℕ, ◌<◌, List, [], ◌∷◌, ◌++◌, Option, Some, None, Vec, Contains, slice_get}
use Rattle.std.specs.declared.alloc.Global.{Global}
use Rattle.swreq_complete.specs.swreq_word.declared.symbols.Symbol.{Symbol}
use Rattle.swreq_complete.specs.swreq_word.declared.symbols.Symbol.TheVariants.{Proto}
use Rattle.swreq_complete.specs.swreq_word.declared.table.WordId.{WordId}
use Rattle.swreq_complete.specs.swreq_word.Interned.{StandsFor}
use Rattle.swreq_complete.specs.swreq_rule.declared.rules.Rule.{Rule}
use Rattle.swreq_map.specs.Properties.{IsProperty, Vanishes}

-- words, and for each of them a list of symbols
pub record EndingsView : Type 0 where
  pub words : List (List Symbol)
  pub lists : List (Vec Symbol Global)

-- what the map keeps itself, over what it borrows; the protocols are those below a number
pub record MapView : Type 0 where
  pub protocols : ℕ
  pub below : Option EndingsView
  pub own : EndingsView

abbrev pub IsListed : List (Vec Symbol Global) → ℕ → Symbol → Type 0
IsListed lists place x = (list : Vec Symbol Global) × (slice_get lists place ≡ Some list) × Contains list.items x

-- what was listed stays listed
abbrev pub KeepsListed : List (Vec Symbol Global) → List (Vec Symbol Global) → Type 0
KeepsListed old new = (place : ℕ) (x : Symbol) → IsListed old place x → IsListed new place x

-- The symbol is listed with the word.
abbrev pub Follows : List (List Symbol) → List (Vec Symbol Global) → List Symbol → Symbol → Type 0
Follows words lists v x = (id : WordId) × StandsFor words id v × IsListed lists id.place x

-- Each property that ends a left side of these rules is kept with the word before it.
abbrev pub KeepEndings : ℕ → List Rule → (List Symbol → Symbol → Type 0) → Type 0
KeepEndings protocols rules IsKept =
    (rule : Rule) (v : List Symbol) (x : Symbol) → Contains rules rule → rule.left ≡ v ++ x ∷ [] → IsProperty protocols x → IsKept v x

-- They are those of these rules.
abbrev pub AreEndingsOf : ℕ → List Rule → EndingsView → Type 0
AreEndingsOf protocols rules kept = KeepEndings protocols rules (Follows kept.words kept.lists)

abbrev pub FollowsBelow : Option EndingsView → List Symbol → Symbol → Type 0
FollowsBelow None v x = ⊥
FollowsBelow (Some kept) v x = Follows kept.words kept.lists v x

-- The map keeps the symbol with the word, in what it borrows or itself.
abbrev pub IsKept : MapView → List Symbol → Symbol → Type 0
IsKept m v x = FollowsBelow m.below v x ⊎ Follows m.own.words m.own.lists v x

-- The map of these rules.
abbrev pub IsMapOf : List Rule → MapView → Type 0
IsMapOf rules m = KeepEndings m.protocols rules (IsKept m)

-- exactly the protocols below this number among these symbols that vanish after the word
abbrev pub AreConforming : List Rule → ℕ → List Symbol → List Symbol → List ℕ → Type 0
AreConforming rules protocols u symbols found =
    (p : ℕ) → Contains found p ↔ (Contains symbols (Proto p) × (p < protocols) × Vanishes rules u (Proto p))

-- Symbols that are kept with words.
use Rattle.std.proofs.Common.{◌≡◌, inl, inr, ℕ, ◌-◌, ◌<◌, List, [], ◌∷◌, ◌++◌, length, get_or, take, length-append, sym, ◌∙◌, ap, subst, arith, Some, Vec, Contains}
use Rattle.std.specs.List.{slice_get}
use Rattle.std.specs.declared.alloc.Global.{Global}
use Rattle.std.proofs.Math.ListN.{set}
use Rattle.std.proofs.Math.Seq.{take-append_seam}
use Rattle.std.proofs.lemmas.Option.{slice_get_within, get_or_from_slice_get}
use Rattle.swreq_complete.specs.swreq_word.declared.symbols.Symbol.{Symbol}
use Rattle.swreq_complete.specs.swreq_word.declared.table.WordId.{WordId}
use Rattle.swreq_complete.specs.swreq_word.Interned.{StandsFor, AreDistinct, Interned}
use Rattle.swreq_complete.proofs.swreq_lemmas.Elements.{get_left, get_last, set_here, set_kept}
use Rattle.swreq_map.specs.Follows.{IsListed, KeepsListed, Follows}

pub keeps_more : (old lists new : List (Vec Symbol Global)) (list : Vec Symbol Global) → KeepsListed old lists
    → new ≡ lists ++ list ∷ [] → KeepsListed old new
keeps_more old lists new list k e place s h =
    let g = k place s h in (g.0, subst (λ x. slice_get x place ≡ Some g.0) (sym e) (get_left lists (list ∷ []) place g.0 g.1), g.2)

pub keeps_changed : (old new : List (Vec Symbol Global)) (place : ℕ) (before after : Vec Symbol Global) → slice_get old place ≡ Some before
    → new ≡ set old place after → ((s : Symbol) → Contains before.items s → Contains after.items s) → KeepsListed old new
keeps_changed old new place before after b e k n s h = elim (set_kept old place after n h.0 h.1) [
  | inl g ↦ (h.0, subst (λ x. slice_get x n ≡ Some h.0) (sym e) g, h.2)
  | inr g ↦ (
    after,
    subst (λ x. slice_get x n ≡ Some after) (sym e) g.1,
    k s (let f : slice_get old place ≡ Some h.0 = subst (λ x. slice_get old x ≡ Some h.0) g.0 h.1 in
        let same : h.0 ≡ before = cc in subst (λ (x : Vec Symbol Global). Contains x.items s) same h.2),
  )
]

pub listed_changed : (old new : List (Vec Symbol Global)) (place : ℕ) (after : Vec Symbol Global) (s : Symbol) → place < length old
    → new ≡ set old place after → Contains after.items s → IsListed new place s
listed_changed old new place after s l e h = (after, subst (λ x. slice_get x place ≡ Some after) (sym e) (set_here old place after l), h)

pub follows_kept : (words words' : List (List Symbol)) (lists lists' : List (Vec Symbol Global)) (v : List Symbol) (id : WordId)
    → Interned words words' v id
    → KeepsListed lists lists' → (w : List Symbol) (t : Symbol) → Follows words lists w t → Follows words' lists' w t
follows_kept words words' lists lists' v id i k w t f = (f.0, i.earlier f.0 w f.1, k f.0.place t f.2)

pub follows_unchanged : (words words' : List (List Symbol)) (lists : List (Vec Symbol Global)) → words' ≡ words
    → (w : List Symbol) (t : Symbol) → Follows words lists w t → Follows words' lists w t
follows_unchanged words words' lists e w t f = subst (λ x. Follows x lists w t) (sym e) f

-- the word has one id
pub listed_there : (words : List (List Symbol)) (lists : List (Vec Symbol Global)) → AreDistinct words
    → (v : List Symbol) (id : WordId) → StandsFor words id v
    → (s : Symbol) → Follows words lists v s → IsListed lists id.place s
listed_there words lists d v id e s f = subst (λ (x : WordId). IsListed lists x.place s) (d f.0 id v f.1 e) f.2

pub stands_contained : (words : List (List Symbol)) (v : List Symbol) (id : WordId) → StandsFor words id v → Contains words v
stands_contained words v id e = (id.place, slice_get_within words id.place v e, get_or_from_slice_get words id.place v v e)

-- the last symbol of a side, and the word before it
pub last_is : (left v : List Symbol) (s d : Symbol) (n : ℕ) → left ≡ v ++ s ∷ [] → n ≡ length left
    → (take (n - 1) left ≡ v) × (get_or left (n - 1) d ≡ s)
last_is left v s d n e c =
    let size = simp length-append at (ap length e) in
    let m : n - 1 ≡ length v = omega (arith, c, size) in (
      ap (λ k. take k left) m ∙ ap (take (length v)) e ∙ take-append_seam v (s ∷ []),
      get_or_from_slice_get left (n - 1) s d
          (subst (λ k. slice_get left k ≡ Some s) (sym m) (subst (λ x. slice_get x (length v) ≡ Some s) (sym e) (get_last v s))),
    )

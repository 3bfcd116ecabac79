-- What a table that grows keeps.
use Rattle.std.proofs.Common.{◌≡◌, zero, suc, ⊎_elim, List, [], ◌∷◌, ◌++◌, get_or, refl, sym, ap, subst, ◌∙◌, arith, length-append, append_assoc, append-nil}
use Rattle.std.proofs.lemmas.List.{get_or_append_left, map-append}
use Rattle.std.specs.Result.{OnOk}
use Rattle.std.specs.declared.result.Result.{Result}
use Rattle.std.specs.declared.result.Result.TheVariants.{Ok, Err}
use Rattle.swreq_param.specs.declared.ids.TermId.{TermId}
use Rattle.swreq_param.specs.Terms.{Term, self}
use Rattle.swreq_param.specs.Tables.{Extends, Interned, IsOf}
use Rattle.swreq_param.proofs.Growing.{onward, unchanged}
use Rattle.swreq_lexicon.specs.swreq_derive.declared.requirements.Requirement.{Requirement}
use Rattle.swreq_lexicon.specs.swreq_derive.declared.requirements.Requirement.TheVariants.{Conf, Layout, Same}
use Rattle.swreq_lexicon.specs.swreq_derive.Facts.{requirement_of}
use Rattle.swreq_lowering.specs.declared.ids.Written.{Written}
use Rattle.swreq_lowering.specs.Requirements.{PlacedRequirement}
use Rattle.swreq_lowering.specs.ByTable.{placed_by, placed, AreOf, HasIdsOf}
use Rattle.swreq_lowering.specs.Adding.{Spells, Adds, Lists}

pub extends_interned : (old new : List Term) (t : Term) (id : TermId) → Interned old new t id → Extends old new
extends_interned old new t id n =
    ⊎_elim (λ e. subst (Extends old) (sym e) (unchanged old))
    (λ e. subst (Extends old) (sym e.1)
    (record { longer = let l = length-append old (t ∷ []) in omega arith; stands = λ u h. get_or_append_left old (t ∷ []) self u.place h }))
    n.grown

pub spelled : (old new : List Term) (t : Term) (id : TermId) → Interned old new t id → Spells old new t id
spelled old new t id n = record { extends = extends_interned old new t id n; is_of = n.is_of; stands = n.stands }

pub of_stays : (old new : List Term) (id : TermId) → Extends old new → IsOf old id → IsOf new id
of_stays old new id b h = let l = b.longer in omega arith

pub ids_stay : (old new : List Term) (r : Requirement) → Extends old new → HasIdsOf old r → HasIdsOf new r
ids_stay old new (Conf t p) b h = of_stays old new t b h
ids_stay old new (Layout t) b h = of_stays old new t b h
ids_stay old new (Same t u) b h = (of_stays old new t b h.0, of_stays old new u b h.1)

pub requirement_stays : (old new : List Term) (r : Requirement) → Extends old new → HasIdsOf old r
    → requirement_of new r ≡ requirement_of old r
requirement_stays old new (Conf t p) b h = let e = b.stands t h in cc
requirement_stays old new (Layout t) b h = let e = b.stands t h in cc
requirement_stays old new (Same t u) b h = let e = b.stands t h.0 in let f = b.stands u h.1 in cc

pub are_of_stay : (old new : List Term) (rs : List Written) → Extends old new → AreOf old rs → AreOf new rs
are_of_stay old new rs b h k d l = ids_stay old new (get_or rs k d).requirement b (h k d l)

pub placed_stay : (old new : List Term) (rs : List Written) → Extends old new → AreOf old rs → placed new rs ≡ placed old rs
placed_stay old new [] b h = refl
placed_stay old new (r ∷ rs) b h =
    let e = requirement_stays old new r.requirement b (h 0 r (omega arith)) in
    λ i. record { requirement = e i; left_at = r.left_at; right_at = r.right_at }
    ∷ placed_stay old new rs b (λ k d l. h (suc k) d (omega arith)) i

all_push : (terms : List Term) (rs : List Written) (r : Written) → AreOf terms rs → HasIdsOf terms r.requirement
    → AreOf terms (rs ++ r ∷ [])
all_push terms [] r h g zero d l = g
all_push terms [] r h g (suc k) d l = absurd (omega arith)
all_push terms (q ∷ rs) r h g zero d l = h 0 d (omega arith)
all_push terms (q ∷ rs) r h g (suc k) d l = all_push terms rs r (λ k d l. h (suc k) d (omega arith)) g k d (omega arith)

-- ---- what is added

pub adds_nothing : (terms : List Term) (rs : List Written) → Adds terms terms rs rs []
adds_nothing terms rs = record { extends = unchanged terms; are_of = λ h. h; placed = λ h. sym (append-nil (placed terms rs)) }

pub adds_then : (a b c : List Term) (us vs ws : List Written) (ps qs : List PlacedRequirement) → Adds a b us vs ps → Adds b c vs ws qs
    → Adds a c us ws (ps ++ qs)
adds_then a b c us vs ws ps qs p q = record {
  extends = onward a b c p.extends q.extends;
  are_of = λ h. q.are_of (p.are_of h);
  placed = λ h. q.placed (p.are_of h) ∙ ap (λ xs. xs ++ qs) (p.placed h) ∙ append_assoc (placed a us) ps qs;
}

-- one requirement, whose ids are of the new table
pub adds_one : (old new : List Term) (ws vs : List Written) (r : Written) (p : PlacedRequirement) → Extends old new → vs ≡ ws ++ r ∷ []
    → HasIdsOf new r.requirement → placed_by new r ≡ p → Adds old new ws vs (p ∷ [])
adds_one old new ws vs r p b e h q =
    subst (λ us. Adds old new ws us (p ∷ [])) (sym e) (record {
      extends = b;
      are_of = λ o. all_push new ws r (are_of_stay old new ws b o) h;
      placed = λ o. map-append (placed_by new) ws (r ∷ []) ∙ (λ i. placed_stay old new ws b o i ++ q i ∷ []);
    })

-- a table that has grown before
pub adds_later : (a b c : List Term) (us vs : List Written) (ps : List PlacedRequirement) → Extends a b
    → Adds b c us vs ps → Adds a c us vs ps
adds_later a b c us vs ps g p = record {
  extends = onward a b c g p.extends;
  are_of = λ h. p.are_of (are_of_stay a b us g h);
  placed = λ h. p.placed (are_of_stay a b us g h) ∙ ap (λ xs. xs ++ ps) (placed_stay a b us g h);
}

pub adds_same : (a b : List Term) (us vs : List Written) (ps qs : List PlacedRequirement) → Adds a b us vs ps → ps ≡ qs → Adds a b us vs qs
adds_same a b us vs ps qs p e = subst (Adds a b us vs) e p

-- all that was added to nothing
pub lists_all : (a b : List Term) (us vs : List Written) (ps : List PlacedRequirement) → us ≡ [] → Adds a b us vs ps → Lists a b ps vs
lists_all a b us vs ps e p =
    let q : Adds a b [] vs ps = subst (λ ws. Adds a b ws vs ps) e p in
    let none : AreOf a [] = λ k d l. absurd (omega arith) in
    record { extends = q.extends; are_of = q.are_of none; placed = q.placed none }

pub on_ok : {A E : Type 0} (r : Result A E) {P Q : Type 0} → (P → Q) → OnOk r P → OnOk r Q
on_ok (Ok x) f p = f p
on_ok (Err e) f p = p

-- Lists that are made of pieces, one for each item.
use Rattle.std.proofs.Common.{◌≡◌, ℕ, ◌+◌, ◌<◌, List, [], ◌∷◌, ◌++◌, length, get_or, map, take, sym, ap, subst, ◌∙◌, append-nil}
use Rattle.std.specs.List.{flat_map}
use Rattle.std.proofs.lemmas.List.{take_more, map-append}
use Rattle.std.proofs.lemmas.List.Concat.{flat_map-append}
use Rattle.swreq_param.specs.declared.ids.Step.{Step}
use Rattle.swreq_param.specs.declared.ids.TermId.{TermId}
use Rattle.swreq_param.specs.Terms.{Term, with_steps}
use Rattle.swreq_param.specs.Terms.Term.{Member}
use Rattle.swreq_param.specs.ComparisonLaws.{with_more}
use Rattle.swreq_param.specs.Tables.{Interned, term_at}
use Rattle.swreq_param.proofs.Growing.{onward}
use Rattle.swreq_lowering.specs.declared.ids.Written.{Written}
use Rattle.swreq_lowering.specs.Requirements.{PlacedRequirement}
use Rattle.swreq_lowering.specs.Adding.{Adds, Spells}
use Rattle.swreq_lowering.proofs.Growing.{adds_then, extends_interned}

flat_map_more : {A B : Type 0} (g : A → List B) (xs : List A) (i : ℕ) (x : A) → i < length xs → x ≡ get_or xs i x
    → flat_map g (take (i + 1) xs) ≡ flat_map g (take i xs) ++ g x
flat_map_more g xs i x h e =
    ap (flat_map g) (take_more xs i x h) ∙ flat_map-append g (take i xs) (get_or xs i x ∷ [])
    ∙ ap (λ ys. flat_map g (take i xs) ++ ys) (append-nil (g (get_or xs i x)) ∙ ap g (sym e))

-- the pieces of one more item are added
pub adds_more : {A : Type 0} (g : A → List PlacedRequirement) (xs : List A) (i : ℕ) (x : A) (a b c : List Term) (us vs ws : List Written)
    → i < length xs → x ≡ get_or xs i x
    → Adds a b us vs (flat_map g (take i xs)) → Adds b c vs ws (g x) → Adds a c us ws (flat_map g (take (i + 1) xs))
adds_more g xs i x a b c us vs ws h e p q =
    subst (Adds a c us ws) (sym (flat_map_more g xs i x h e)) (adds_then a b c us vs ws (flat_map g (take i xs)) (g x) p q)

-- ---- the steps of a type

pub step_next : {A : Type 0} (f : A → Step) (xs : List A) (i : ℕ) (d : A) (x : Step) (a b c : List Term) (t : Term) (id next : TermId)
    → i < length xs → x ≡ f (get_or xs i d)
    → Spells a b (with_steps t (map f (take i xs))) id → Interned b c (Member (term_at b id) x) next
    → Spells a c (with_steps t (map f (take (i + 1) xs))) next
step_next f xs i d x a b c t id next h e s n =
    let mapped : map f (take (i + 1) xs) ≡ map f (take i xs) ++ f (get_or xs i d) ∷ [] =
    ap (map f) (take_more xs i d h) ∙ map-append f (take i xs) (get_or xs i d ∷ []) in
    record {
      extends = onward a b c s.extends (extends_interned b c (Member (term_at b id) x) next n);
      is_of = n.is_of;
      stands = n.stands ∙ (λ j. Member (s.stands j) (e j)) ∙ sym (with_more t (map f (take i xs)) (f (get_or xs i d)))
          ∙ ap (with_steps t) (sym mapped);
    }

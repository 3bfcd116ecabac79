-- One item more, of a table that grows.
use Rattle.std.proofs.Common.{◌≡◌, ℕ, zero, suc, ◌+◌, ◌<◌, List, [], ◌∷◌, ◌++◌, length, get_or, map, take, refl, sym, ap, subst, ◌∙◌, arith}
use Rattle.std.proofs.lemmas.List.{map-append, take_more}
use Rattle.std.specs.List.{All}
use Rattle.swreq_param.specs.Terms.{Term}
use Rattle.swreq_param.specs.Tables.{Extends}
use Rattle.swreq_param.proofs.Growing.{onward, unchanged}
use Rattle.swreq_lowering.specs.declared.ids.Asks.{Asks}
use Rattle.swreq_lowering.specs.declared.ids.Asks.TheVariants as ids
use Rattle.swreq_lowering.specs.declared.ids.Query.{Query}
use Rattle.swreq_lowering.specs.Queries.TermAsks.{AsksReduced, AsksRequirement}
use Rattle.swreq_lowering.specs.ByTable.{HasAskedIdsOf, HasQueryIdsOf, asks_by, query_by}
use Rattle.swreq_lowering.proofs.Growing.{are_of_stay, ids_stay, of_stays, placed_stay, requirement_stays}
use Rattle.swreq_world.specs.declared.entry.Entry.{Entry}
use Rattle.swreq_world.specs.Entries.{IsEntryOf, entry_meant}
use Rattle.swreq_world.specs.Filling.{Fills}

module _ {A B : Type 0} (are_of : List Term → A → Type 0) (by : List Term → A → B)
    (of_stay : (old new : List Term) (x : A) → Extends old new → are_of old x → are_of new x)
    (by_stay : (old new : List Term) (x : A) → Extends old new → are_of old x → by new x ≡ by old x) where
  pub fills_nothing : (ts : List Term) (xs : List A) → xs ≡ [] → Fills are_of by ts ts [] xs
  fills_nothing ts xs e =
      subst (Fills are_of by ts ts []) (sym e) (record { extends = unchanged ts; are_of = λ k d l. absurd (omega arith); means = refl })

  means_stay : (old new : List Term) (xs : List A) → Extends old new → All (are_of old) xs → map (by new) xs ≡ map (by old) xs
  means_stay old new [] b h = refl
  means_stay old new (x ∷ xs) b h =
      λ i. by_stay old new x b (h 0 x (omega arith)) i ∷ means_stay old new xs b (λ k d l. h (suc k) d (omega arith)) i

  all_push : (ts : List Term) (xs : List A) (x : A) → All (are_of ts) xs → are_of ts x → All (are_of ts) (xs ++ x ∷ [])
  all_push ts [] x h g zero d l = g
  all_push ts [] x h g (suc k) d l = absurd (omega arith)
  all_push ts (y ∷ xs) x h g zero d l = h 0 d (omega arith)
  all_push ts (y ∷ xs) x h g (suc k) d l = all_push ts xs x (λ k d l. h (suc k) d (omega arith)) g k d (omega arith)

  fills_push : (a b c : List Term) (ys : List B) (xs zs : List A) (x : A) (y : B) → Fills are_of by a b ys xs → Extends b c → are_of c x
      → by c x ≡ y → zs ≡ xs ++ x ∷ [] → Fills are_of by a c (ys ++ y ∷ []) zs
  fills_push a b c ys xs zs x y f g o m e =
      subst (Fills are_of by a c (ys ++ y ∷ [])) (sym e) (record {
        extends = onward a b c f.extends g;
        are_of = all_push c xs x (λ k d l. of_stay b c (get_or xs k d) g (f.are_of k d l)) o;
        means = map-append (by c) xs (x ∷ []) ∙ (λ i. (means_stay b c xs g f.are_of ∙ f.means) i ++ m i ∷ []);
      })

  -- the meaning of one more of these
  pub fills_more : {C : Type 0} (f : C → B) (us : List C) (i : ℕ) (d : C) (a b c : List Term) (xs zs : List A) (x : A) → i < length us
      → Fills are_of by a b (map f (take i us)) xs → Extends b c → are_of c x → by c x ≡ f (get_or us i d) → zs ≡ xs ++ x ∷ []
      → Fills are_of by a c (map f (take (i + 1) us)) zs
  fills_more f us i d a b c xs zs x h s g o m e =
      subst (λ (ys : List B). Fills are_of by a c ys zs)
      (sym (ap (map f) (take_more us i d h) ∙ map-append f (take i us) (get_or us i d ∷ [])))
      (fills_push a b c (map f (take i us)) xs zs x (f (get_or us i d)) s g o m e)

  pub fills_later : (a b c : List Term) (ys : List B) (xs : List A) → Fills are_of by a b ys xs → Extends b c → Fills are_of by a c ys xs
  fills_later a b c ys xs f g = record {
    extends = onward a b c f.extends g;
    are_of = λ k d l. of_stay b c (get_or xs k d) g (f.are_of k d l);
    means = means_stay b c xs g f.are_of ∙ f.means;
  }

pub entry_of_stay : (old new : List Term) (e : Entry) → Extends old new → IsEntryOf old e → IsEntryOf new e
entry_of_stay old new e b h = are_of_stay old new e.own b h

pub entry_stays : (old new : List Term) (e : Entry) → Extends old new → IsEntryOf old e → entry_meant new e ≡ entry_meant old e
entry_stays old new e b h = λ i. record {
  signature = e.signature;
  name = e.name;
  outer = e.outer;
  own_depth = e.own_depth;
  params = e.params;
  requirements = placed_stay old new e.own b h i;
}

asked_of_stays : (old new : List Term) (a : Asks) → Extends old new → HasAskedIdsOf old a → HasAskedIdsOf new a
asked_of_stays old new ids.Signature b h = tt
asked_of_stays old new (ids.Reduced t) b h = of_stays old new t b h
asked_of_stays old new (ids.Requirement r) b h = ids_stay old new r b h

asked_stays : (old new : List Term) (a : Asks) → Extends old new → HasAskedIdsOf old a → asks_by new a ≡ asks_by old a
asked_stays old new ids.Signature b h = refl
asked_stays old new (ids.Reduced t) b h = ap AsksReduced (b.stands t h)
asked_stays old new (ids.Requirement r) b h = ap AsksRequirement (requirement_stays old new r b h)

pub query_of_stay : (old new : List Term) (q : Query) → Extends old new → HasQueryIdsOf old q → HasQueryIdsOf new q
query_of_stay old new q = asked_of_stays old new q.asks

pub query_stays : (old new : List Term) (q : Query) → Extends old new → HasQueryIdsOf old q → query_by new q ≡ query_by old q
query_stays old new q b h = λ i. record { f = q.f; asks = asked_stays old new q.asks b h i }

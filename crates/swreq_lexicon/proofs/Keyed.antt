-- Items that are ranked by keys.
use Rattle.std.proofs.Common.{◌≡◌, ℕ, ◌<◌, ◌↔◌, List, length, map, get_or, Contains, sym, ap, subst, ◌∙◌, arith}
use Rattle.std.specs.declared.cmp.Ordering.{Ordering}
use Rattle.std.proofs.lemmas.List.{get_or_default, get_or-map, length-map}
use Rattle.swreq_rank.proofs.Rising.{IsRising}

-- The keys have the order of their items.
abbrev pub GoesBy : {K A : Type 0} → (K → K → Ordering) → (K → A) → (A → A → Ordering) → List K → Type 0
GoesBy {K} key_cmp item cmp keys = (k l : K) → Contains keys k → Contains keys l → cmp (item k) (item l) ≡ key_cmp k l

module _ {K A : Type 0} (item : K → A) (any : A → K) where
  -- an item of the list has a key among the keys, and conversely
  pub key_of : (ks : List K) (d : A) → Contains (map item ks) d → (k : K) × Contains ks k × (item k ≡ d)
  key_of ks d c =
      let l : c.0 < length ks = subst (λ n. c.0 < n) (length-map ks item) c.1 in (
        get_or ks c.0 (any d),
        (c.0, l, get_or_default ks c.0 (get_or ks c.0 (any d)) (any d) l),
        sym (get_or-map item ks c.0 (any d) d l) ∙ c.2,
      )

  pub of_key : (ks : List K) (k : K) → Contains ks k → Contains (map item ks) (item k)
  of_key ks k c = (c.0, subst (λ n. c.0 < n) (sym (length-map ks item)) c.1, get_or-map item ks c.0 k (item k) c.1 ∙ ap item c.2)

  pub keyed_same : (ks rs : List K) → ((x : K) → Contains rs x ↔ Contains ks x) → (d : A)
      → Contains (map item rs) d ↔ Contains (map item ks) d
  keyed_same ks rs same d = (
    λ c. let k = key_of rs d c in subst (λ e. Contains (map item ks) e) k.2 (of_key ks k.0 ((same k.0).0 k.1)),
    λ c. let k = key_of ks d c in subst (λ e. Contains (map item rs) e) k.2 (of_key rs k.0 ((same k.0).1 k.1)),
  )

  pub keyed_rises : (key_cmp : K → K → Ordering) (ks rs : List K) → ((x : K) → Contains rs x ↔ Contains ks x) → IsRising key_cmp rs
      → (cmp : A → A → Ordering) → GoesBy key_cmp item cmp ks → IsRising cmp (map item rs)
  keyed_rises key_cmp ks rs same rising cmp by i j d h l =
      let m : j < length rs = subst (λ n. j < n) (length-map rs item) l in
      let a = get_or rs i (any d) in
      let b = get_or rs j (any d) in
      let n : i < length rs = below i j (length rs) h m in
      (λ k. cmp (get_or-map item rs i (any d) d n k) (get_or-map item rs j (any d) d m k))
      ∙ by a b ((same a).0 (i, n, get_or_default rs i a (any d) n)) ((same b).0 (j, m, get_or_default rs j b (any d) m))
      ∙ rising i j (any d) h m
    where
      below : (i j n : ℕ) → i < j → j < n → i < n
      below i j n h m = omega arith

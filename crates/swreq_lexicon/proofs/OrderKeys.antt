-- Protocols in their order.
use Rattle.std.proofs.Common.{◌≡◌, ℕ, zero, suc, ◌<◌, ◌≤◌, ⊎_elim, ◌↔◌, Bool, List, [], ◌∷◌, length, map, Contains, refl, sym, ap, subst, ◌∙◌, arith, length-append}
use Rattle.std.specs.List.Sorted.{IsStrictlySortedBy}
use Rattle.std.specs.Ordering.{nat_cmp, ordering_then}
use Rattle.std.proofs.lemmas.Bool.{cases_lt}
use Rattle.std.proofs.lemmas.List.{length-map}
use Rattle.std.proofs.lemmas.List.Elements.{Contains-append_left, Contains-push, Contains-push_cases}
use Rattle.swreq_rank.proofs.swreq_lemmas.Members.{no_member}
use Rattle.swreq_derive.specs.swreq_param.declared.ids.ProtoId.{ProtoId}
use Rattle.swreq_lexicon.specs.declared.symbols.OrderKey.{OrderKey}
use Rattle.swreq_lexicon.specs.contracts.symbols.OrderKeyOrd.TheImpl.{cmp-value}
use Rattle.swreq_lexicon.specs.Associated.{protocol, order_cmp}
use Rattle.swreq_lexicon.specs.Keys.{order_key, order_keys}
use Rattle.swreq_rank.specs.Ranks.{IsRanking}
use Rattle.swreq_lexicon.proofs.Keyed.{GoesBy, key_of, of_key, keyed_rises}
use Rattle.swreq_rank.proofs.Rising.{rising_from_sorted, sorted_from_rising}

abbrev proto_of : OrderKey → ProtoId
proto_of k = k.proto

module _ (inherits : ProtoId → ProtoId → Bool) (n : ℕ) where
  -- each key of the first m protocols is the key of its protocol
  key_is : (m : ℕ) (k : OrderKey) → Contains (order_keys inherits n m) k → (k.proto.rank < m) × (k ≡ order_key inherits n k.proto)
  key_is zero k c = no_member k c
  key_is (suc m) k c =
      ⊎_elim (λ b. let s = key_is m k b in (later k.proto.rank m s.0, s.1))
      (λ e. (subst (λ (x : OrderKey). x.proto.rank < suc m) e (next m), sym e ∙ ap (λ (x : OrderKey). order_key inherits n x.proto) e))
      (Contains-push_cases (order_keys inherits n m) (order_key inherits n (protocol m)) k c)
    where
      later : (r m : ℕ) → r < m → r < suc m
      later r m h = omega arith

      next : (m : ℕ) → m < suc m
      next m = omega arith

  key_there : (m : ℕ) (p : ProtoId) → p.rank < m → Contains (order_keys inherits n m) (order_key inherits n p)
  key_there zero p h = absurd (omega arith)
  key_there (suc m) p h =
      ⊎_elim (λ b.
      Contains-append_left (order_keys inherits n m) (order_key inherits n (protocol m) ∷ []) (order_key inherits n p) (key_there m p b))
      (λ g. subst (λ r. Contains (order_keys inherits n (suc m)) (order_key inherits n (protocol r))) (sym (same g))
      (Contains-push (order_keys inherits n m) (order_key inherits n (protocol m)))) (cases_lt p.rank m)
    where
      same : m ≤ p.rank → p.rank ≡ m
      same g = omega arith

  pub keys_length : (m : ℕ) → length (order_keys inherits n m) ≡ m
  keys_length zero = refl
  keys_length (suc m) =
      let e = length-append (order_keys inherits n m) (order_key inherits n (protocol m) ∷ []) in
      let l = keys_length m in
      omega (arith, e, l)

  goes : (ks : List OrderKey) → ((k : OrderKey) → Contains ks k → k ≡ order_key inherits n k.proto)
      → GoesBy cmp-value.it proto_of (order_cmp inherits n) ks
  goes ks are k l c d =
      λ i. ordering_then (nat_cmp (ap (λ (x : OrderKey). x.depth.0) (sym (are l d)) i) (ap (λ (x : OrderKey). x.depth.0) (sym (are k c)) i))
      (nat_cmp k.proto.rank l.proto.rank)

  module _ (ranked : List OrderKey) (same : (k : OrderKey) → Contains ranked k ↔ Contains (order_keys inherits n n) k)
      (sorted : IsStrictlySortedBy cmp-value.it ranked) where
    pub order_ranking : IsRanking (order_cmp inherits n) (λ p. p.rank < n) (map proto_of ranked)
    order_ranking = record {
      sorted = sorted_from_rising (order_cmp inherits n) (map proto_of ranked)
          (keyed_rises proto_of (order_key inherits n) cmp-value.it (order_keys inherits n n) ranked same
          (rising_from_sorted cmp-value.it ranked sorted)
          (order_cmp inherits n) (goes (order_keys inherits n n) (λ k c. (key_is n k c).1)));
      same = λ p. (
        λ c. let k = key_of proto_of (order_key inherits n) ranked p c in
            subst (λ (q : ProtoId). q.rank < n) k.2 (key_is n k.0 ((same k.0).0 k.1)).0,
        λ h. of_key proto_of (order_key inherits n) ranked (order_key inherits n p) ((same (order_key inherits n p)).1 (key_there n p h)),
      );
    }

    pub order_few : length ranked ≤ length (order_keys inherits n n) → n ≤ 1048576 → length (map proto_of ranked) ≤ 1048576
    order_few h s =
        let l = keys_length n in
        let m = length-map ranked proto_of in
        omega (arith, l, m, h, s)

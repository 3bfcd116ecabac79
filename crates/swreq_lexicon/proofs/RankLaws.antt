-- What ranks say.
use Rattle.std.proofs.Common.{◌≡◌, ℕ, zero, suc, ◌+◌, ◌-◌, ◌<◌, ◌≤◌, ⊎_elim, ◌↔◌, Bool, cond, List, [], ◌∷◌, length, get_or, slice_get, position, Option, Some, None, unwrap_or, Contains, refl, sym, ap, subst, ◌∙◌, arith}
use Rattle.std.specs.declared.cmp.Ordering.{Ordering}
use Rattle.std.specs.declared.cmp.Ordering.TheVariants.{Less, Greater}
use Rattle.std.specs.Ordering.{nat_cmp, ordering_then, then_cmp, on}
use Rattle.std.specs.Cmp.{IsTotalOrder, nat_cmp_is}
use Rattle.std.specs.List.{position_from, IsDistinct}
use Rattle.std.specs.List.Sorted.{IsStrictlySortedBy}
use Rattle.std.specs.Option.{option_map}
use Rattle.std.specs.Str.{bytes_eq}
use Rattle.std.proofs.lemmas.Bool.{cases_lt, cases_eq}
use Rattle.std.proofs.lemmas.Cmp.{then_total, on_total, nat_cmp_total}
use Rattle.std.proofs.lemmas.Iterator.Adapters.{position_from-zero}
use Rattle.std.proofs.lemmas.List.{length-map}
use Rattle.std.proofs.lemmas.List.Elements.{Contains-append_right}
use Rattle.std.proofs.lemmas.List.Quantifiers.{position-Some}
use Rattle.std.proofs.lemmas.Option.{slice_get-get_or, slice_get-map, slice_get_within, get_or_from_slice_get, same_Some}
use Rattle.std.proofs.lemmas.Slice.Eq.{bytes_eq-Decides}
use Rattle.swreq_rank.proofs.swreq_lemmas.Numbers.{above}
use Rattle.swreq_rank.proofs.swreq_lemmas.Elements.{get_contains}
use Rattle.swreq_rank.proofs.swreq_lemmas.Members.{no_member, member_cases}
use Rattle.swreq_decl.specs.declared.skeleton.ProtocolDecl.{ProtocolDecl}
use Rattle.swreq_decl.specs.declared.skeleton.Skeleton.{Skeleton}
use Rattle.swreq_derive.specs.Derivation.{AssociatedType}
use Rattle.swreq_derive.specs.Facts.{AreOneToOne}
use Rattle.swreq_names.specs.Spaces.{word, place, spaces}
use Rattle.swreq_derive.specs.swreq_param.declared.ids.AssocId.{AssocId}
use Rattle.swreq_derive.specs.swreq_param.declared.ids.NameId.{NameId}
use Rattle.swreq_derive.specs.swreq_param.declared.ids.ProtoId.{ProtoId}
use Rattle.swreq_lexicon.specs.declared.pair.ProtocolName.{ProtocolName}
use Rattle.swreq_lexicon.specs.Associated as over
use Rattle.swreq_lexicon.specs.Lexicons.{pair, is_pair, proto_by, assoc_at, assoc_by, associated_from, associated_types}
use Rattle.swreq_rank.specs.Ranks.{Bytes, IsRanking, bytes_cmp, rank}
use Rattle.swreq_lexicon.specs.Texts.{IsLexiconOf, protocol_names}
use Rattle.swreq_lexicon.specs.Views.{LexiconView, IsProtocol, place_of, inherits}
use Rattle.swreq_rank.proofs.Names.{few_names, distinct_names}
use Rattle.swreq_lexicon.proofs.PairPlaces.{by_place}
use Rattle.swreq_lexicon.proofs.Places.{declared_names, names_length}
use Rattle.swreq_lexicon.proofs.Positions.{rank_of_there}
use Rattle.swreq_rank.proofs.Rising.{rising_from_sorted, one_place}

-- ---- names

pub rank_is : (Is : Bytes → Type 0) (ranking : List Bytes) → IsRanking bytes_cmp Is ranking → (name : Bytes) → Is name
    → slice_get ranking (rank ranking name) ≡ Some name
rank_is Is ranking are name h =
    let c = (are.same name).1 h in
    let at = slice_get-get_or ranking c.0 name c.1 ∙ ap Some c.2 in
    ap (slice_get ranking) (sym (rank_of_there ranking name c.0 (rising_from_sorted bytes_cmp ranking are.sorted) at)) ∙ at

pub rank_itself : (Is : Bytes → Type 0) (ranking : List Bytes) → IsRanking bytes_cmp Is ranking → (name : Bytes) (r : ℕ)
    → slice_get ranking r ≡ Some name → rank ranking name ≡ r
rank_itself Is ranking are name r h = sym (rank_of_there ranking name r (rising_from_sorted bytes_cmp ranking are.sorted) h)

-- ---- associated types

pub assoc_is : (ds : List ProtocolName) (d : ProtocolName) → Contains ds d → slice_get ds (assoc_by ds d.proto d.name).rank ≡ Some d
assoc_is ds d c = by (position (is_pair d.proto d.name) ds) refl
  where
    by : (o : Option ℕ) → position (is_pair d.proto d.name) ds ≡ o
        → slice_get ds (assoc_at (unwrap_or (position (is_pair d.proto d.name) ds) 0)).rank ≡ Some d
    by None e = absurd (by_place d.proto d.name ds None e c)
    by (Some i) e = ap (λ o. slice_get ds (unwrap_or o 0)) e ∙ by_place d.proto d.name ds (Some i) e

-- An associated type of a list that begins at rank k stands at its rank.
record HasRank (k : ℕ) (ds : List ProtocolName) (d : AssociatedType) : Type 0 where
  pub from : k ≤ d.assoc.rank
  pub is : slice_get ds (d.assoc.rank - k) ≡ Some (pair d.proto d.name)

ranked_to : (k : ℕ) (ds : List ProtocolName) (d : AssociatedType) → Contains (associated_from k ds) d → HasRank k ds d
ranked_to k [] d c = no_member d c
ranked_to k (e ∷ ds) d c =
    ⊎_elim (λ s. here (ap (λ (x : AssociatedType). x.assoc.rank) (sym s)) (ap (λ (x : AssociatedType). pair x.proto x.name) (sym s)))
    (λ b. further (ranked_to (k + 1) ds d b))
    (member_cases (record { proto = e.proto; name = e.name; assoc = record { rank = k } }) d (associated_from (k + 1) ds) c)
  where
    here : k ≡ d.assoc.rank → e ≡ pair d.proto d.name → HasRank k (e ∷ ds) d
    here r s =
        record { from = omega (arith, r); is = let z : d.assoc.rank - k ≡ 0 = omega (arith, r) in ap (slice_get (e ∷ ds)) z ∙ ap Some s }

    further : HasRank (k + 1) ds d → HasRank k (e ∷ ds) d
    further h =
        let l = h.from in
        record {
          from = omega (arith, l);
          is = let n : d.assoc.rank - k ≡ suc (d.assoc.rank - (k + 1)) = omega (arith, l) in ap (slice_get (e ∷ ds)) n ∙ h.is;
        }

ranked_from : (k : ℕ) (ds : List ProtocolName) (i : ℕ) (p : ProtoId) (a : NameId) → slice_get ds i ≡ Some (pair p a)
    → Contains (associated_from k ds) (record { proto = p; name = a; assoc = record { rank = k + i } })
ranked_from k [] i p a h = absurd cc
ranked_from k (e ∷ ds) zero p a h =
    let s = same_Some e (pair p a) h in
    let z : k + 0 ≡ k = omega arith in
    (0, omega arith, λ j. record { proto = (s j).proto; name = (s j).name; assoc = record { rank = sym z j } })
ranked_from k (e ∷ ds) (suc i) p a h =
    let n : k + 1 + i ≡ k + suc i = omega arith in
    let c = ranked_from (k + 1) ds i p a h in
    subst (λ r. Contains (associated_from k (e ∷ ds)) (record { proto = p; name = a; assoc = record { rank = r } })) n
    (Contains-append_right (record { proto = e.proto; name = e.name; assoc = record { rank = k } } ∷ []) (associated_from (k + 1) ds)
    (record { proto = p; name = a; assoc = record { rank = k + 1 + i } }) c)

pub ranked : (ds : List ProtocolName) (d : AssociatedType)
    → Contains (associated_types ds) d ↔ (slice_get ds d.assoc.rank ≡ Some (pair d.proto d.name))
ranked ds d = (
  λ c. let z : d.assoc.rank - 0 ≡ d.assoc.rank = omega arith in ap (slice_get ds) (sym z) ∙ (ranked_to 0 ds d c).is,
  λ h. let z : 0 + d.assoc.rank ≡ d.assoc.rank = omega arith in
      subst (λ r. Contains (associated_types ds) (record { proto = d.proto; name = d.name; assoc = record { rank = r } })) z
      (ranked_from 0 ds d.assoc.rank d.proto d.name h),
)

pub one_to_one : (cmp : ProtocolName → ProtocolName → Ordering) → IsTotalOrder cmp → (ds : List ProtocolName) → IsStrictlySortedBy cmp ds
    → AreOneToOne (associated_types ds)
one_to_one cmp total ds sorted = record {
  of_pair = λ p a d e c f.
      let r = one_place cmp total ds (rising_from_sorted cmp ds sorted) d.rank e.rank (pair p a)
      ((ranked ds (record { proto = p; name = a; assoc = d })).0 c) ((ranked ds (record { proto = p; name = a; assoc = e })).0 f) in
      λ i. record { rank = r i };
  of_assoc = λ b c d e s.
      let r = ap (λ (x : AssocId). x.rank) s in
      let q = same_Some (pair b.proto b.name) (pair c.proto c.name) (sym ((ranked ds b).0 d) ∙ ap (slice_get ds) r ∙ (ranked ds c).0 e) in
      λ i. record { proto = (q i).proto; name = (q i).name; assoc = s i };
}

pub assoc_total : (inherits : ProtoId → ProtoId → Bool) (associated : List ProtocolName) → IsTotalOrder (over.assoc_cmp inherits associated)
assoc_total inherits associated =
    then_total (on_total (λ (d : ProtocolName). d.name.rank) nat_cmp_total)
    (then_total (on_total (λ (d : ProtocolName). cond (over.is_root inherits associated d) 0 1) nat_cmp_total)
    (on_total (λ (d : ProtocolName). d.proto.rank) nat_cmp_total))

-- ---- by name first

-- If two items of a sorted list are not identical, and the second is not less than the first, then the first stands before the second.
pub stands_first : {K : Type 0} (cmp : K → K → Ordering) (xs : List K) → IsStrictlySortedBy cmp xs
    → (i j : ℕ) (x y : K) → slice_get xs i ≡ Some x → slice_get xs j ≡ Some y → (x ≡ y → ⊥) → (cmp y x ≡ Less → ⊥) → i < j
stands_first cmp xs sorted i j x y f g other not_less =
    ⊎_elim (λ l. l) (λ l. ⊎_elim (λ s. absurd (other (same_Some x y (sym f ∙ ap (slice_get xs) s ∙ g))))
    (λ n. absurd (not_after (above i j l n))) (cases_eq i j)) (cases_lt i j)
  where
    not_after : j < i → ⊥
    not_after l =
        not_less
        ((λ k. cmp (sym (get_or_from_slice_get xs j y x g) k) (sym (get_or_from_slice_get xs i x x f) k))
        ∙ rising_from_sorted cmp xs sorted j i x l (slice_get_within xs i x f))

pub by_name : (rest : ProtocolName → ProtocolName → Ordering) (ds : List ProtocolName)
    → IsStrictlySortedBy (then_cmp (on (λ d. d.name.rank) nat_cmp) rest) ds
    → (i j : ℕ) (d e : ProtocolName) → slice_get ds i ≡ Some d → slice_get ds j ≡ Some e → d.name.rank < e.name.rank → i < j
by_name rest ds sorted i j d e f g h =
    stands_first (then_cmp (on (λ (x : ProtocolName). x.name.rank) nat_cmp) rest) ds sorted i j d e f g
    (λ s. let r = ap (λ (x : ProtocolName). x.name.rank) s in absurd (omega (arith, r, h)))
    (λ l. let clash : Greater ≡ Less = ap (λ o. ordering_then o (rest e d)) (nat_cmp_is e.name.rank d.name.rank Greater h) ∙ l in absurd cc)

-- ---- places

pub place_is : (all : List Bytes) (name : Bytes) (k : ℕ) → position_from (bytes_eq name) 0 all ≡ Some k → slice_get all k ≡ Some name
place_is all name k h =
    let s = position-Some (bytes_eq name) all k name (position_from-zero (bytes_eq name) all ∙ h) in
    slice_get-get_or all k name s.0 ∙ ap Some (sym ((bytes_eq-Decides name (get_or all k name)).0 s.1))

module _ (text : Bytes) (s : Skeleton) (x : LexiconView) (is : IsLexiconOf text s x) where
  first_place : (name : Bytes) (k : ℕ) → place (spaces text s).protocols name ≡ Some k
      → position_from (bytes_eq name) 0 (protocol_names text s.protocols) ≡ Some k
  first_place name k h = sym (ap (position_from (bytes_eq name) 0) (declared_names text s.protocols)) ∙ h

  written : (k : ℕ) (name : Bytes) → slice_get (protocol_names text s.protocols) k ≡ Some name
      → slice_get x.written_order k ≡ Some (proto_by x.protocols name)
  written k name h =
      ap (λ ps. slice_get ps k) is.written_order
      ∙ slice_get-map (λ (p : ProtocolDecl). proto_by x.protocols (word text p.name)) s.protocols k
      ∙ mapped (slice_get s.protocols k) (sym (slice_get-map (λ (p : ProtocolDecl). word text p.name) s.protocols k) ∙ h)
    where
      mapped : (o : Option ProtocolDecl) → option_map (λ (p : ProtocolDecl). word text p.name) o ≡ Some name
          → option_map (λ (p : ProtocolDecl). proto_by x.protocols (word text p.name)) o ≡ Some (proto_by x.protocols name)
      mapped None e = absurd cc
      mapped (Some p) e = ap (λ n. Some (proto_by x.protocols n)) (same_Some (word text p.name) name e)

  pub written_at : (p : ProtoId) → IsProtocol x p → slice_get x.written_order (place_of x p) ≡ Some p
  written_at p h =
      let name = get_or x.protocols p.rank [] in
      let at = slice_get-get_or x.protocols p.rank [] h in
      let r = rank_itself (Contains (protocol_names text s.protocols)) x.protocols is.protocols name p.rank at in
      written (place_of x p) name
      (place_is (protocol_names text s.protocols) name (place_of x p) (first_place name (place_of x p) (is.places p name at)))
      ∙ ap Some (λ i. record { rank = r i })

  pub written_protocol : (k : ℕ) (p : ProtoId) → slice_get x.written_order k ≡ Some p → IsProtocol x p
  written_protocol k p h = by (slice_get s.protocols k) refl
    where
      at : slice_get x.written_order k
          ≡ option_map (λ (q : ProtocolDecl). proto_by x.protocols (word text q.name)) (slice_get s.protocols k)
      at = ap (λ ps. slice_get ps k) is.written_order
          ∙ slice_get-map (λ (q : ProtocolDecl). proto_by x.protocols (word text q.name)) s.protocols k

      by : (o : Option ProtocolDecl) → slice_get s.protocols k ≡ o → IsProtocol x p
      by None e = let n = sym h ∙ at ∙ ap (option_map (λ (q : ProtocolDecl). proto_by x.protocols (word text q.name))) e in absurd cc
      by (Some q) e =
          let same = same_Some p (proto_by x.protocols (word text q.name))
          (sym h ∙ at ∙ ap (option_map (λ (q : ProtocolDecl). proto_by x.protocols (word text q.name))) e) in
          let named = slice_get-map (λ (q : ProtocolDecl). word text q.name) s.protocols k
          ∙ ap (option_map (λ (q : ProtocolDecl). word text q.name)) e in
          let r = rank_is (Contains (protocol_names text s.protocols)) x.protocols is.protocols (word text q.name)
          (get_contains (protocol_names text s.protocols) k (word text q.name) named) in
          subst (IsProtocol x) (sym same) (slice_get_within x.protocols (rank x.protocols (word text q.name)) (word text q.name) r)

  pub meant : (name : Bytes) (k : ℕ) → place (spaces text s).protocols name ≡ Some k → place_of x (proto_by x.protocols name) ≡ k
  meant name k h =
      let at = place_is (protocol_names text s.protocols) name k (first_place name k h) in
      let r = rank_is (Contains (protocol_names text s.protocols)) x.protocols is.protocols name
      (get_contains (protocol_names text s.protocols) k name at) in
      same_Some (place_of x (proto_by x.protocols name)) k (sym (is.places (proto_by x.protocols name) name r) ∙ h)

  pub written_once : IsDistinct bytes_eq (protocol_names text s.protocols) → length x.written_order ≡ length x.protocols
  written_once distinct =
      let size = ap length is.written_order ∙ length-map s.protocols (λ (p : ProtocolDecl). proto_by x.protocols (word text p.name)) in
      let names = names_length text s.protocols in
      let few = few_names x.protocols (protocol_names text s.protocols) (rising_from_sorted bytes_cmp x.protocols is.protocols.sorted)
      (λ q c. (is.protocols.same q).0 c) in
      let many = distinct_names (protocol_names text s.protocols) x.protocols distinct (λ q c. (is.protocols.same q).1 c) in
      omega (arith, size, names, few, many)

-- Where each pair that is sought is listed, and that what is listed gives pairs.
use Rattle.std.proofs.Common.{◌≡◌, inl, inr, ℕ, zero, suc, ◌+◌, ◌-◌, ◌<◌, List, [], ◌∷◌, ◌++◌, append-nil, drop, length, length-append, length-drop, get_or, refl, sym, ◌∙◌, ap, subst, arith, Option, Some, Vec}
use Rattle.std.specs.List.{slice_get}
use Rattle.std.specs.declared.alloc.Global.{Global}
use Rattle.std.proofs.lemmas.Option.{slice_get_within, get_or_from_slice_get}
use Rattle.swreq_rule.specs.swreq_word.declared.symbols.Symbol.{Symbol}
use Rattle.swreq_rule.specs.swreq_word.Overlap.{Containment}
use Rattle.swreq_rule.specs.declared.rules.Place.{Place}
use Rattle.swreq_rule.proofs.Overlapping.{overlap_within, overlapping, common_is, containing, containing_rest}
use Rattle.swreq_trie.specs.declared.edges.Edge.{Edge}
use Rattle.swreq_trie.specs.declared.lengths.Lengths.{Lengths}
use Rattle.swreq_trie.specs.declared.spots.Spot.{Spot}
use Rattle.swreq_trie.specs.declared.walk.Met.{Met}
use Rattle.swreq_trie.specs.declared.trie.Entry.{Entry}
use Rattle.swreq_trie.specs.Paths.{IsChild, NoChild, Leads}
use Rattle.swreq_trie.specs.Marks.{Holds, IsListed}
use Rattle.swreq_trie.specs.Walk.{AreMet}
use Rattle.swreq_trie.specs.Index.{IsIndex, begin_of, spot_of}
use Rattle.swreq_trie.specs.Places.{Meets, IsOnto, IsFrom}
use Rattle.swreq_trie.specs.Keys.{IsBeginKey, IsInsideKey, IsFromKey, place_of, key_of}
use Rattle.swreq_trie.proofs.Paths.{one_end, one_word, one_edge}

-- where two words meet at a place, they have one symbol there
get_after : {A : Type 0} (b : List A) (x : A) (q : List A) → slice_get (b ++ x ∷ q) (length b) ≡ Some x
get_after [] x q = refl
get_after (y ∷ b) x q = get_after b x q

first_symbol : {A : Type 0} (c : List A) → 0 < length c → (x : A) × (q : List A) × (c ≡ x ∷ q)
first_symbol [] l = absurd (omega (arith, l))
first_symbol (x ∷ q) l = (x, q, refl)

stands_at : (u before q : List Symbol) (x : Symbol) (at : ℕ) → u ≡ before ++ (x ∷ q) → length before ≡ at → slice_get u at ≡ Some x
stands_at u before q x at e l =
    subst (λ w. slice_get w at ≡ Some x) (sym e) (subst (λ n. slice_get (before ++ (x ∷ q)) n ≡ Some x) l (get_after before x q))

pub meeting_symbol : (u v : List Symbol) (at : ℕ) → 0 < length v → Meets u v at
    → (x : Symbol) × (slice_get u at ≡ Some x) × (slice_get v 0 ≡ Some x)
meeting_symbol u v at some (inl o) =
    let c = first_symbol o.common o.common_some in (
      c.0,
      stands_at u o.before c.1 c.0 at (o.first_is ∙ ap (λ y. o.before ++ y) c.2) o.at_is,
      subst (λ w. slice_get w 0 ≡ Some c.0) (sym (o.second_is ∙ ap (λ y. y ++ o.after) c.2)) refl,
    )
meeting_symbol u v at some (inr o) =
    let c = first_symbol v some in (
      c.0,
      stands_at u o.before (c.1 ++ o.after) c.0 at (o.first_is ∙ ap (λ y. o.before ++ (y ++ o.after)) c.2) o.at_is,
      subst (λ w. slice_get w 0 ≡ Some c.0) (sym c.2) refl,
    )

-- from the last symbol of u on, which v begins with, they meet
last_rest : {A : Type 0} (u : List A) (at : ℕ) (x : A) → slice_get u at ≡ Some x → length u - at ≡ 1 → drop at u ≡ x ∷ []
last_rest [] at x e l = cc
last_rest (y ∷ []) zero x e l = (let h : y ≡ x = cc in ap (λ z. z ∷ []) h)
last_rest (y ∷ (z ∷ u)) zero x e l = absurd (omega (arith, l))
last_rest (y ∷ u) (suc at) x e l = last_rest u at x e (omega (arith, l))

pub meets_last : (u v : List Symbol) (at : ℕ) (x : Symbol) → 0 < at → slice_get u at ≡ Some x → slice_get v 0 ≡ Some x
    → length u - at ≡ 1 → Meets u v at
meets_last u [] at x some e f l = cc
meets_last u (y ∷ []) at x some e f l =
    let h : x ≡ y = cc in
    inr (containing u (y ∷ []) [] at (omega (arith, l)) (last_rest u at x e l ∙ ap (λ z. z ∷ []) h))
meets_last u (y ∷ (z ∷ v)) at x some e f l =
    let h : y ≡ x = cc in
    inl (overlapping u (y ∷ (z ∷ v)) (z ∷ v) at some (omega (arith, l)) (omega (arith, l))
    (ap (λ w. w ∷ (z ∷ v)) h ∙ ap (λ w. w ++ (z ∷ v)) (sym (last_rest u at x e l))))

nothing_after : {A : Type 0} (a b : List A) → length (a ++ b) ≡ length a → b ≡ []
nothing_after a [] e = refl
nothing_after a (x ∷ b) e = absurd (let h = simp length-append at e in omega (arith, h))

module _ (edges : List Edge) (ends : List (Option ℕ)) (passing inside : List (Vec Spot Global)) (lengths : Lengths) (stored : List Entry)
    (index : IsIndex edges ends passing inside lengths stored) (left : List Symbol) (number : ℕ) where
  -- a stored side in which the new one stands at its start
  module _ (some : 0 < length left) where
    begin_way : (k : ℕ) (p : Place) → (o : IsOnto stored left number k 0 p)
        → (node : ℕ) × Leads edges 0 left node × IsListed passing node (begin_of k o.entry)
    begin_way k p o = elim o.meets [
      | inl v ↦ absurd (let w = (overlap_within o.entry.left left 0 v).0 in omega (arith, w))
      | inr v ↦ (let e : o.entry.left ≡ left ++ v.after = containing_rest o.entry.left left 0 v in
          let size = simp length-append at (ap length e) in
          index.is_passing k o.entry o.is_entry left v.after e some (omega (arith, size)))
    ]

    pub no_begins : ((node : ℕ) → Leads edges 0 left node → ⊥) → (key : ℕ × ℕ × ℕ)
        → (k : ℕ) × IsOnto stored left number k 0 (place_of key) → ⊥
    no_begins none key o = let r = begin_way o.0 (place_of key) o.1 in none r.0 r.1

    module _ (node : ℕ) (leads : Leads edges 0 left node) (key : ℕ × ℕ × ℕ) where
      pub begin_listed : (k : ℕ) × IsOnto stored left number k 0 (place_of key)
          → (spot : Spot) × IsListed passing node spot × IsBeginKey number spot key
      begin_listed o =
          let r = begin_way o.0 (place_of key) o.1 in
          let same : r.0 ≡ node = one_end edges index.forked left 0 r.0 node r.1 leads in
          (begin_of o.0 o.1.entry, subst (λ n. IsListed passing n (begin_of o.0 o.1.entry)) same r.2, (o.1.below, ap key_of o.1.place_is))

      pub listed_begin : (spot : Spot) × IsListed passing node spot × IsBeginKey number spot key
          → (k : ℕ) × IsOnto stored left number k 0 (place_of key)
      listed_begin w =
          let spot = w.0 in
          let r = index.passing_right node spot w.1 in
          let n : spot.number ≡ r.entry.number = ap (λ (s : Spot). s.number) r.spot_is in
          let word : r.on_way.0 ≡ left = one_word edges r.on_way.0 left node r.on_way.3 leads in
          let e : r.entry.left ≡ left ++ r.on_way.1 = r.on_way.2 ∙ ap (λ x. x ++ r.on_way.1) word in (
            spot.side,
            record {
              entry = r.entry;
              is_entry = r.is_entry;
              below = subst (λ m. m < number) n w.2.0;
              meets = inr (containing r.entry.left left r.on_way.1 0 (omega arith) e);
              place_is = ap place_of w.2.1 ∙ ap (λ m. record { i = m; j = number; at = 0 }) n;
            },
          )

  -- one within which it stands, or which it overlaps
  module _ (some : 0 < length left) (d : Symbol) (key : ℕ × ℕ × ℕ) where
    inside_way : (k at : ℕ) → 0 < at → (o : IsOnto stored left number k at (place_of key))
        → (node : ℕ) × IsChild edges 0 (get_or left 0 d) node
        × IsListed inside node (spot_of k o.entry at)
    inside_way k at l o =
        let m = meeting_symbol o.entry.left left at some o.meets in
        let r = index.is_inside k o.entry o.is_entry at m.0 l (slice_get_within o.entry.left at m.0 m.1) m.1 in
        (r.0, subst (λ x. IsChild edges 0 x r.0) (sym (get_or_from_slice_get left 0 m.0 d m.2)) r.1, r.2)

    pub no_insides : NoChild edges 0 (get_or left 0 d) → (k : ℕ) × (at : ℕ) × (0 < at) × IsOnto stored left number k at (place_of key) → ⊥
    no_insides none o = let r = inside_way o.0 o.1 o.2 o.3 in none r.0 r.1

    module _ (node : ℕ) (child : IsChild edges 0 (get_or left 0 d) node) where
      pub inside_listed : (k : ℕ) × (at : ℕ) × (0 < at) × IsOnto stored left number k at (place_of key)
          → (spot : Spot) × IsListed inside node spot × IsInsideKey stored left number spot key
      inside_listed w =
          let o = w.3 in
          let r = inside_way w.0 w.1 w.2 o in
          let same : r.0 ≡ node = index.forked 0 (get_or left 0 d) r.0 node r.1 child in (
            spot_of w.0 o.entry w.1,
            subst (λ n. IsListed inside n (spot_of w.0 o.entry w.1)) same r.2,
            (o.below, ap key_of o.place_is, inr (o.entry, o.is_entry, o.meets)),
          )

      pub listed_inside : (spot : Spot) × IsListed inside node spot × IsInsideKey stored left number spot key
          → (k : ℕ) × (at : ℕ) × (0 < at) × IsOnto stored left number k at (place_of key)
      listed_inside w =
          let spot = w.0 in
          let r = index.inside_right node spot w.1 in
          let n : spot.number ≡ r.entry.number = ap (λ (s : Spot). s.number) r.spot_is in
          let rest : spot.rest ≡ length r.entry.left - spot.at = ap (λ (s : Spot). s.rest) r.spot_is in
          let symbol : r.within.0 ≡ get_or left 0 d = (one_edge edges 0 0 r.within.0 (get_or left 0 d) node r.within.3 child).1 in
          let first : slice_get left 0 ≡ Some r.within.0 = subst (λ x. slice_get left 0 ≡ Some x) (sym symbol) (first_is left some) in (
            spot.side,
            spot.at,
            r.within.1,
            record {
              entry = r.entry;
              is_entry = r.is_entry;
              below = subst (λ m. m < number) n w.2.0;
              meets = elim w.2.2 [
                | inl one ↦ meets_last r.entry.left left spot.at r.within.0 r.within.1 r.within.2 first (sym rest ∙ one)
                | inr m ↦ (let e = m.1 in let f = r.is_entry in let same : m.0 ≡ r.entry = cc in
                    subst (λ (x : Entry). Meets x.left left spot.at) same m.2)
              ];
              place_is = ap place_of w.2.1 ∙ ap (λ m. record { i = m; j = number; at = spot.at }) n;
            },
          )
        where
          first_is : (l : List Symbol) → 0 < length l → slice_get l 0 ≡ Some (get_or l 0 d)
          first_is [] m = absurd (omega (arith, m))
          first_is (x ∷ l) m = refl

  -- one that stands in the new one, or overlaps its end
  module _ (at : ℕ) (within : at < length left) (nodes : List Met) (met : AreMet edges ends (drop at left) nodes) (key : ℕ × ℕ × ℕ) where
    abbrev Sought : Type 0
    Sought = (m : Met) × Holds nodes m × ((spot : Spot) × IsListed passing m.node spot × IsFromKey number at (length left) m.depth spot key)

    pub from_listed : (k : ℕ) × IsFrom stored left number k at (place_of key) → Sought
    from_listed w =
        let k = w.0 in
        let o = w.1 in
        elim o.meets [
          | inl v ↦ (let size = simp length-append at (ap length v.second_is) in
              let r = index.is_passing k o.entry o.is_entry v.common v.after v.second_is v.common_some (omega (arith, size)) in
              let e : drop at left ≡ v.common = common_is left o.entry.left at v in (
                record { node = r.0; depth = length (drop at left) },
                met.last r.0 (subst (λ x. Leads edges 0 x r.0) (sym e) r.1),
                (begin_of k o.entry, r.2, (o.below, ap key_of o.place_is, inr ((overlap_within left o.entry.left at v).0, whole))),
              ))
          | inr v ↦ (let e : drop at left ≡ o.entry.left ++ v.after = containing_rest left o.entry.left at v in
              let some = index.some k o.entry o.is_entry in
              let r = index.is_passing k o.entry o.is_entry o.entry.left [] (sym (append-nil o.entry.left)) some (omega arith) in
              let h = index.has_end k o.entry o.is_entry in
              let same : h.0 ≡ r.0 = one_end edges index.forked o.entry.left 0 h.0 r.0 h.2 r.1 in (
                record { node = h.0; depth = length o.entry.left },
                met.ended o.entry.left v.after h.0 h.1 e some h.2 h.3,
                (
                  begin_of k o.entry,
                  subst (λ n. IsListed passing n (begin_of k o.entry)) (sym same) r.2,
                  (o.below, ap key_of o.place_is, inl refl),
                ),
              ))
        ]
      where
        whole : at + length (drop at left) ≡ length left
        whole = rw length-drop (omega (arith, within))

    pub listed_from : Sought → (k : ℕ) × IsFrom stored left number k at (place_of key)
    listed_from w =
        let spot = w.2.0 in
        let m = met.right w.0 w.1 in
        let r = index.passing_right w.0.node spot w.2.1 in
        let n : spot.number ≡ r.entry.number = ap (λ (s : Spot). s.number) r.spot_is in
        let rest : spot.rest ≡ length r.entry.left = ap (λ (s : Spot). s.rest) r.spot_is in
        let word : r.on_way.0 ≡ m.front = one_word edges r.on_way.0 m.front w.0.node r.on_way.3 m.leads in
        let e : r.entry.left ≡ m.front ++ r.on_way.1 = r.on_way.2 ∙ ap (λ x. x ++ r.on_way.1) word in (
          spot.side,
          record {
            entry = r.entry;
            is_entry = r.is_entry;
            below = subst (λ x. x < number) n w.2.2.0;
            meets = elim w.2.2.2 [
              | inl even ↦ inr (contained r.entry.left m.front r.on_way.1 m.rest e (sym (ap length e) ∙ sym rest ∙ even ∙ m.depth_is) m.cut)
              | inr end ↦
                  ended r.entry.left m.front r.on_way.1 m.rest e m.cut end.0 (let f = m.depth_is in let g = end.1 in omega (arith, f, g))
            ];
            place_is = ap place_of w.2.2.1 ∙ ap (λ x. record { i = number; j = x; at = at }) n;
          },
        )
      where
        contained : (side front more rest : List Symbol) → side ≡ front ++ more → length (front ++ more) ≡ length front
            → drop at left ≡ front ++ rest
            → Containment left side at
        contained side front more rest e even cut =
            let none : more ≡ [] = nothing_after front more even in
            let same : side ≡ front = e ∙ ap (λ x. front ++ x) none ∙ append-nil front in
            containing left side rest at (omega (arith, within)) (cut ∙ ap (λ x. x ++ rest) (sym same))

        ended : (side front more rest : List Symbol) → side ≡ front ++ more → drop at left ≡ front ++ rest → 0 < at
            → at + length front ≡ length left
            → Meets left side at
        ended side front [] rest e cut some long = inr (contained side front [] rest e (ap length (append-nil front)) cut)
        ended side front (x ∷ more) rest e cut some long =
            let size = simp (length-drop, length-append) at (ap length cut) in
            let none : rest ≡ [] = nothing_after front rest (rw length-append (omega (arith, size, long))) in
            let whole : drop at left ≡ front = cut ∙ ap (λ y. front ++ y) none ∙ append-nil front in
            let sides = simp length-append at (ap length e) in
            inl (overlapping left side (x ∷ more) at some within (omega (arith, sides, long)) (e ∙ ap (λ y. y ++ (x ∷ more)) (sym whole)))

-- a place in the new side stands within it
pub from_is_within : (stored : List Entry) (left : List Symbol) (number : ℕ)
    → ((k : ℕ) (entry : Entry) → slice_get stored k ≡ Some entry → 0 < length entry.left)
    → (k at : ℕ) (p : Place) → IsFrom stored left number k at p → at < length left
from_is_within stored left number some k at p o =
    let m = meeting_symbol left o.entry.left at (some k o.entry o.is_entry) o.meets in slice_get_within left at m.0 m.1

-- What stands at nodes, as ends and spots are added.
use Rattle.std.proofs.Common.{◌≡◌, ◌⊎◌, inl, inr, ℕ, ◌+◌, ◌<◌, get_or, take, List, [], ◌∷◌, ◌++◌, length, length-append, refl, sym, ◌∙◌, ap, subst, arith, Option, Some, None, Vec}
use Rattle.std.specs.List.{slice_get}
use Rattle.std.specs.declared.alloc.Global.{Global}
use Rattle.std.proofs.Math.ListN.{set}
use Rattle.std.proofs.Math.Seq.{take-length}
use Rattle.std.proofs.lemmas.List.{take_more}
use Rattle.swreq_trie.specs.declared.spots.Spot.{Spot}
use Rattle.swreq_trie.specs.Marks.{SameEnds, Marked, Holds, IsListed, KeepsListed, ListsOnly, AreCopies}
use Rattle.std.proofs.lemmas.Option.{slice_get_within}
use Rattle.swreq_rule.proofs.swreq_lemmas.Elements.{get_left, get_last, get_cases, there_is, set_here, set_kept, set_cases}

pub room_made : (old ends new : List (Option ℕ)) → SameEnds old ends → new ≡ ends ++ None ∷ [] → SameEnds old new
room_made old ends new s e node place = (
  (λ h. rw e (get_left ends (None ∷ []) node (Some place) ((s node place).0 h))),
  (λ h. elim (get_cases ends None node (Some place)
      (subst (λ x. slice_get x node ≡ Some (Some place)) e h)) [ inl g ↦ (s node place).1 g | inr g ↦ cc (g.1) ]),
)

pub marked_first : (ends new : List (Option ℕ)) (node number : ℕ) → node < length ends → slice_get ends node ≡ Some None
    → new ≡ set ends node (Some number)
    → Marked ends new node number
marked_first ends new node number l none e = rw e (record {
  here = (number, set_here ends node (Some number) l);
  kept = λ n p h. elim (set_kept ends node (Some number) n (Some p) h) [
    | inl g ↦ g
    | inr g ↦ absurd (let f : slice_get ends node ≡ Some (Some p) = subst (λ x. slice_get ends x ≡ Some (Some p)) g.0 h in cc)
  ];
  only = λ n p h. elim (set_cases ends node (Some number) n (Some p) h) [
    | inl g ↦ inl g
    | inr g ↦ inr (g.0, (let f = g.1 in cc), (λ earlier h. cc))
  ];
})

pub keeps_itself : (lists : List (Vec Spot Global)) → KeepsListed lists lists
keeps_itself lists node spot h = h

pub keeps_more : (old lists new : List (Vec Spot Global)) (list : Vec Spot Global) → KeepsListed old lists
    → new ≡ lists ++ list ∷ [] → KeepsListed old new
keeps_more old lists new list k e node spot h =
    let g = k node spot h in (g.0, rw e (get_left lists (list ∷ []) node g.0 g.1), g.2)

pub holds_last : {X : Type 0} (xs : List X) (x : X) → Holds (xs ++ x ∷ []) x
holds_last xs x = (length xs, get_last xs x)

pub holds_more : {X : Type 0} (xs ys : List X) (x : X) → Holds xs x → Holds (xs ++ ys) x
holds_more xs ys x h = (h.0, get_left xs ys h.0 x h.1)

pub keeps_changed : (old new : List (Vec Spot Global)) (node : ℕ) (before after : Vec Spot Global) → slice_get old node ≡ Some before
    → new ≡ set old node after → ((spot : Spot) → Holds before.items spot → Holds after.items spot) → KeepsListed old new
keeps_changed old new node before after b e k n spot h = elim (set_kept old node after n h.0 h.1) [
  | inl g ↦ (h.0, rw e g, h.2)
  | inr g ↦ (
    after,
    rw e g.1,
    k spot (let f : slice_get old node ≡ Some h.0 = subst (λ x. slice_get old x ≡ Some h.0) g.0 h.1 in
        let same : h.0 ≡ before = cc in subst (λ (x : Vec Spot Global). Holds x.items spot) same h.2),
  )
]

pub listed_changed : (old new : List (Vec Spot Global)) (node : ℕ) (after : Vec Spot Global) (spot : Spot) → node < length old
    → new ≡ set old node after → Holds after.items spot → IsListed new node spot
listed_changed old new node after spot l e h = (after, rw e (set_here old node after l), h)

-- a list with one more at its end
pub holds_one_more : {X : Type 0} (xs ys : List X) (y : X) → ys ≡ xs ++ y ∷ [] → (x : X) → Holds ys x → Holds xs x ⊎ (x ≡ y)
holds_one_more xs ys y e x h = let g = subst (λ zs. Holds zs x) e h in
    elim (get_cases xs y g.0 x g.1) [ inl i ↦ inl (g.0, i) | inr i ↦ inr i.1 ]

-- an empty list more
pub keeps_less : (old lists new : List (Vec Spot Global)) (list : Vec Spot Global) → KeepsListed lists old
    → new ≡ lists ++ list ∷ [] → list.items ≡ []
    → KeepsListed new old
keeps_less old lists new list k e none node spot h = elim (get_cases lists list node h.0 (subst (λ x. slice_get x node ≡ Some h.0) e h.1)) [
  | inl g ↦ k node spot (h.0, g, h.2)
  | inr g ↦
      absurd (let i : Holds [] spot = subst (λ x. Holds x spot) (ap (λ (x : Vec Spot Global). x.items) g.1 ∙ none) h.2 in let f = i.1 in cc)
]

-- a spot more in one list
pub only_changed : (old new : List (Vec Spot Global)) (node : ℕ) (before after : Vec Spot Global) (spot : Spot)
    → slice_get old node ≡ Some before
    → new ≡ set old node after → ((other : Spot) → Holds after.items other → Holds before.items other ⊎ (other ≡ spot))
    → ListsOnly old new (λ n s. (n ≡ node) × (s ≡ spot))
only_changed old new node before after spot b e k n other h =
    elim (set_cases old node after n h.0 (subst (λ x. slice_get x n ≡ Some h.0) e h.1)) [
      | inl g ↦ inl (h.0, g, h.2)
      | inr g ↦ elim (k other (subst (λ (x : Vec Spot Global). Holds x.items other) g.1 h.2)) [
        | inl i ↦ inl (before, subst (λ x. slice_get old x ≡ Some before) (sym g.0) b, i)
        | inr i ↦ inr (g.0, i)
      ]
    ]

pub only_none : (New : ℕ → Spot → Type 0) (old new : List (Vec Spot Global)) → KeepsListed new old → ListsOnly old new New
only_none New old new k n s h = inl (k n s h)

pub only_on : (New Other Both : ℕ → Spot → Type 0) (a b c : List (Vec Spot Global)) → ((n : ℕ) (s : Spot) → New n s → Both n s)
    → ((n : ℕ) (s : Spot) → Other n s → Both n s) → ListsOnly a b New → ListsOnly b c Other → ListsOnly a c Both
only_on New Other Both a b c first second f g n s h = elim (g n s h) [
  | inl i ↦ elim (f n s i) [ inl j ↦ inl j | inr j ↦ inr (first n s j) ]
  | inr i ↦ inr (second n s i)
]

pub only_like : (New Other : ℕ → Spot → Type 0) (a b : List (Vec Spot Global)) → ((n : ℕ) (s : Spot) → New n s → Other n s)
    → ListsOnly a b New → ListsOnly a b Other
only_like New Other a b which f n s h = elim (f n s h) [ inl i ↦ inl i | inr i ↦ inr (which n s i) ]

pub unmade : (old ends new : List (Option ℕ)) → SameEnds old ends → new ≡ ends → SameEnds old new
unmade old ends new s e = subst (SameEnds old) (sym e) s

pub keeps_on : (a b c : List (Vec Spot Global)) → KeepsListed a b → KeepsListed b c → KeepsListed a c
keeps_on a b c p q node spot h = q node spot (p node spot h)

pub copies_keep : (old new : List (Vec Spot Global)) → AreCopies old new → KeepsListed old new
copies_keep old new c node spot h = let r = c.each node h.0 h.1 in (r.0, r.1, subst (λ x. Holds x spot) (sym r.2) h.2)

pub copies_keep_back : (old new : List (Vec Spot Global)) → AreCopies old new → KeepsListed new old
copies_keep_back old new c node spot h =
    let l = slice_get_within new node h.0 h.1 in
    let m = c.as_many in
    let t = there_is old node (omega (arith, l, m)) in
    let r = c.each node t.0 t.1 in
    let e = r.1 in
    let f = h.1 in
    let same : h.0 ≡ r.0 = cc in
    (t.0, t.1, subst (λ x. Holds x spot) (ap (λ (x : Vec Spot Global). x.items) same ∙ r.2) h.2)

pub no_copies : AreCopies [] []
no_copies = record { as_many = refl; each = λ node list e. cc }

one_more : (old new : List (Vec Spot Global)) (list copy : Vec Spot Global) → AreCopies old new → copy.items ≡ list.items
    → AreCopies (old ++ list ∷ []) (new ++ copy ∷ [])
one_more old new list copy c same = record {
  as_many = (let l = c.as_many in simp length-append (omega (arith, l)));
  each = λ node other e. elim (get_cases old list node other e) [
    | inl h ↦ (let r = c.each node other h in (r.0, get_left new (copy ∷ []) node r.0 r.1, r.2))
    | inr h ↦ (
      copy,
      subst (λ n. slice_get (new ++ copy ∷ []) n ≡ Some copy) (c.as_many ∙ sym h.0) (get_last new copy),
      subst (λ (x : Vec Spot Global). copy.items ≡ x.items) (sym h.1) same,
    )
  ];
}

pub copies_more : (lists copies new : List (Vec Spot Global)) (n : ℕ) (d copy : Vec Spot Global) → n < length lists
    → AreCopies (take n lists) copies
    → copy.items ≡ (get_or lists n d).items → new ≡ copies ++ copy ∷ [] → AreCopies (take (n + 1) lists) new
copies_more lists copies new n d copy l c same e =
    rw (e, take_more lists n d l) (one_more (take n lists) copies (get_or lists n d) copy c same)

pub all_copies : (lists copies : List (Vec Spot Global)) (n : ℕ) → n ≡ length lists → AreCopies (take n lists) copies
    → AreCopies lists copies
all_copies lists copies n e = subst (λ x. AreCopies x copies) (ap (λ k. take k lists) e ∙ take-length lists)

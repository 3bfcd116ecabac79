-- Of each signature the places of the pieces that its machine makes.
use Rattle.std.proofs.Common.{◌≡◌, ◌≢◌, ◌⊎◌, ◌∙◌, inl, inr, refl, sym, ap, subst, ℕ, ◌+◌, ◌<◌, arith, List, [], ◌∷◌, ◌++◌, Vec, Option, Some, None, All, Contains, get_or, set, length}
use Rattle.std.specs.Prelude.{◌↔◌}
use Rattle.std.specs.declared.alloc.Global.{Global}
use Rattle.std.proofs.Math.Decide.{ℕ_discrete}
use Rattle.std.proofs.lemmas.Bool.{cases_eq}
use Rattle.std.proofs.lemmas.List.{get_or-set_other, get_or-set_same, length-set}
use Rattle.std.proofs.lemmas.List.Elements.{All-get_or, Contains-get_or, Contains-append_cases, Contains-append_left, Contains-append_right}
use Rattle.std.proofs.lemmas.Option.{none-some, same_Some, slice_get-get_or}
use Rattle.swreq_machine.proofs.swreq_lemmas.Members.{first_member, no_member, only_member}
use Rattle.swreq_machine.specs.swreq_lowering.declared.ids.FuncId.{FuncId}
use Rattle.swreq_machine.specs.swreq_lowering.declared.ids.Query.{Query}
use Rattle.swreq_machine.specs.swreq_lowering.ByTable.{no_query}
use Rattle.swreq_machine.specs.swreq_world.Worlds.{IdWorld}
use Rattle.swreq_check.specs.declared.content.Content.{Content}
use Rattle.swreq_check.specs.declared.content.Made.{Made}
use Rattle.swreq_check.specs.declared.content.Made.TheVariants.{Lines, Systems}
use Rattle.swreq_check.specs.Contents.{makes}
use Rattle.swreq_check.proofs.Asking.{machine_function}
use Rattle.swreq_check.specs.CallLines.{ArePlacesOf, caller_at}
use Rattle.swreq_check.specs.declared.called.CallsOf.{CallsOf}
use Rattle.swreq_check.specs.declared.setting.Setting.{Setting}
use Rattle.swreq_check.specs.Wanted.{ArePlaces, ArePlacesFor, count_of, machine_asked, machine_asked_at, made_by as by_made, maker, places_of}
use Rattle.swreq_machine.proofs.swreq_lemmas.Stable.{Stable, alike_stable, both_stable, decided_stable, each_way_stable, less_stable, member_decided, same_number_stable, truncated_map}

-- ---- by which machine

-- what is made is made by the machine of a signature of the text
made_within : (w : IdWorld) (a : Made) (k : ℕ) → k < places_of w a
    → ((q : Query) → Contains w.queries q → q.f.place < length w.signatures)
    → (f : FuncId) → by_made w a k ≡ Some f → f.place < length w.signatures
made_within w Lines k l within f e =
    let q : Query = get_or w.queries k no_query in
    let asks : machine_asked q ≡ Some f = sym (ap machine_asked_at (slice_get-get_or w.queries k no_query l)) ∙ e in
    subst (λ (g : FuncId). g.place < length w.signatures) (machine_function q f asks) (within q (Contains-get_or w.queries k no_query l))
made_within w Systems k l within f e = omega (arith, l, ap (λ (g : FuncId). g.place) (same_Some (record { place = k }) f e))
made_within w _ k l within f e = absurd (none-some f e)

-- and so is a piece
pub maker_within : (w : IdWorld) (c : Content) (k : ℕ) → k < count_of w c
    → ((q : Query) → Contains w.queries q → q.f.place < length w.signatures)
    → (f : FuncId) → maker w c k ≡ Some f → f.place < length w.signatures
maker_within w c = made_within w (makes c)

-- ---- groups

abbrev Group : Type 0
Group = Vec ℕ Global

-- a signature is its place
pub same_signature : (f g : FuncId) → f.place ≡ g.place → f ≡ g
same_signature f g e = ap (λ (n : ℕ). let h : FuncId = record { place = n } in h) e

-- ---- what types carry of places

same_maker_stable : (a b : Option FuncId) → Stable (a ≡ b)
same_maker_stable None None = λ t. refl
same_maker_stable None (Some g) = decided_stable (no (none-some g))
same_maker_stable (Some f) None = decided_stable (no (λ e. none-some f (sym e)))
same_maker_stable (Some f) (Some g) =
    alike_stable (λ e. ap (λ (z : FuncId). z.place) (same_Some f g e)) (λ e. ap Some (same_signature f g e))
    (same_number_stable f.place g.place)

placed_stable : (made_by : ℕ → Option FuncId) (last : ℕ) (f : FuncId) (places : List ℕ) (k : ℕ)
    → Stable (Contains places k ↔ ((k < last) × (made_by k ≡ Some f)))
placed_stable made_by last f places k =
    each_way_stable (decided_stable (member_decided k (λ j. ℕ_discrete j k) places))
    (both_stable (less_stable k last) (same_maker_stable (made_by k) (Some f)))

places_stable : (made_by : ℕ → Option FuncId) (count last : ℕ) (places : List Group) → Stable (ArePlaces made_by count last places)
places_stable made_by count last places t = record {
  counted = same_number_stable (length places) count (truncated_map (λ h. h.counted) t);
  each = λ f d k below. placed_stable made_by last f (get_or places f.place d).items k (truncated_map (λ h. h.each f d k below) t);
}

-- the places of a setting are those of the pieces that machines make
pub placed_in : (s : Setting) → ArePlacesFor s.world.now s.content s.places.now
placed_in s = places_stable _ _ _ s.places.now s.placed

-- and those of a signature are the places of its calls
pub placed_of : (of : CallsOf) → ArePlacesOf of.called.calls.now of.f of.places.now
placed_of of = λ k.
    let calls = of.called.calls.now in
    placed_stable (caller_at calls) (length calls) of.f of.places.now k (truncated_map (λ h. h k) of.placed)

-- ---- one place more

-- either before the last one, or that one
last_or_before : (k last : ℕ) → k < last + 1 → (k < last) ⊎ (k ≡ last)
last_or_before k last l = elim (cases_eq k last) [ inl e ↦ inr e | inr n ↦ inl (omega (arith, l, n)) ]

module _ (made_by : ℕ → Option FuncId) (count : ℕ) where
  pub none_placed : (places : List Group) → length places ≡ count → All (λ (group : Group). group.items ≡ []) places
      → ArePlaces made_by count 0 places
  none_placed places counted empty = record {
    counted = counted;
    each = λ f d k below. let nothing : (get_or places f.place d).items ≡ [] =
        All-get_or (λ (group : Group). group.items ≡ []) places f.place d (omega (arith, below, counted)) empty in (
          (λ c. no_member k (subst (λ (xs : List ℕ). Contains xs k) nothing c)),
          (λ (l, e). absurd (omega (arith, l))),
        );
  }

  module _ (last : ℕ) (places : List Group) (h : ArePlaces made_by count last places) where
    later : (f : FuncId) (k : ℕ) → (k < last) × (made_by k ≡ Some f) → (k < last + 1) × (made_by k ≡ Some f)
    later f k (l, e) = (omega (arith, l), e)

    -- the places of a signature whose machine does not make the last piece
    kept : (f : FuncId) (d : Group) (k : ℕ) → f.place < count → made_by last ≢ Some f
        → Contains (get_or places f.place d).items k ↔ ((k < last + 1) × (made_by k ≡ Some f))
    kept f d k below other = (
      λ c. later f k ((h.each f d k below).0 c),
      λ (l, e). elim (last_or_before k last l) [
        | inl before ↦ (h.each f d k below).1 (before, e)
        | inr is ↦ absurd (other (ap made_by (sym is) ∙ e))
      ],
    )

    -- the piece at the last place is made by no machine
    pub none_noted : made_by last ≡ None → ArePlaces made_by count (last + 1) places
    none_noted none = record { counted = h.counted; each = λ f d k below. kept f d k below (λ e. none-some f (sym none ∙ e)) }

    -- or by that of g
    module _ (g : FuncId) (makes : made_by last ≡ Some g) (l : g.place < count) (old more : Group)
        (old_is : old ≡ get_or places g.place old)
        (pushed : more.items ≡ old.items ++ last ∷ []) where
      abbrev new : List Group
      new = set places g.place more

      own : (k : ℕ) → Contains more.items k ↔ ((k < last + 1) × (made_by k ≡ Some g))
      own k = (
        λ c. elim (Contains-append_cases old.items (last ∷ []) k (subst (λ (xs : List ℕ). Contains xs k) pushed c)) [
          | inl before ↦ later g k ((h.each g old k l).0 (subst (λ (group : Group). Contains group.items k) old_is before))
          | inr is ↦ (omega (arith, only_member last k is), ap made_by (only_member last k is) ∙ makes)
        ],
        λ (m, e). subst (λ (xs : List ℕ). Contains xs k) (sym pushed) (elim (last_or_before k last m) [
          | inl before ↦ Contains-append_left old.items (last ∷ []) k
              (subst (λ (group : Group). Contains group.items k) (sym old_is) ((h.each g old k l).1 (before, e)))
          | inr is ↦ Contains-append_right old.items (last ∷ []) k (subst (Contains (last ∷ [])) (sym is) (first_member last []))
        ]),
      )

      pub one_noted : ArePlaces made_by count (last + 1) new
      one_noted = record { counted = length-set places g.place more ∙ h.counted; each = each }
        where
          each : (f : FuncId) (d : Group) (k : ℕ) → f.place < count
              → Contains (get_or new f.place d).items k ↔ ((k < last + 1) × (made_by k ≡ Some f))
          each f d k below = elim (cases_eq f.place g.place) [
            | inl e ↦ subst (λ (z : FuncId). Contains (get_or new z.place d).items k ↔ ((k < last + 1) × (made_by k ≡ Some z)))
                (sym (same_signature f g e))
                (subst (λ (group : Group). Contains group.items k ↔ ((k < last + 1) × (made_by k ≡ Some g)))
                (sym (get_or-set_same places g.place more d (omega (arith, h.counted, l)))) (own k))
            | inr n ↦ subst (λ (group : Group). Contains group.items k ↔ ((k < last + 1) × (made_by k ≡ Some f)))
                (sym (get_or-set_other places g.place f.place more d n))
                (kept f d k below (λ e. n (ap (λ (z : FuncId). z.place) (same_Some f g (sym e ∙ makes)))))
          ]

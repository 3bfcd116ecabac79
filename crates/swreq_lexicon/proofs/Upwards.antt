-- The heirs of protocols: chains of direct steps, turned round.
use Rattle.std.proofs.Common.{◌≡◌, ◌∙◌, ◌↔◌, ◌⊎◌, ⊎_elim, inl, inr, ℕ, ◌+◌, ◌<◌, ◌≤◌, Bool, true, false, List, [], ◌∷◌, ◌++◌, length}
use Rattle.std.proofs.Common.{get_or, set, take, Option, Some, None, slice_get, Contains, IsTrue, refl, sym, ap, subst, arith}
use Rattle.std.proofs.lemmas.Bool.{cases_eq, cases_lt, false_from_ne_true}
use Rattle.std.proofs.lemmas.List.{get_or-set_same, get_or-set_other, length-set, take_more}
use Rattle.std.proofs.lemmas.List.Elements.{Contains-append_left, Contains-push, Contains-push_cases}
use Rattle.std.proofs.lemmas.Option.{none-some, same_Some, slice_get_within}
use Rattle.swreq_closure.specs.Chains.{Leads, Matrix, next, leads, AreWithin, IsClosureOf}
use Rattle.swreq_closure.specs.Chains.Leads.{step, more}
use Rattle.swreq_closure.proofs.Marks.{joined_chains}
use Rattle.swreq_rank.proofs.swreq_lemmas.Elements.{contains_get}
use Rattle.swreq_derive.specs.swreq_param.declared.ids.ProtoId.{ProtoId}
use Rattle.swreq_lexicon.specs.Heirs.{IsDirectHeir, position_at, leads_up, AreAllHeirs, AreDirectHeirs, ArePositions, HavePositions}
use Rattle.swreq_lexicon.specs.Heirs.{LeadToProtocols}
use Rattle.swreq_lexicon.specs.Views.{place_by}

-- what is read of an order past its end
abbrev pub first : ProtoId
first = record { rank = 0 }

no_element : (k : ℕ) → Contains [] k → ⊥
no_element k c = let h = c.1 in omega (arith, h)

-- the last step of a chain leads where the chain leads
last_step : (graph : List (List ℕ)) (i j : ℕ) → Leads graph i j → (k : ℕ) × Contains (next graph k) j
last_step graph i j (step c) = (i, c)
last_step graph i j (more {j = k} c l) = last_step graph k j l

same_truth : (a b : Bool) → (IsTrue a → IsTrue b) → (IsTrue b → IsTrue a) → a ≡ b
same_truth true b f g = sym (f refl)
same_truth false b f g = sym (false_from_ne_true b (λ t. absurd (cc (g t))))

module _ (order : List ProtoId) (places : List ℕ) (positions : List (Option ℕ)) (graph up : List (List ℕ))
    (are : ArePositions order places positions) (heirs : AreDirectHeirs order places positions graph (length order) up) where
  step_down : (m k : ℕ) (q p : ProtoId) → slice_get order m ≡ Some q → slice_get order k ≡ Some p → Contains (next up m) k
      → Contains (next graph (place_by places p)) (place_by places q)
  step_down m k q p at_m at_k c =
      let s = ((heirs m k).0 c).1 in
      let stands = are s.place m s.position in
      let same_q : stands.0 ≡ q = same_Some stands.0 q (sym stands.1 ∙ at_m) in
      let same_p : s.heir ≡ p = same_Some s.heir p (sym s.at ∙ at_k) in
      subst (Contains (next graph (place_by places p))) (sym stands.2 ∙ ap (place_by places) same_q)
      (subst (λ (r : ProtoId). Contains (next graph (place_by places r)) s.place) same_p s.step)

  chain_down : (m k : ℕ) → Leads up m k → (q p : ProtoId) → slice_get order m ≡ Some q → slice_get order k ≡ Some p
      → Leads graph (place_by places p) (place_by places q)
  chain_down m k (step c) q p at_m at_k = step (step_down m k q p at_m at_k c)
  chain_down m k (more {j = j} c l) q p at_m at_k =
      let s = ((heirs m j).0 c).1 in
      joined_chains graph (chain_down j k l s.heir p s.at at_k) (step (step_down m j q s.heir at_m s.at c))

  pub heirs_within : length up ≡ length order → AreWithin up
  heirs_within size m k c = subst (λ n. k < n) (sym size) ((heirs m k).0 c).0

  module _ (count : ℕ) (standing : LeadToProtocols places count graph) (within : AreWithin graph) (size : length positions ≡ length graph)
      (all : HavePositions order places positions (length order)) (ordered : (p : ProtoId) → p.rank < count → Contains order p) where
    -- a protocol of the order stands where a step leads, and has a position
    target : (i b : ℕ) → Contains (next graph i) b
        → (m : ℕ) × (r : ProtoId) × (position_at positions b ≡ Some m) × (slice_get order m ≡ Some r) × (place_by places r ≡ b)
    target i b c =
        let s = standing i b c in
        let at = contains_get order s.0 (ordered s.0 s.1) in
        let below : b < length positions = subst (λ n. b < n) (sym size) (within i b c) in
        let found = all at.0 s.0 (slice_get_within order at.0 s.0 at.1) at.1 (subst (λ n. n < length positions) (sym s.2) below) in
        let there : position_at positions b ≡ Some found.0 = ap (position_at positions) (sym s.2) ∙ found.1 in
        let stands = are b found.0 there in
        (found.0, stands.0, there, stands.1, stands.2)

    step_up : (i b k m : ℕ) (p : ProtoId) → Contains (next graph i) b → slice_get order k ≡ Some p → place_by places p ≡ i
        → position_at positions b ≡ Some m → Leads up m k
    step_up i b k m p c at_k is at =
        step ((heirs m k).1 (
          slice_get_within order k p at_k,
          record {
            heir = p;
            at = at_k;
            place = b;
            step = subst (λ x. Contains (next graph x) b) (sym is) c;
            position = at;
          },
        ))

    chain_up : (i b : ℕ) → Leads graph i b → (k m : ℕ) (p : ProtoId) → slice_get order k ≡ Some p → place_by places p ≡ i
        → position_at positions b ≡ Some m → Leads up m k
    chain_up i b (step c) k m p at_k is at = step_up i b k m p c at_k is at
    chain_up i b (more {j = j} c l) k m p at_k is at =
        let t = target i j c in
        joined_chains up (chain_up j b l t.0 m t.1 t.3 t.4 at) (step_up i j k t.0 p c at_k is t.2)

    pub all_heirs : (rows inherits : Matrix) → IsClosureOf up rows → IsClosureOf graph inherits
        → AreAllHeirs order places inherits (record { positions = positions; rows = rows })
    all_heirs rows inherits upwards downwards k place p at = by (position_at positions place) refl
      where
        by : (o : Option ℕ) → position_at positions place ≡ o → leads_up rows o k ≡ leads inherits (place_by places p) place
        by None e =
            sym (false_from_ne_true (leads inherits (place_by places p) place) (λ t.
            let last = last_step graph (place_by places p) place ((downwards (place_by places p) place).0 t) in
            let found = target last.0 place last.1 in
            none-some found.0 (sym e ∙ found.2)))
        by (Some m) e =
            let stands = are place m e in
            same_truth (leads rows m k) (leads inherits (place_by places p) place)
            (λ t. (downwards (place_by places p) place).1
            (subst (Leads graph (place_by places p)) stands.2 (chain_down m k ((upwards m k).0 t) stands.0 p stands.1 at)))
            (λ t. (upwards m k).1 (chain_up (place_by places p) place ((downwards (place_by places p) place).0 t) k m p at refl e))

-- ---- positions

module _ (order : List ProtoId) (places : List ℕ) (xs : List (Option ℕ)) (k : ℕ) (q : ProtoId) (at : slice_get order k ≡ Some q) where
  module _ (below : place_by places q < length xs) where
    position_here : position_at (set xs (place_by places q) (Some k)) (place_by places q) ≡ Some k
    position_here = get_or-set_same xs (place_by places q) (Some k) None below

    position_elsewhere : (place : ℕ) → (place ≡ place_by places q → ⊥)
        → position_at (set xs (place_by places q) (Some k)) place ≡ position_at xs place
    position_elsewhere place n = get_or-set_other xs (place_by places q) place (Some k) None n

    pub positions_more : ArePositions order places xs → ArePositions order places (set xs (place_by places q) (Some k))
    positions_more are place m e = ⊎_elim here other (cases_eq place (place_by places q))
      where
        here : place ≡ place_by places q → (r : ProtoId) × (slice_get order m ≡ Some r) × (place_by places r ≡ place)
        here s =
            let same : k ≡ m = same_Some k m (sym position_here ∙ ap (position_at (set xs (place_by places q) (Some k))) (sym s) ∙ e) in
            (q, subst (λ n. slice_get order n ≡ Some q) same at, sym s)

        other : (place ≡ place_by places q → ⊥) → (r : ProtoId) × (slice_get order m ≡ Some r) × (place_by places r ≡ place)
        other n = are place m (sym (position_elsewhere place n) ∙ e)

    pub all_more : HavePositions order places xs k → HavePositions order places (set xs (place_by places q) (Some k)) (k + 1)
    all_more all j p l at_j within = ⊎_elim here other (cases_eq (place_by places p) (place_by places q))
      where
        here : place_by places p ≡ place_by places q
            → (m : ℕ) × (position_at (set xs (place_by places q) (Some k)) (place_by places p) ≡ Some m)
        here s = (k, ap (position_at (set xs (place_by places q) (Some k))) s ∙ position_here)

        other : (place_by places p ≡ place_by places q → ⊥)
            → (m : ℕ) × (position_at (set xs (place_by places q) (Some k)) (place_by places p) ≡ Some m)
        other n =
            let apart : j ≡ k → ⊥ = λ s. n (ap (place_by places) (same_Some p q (sym at_j ∙ ap (slice_get order) s ∙ at))) in
            let less : j < k = ⊎_elim (λ h. h) (λ g. absurd (apart (omega (arith, l, g)))) (cases_lt j k) in
            let size : length (set xs (place_by places q) (Some k)) ≡ length xs = length-set xs (place_by places q) (Some k) in
            let old = all j p less at_j (subst (λ n. place_by places p < n) size within) in
            (old.0, position_elsewhere (place_by places p) n ∙ old.1)

  pub all_past : length xs ≤ place_by places q → HavePositions order places xs k → HavePositions order places xs (k + 1)
  all_past past all j p l at_j within = ⊎_elim here other (cases_lt j k)
    where
      here : j < k → (m : ℕ) × (position_at xs (place_by places p) ≡ Some m)
      here h = all j p h at_j within

      other : k ≤ j → (m : ℕ) × (position_at xs (place_by places p) ≡ Some m)
      other g =
          let same : j ≡ k = omega (arith, l, g) in
          let one : place_by places p ≡ place_by places q =
          ap (place_by places) (same_Some p q (sym at_j ∙ ap (slice_get order) same ∙ at)) in
          absurd (omega (arith, one, within, past))

-- ---- direct heirs

-- Each list has what it had before. The lists at the positions of these bases have the heir too.
abbrev pub AreAdded : List (Option ℕ) → List ℕ → ℕ → List (List ℕ) → List (List ℕ) → Type 0
AreAdded positions bases heir old new = (m k : ℕ) → Contains (next new m) k
    ↔ (Contains (next old m) k ⊎ ((k ≡ heir) × (place : ℕ) × Contains bases place × (position_at positions place ≡ Some m)))

pub none_added : (positions : List (Option ℕ)) (heir : ℕ) (lists : List (List ℕ)) → AreAdded positions [] heir lists lists
none_added positions heir lists m k = (inl, λ h. ⊎_elim (λ c. c) (λ s. absurd (no_element s.1 s.2)) h)

module _ (positions : List (Option ℕ)) (bases : List ℕ) (i b heir : ℕ) (old lists : List (List ℕ))
    (within : i < length bases) (is : b ≡ get_or bases i b)
    (before : AreAdded positions (take i bases) heir old lists) where
  more_bases : take (i + 1) bases ≡ take i bases ++ b ∷ []
  more_bases = take_more bases i b within ∙ ap (λ x. take i bases ++ x ∷ []) (sym is)

  among : (x : ℕ) → Contains (take i bases) x → Contains (take (i + 1) bases) x
  among x c = subst (λ xs. Contains xs x) (sym more_bases) (Contains-append_left (take i bases) (b ∷ []) x c)

  pub base_past : position_at positions b ≡ None → AreAdded positions (take (i + 1) bases) heir old lists
  base_past none m k = (
    λ c. ⊎_elim inl (λ s. inr (s.0, s.1, among s.1 s.2, s.3)) ((before m k).0 c),
    λ h. (before m k).1 (⊎_elim inl (λ s. ⊎_elim
        (λ c. inr (s.0, s.1, c, s.3))
        (λ e. absurd (none-some m (sym none ∙ ap (position_at positions) e ∙ s.3)))
        (Contains-push_cases (take i bases) b s.1 (subst (λ xs. Contains xs s.1) more_bases s.2))) h),
  )

  module _ (position : ℕ) (there : position_at positions b ≡ Some position) (below : position < length lists) where
    abbrev pushed : List (List ℕ)
    pushed = set lists position (get_or lists position [] ++ heir ∷ [])

    pushed_here : next pushed position ≡ next lists position ++ heir ∷ []
    pushed_here = get_or-set_same lists position (get_or lists position [] ++ heir ∷ []) [] below

    pushed_elsewhere : (m : ℕ) → (m ≡ position → ⊥) → next pushed m ≡ next lists m
    pushed_elsewhere m n = get_or-set_other lists position m (get_or lists position [] ++ heir ∷ []) [] n

    was : (m k : ℕ) → Contains (next lists m) k → Contains (next pushed m) k
    was m k c = ⊎_elim
        (λ s. subst (λ n. Contains (next pushed n) k) (sym s)
        (subst (λ xs. Contains xs k) (sym pushed_here)
        (Contains-append_left (next lists position) (heir ∷ []) k (subst (λ n. Contains (next lists n) k) s c))))
        (λ n. subst (λ xs. Contains xs k) (sym (pushed_elsewhere m n)) c) (cases_eq m position)

    comes : (m k : ℕ) → Contains (next pushed m) k → Contains (next lists m) k ⊎ ((m ≡ position) × (k ≡ heir))
    comes m k c = ⊎_elim here (λ n. inl (subst (λ xs. Contains xs k) (pushed_elsewhere m n) c)) (cases_eq m position)
      where
        here : m ≡ position → Contains (next lists m) k ⊎ ((m ≡ position) × (k ≡ heir))
        here s = ⊎_elim (λ h. inl (subst (λ n. Contains (next lists n) k) (sym s) h)) (λ e. inr (s, sym e))
            (Contains-push_cases (next lists position) heir k
            (subst (λ xs. Contains xs k) pushed_here (subst (λ n. Contains (next pushed n) k) s c)))

    -- what the lists have once the base is done
    abbrev IsAdded : ℕ → ℕ → Type 0
    IsAdded m k = Contains (next old m) k
        ⊎ ((k ≡ heir) × (place : ℕ) × Contains (take (i + 1) bases) place × (position_at positions place ≡ Some m))

    pub base_more : AreAdded positions (take (i + 1) bases) heir old pushed
    base_more m k = (to, from)
      where
        last : Contains (take (i + 1) bases) b
        last = subst (λ xs. Contains xs b) (sym more_bases) (Contains-push (take i bases) b)

        to : Contains (next pushed m) k → IsAdded m k
        to c = ⊎_elim
            (λ h. ⊎_elim inl (λ s. inr (s.0, s.1, among s.1 s.2, s.3)) ((before m k).0 h))
            (λ s. inr (s.1, b, last, there ∙ ap Some (sym s.0))) (comes m k c)

        from : IsAdded m k → Contains (next pushed m) k
        from h = ⊎_elim
            (λ c. was m k ((before m k).1 (inl c)))
            (λ s. ⊎_elim
            (λ c. was m k ((before m k).1 (inr (s.0, s.1, c, s.3))))
            (λ e.
            let same : position ≡ m = same_Some position m (sym there ∙ ap (position_at positions) e ∙ s.3) in
            subst (λ n. Contains (next pushed n) k) same
            (subst (λ xs. Contains xs k) (sym pushed_here)
            (subst (Contains (next lists position ++ heir ∷ [])) (sym s.0) (Contains-push (next lists position) heir))))
            (Contains-push_cases (take i bases) b s.1 (subst (λ xs. Contains xs s.1) more_bases s.2))) h

module _ (order : List ProtoId) (places : List ℕ) (positions : List (Option ℕ)) (graph : List (List ℕ)) where
  pub no_heirs : (lists : List (List ℕ)) → ((m : ℕ) → next lists m ≡ []) → AreDirectHeirs order places positions graph 0 lists
  no_heirs lists none m k = (λ c. absurd (no_element k (subst (λ xs. Contains xs k) (none m) c)), λ h. absurd (omega (arith, h.0)))

  pub heirs_more : (n : ℕ) (q : ProtoId) (old new : List (List ℕ)) → slice_get order n ≡ Some q
      → AreAdded positions (next graph (place_by places q)) n old new
      → AreDirectHeirs order places positions graph n old → AreDirectHeirs order places positions graph (n + 1) new
  heirs_more n q old new at added before m k = (to, from)
    where
      to : Contains (next new m) k → (k < n + 1) × IsDirectHeir order places positions graph m k
      to c = ⊎_elim
          (λ h. let old = (before m k).0 h in let l = old.0 in (omega (arith, l), old.1))
          (λ s. let e = s.0 in (
            omega (arith, e),
            record {
              heir = q;
              at = ap (slice_get order) s.0 ∙ at;
              place = s.1;
              step = s.2;
              position = s.3;
            },
          ))
          ((added m k).0 c)

      from : (k < n + 1) × IsDirectHeir order places positions graph m k → Contains (next new m) k
      from h = ⊎_elim
          (λ l. (added m k).1 (inl ((before m k).1 (l, h.1))))
          (λ g.
          let less = h.0 in
          let same : k ≡ n = omega (arith, less, g) in
          let one : h.1.heir ≡ q = same_Some h.1.heir q (sym h.1.at ∙ ap (slice_get order) same ∙ at) in
          let step_here = subst (λ (r : ProtoId). Contains (next graph (place_by places r)) h.1.place) one h.1.step in
          (added m k).1 (inr (same, h.1.place, step_here, h.1.position)))
          (cases_lt k n)

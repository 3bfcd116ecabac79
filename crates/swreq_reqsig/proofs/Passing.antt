-- Marks of those protocols that a protocol reaches.
use Rattle.std.proofs.Common.{◌≡◌, ◌∙◌, ◌↔◌, ◌<◌, ◌≤◌, ◌+◌, ◌||◌, ◌&&◌, ◌++◌, ap, ap₂, append_assoc, drop, inl, inr, refl, sym, subst, arith, ℕ, suc, zero, Bool, true, false, List, [], ◌∷◌, Contains, length, map, replicate, slice_get, slice_set, slice_index_or, Some}
use Rattle.std.specs.Prelude.{not}
use Rattle.std.proofs.Math.Bool.{or-false, or-true}
use Rattle.std.proofs.lemmas.Bool.{cases_eq}
use Rattle.std.proofs.lemmas.List.{append-nil, drop_all, length-map, length-replicate, length-set}
use Rattle.std.proofs.lemmas.Option.{same_Some, slice_get-get_or, slice_get_within}
use Rattle.swreq_print.proofs.swreq_lemmas.Elements.{get_map, get_of_map, set_cases, set_here, set_kept}
use Rattle.swreq_valid.specs.swreq_param.declared.ids.ProtoId.{ProtoId}
use Rattle.swreq_valid.specs.swreq_param.declared.ids.TermId.{TermId}
use Rattle.swreq_valid.specs.swreq_param.Tables.{term_at}
use Rattle.swreq_valid.specs.swreq_param.Terms.{Term}
use Rattle.swreq_valid.specs.swreq_derive.declared.requirements.Requirement.{Requirement}
use Rattle.swreq_valid.specs.swreq_derive.declared.requirements.Requirement.TheVariants.{Conf, Layout, Same}
use Rattle.swreq_valid.specs.swreq_derive.Derivation.TermRequirement.{Conforms}
use Rattle.swreq_valid.specs.swreq_derive.Facts.{requirement_of}
use Rattle.swreq_valid.specs.swreq_derive.Kept.{Owned}
use Rattle.swreq_valid.specs.Flags.{unset}
use Rattle.swreq_valid.proofs.Flagged.{none_set}
use Rattle.swreq_print.proofs.swreq_lemmas.Elements.{drop_from}
use Rattle.swreq_reqsig.specs.declared.places.Place.{Place}
use Rattle.swreq_reqsig.specs.Families.{own}
use Rattle.swreq_reqsig.specs.Marks.{AreClosedFrom, AreReachable, HasPassed, IsClosedAt, IsMarked, IsLedTo, IsMarkedBy, TellLed, TellReached, kept_at, marked}
use Rattle.swreq_reqsig.specs.Places.{owned_at}
use Rattle.swreq_reqsig.specs.Reaching.{AreReachedFlags, Reaches}
use Rattle.swreq_reqsig.specs.Reaching.Reaches.{by_conformance, itself}
use Rattle.swreq_reqsig.proofs.ByReach.{at_chosen, chosen_at}

-- ---- marks

pub same_rank : (p q : ProtoId) → p.rank ≡ q.rank → p ≡ q
same_rank p q e = λ i. record { rank = e i }

-- a flag more is set
pub fewer_unset : (marks : List Bool) (k : ℕ) → slice_get marks k ≡ Some false → unset (slice_set marks k true) < unset marks
fewer_unset [] k e = absurd cc
fewer_unset (true ∷ marks) zero e = absurd (let f : true ≡ false = cc in cc)
fewer_unset (false ∷ marks) zero e = omega arith
fewer_unset (true ∷ marks) (suc k) e = fewer_unset marks k e
fewer_unset (false ∷ marks) (suc k) e = let l = fewer_unset marks k e in omega (arith, l)

-- those that were marked are still
pub mark_stays : (marks : List Bool) (p q : ProtoId) → IsMarked marks q → IsMarked (slice_set marks p.rank true) q
mark_stays marks p q h = elim (set_kept marks p.rank true q.rank true h) [ inl e ↦ e | inr e ↦ e.1 ]

-- what is read there
pub mark_read : (marks : List Bool) (k : ℕ) → slice_index_or marks k false ≡ true → slice_get marks k ≡ Some true
mark_read [] k e = absurd (let f : false ≡ true = e in cc)
mark_read (b ∷ marks) zero e = ap Some e
mark_read (b ∷ marks) (suc k) e = mark_read marks k e

pub read_mark : (marks : List Bool) (k : ℕ) → slice_get marks k ≡ Some true → slice_index_or marks k false ≡ true
read_mark [] k e = absurd cc
read_mark (b ∷ marks) zero e = let f : b ≡ true = cc in f
read_mark (b ∷ marks) (suc k) e = read_mark marks k e

-- where it is not marked and there is a mark, that is unset
pub unmarked : (marks : List Bool) (k : ℕ) → k < length marks → slice_index_or marks k false ≡ false → slice_get marks k ≡ Some false
unmarked [] k l e = absurd (omega (arith, l))
unmarked (b ∷ marks) zero l e = ap Some e
unmarked (b ∷ marks) (suc k) l e = unmarked marks k (omega (arith, l)) e

-- of a requirement that says that something conforms to a marked protocol
pub within_reach : (marks : List Bool) (b : Bool) (r : Requirement) (t : TermId) (p : ProtoId) → r ≡ Conf t p
    → b ≡ slice_index_or marks p.rank false → not b ≡ false → (u : TermId) (q : ProtoId) → r ≡ Conf u q → IsMarked marks q
within_reach marks true r t p e m n u q says =
    let alike : Conf t p ≡ Conf u q = sym e ∙ says in
    let proto : p ≡ q = cc in subst (IsMarked marks) proto (mark_read marks p.rank (sym m))
within_reach marks false r t p e m n u q says = absurd (let z : true ≡ false = n in cc)

-- ---- a step

-- the requirement of a place that leads to a protocol is one of the family
leads_in : (terms : List Term) (places : List Place) (flags : List Bool) (k : ℕ) (x : Place) (t : TermId) (q : ProtoId)
    → slice_get places k ≡ Some x
    → slice_get flags k ≡ Some true → x.requirement ≡ Conf t q
    → Contains (kept_at terms places flags) (own x.proto (Conforms (term_at terms t) q))
leads_in terms places flags k x t q at set says =
    subst (λ (r : Requirement). Contains (kept_at terms places flags) (own x.proto (requirement_of terms r))) says
    (at_chosen (map (owned_at terms) places) flags k (owned_at terms x) (get_map (owned_at terms) places k x at) set)

module _ (places : List Place) (flags : List Bool) where
  -- a mark more, to which a requirement leads
  reach_more : (terms : List Term) (starts : List Bool) (k : ℕ) (x : Place) (kept : Bool) (old new : List Bool)
      → slice_get places k ≡ Some x
      → slice_get flags k ≡ Some kept → IsMarkedBy x kept old new → AreReachable (kept_at terms places flags) starts old
      → AreReachable (kept_at terms places flags) starts new
  reach_more terms starts k x kept old new at flag by h q m =
      elim (set_cases old by.proto.rank true q.rank true (subst (λ (z : List Bool). IsMarked z q) by.marks m)) [
        | inl e ↦ h q e
        | inr e ↦ (let led = h x.proto by.leads.own in
            subst (IsLedTo (kept_at terms places flags) starts) (sym (same_rank q by.proto e.0)) (record {
              start = led.start;
              is_marked = led.is_marked;
              reaches = by_conformance led.reaches
                  (leads_in terms places flags k x by.leads.subject by.proto at (flag ∙ ap Some by.leads.is_kept) by.leads.says);
            }))
      ]

  -- ---- a pass

  pub passes_none : (n : ℕ) (marks : List Bool) → length places ≤ n → HasPassed places flags n false marks marks
  passes_none n marks l = record {
    count = refl;
    stay = λ q h. h;
    reachable = λ terms starts h. h;
    closed = λ e k x kept f at flag. absurd (let w = slice_get_within places k x at in omega (arith, w, f, l));
    fewer = λ e. absurd (let z : false ≡ true = e in cc);
    no_more = omega arith;
  }

  module _ (n : ℕ) (x : Place) (kept : Bool) (at : slice_get places n ≡ Some x) (flag : slice_get flags n ≡ Some kept) where
    closed_too : (marks : List Bool) → AreClosedFrom places flags marks (suc n) → IsClosedAt x kept marks
        → AreClosedFrom places flags marks n
    closed_too marks h c k y b f there set = elim (cases_eq k n) [
      | inl e ↦ (let here : slice_get places n ≡ Some y = ap (slice_get places) (sym e) ∙ there in
          let same : x ≡ y = same_Some _ _ (sym at ∙ here) in
          let flag_there : slice_get flags n ≡ Some b = ap (slice_get flags) (sym e) ∙ set in
          let alike : kept ≡ b = same_Some _ _ (sym flag ∙ flag_there) in
          subst (λ (z : Place). IsClosedAt z b marks) same (subst (λ (z : Bool). IsClosedAt x z marks) alike c))
      | inr d ↦ h k y b (omega (arith, d, f)) there set
    ]

    passes_same : (grew : Bool) (old mid : List Bool) → HasPassed places flags (suc n) grew old mid → IsClosedAt x kept mid
        → HasPassed places flags n grew old mid
    passes_same grew old mid h c = record {
      count = h.count;
      stay = h.stay;
      reachable = h.reachable;
      closed = λ e. closed_too mid (h.closed e) c;
      fewer = h.fewer;
      no_more = h.no_more;
    }

    fewer_by : (old new : List Bool) → IsMarkedBy x kept old new → unset new < unset old
    fewer_by old new by = subst (λ (z : List Bool). unset z < unset old) (sym by.marks) (fewer_unset old by.proto.rank by.unmarked)

    passes_more : (grew : Bool) (old mid new : List Bool) → HasPassed places flags (suc n) grew old mid → IsMarkedBy x kept mid new
        → HasPassed places flags n true old new
    passes_more grew old mid new h by = record {
      count = ap length by.marks ∙ length-set mid by.proto.rank true ∙ h.count;
      stay = λ q m. subst (λ (z : List Bool). IsMarked z q) (sym by.marks) (mark_stays mid by.proto q (h.stay q m));
      reachable = λ terms starts r. reach_more terms starts n x kept mid new at flag by (h.reachable terms starts r);
      closed = λ e. absurd (let z : true ≡ false = e in cc);
      fewer = λ e. (let a = fewer_by mid new by in let b = h.no_more in omega (arith, a, b));
      no_more = (let a = fewer_by mid new by in let b = h.no_more in omega (arith, a, b));
    }

    -- one place more
    pub passes_on : (grew added : Bool) (old mid new : List Bool) → HasPassed places flags (suc n) grew old mid
        → (added ≡ false → IsClosedAt x kept mid × (new ≡ mid)) → (added ≡ true → IsMarkedBy x kept mid new)
        → HasPassed places flags n (grew || added) old new
    passes_on grew true old mid new h stays more =
        subst (λ (b : Bool). HasPassed places flags n b old new) (sym (or-true grew)) (passes_more grew old mid new h (more refl))
    passes_on grew false old mid new h stays more =
        subst (λ (b : Bool). HasPassed places flags n b old new) (sym (or-false grew))
        (subst (λ (z : List Bool). HasPassed places flags n grew old z) (sym (stays refl).1) (passes_same grew old mid h (stays refl).0))

  -- the same, as the code reads what stands at the place
  pub goes_on : (m n : ℕ) (d : Place) (e : Bool) (grew added grown : Bool) (old mid new : List Bool) → m ≡ suc n → m ≤ length places
      → length flags ≡ length places → HasPassed places flags m grew old mid
      → (added ≡ false → IsClosedAt (slice_index_or places n d) (slice_index_or flags n e) mid × (new ≡ mid))
      → (added ≡ true → IsMarkedBy (slice_index_or places n d) (slice_index_or flags n e) mid new) → (grew || added) ≡ grown
      → HasPassed places flags n grown old new
  goes_on m n d e grew added grown old mid new i within count h stays more is =
      subst (λ (b : Bool). HasPassed places flags n b old new) is
      (passes_on n (slice_index_or places n d) (slice_index_or flags n e) (slice_get-get_or places n d (omega (arith, i, within)))
      (slice_get-get_or flags n e (omega (arith, i, within, count))) grew added old mid new
      (subst (λ (z : ℕ). HasPassed places flags z grew old mid) i h) stays more)

-- what stands for a conformance is one
pub conf_of : (terms : List Term) (r : Requirement) (u : Term) (q : ProtoId) → requirement_of terms r ≡ Conforms u q
    → (t : TermId) × (r ≡ Conf t q)
conf_of terms (Conf t x) u q e = (t, let same : x ≡ q = cc in ap (Conf t) same)
conf_of terms (Layout t) u q e = absurd cc
conf_of terms (Same t s) u q e = absurd cc

-- ---- all passes

module _ (places : List Place) (flags starts : List Bool) where
  -- These marks are reached so far; where the last pass added none they are closed.
  pub record AreFound (grows : Bool) (marks : List Bool) : Type 0 where
    pub count : length marks ≡ length starts
    pub start : (q : ProtoId) → IsMarked starts q → IsMarked marks q
    pub reachable : (terms : List Term) → AreReachable (kept_at terms places flags) starts marks
    pub closed : grows ≡ false → AreClosedFrom places flags marks 0

  -- where none is marked they are closed
  pub found_first : (any : Bool) → (any ≡ false → (q : ProtoId) → IsMarked starts q → ⊥) → AreFound any starts
  found_first any none = record {
    count = refl;
    start = λ q m. m;
    reachable = λ terms q m. record { start = q; is_marked = m; reaches = itself refl };
    closed = λ e k x kept f there set q leads. absurd (none e x.proto leads.own);
  }

  pub found_more : (grows grew : Bool) (old new : List Bool) → AreFound grows old
      → HasPassed places flags 0 grew old new → AreFound grew new
  found_more grows grew old new f h = record {
    count = h.count ∙ f.count;
    start = λ q m. h.stay q (f.start q m);
    reachable = λ terms. h.reachable terms starts (f.reachable terms);
    closed = h.closed;
  }

  complete : (marks : List Bool) → AreClosedFrom places flags marks 0 → (terms : List Term) {p q : ProtoId} → IsMarked marks p
      → Reaches (kept_at terms places flags) p q → IsMarked marks q
  complete marks closed terms start (itself e) = subst (IsMarked marks) (sym e) start
  complete marks closed terms start (by_conformance {q = q} {r = r} {u = u} h c) =
      let (k, at, set) = chosen_at (map (owned_at terms) places) flags (own q (Conforms u r)) c in
      let (x, there, is) = get_of_map (owned_at terms) places k (own q (Conforms u r)) at in
      let proto : x.proto ≡ q = ap (λ (z : Owned). z.proto) is in
      let says = conf_of terms x.requirement u r (ap (λ (z : Owned). z.requirement) is) in
      closed k x true (omega arith) there set r (record {
        is_kept = refl;
        own = subst (IsMarked marks) (sym proto) (complete marks closed terms start h);
        subject = says.0;
        says = says.1;
      })

  pub all_found : (grows : Bool) (marks : List Bool) → AreFound grows marks → grows ≡ false → (terms : List Term)
      → TellLed (kept_at terms places flags) starts marks
  all_found grows marks f e terms q = (
    f.reachable terms q,
    λ led. complete marks (f.closed e) terms (f.start led.start led.is_marked) led.reaches,
  )

-- ---- one that is marked first

pub no_mark : (n : ℕ) (q : ProtoId) → IsMarked (replicate n false) q → ⊥
no_mark n q m = none_set n q.rank m

-- those that it reaches are those that the first marks reach
pub reached_by_one : (protocols : ℕ) (family : List Owned) (p : ProtoId) (starts marks : List Bool) → p.rank < protocols
    → starts ≡ slice_set (replicate protocols false) p.rank true → TellLed family starts marks → TellReached family p marks
reached_by_one protocols family p starts marks l e tell q = (
  (λ m. let led = (tell q).0 m in
      elim (set_cases (replicate protocols false) p.rank true led.start.rank true
      (subst (λ (z : List Bool). IsMarked z led.start) e led.is_marked)) [
        | inl k ↦ absurd (no_mark protocols led.start k)
        | inr k ↦ subst (λ (z : ProtoId). Reaches family z q) (same_rank led.start p k.0) led.reaches
      ]),
  λ r. (tell q).1 (record {
    start = p;
    is_marked = subst (λ (z : List Bool). IsMarked z p) (sym e)
        (set_here (replicate protocols false) p.rank true (let c = length-replicate protocols false in omega (arith, c, l)));
    reaches = r;
  }),
)

-- ---- the flags of the part

marked_count : (places : List Place) (flags marks : List Bool) → length flags ≡ length places
    → length (marked places flags marks) ≡ length places
marked_count [] flags marks e = refl
marked_count (x ∷ places) [] marks e = absurd (omega (arith, e))
marked_count (x ∷ places) (b ∷ flags) marks e = ap suc (marked_count places flags marks (omega (arith, e)))

both_set : (a b : Bool) → (a && b) ≡ true → (a ≡ true) × (b ≡ true)
both_set true b e = (refl, e)
both_set false b e = absurd (let z : false ≡ true = e in cc)

marked_at : (places : List Place) (flags marks : List Bool) (n : ℕ) (x : Place) → slice_get places n ≡ Some x
    → (slice_get (marked places flags marks) n ≡ Some true) ↔ ((slice_get flags n ≡ Some true) × IsMarked marks x.proto)
marked_at [] flags marks n x e = absurd cc
marked_at (y ∷ places) [] marks n x e = ((λ h. absurd cc), λ h. absurd (let z = h.0 in cc))
marked_at (y ∷ places) (b ∷ flags) marks zero x e =
    let same : y ≡ x = cc in
    subst (λ (z : Place).
    (Some (b && slice_index_or marks y.proto.rank false) ≡ Some true) ↔ ((Some b ≡ Some true) × IsMarked marks z.proto)) same (
      (λ h. let set : (b && slice_index_or marks y.proto.rank false) ≡ true = cc in
          let two = both_set b (slice_index_or marks y.proto.rank false) set in (ap Some two.0, mark_read marks y.proto.rank two.1)),
      λ h. let k = h.0 in let set : b ≡ true = cc in
          ap (λ (z : Bool). Some (z && slice_index_or marks y.proto.rank false)) set ∙ ap Some (read_mark marks y.proto.rank h.1),
    )
marked_at (y ∷ places) (b ∷ flags) marks (suc n) x e = marked_at places flags marks n x e

pub marked_reached : (terms : List Term) (places : List Place) (flags marks : List Bool) (p : ProtoId) → length flags ≡ length places
    → TellReached (kept_at terms places flags) p marks → AreReachedFlags (map (owned_at terms) places) flags p (marked places flags marks)
marked_reached terms places flags marks p l tell = record {
  count = marked_count places flags marks l ∙ sym (length-map places (owned_at terms));
  each = λ n o at. let (x, there, is) = get_of_map (owned_at terms) places n o at in
      let law = marked_at places flags marks n x there in
      let proto : x.proto ≡ o.proto = ap (λ (z : Owned). z.proto) is in (
        (λ set. let k = law.0 set in (k.0, subst (Reaches (kept_at terms places flags) p) proto ((tell x.proto).0 k.1))),
        λ k. law.1 (k.0, (tell x.proto).1 (subst (Reaches (kept_at terms places flags) p) (sym proto) k.1)),
      );
}

-- ---- one flag more

pub one_marked : (places : List Place) (flags marks : List Bool) (k : ℕ) (x : Place) (b : Bool) (old new whole : List Bool)
    → slice_get places k ≡ Some x → slice_get flags k ≡ Some b → new ≡ old ++ (b && slice_index_or marks x.proto.rank false) ∷ []
    → old ++ marked (drop k places) (drop k flags) marks ≡ whole
    → new ++ marked (drop (k + 1) places) (drop (k + 1) flags) marks ≡ whole
one_marked places flags marks k x b old new whole at set e h =
    let mine : Bool = (b && slice_index_or marks x.proto.rank false) in
    ap (λ z. z ++ marked (drop (k + 1) places) (drop (k + 1) flags) marks) e
    ∙ append_assoc old (mine ∷ []) (marked (drop (k + 1) places) (drop (k + 1) flags) marks)
    ∙ ap₂ (λ (ps : List Place) (bs : List Bool). old ++ marked ps bs marks) (sym (drop_from places k x at)) (sym (drop_from flags k b set))
    ∙ h

pub all_marked : (places : List Place) (flags marks : List Bool) (k : ℕ) (v whole : List Bool) → length places ≤ k
    → v ++ marked (drop k places) (drop k flags) marks ≡ whole → v ≡ whole
all_marked places flags marks k v whole l h =
    sym (append-nil v) ∙ ap (λ (ps : List Place). v ++ marked ps (drop k flags) marks) (sym (drop_all k places l)) ∙ h

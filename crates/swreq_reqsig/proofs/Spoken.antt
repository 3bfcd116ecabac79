-- What a family says of type parameters with one last name, as the code goes through the outlines of its requirements.
use Rattle.std.proofs.Common.{◌≡◌, ◌∙◌, ◌↔◌, ◌⊎◌, ◌<◌, ◌≤◌, ◌+◌, ap, get_or, inl, inr, refl, sym, subst, arith, ℕ, suc, Bool, true, false, Contains, IsTrue, List, Option, Some, None, length, replicate, slice_get, slice_set}
use Rattle.std.specs.Prelude.{not}
use Rattle.std.proofs.lemmas.Bool.{cases_eq}
use Rattle.std.proofs.lemmas.List.{length-replicate, length-set}
use Rattle.std.proofs.lemmas.Option.{same_Some, slice_get-get_or, slice_get_within}
use Rattle.swreq_print.proofs.swreq_lemmas.Elements.{contains_get, get_contains, get_map, get_of_map, set_cases, set_here, there_is}
use Rattle.swreq_valid.specs.swreq_param.declared.ids.NameId.{NameId}
use Rattle.swreq_valid.specs.swreq_param.declared.ids.ProtoId.{ProtoId}
use Rattle.swreq_valid.specs.swreq_param.Terms.{Term}
use Rattle.swreq_valid.specs.swreq_derive.Derivation.{TermRequirement}
use Rattle.swreq_valid.specs.swreq_derive.Derivation.TermRequirement.{Conforms, IsAnyObject, Equals}
use Rattle.swreq_valid.specs.swreq_derive.Kept.{Owned}
use Rattle.swreq_valid.specs.swreq_lexicon.Views.{LexiconView}
use Rattle.swreq_valid.specs.Flags.{chosen}
use Rattle.swreq_reqsig.specs.declared.outlines.Kind.{Kind}
use Rattle.swreq_reqsig.specs.declared.outlines.Kind.TheVariants.{IsObject, IsEqual}
use Rattle.swreq_reqsig.specs.declared.outlines.Outline.{Outline}
use Rattle.swreq_reqsig.specs.declared.outlines.Outline.TheVariants.{Conformance, Object, Equality}
use Rattle.swreq_reqsig.specs.Marks.{IsMarked, TellLed}
use Rattle.swreq_reqsig.specs.Named.{AreNamed, Names, kept_for}
use Rattle.swreq_reqsig.specs.Outlines.{ArePlaces, AreSaid, AreSaidIn, BearsBy, IsAmong, IsEqualBy, IsMarkedToo, IsObjectBy, IsSaidAt, IsSaidBy, IsSaidIn, outline_in, outline_of, outlines_of}
use Rattle.swreq_reqsig.specs.Saying.{BearsOn, IsUnsaid, SaysConforms, SaysEqual, SaysObject, last_name}
use Rattle.swreq_reqsig.proofs.ByReach.{at_chosen, chosen_at}
use Rattle.swreq_reqsig.proofs.Passing.{mark_stays, no_mark, same_rank}

-- ---- one more that is marked

pub marks_one : (a : Option NameId) (p : ProtoId) (old : List Bool) → p.rank < length old
    → IsMarkedToo (Conformance a p) true a old (slice_set old p.rank true)
marks_one a p old l = record {
  count = length-set old p.rank true;
  each = λ q. (
    (λ m. elim (set_cases old p.rank true q.rank true m) [
      | inl e ↦ inl e
      | inr e ↦ inr (refl, ap (Conformance a) (sym (same_rank q p e.0)))
    ]),
    λ h. elim h [
      | inl e ↦ mark_stays old p q e
      | inr (set, is) ↦ (let same : p ≡ q = cc in subst (IsMarked (slice_set old p.rank true)) same (set_here old p.rank true l))
    ],
  );
}

pub marks_none : (outline : Outline) (kept : Bool) (a : Option NameId) (old : List Bool)
    → ((q : ProtoId) → kept ≡ true → outline ≡ Conformance a q → ⊥) → IsMarkedToo outline kept a old old
marks_none outline kept a old none = record {
  count = refl;
  each = λ q. ((λ m. inl m), λ h. elim h [ inl e ↦ e | inr (set, is) ↦ absurd (none q set is) ]);
}

-- ---- those at the first places of a list

among_more : (outlines : List Outline) (flags : List Bool) (places : List ℕ) (n k : ℕ) → IsAmong outlines flags places n k
    → IsAmong outlines flags places (suc n) k
among_more outlines flags places n k s = record { at = s.at; before = (let b = s.before in omega (arith, b)); stands = s.stands }

module _ (outlines : List Outline) (flags : List Bool) (places : List ℕ) where
  pub said_none : (a : Option NameId) (protocols : ℕ) → AreSaidIn outlines flags places 0 a protocols (replicate protocols false)
  said_none a protocols = record {
    count = length-replicate protocols false;
    each = λ q. ((λ m. absurd (no_mark protocols q m)), λ s. let b = s.among.before in absurd (omega (arith, b)));
  }

  pub unsaid_none : (kind : Kind) (a : Option NameId) (marks : List Bool) → IsSaidIn outlines flags places 0 kind a marks → ⊥
  unsaid_none kind a marks s = let b = s.among.before in omega (arith, b)

  module _ (n k : ℕ) (outline : Outline) (kept : Bool) (stands : slice_get places n ≡ Some k) (there : slice_get outlines k ≡ Some outline)
      (flag : slice_get flags k ≡ Some kept) where
    place_is : (i j : ℕ) → i ≡ n → slice_get places i ≡ Some j → k ≡ j
    place_is i j e at = same_Some _ _ (sym stands ∙ ap (slice_get places) (sym e) ∙ at)

    flag_is : (j : ℕ) → k ≡ j → slice_get flags j ≡ Some true → kept ≡ true
    flag_is j e set = same_Some _ _ (sym flag ∙ ap (slice_get flags) e ∙ set)

    outline_is : (j : ℕ) (other : Outline) → k ≡ j → slice_get outlines j ≡ Some other → outline ≡ other
    outline_is j other e at = same_Some _ _ (sym there ∙ ap (slice_get outlines) e ∙ at)

    among_here : IsAmong outlines flags places (suc n) k
    among_here = record { at = n; before = omega arith; stands = stands }

    -- one more is marked
    pub said_on : (a : Option NameId) (protocols : ℕ) (old new : List Bool) → AreSaidIn outlines flags places n a protocols old
        → IsMarkedToo outline kept a old new → AreSaidIn outlines flags places (suc n) a protocols new
    said_on a protocols old new h m = record {
      count = m.count ∙ h.count;
      each = λ q. (
        (λ is. elim ((m.each q).0 is) [
          | inl e ↦ (let s = (h.each q).0 e in record { says = s.says; among = among_more outlines flags places n s.says.place s.among })
          | inr (set, same) ↦ record {
            says = record { place = k; kept = flag ∙ ap Some set; says = there ∙ ap Some same };
            among = among_here;
          }
        ]),
        λ s. (m.each q).1 (elim (cases_eq s.among.at n) [
          | inl e ↦ (let here = place_is s.among.at s.says.place e s.among.stands in
              inr (flag_is s.says.place here s.says.kept, outline_is s.says.place (Conformance a q) here s.says.says))
          | inr d ↦ inl ((h.each q).1 (record {
            says = s.says;
            among = record { at = s.among.at; before = (let b = s.among.before in omega (arith, b, d)); stands = s.among.stands };
          }))
        ]),
      );
    }

    -- one more does not say so
    pub unsaid_on : (kind : Kind) (a : Option NameId) (marks : List Bool) → (IsSaidIn outlines flags places n kind a marks → ⊥)
        → (kept ≡ true → IsSaidBy kind a marks outline → ⊥) → IsSaidIn outlines flags places (suc n) kind a marks → ⊥
    unsaid_on kind a marks before here s = elim (cases_eq s.among.at n) [
      | inl e ↦ (let is = place_is s.among.at s.says.place e s.among.stands in
          here (flag_is s.says.place is s.says.kept)
          (subst (λ (z : Outline). IsSaidBy kind a marks z) (sym (outline_is s.says.place s.says.outline is s.says.there)) s.says.says))
      | inr d ↦ before (record {
        says = s.says;
        among = record { at = s.among.at; before = (let b = s.among.before in omega (arith, b, d)); stands = s.among.stands };
      })
    ]

    -- one says so
    pub says_here : (kind : Kind) (a : Option NameId) (marks : List Bool) (length : ℕ) → n < length → kept ≡ true
        → IsSaidBy kind a marks outline → IsSaidIn outlines flags places length kind a marks
    says_here kind a marks length l set says = record {
      says = record { place = k; outline = outline; kept = flag ∙ ap Some set; there = there; says = says };
      among = record { at = n; before = l; stands = stands };
    }

-- ---- one place more, as the code reads what stands there

module _ (outlines : List Outline) (flags : List Bool) (places : List ℕ) (are : ArePlaces outlines flags places) (at d : ℕ)
    (l : at < length places) where
  abbrev k : ℕ
  k = get_or places at d

  stands : slice_get places at ≡ Some k
  stands = slice_get-get_or places at d l

  pub place_within : (k < length outlines) × (k < length flags)
  place_within = are at k stands

  outline_there : (outline : Outline) × (slice_get outlines k ≡ Some outline)
  outline_there = there_is outlines k place_within.0

  flag_there : (kept : Bool) × (slice_get flags k ≡ Some kept)
  flag_there = there_is flags k place_within.1

  pub said_further : (a : Option NameId) (protocols : ℕ) (old new : List Bool) → AreSaidIn outlines flags places at a protocols old
      → ((outline : Outline) (kept : Bool) → slice_get outlines k ≡ Some outline → slice_get flags k ≡ Some kept
      → IsMarkedToo outline kept a old new)
      → AreSaidIn outlines flags places (at + 1) a protocols new
  said_further a protocols old new h m =
      let next : suc at ≡ at + 1 = omega arith in
      let o = outline_there in let f = flag_there in
      subst (λ (n : ℕ). AreSaidIn outlines flags places n a protocols new) next
      (said_on outlines flags places at k o.0 f.0 stands o.1 f.1 a protocols old new h (m o.0 f.0 o.1 f.1))

  module _ (kind : Kind) (a : Option NameId) (marks : List Bool) (b : Bool) (law : (outline : Outline) (kept : Bool)
      → slice_get outlines k ≡ Some outline → slice_get flags k ≡ Some kept
      → IsTrue b ↔ ((kept ≡ true) × IsSaidBy kind a marks outline)) where
    pub unsaid_further : (IsSaidIn outlines flags places at kind a marks → ⊥) → b ≡ false
        → IsSaidIn outlines flags places (at + 1) kind a marks → ⊥
    unsaid_further h lacks s =
        let next : at + 1 ≡ suc at = omega arith in
        let o = outline_there in let f = flag_there in
        unsaid_on outlines flags places at k o.0 f.0 stands o.1 f.1 kind a marks h
        (λ set says. let has : b ≡ true = (law o.0 f.0 o.1 f.1).1 (set, says) in let z : false ≡ true = sym lacks ∙ has in cc)
        (subst (λ (n : ℕ). IsSaidIn outlines flags places n kind a marks) next s)

    pub says_found : b ≡ true → IsSaidIn outlines flags places (length places) kind a marks
    says_found has =
        let o = outline_there in let f = flag_there in
        let says = (law o.0 f.0 o.1 f.1).0 has in
        says_here outlines flags places at k o.0 f.0 stands o.1 f.1 kind a marks (length places) l says.0 says.1

pub unsaid_at_end : (outlines : List Outline) (flags : List Bool) (places : List ℕ) (at : ℕ) (kind : Kind) (a : Option NameId)
    (marks : List Bool) → length places ≤ at → (IsSaidIn outlines flags places at kind a marks → ⊥)
    → IsSaidIn outlines flags places (length places) kind a marks → ⊥
unsaid_at_end outlines flags places at kind a marks l h s = h (record {
  says = s.says;
  among = record { at = s.among.at; before = (let b = s.among.before in omega (arith, b, l)); stands = s.among.stands };
})

pub said_at_end : (outlines : List Outline) (flags : List Bool) (places : List ℕ) (at : ℕ) (a : Option NameId) (protocols : ℕ)
    (marks : List Bool) → length places ≤ at → at ≤ length places → AreSaidIn outlines flags places at a protocols marks
    → AreSaidIn outlines flags places (length places) a protocols marks
said_at_end outlines flags places at a protocols marks l u h =
    let e : at ≡ length places = omega (arith, l, u) in
    subst (λ (n : ℕ). AreSaidIn outlines flags places n a protocols marks) e h

-- ---- those of a last name

module _ (outlines : List Outline) (flags : List Bool) (lists : List (List ℕ)) (named : AreNamed outlines lists) where
  among_all : (a : Option NameId) (k : ℕ) (outline : Outline) → slice_get outlines k ≡ Some outline → Names a outline
      → IsAmong outlines flags (kept_for lists a) (length (kept_for lists a)) k
  among_all a k outline at names =
      let (i, there) = contains_get (kept_for lists a) k ((named a k).1 (record { outline = outline; there = at; names = names })) in
      record { at = i; before = slice_get_within (kept_for lists a) i k there; stands = there }

  pub places_are : (a : Option NameId) → length flags ≡ length outlines → ArePlaces outlines flags (kept_for lists a)
  places_are a count at k there =
      let is = (named a k).0 (get_contains (kept_for lists a) at k there) in
      let w = slice_get_within outlines k is.outline is.there in
      (w, omega (arith, w, count))

  pub said_all : (a : Option NameId) (protocols : ℕ) (marks : List Bool)
      → AreSaidIn outlines flags (kept_for lists a) (length (kept_for lists a)) a protocols marks → AreSaid outlines flags a protocols marks
  said_all a protocols marks h = record {
    count = h.count;
    each = λ q. (
      (λ m. ((h.each q).0 m).says),
      λ s. (h.each q).1 (record { says = s; among = among_all a s.place (Conformance a q) s.says refl }),
    );
  }

  names_of : (kind : Kind) (a : Option NameId) (marks : List Bool) (outline : Outline) → IsSaidBy kind a marks outline
      → Names a outline ⊎ (Names None outline × ((q : ProtoId) × IsMarked marks q))
  names_of IsObject a marks (Conformance b q) h = absurd h
  names_of IsObject a marks (Object b p) h = elim h [ inl e ↦ inl e | inr (none, m) ↦ inr (none, (p, m)) ]
  names_of IsObject a marks (Equality b c p) h = absurd h
  names_of IsEqual a marks (Conformance b q) h = absurd h
  names_of IsEqual a marks (Object b p) h = absurd h
  names_of IsEqual a marks (Equality b c p) h = elim h [
    | inl one ↦ elim one [ inl e ↦ inl (inl e) | inr (none, m) ↦ inr (inl none, (p, m)) ]
    | inr other ↦ elim other [ inl e ↦ inl (inr e) | inr (none, m) ↦ inr (inr none, (p, m)) ]
  ]

  -- it is said by one of the name, or by one of `Self`
  pub said_by_list : (kind : Kind) (a : Option NameId) (marks : List Bool) → IsSaidAt outlines flags kind a marks
      → IsSaidIn outlines flags (kept_for lists a) (length (kept_for lists a)) kind a marks
      ⊎ (IsSaidIn outlines flags (kept_for lists None) (length (kept_for lists None)) kind a marks × ((q : ProtoId) × IsMarked marks q))
  said_by_list kind a marks s = elim (names_of kind a marks s.outline s.says) [
    | inl names ↦ inl (record { says = s; among = among_all a s.place s.outline s.there names })
    | inr (names, some) ↦ inr (record { says = s; among = among_all None s.place s.outline s.there names }, some)
  ]

-- ---- a requirement by its outline

pub conformance_of : (x : LexiconView) (a : Option NameId) (p : ProtoId) (r : TermRequirement) (q : ProtoId)
    → outline_in x p r ≡ Conformance a q
    → (t : Term) × (r ≡ Conforms t q) × (last_name x t ≡ a)
conformance_of x a p (Conforms t r) q e = let same : r ≡ q = cc in (t, ap (Conforms t) same, cc)
conformance_of x a p (IsAnyObject t) q e = absurd cc
conformance_of x a p (Equals t u) q e = absurd cc

module _ (x : LexiconView) (family : List Owned) (p : ProtoId) where
  pub unsaid_conformance : (r : TermRequirement) (a : Option NameId) (q : ProtoId) → outline_in x p r ≡ Conformance a q
      → IsUnsaid x family p r ↔ ((SaysEqual x family a → ⊥) × (SaysConforms x family a q → ⊥) × ((a ≡ None) × (q ≡ p) → ⊥))
  unsaid_conformance (Conforms t r) a q e =
      let name : last_name x t ≡ a = cc in let proto : r ≡ q = cc in
      subst (λ (z : Option NameId). IsUnsaid x family p (Conforms t r)
      ↔ ((SaysEqual x family z → ⊥) × (SaysConforms x family z q → ⊥) × ((z ≡ None) × (q ≡ p) → ⊥))) name
      (subst (λ (z : ProtoId). IsUnsaid x family p (Conforms t r)
      ↔ ((SaysEqual x family (last_name x t) → ⊥) × (SaysConforms x family (last_name x t) z → ⊥)
      × ((last_name x t ≡ None) × (z ≡ p) → ⊥))) proto
      ((λ h. h), λ h. h))
  unsaid_conformance (IsAnyObject t) a q e = absurd cc
  unsaid_conformance (Equals t u) a q e = absurd cc

  pub unsaid_object : (r : TermRequirement) (a : Option NameId) (o : ProtoId) → outline_in x p r ≡ Object a o
      → IsUnsaid x family p r ↔ ((SaysEqual x family a → ⊥) × (SaysObject x family a → ⊥))
  unsaid_object (Conforms t r) a o e = absurd cc
  unsaid_object (IsAnyObject t) a o e =
      let name : last_name x t ≡ a = cc in
      subst (λ (z : Option NameId). IsUnsaid x family p (IsAnyObject t) ↔ ((SaysEqual x family z → ⊥) × (SaysObject x family z → ⊥))) name
      ((λ h. h), λ h. h)
  unsaid_object (Equals t u) a o e = absurd cc

  pub unsaid_equality : (r : TermRequirement) (a b : Option NameId) (o : ProtoId) → outline_in x p r ≡ Equality a b o
      → IsUnsaid x family p r ↔ ((a ≡ b → ⊥) × ((SaysEqual x family a → ⊥) ⊎ (SaysEqual x family b → ⊥)))
  unsaid_equality (Conforms t r) a b o e = absurd cc
  unsaid_equality (IsAnyObject t) a b o e = absurd cc
  unsaid_equality (Equals t u) a b o e =
      let left : last_name x t ≡ a = cc in let right : last_name x u ≡ b = cc in
      subst (λ (z : Option NameId). IsUnsaid x family p (Equals t u)
      ↔ ((z ≡ b → ⊥) × ((SaysEqual x family z → ⊥) ⊎ (SaysEqual x family b → ⊥)))) left
      (subst (λ (z : Option NameId). IsUnsaid x family p (Equals t u)
      ↔ ((last_name x t ≡ z → ⊥) × ((SaysEqual x family (last_name x t) → ⊥) ⊎ (SaysEqual x family z → ⊥)))) right
      ((λ h. h), λ h. h))

-- ---- what the family says

-- It says that a type parameter with the last name is an object, or that it is equal to one.
abbrev pub Says : LexiconView → List Owned → Option NameId → Kind → Type 0
Says x family a IsObject = SaysObject x family a
Says x family a IsEqual = SaysEqual x family a

module _ (x : LexiconView) (all : List Owned) (flags : List Bool) (a : Option NameId) where
  abbrev family : List Owned
  family = chosen all flags

  abbrev outlines : List Outline
  outlines = outlines_of x all

  pub says_conforms : (protocols : ℕ) (starts marks : List Bool) → AreSaid outlines flags a protocols starts
      → TellLed family starts marks → (q : ProtoId) → IsMarked marks q ↔ SaysConforms x family a q
  says_conforms protocols starts marks said tell q = (
    (λ m. let led = (tell q).0 m in
        let s = (said.each led.start).0 led.is_marked in
        let (o, at, is) = get_of_map (outline_of x) all s.place (Conformance a led.start) s.says in
        let (t, says, named) = conformance_of x a o.proto o.requirement led.start is in record {
          member = o;
          there = at_chosen all flags s.place o at s.kept;
          subject = t;
          proto = led.start;
          says = says;
          named = named;
          reaches = led.reaches;
        }),
    λ s. (tell q).1 (let (n, at, set) = chosen_at all flags s.member s.there in record {
      start = s.proto;
      is_marked = (said.each s.proto).1 (record {
        place = n;
        kept = set;
        says = get_map (outline_of x) all n s.member at
            ∙ ap (λ (r : TermRequirement). Some (outline_in x s.member.proto r)) s.says
            ∙ ap (λ (b : Option NameId). Some (Conformance b s.proto)) s.named;
      });
      reaches = s.reaches;
    }),
  )

  module _ (marks : List Bool) (tell : (q : ProtoId) → IsMarked marks q ↔ SaysConforms x family a q) where
    bears_on : (p : ProtoId) (t : Term) → BearsBy a marks p (last_name x t) → BearsOn x family a p t
    bears_on p t h = elim h [ inl e ↦ inl e | inr (none, m) ↦ inr (none, (tell p).0 m) ]

    bears_by : (p : ProtoId) (t : Term) → BearsOn x family a p t → BearsBy a marks p (last_name x t)
    bears_by p t h = elim h [ inl e ↦ inl e | inr (none, s) ↦ inr (none, (tell p).1 s) ]

    object_of : (p : ProtoId) (r : TermRequirement) → IsObjectBy a marks (outline_in x p r)
        → (t : Term) × (r ≡ IsAnyObject t) × BearsOn x family a p t
    object_of p (Conforms t q) h = absurd h
    object_of p (IsAnyObject t) h = (t, refl, bears_on p t h)
    object_of p (Equals t u) h = absurd h

    equal_of : (p : ProtoId) (r : TermRequirement) → IsEqualBy a marks (outline_in x p r)
        → (t : Term) × (u : Term) × (r ≡ Equals t u) × (BearsOn x family a p t ⊎ BearsOn x family a p u)
    equal_of p (Conforms t q) h = absurd h
    equal_of p (IsAnyObject t) h = absurd h
    equal_of p (Equals t u) h = (t, u, refl, elim h [ inl e ↦ inl (bears_on p t e) | inr e ↦ inr (bears_on p u e) ])

    -- what a member says
    of_member : (kind : Kind) (o : Owned) → Contains family o → IsSaidBy kind a marks (outline_of x o) → Says x family a kind
    of_member IsObject o c h =
        let (t, says, bears) = object_of o.proto o.requirement h in
        record { member = o; there = c; subject = t; says = says; bears = bears }
    of_member IsEqual o c h =
        let (t, u, says, bears) = equal_of o.proto o.requirement h in
        record { member = o; there = c; left = t; right = u; says = says; bears = bears }

    a_member : (kind : Kind) → Says x family a kind → (o : Owned) × Contains family o × IsSaidBy kind a marks (outline_of x o)
    a_member IsObject s = (
      s.member,
      s.there,
      subst (λ (r : TermRequirement). IsObjectBy a marks (outline_in x s.member.proto r)) (sym s.says)
          (bears_by s.member.proto s.subject s.bears),
    )
    a_member IsEqual s = (
      s.member,
      s.there,
      subst (λ (r : TermRequirement). IsEqualBy a marks (outline_in x s.member.proto r)) (sym s.says) (elim s.bears [
        | inl e ↦ inl (bears_by s.member.proto s.left e)
        | inr e ↦ inr (bears_by s.member.proto s.right e)
      ]),
    )

    -- it is said at a place if and only if a member says it
    pub says : (kind : Kind) → IsSaidAt outlines flags kind a marks ↔ Says x family a kind
    says kind = (
      (λ s. let (o, at, is) = get_of_map (outline_of x) all s.place s.outline s.there in
          of_member kind o (at_chosen all flags s.place o at s.kept) (subst (IsSaidBy kind a marks) (sym is) s.says)),
      λ s. let (o, there, h) = a_member kind s in
          let (n, at, set) = chosen_at all flags o there in
          record { place = n; outline = outline_of x o; kept = set; there = get_map (outline_of x) all n o at; says = h },
    )

pub not_said : (b : Bool) (P : Type 0) → IsTrue b ↔ P → IsTrue (not b) ↔ (P → ⊥)
not_said true P h = ((λ t. absurd (let z : false ≡ true = t in cc)), λ k. absurd (k (h.0 refl)))
not_said false P h = ((λ t p. let z : false ≡ true = h.1 p in cc), λ k. refl)

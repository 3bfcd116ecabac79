-- Places of protocols in an order, and sets of them.
use Rattle.std.proofs.Common.{◌≡◌, ℕ, zero, suc, ◌+◌, ◌<◌, ◌≤◌, ⊎_elim, ◌↔◌, Bool, true, false, cond, ◌||◌, ◌&&◌, nat_eq, List, [], ◌∷◌, ◌++◌, length, get_or, set, slice_get, take, None, Some, Contains, refl, sym, ap, subst, ◌∙◌, arith, length-append, eqb-true}
use Rattle.std.specs.List.{filter, list_any}
use Rattle.std.proofs.Math.Bool.{or-false}
use Rattle.std.proofs.lemmas.Bool.{cases_eq, cases_lt, eq-eqb, false_from_ne_true}
use Rattle.std.proofs.lemmas.List.{get_or-set_same, get_or-set_other, take_all, take_more}
use Rattle.std.proofs.lemmas.List.Elements.{filter-append}
use Rattle.std.proofs.lemmas.List.Folds.{list_any-append}
use Rattle.std.proofs.lemmas.Option.{none-some, same_Some, slice_get_within}
use Rattle.swreq_closure.specs.Bits as sets
use Rattle.swreq_closure.specs.Bits.{count_below}
use Rattle.swreq_rank.proofs.swreq_lemmas.Elements.{contains_get, get_contains, there_is, take_one, set_here, set_kept}
use Rattle.swreq_rank.proofs.Tests.{same_members}
use Rattle.swreq_derive.specs.swreq_param.declared.ids.NameId.{NameId}
use Rattle.swreq_derive.specs.swreq_param.declared.ids.ProtoId.{ProtoId}
use Rattle.swreq_lexicon.specs.declared.pair.ProtocolName.{ProtocolName}
use Rattle.swreq_lexicon.specs.Associated.{name}
use Rattle.swreq_lexicon.specs.Symbols.{has_member, having, row_of, AreCounts, AreHeirs, AreOnce, ArePlaces, AreRows, StandsAt}
use Rattle.swreq_lexicon.proofs.SymbolPlaces.{length_of}

-- ---- the place of a protocol

module _ (order : List ProtoId) (places : List ℕ) (are : ArePlaces order places) (p : ProtoId) where
  pub standing : (k : ℕ) → slice_get order k ≡ Some p → StandsAt order p k
  standing k f = (f, λ j g. same_Some j k (sym (are j p g) ∙ are k p f))

  pub elsewhere : (k : ℕ) → slice_get places p.rank ≡ Some k → (slice_get order k ≡ Some p → ⊥) → Contains order p → ⊥
  elsewhere k f none c =
      let s = contains_get order p c in
      none (subst (λ j. slice_get order j ≡ Some p) (same_Some s.0 k (sym (are s.0 p s.1) ∙ f)) s.1)

  pub nowhere : slice_get places p.rank ≡ None → Contains order p → ⊥
  nowhere h c =
      let s = contains_get order p c in
      none-some s.0 (sym h ∙ are s.0 p s.1)

differ : (x y : ℕ) → (x ≡ y → ⊥) → nat_eq x y ≡ false
differ x y d = false_from_ne_true (nat_eq x y) (λ e. d (eqb-true x y e))

pub none_standing : (order : List ProtoId) (q : ProtoId) (set : List ℕ) → ((k : ℕ) → sets.has set k ≡ false) → (k : ℕ) (p : ProtoId)
    → slice_get order k ≡ Some p → (Contains order q → ⊥) → sets.has set k ≡ nat_eq p.rank q.rank
none_standing order q set none k p f absent =
    none k ∙ sym (differ p.rank q.rank (λ e. absent (get_contains order k q (f ∙ ap Some (λ i. record { rank = e i })))))

-- the places of the first n protocols
abbrev pub ArePlacesTo : List ProtoId → ℕ → List ℕ → Type 0
ArePlacesTo order n places = (k : ℕ) (p : ProtoId) → k < n → slice_get order k ≡ Some p → slice_get places p.rank ≡ Some k

pub places_more : (order : List ProtoId) → AreOnce order → (places : List ℕ) (i : ℕ) (q : ProtoId) → slice_get order i ≡ Some q
    → q.rank < length places
    → ArePlacesTo order i places → ArePlacesTo order (i + 1) (set places q.rank i)
places_more order once places i q at room before k p h f = ⊎_elim here other (cases_eq p.rank q.rank)
  where
    here : p.rank ≡ q.rank → slice_get (set places q.rank i) p.rank ≡ Some k
    here e =
        let same : p ≡ q = λ j. record { rank = e j } in
        let one : k ≡ i = once k i q (f ∙ ap Some same) at in
        ap (slice_get (set places q.rank i)) e ∙ set_here places q.rank i room ∙ ap Some (sym one)

    other : (p.rank ≡ q.rank → ⊥) → slice_get (set places q.rank i) p.rank ≡ Some k
    other n =
        let apart : k ≡ i → ⊥ = λ s. n (ap (λ (r : ProtoId). r.rank) (same_Some p q (sym f ∙ ap (slice_get order) s ∙ at))) in
        let less : k < i = ⊎_elim (λ l. l) (λ g. absurd (apart (omega (arith, h, g)))) (cases_lt k i) in
        ⊎_elim (λ e. e) (λ s. absurd (n s.0)) (set_kept places q.rank i p.rank k (before k p less f))

pub all_places : (order : List ProtoId) (n : ℕ) (places : List ℕ) → length order ≤ n → ArePlacesTo order n places → ArePlaces order places
all_places order n places h are k p f = let l = slice_get_within order k p f in are k p (omega (arith, h, l)) f

-- ---- how many protocols before a place have a name

filter_push : {A : Type 0} (test : A → Bool) (xs : List A) (x : A)
    → length (filter test (xs ++ x ∷ [])) ≡ length (filter test xs) + cond (test x) 1 0
filter_push test xs x = ap length (filter-append test xs (x ∷ [])) ∙ length-append (filter test xs) (filter test (x ∷ []))
    ∙ ap (λ n. length (filter test xs) + n) (one (test x))
  where
    one : (b : Bool) → length (cond b (x ∷ []) []) ≡ cond b 1 0
    one true = refl
    one false = refl

module _ (order : List ProtoId) (has : ProtoId → NameId → Bool) (rows : List (List ℕ)) (are : AreRows order has rows) where
  pub counted : (a : NameId) (n : ℕ) → n ≤ length order → count_below (sets.has (row_of rows a)) n ≡ length (having (take n order) has a)
  counted a zero h = refl
  counted a (suc n) h =
      let s = there_is order n (omega arith) in
      (λ i. counted a n (omega arith) i + cond (are n s.0 a s.1 i) 1 0)
      ∙ sym (filter_push (λ p. has p a) (take n order) s.0)
      ∙ ap (λ ps. length (having ps has a)) (sym (take_one order n s.0 s.1))

  pub counts_are : (n many : ℕ) → many ≡ length order → (counts : List ℕ) → length counts ≡ n
      → ((a : ℕ) → a < n → get_or counts a 0 ≡ count_below (sets.has (row_of rows (name a))) many) → AreCounts order has n counts
  counts_are n many all counts size each = record {
    count = size;
    each = λ a h. each a h ∙ ap (count_below (sets.has (row_of rows (name a)))) all ∙ counted (name a) (length order) (omega arith)
        ∙ ap (λ ps. length (having ps has (name a))) (take_all (length order) order (omega arith)) ∙ sym (length_of order has (name a));
  }

-- ---- rows that get more places

or_nothing : (b c : Bool) → b ≡ (b || (false && c))
or_nothing true c = refl
or_nothing false c = refl

pub row_added : (rows : List (List ℕ)) (row heirs : List ℕ) (a : NameId) → a.rank < length rows
    → ((k : ℕ) → sets.has row k ≡ (sets.has (row_of rows a) k || sets.has heirs k))
    → (b : NameId) (k : ℕ)
    → sets.has (row_of (set rows a.rank row) b) k ≡ (sets.has (row_of rows b) k || (nat_eq b.rank a.rank && sets.has heirs k))
row_added rows row heirs a within both b k = ⊎_elim here other (cases_eq b.rank a.rank)
  where
    here : b.rank ≡ a.rank
        → sets.has (row_of (set rows a.rank row) b) k ≡ (sets.has (row_of rows b) k || (nat_eq b.rank a.rank && sets.has heirs k))
    here e =
        ap (λ r. sets.has (get_or (set rows a.rank row) r []) k) e
        ∙ ap (λ (s : List ℕ). sets.has s k) (get_or-set_same rows a.rank row [] within)
        ∙ both k
        ∙ (λ i. sets.has (get_or rows (sym e i) []) k || (sym (eq-eqb b.rank a.rank e) i && sets.has heirs k))

    other : (b.rank ≡ a.rank → ⊥)
        → sets.has (row_of (set rows a.rank row) b) k ≡ (sets.has (row_of rows b) k || (nat_eq b.rank a.rank && sets.has heirs k))
    other n =
        ap (λ (s : List ℕ). sets.has s k) (get_or-set_other rows a.rank b.rank row [] n)
        ∙ or_nothing (sets.has (row_of rows b) k) (sets.has heirs k)
        ∙ ap (λ c. sets.has (row_of rows b) k || (c && sets.has heirs k)) (sym (differ b.rank a.rank n))

any_push : {A : Type 0} (test : A → Bool) (xs : List A) (x : A) → list_any test (xs ++ x ∷ []) ≡ (list_any test xs || test x)
any_push test xs x = list_any-append test xs (x ∷ []) ∙ ap (λ b. list_any test xs || b) (or-false (test x))

module _ (inherits : ProtoId → ProtoId → Bool) (order : List ProtoId) where
  -- adding the heirs of a protocol to the row of one more name that it declares
  pub rows_more : (pairs : List ProtocolName) (i : ℕ) (d : ProtocolName) (old new : List (List ℕ)) (heirs : List ℕ)
      → i < length pairs → d ≡ get_or pairs i d
      → AreHeirs inherits order d.proto heirs
      → ((a : NameId) (k : ℕ) → sets.has (row_of new a) k ≡ (sets.has (row_of old a) k || (nat_eq a.rank d.name.rank && sets.has heirs k)))
      → AreRows order (has_member inherits (take i pairs)) old → AreRows order (has_member inherits (take (i + 1) pairs)) new
  rows_more pairs i d old new heirs within is are step before k p a f =
      let test : ProtocolName → Bool = λ e. nat_eq a.rank e.name.rank && (nat_eq p.rank e.proto.rank || inherits p e.proto) in
      step a k
      ∙ (λ j. before k p a f j || (nat_eq a.rank d.name.rank && are k p f j))
      ∙ sym (any_push test (take i pairs) d)
      ∙ ap (list_any test) (sym (take_more pairs i d within ∙ ap (λ x. take i pairs ++ x ∷ []) (sym is)))

  pub same_rows : (xs ys : List ProtocolName) (rows : List (List ℕ)) → ((d : ProtocolName) → Contains xs d ↔ Contains ys d)
      → AreRows order (has_member inherits xs) rows → AreRows order (has_member inherits ys) rows
  same_rows xs ys rows same are k p a f =
      are k p a f ∙ same_members (λ d. nat_eq a.rank d.name.rank && (nat_eq p.rank d.proto.rank || inherits p d.proto)) xs ys same

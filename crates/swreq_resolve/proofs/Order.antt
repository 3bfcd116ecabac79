-- The order of refusals, and the first of several.
use Rattle.std.proofs.Common.{◌≡◌, ℕ, zero, suc, ◌+◌, ◌*◌, ◌<◌, ◌≤◌, ◌⊎◌, inl, inr, ⊎_elim, Bool, true, false, cond, ◌&&◌, ◌||◌, List, [], ◌∷◌, None, Some, Contains, refl, sym, ap, subst, ◌∙◌, arith, true≢false}
use Rattle.std.specs.Prelude.{nat_lt, nat_eq}
use Rattle.std.proofs.lemmas.Bool.{ltb-true, lt-ltb, eqb-true, eq-eqb, cases_lt, and_from, and_parts, or_cases, or_left, or_right}
use Rattle.std.proofs.lemmas.List.Elements.{Contains-append_right}
use Rattle.swreq_names.proofs.swreq_lemmas.Members.{first_member, later_member, member_cases}
use Rattle.swreq_resolve.specs.declared.refusal.Fault.{Fault}
use Rattle.swreq_resolve.specs.declared.refusal.Fault.TheVariants.{Duplicate, NotAProtocol, ConcreteType, NoSuchMember, UnknownSignature, WrongArity}
use Rattle.swreq_resolve.specs.declared.refusal.Refusal.{Refusal}
use Rattle.swreq_resolve.specs.First.{row, precedes, earlier, least, IsFirst}

-- ---- a number for each refusal

rank_below : (f : Fault) → row f < 6
rank_below Duplicate = omega arith
rank_below NotAProtocol = omega arith
rank_below ConcreteType = omega arith
rank_below NoSuchMember = omega arith
rank_below UnknownSignature = omega arith
rank_below WrongArity = omega arith

abbrev key : Refusal → ℕ
key r = r.at * 6 + row r.fault

both_lt : (a b x y : ℕ) → (nat_lt a b || (nat_eq a b && nat_lt x y)) ≡ true → x < 6 → a * 6 + x < b * 6 + y
both_lt a b x y e p = ⊎_elim first second (or_cases (nat_lt a b) (nat_eq a b && nat_lt x y) e)
  where
    first : nat_lt a b ≡ true → a * 6 + x < b * 6 + y
    first h = let l = ltb-true a b h in omega (arith, l)

    second : (nat_eq a b && nat_lt x y) ≡ true → a * 6 + x < b * 6 + y
    second h =
        let s = eqb-true a b (and_parts (nat_eq a b) (nat_lt x y) h).0 in
        let l = ltb-true x y (and_parts (nat_eq a b) (nat_lt x y) h).1 in
        omega (arith, s, l)

from_lt : (a b x y : ℕ) → x < 6 → y < 6 → a * 6 + x < b * 6 + y → (nat_lt a b || (nat_eq a b && nat_lt x y)) ≡ true
from_lt a b x y p q h = ⊎_elim first second (cases_lt a b)
  where
    first : a < b → (nat_lt a b || (nat_eq a b && nat_lt x y)) ≡ true
    first l = or_left (nat_lt a b) (nat_eq a b && nat_lt x y) (lt-ltb a b l)

    second : b ≤ a → (nat_lt a b || (nat_eq a b && nat_lt x y)) ≡ true
    second l =
        let s : a ≡ b = omega arith in
        let m : x < y = omega arith in
        or_right (nat_lt a b) (nat_eq a b && nat_lt x y) (and_from (nat_eq a b) (nat_lt x y) (eq-eqb a b s) (lt-ltb x y m))

precedes_to : (q r : Refusal) → precedes q r ≡ true → key q < key r
precedes_to q r e = both_lt q.at r.at (row q.fault) (row r.fault) e (rank_below q.fault)

precedes_from : (q r : Refusal) → key q < key r → precedes q r ≡ true
precedes_from q r h = from_lt q.at r.at (row q.fault) (row r.fault) (rank_below q.fault) (rank_below r.fault) h

not_precedes_to : (q r : Refusal) → precedes q r ≡ false → key r ≤ key q
not_precedes_to q r e = ⊎_elim (λ l. absurd (true≢false (sym (precedes_from q r l) ∙ e))) (λ l. l) (cases_lt (key q) (key r))

not_precedes_from : (q r : Refusal) → key r ≤ key q → precedes q r ≡ false
not_precedes_from q r h = by (precedes q r) refl
  where
    by : (b : Bool) → precedes q r ≡ b → b ≡ false
    by true e = let l = precedes_to q r e in absurd (omega (arith, l, h))
    by false e = refl

-- ---- one number, one refusal

fault_of : ℕ → Fault
fault_of zero = Duplicate
fault_of (suc zero) = NotAProtocol
fault_of (suc (suc zero)) = ConcreteType
fault_of (suc (suc (suc zero))) = NoSuchMember
fault_of (suc (suc (suc (suc zero)))) = UnknownSignature
fault_of (suc (suc (suc (suc (suc n))))) = WrongArity

of_rank : (f : Fault) → fault_of (row f) ≡ f
unfolding fault_of
of_rank Duplicate = refl
of_rank NotAProtocol = refl
of_rank ConcreteType = refl
of_rank NoSuchMember = refl
of_rank UnknownSignature = refl
of_rank WrongArity = refl

same_parts : (a b x y : ℕ) → x < 6 → y < 6 → a * 6 + x ≡ b * 6 + y → (a ≡ b) × (x ≡ y)
same_parts a b x y p q e = (omega arith, omega arith)

same_refusal : (q r : Refusal) → key q ≡ key r → q ≡ r
same_refusal q r e =
    let s = same_parts q.at r.at (row q.fault) (row r.fault) (rank_below q.fault) (rank_below r.fault) e in
    let f : q.fault ≡ r.fault = sym (of_rank q.fault) ∙ ap fault_of s.1 ∙ of_rank r.fault in
    λ i. record { fault = f i; at = s.0 i }

pub one_first : (rs : List Refusal) (q r : Refusal) → IsFirst rs q → IsFirst rs r → q ≡ r
one_first rs q r a b =
    let l = not_precedes_to r q (a.first r b.is) in
    let m = not_precedes_to q r (b.first q a.is) in
    same_refusal q r (omega (arith, l, m))

-- ---- the first of several

some_least : (b : Refusal) (rs : List Refusal) → (r : Refusal) × (least (Some b) rs ≡ Some r)
some_least b [] = (b, refl)
some_least b (x ∷ rs) = by (precedes x b) refl (some_least x rs) (some_least b rs)
  where
    by : (t : Bool) → precedes x b ≡ t → (r : Refusal) × (least (Some x) rs ≡ Some r) → (r : Refusal) × (least (Some b) rs ≡ Some r)
        → (r : Refusal) × (least (earlier (Some b) x) rs ≡ Some r)
    by true h m n = (m.0, ap (λ t. least (cond t (Some x) (Some b)) rs) h ∙ m.1)
    by false h m n = (n.0, ap (λ t. least (cond t (Some x) (Some b)) rs) h ∙ n.1)

-- where there is no first refusal, nothing is refused
pub none_refused : (rs : List Refusal) → least None rs ≡ None → rs ≡ []
none_refused [] e = refl
none_refused (x ∷ rs) e = let k = some_least x rs in absurd (let s = sym e ∙ k.1 in cc)

-- r is b or one of the others, and none of them has a lesser number
record HasLeast (b : Refusal) (rs : List Refusal) (r : Refusal) : Type 0 where
  one : (r ≡ b) ⊎ Contains rs r
  start : key r ≤ key b
  others : (q : Refusal) → Contains rs q → key r ≤ key q

has_least_by : (b x : Refusal) (rs : List Refusal) (r : Refusal) (t : Bool) → precedes x b ≡ t → least (earlier (Some b) x) rs ≡ Some r
    → (least (Some x) rs ≡ Some r → HasLeast x rs r) → (least (Some b) rs ≡ Some r → HasLeast b rs r) → HasLeast b (x ∷ rs) r
has_least_by b x rs r true h e here kept =
    let k = here (sym (ap (λ t. least (cond t (Some x) (Some b)) rs) h) ∙ e) in
    let lt : key x < key b = precedes_to x b h in
    let s = k.start in
    record {
      one = ⊎_elim (λ c. inr (subst (λ y. Contains (x ∷ rs) y) (sym c) (first_member x rs))) (λ c. inr (later_member x r rs c)) k.one;
      start = omega (arith, lt, s);
      others = λ q c. ⊎_elim (λ d. subst (λ (y : Refusal). key r ≤ key y) (sym d) s) (k.others q) (member_cases x q rs c);
    }
has_least_by b x rs r false h e here kept =
    let k = kept (sym (ap (λ t. least (cond t (Some x) (Some b)) rs) h) ∙ e) in
    let le : key b ≤ key x = not_precedes_to x b h in
    let s = k.start in
    record {
      one = ⊎_elim inl (λ c. inr (Contains-append_right (x ∷ []) rs r c)) k.one;
      start = s;
      others =
          λ q c. ⊎_elim (λ d. subst (λ (y : Refusal). key r ≤ key y) (sym d) (omega (arith, le, s))) (k.others q) (member_cases x q rs c);
    }

has_least : (b : Refusal) (rs : List Refusal) (r : Refusal) → least (Some b) rs ≡ Some r → HasLeast b rs r
has_least b [] r e =
    let same : b ≡ r = cc in
    record {
      one = inl (sym same);
      start = subst (λ (x : Refusal). key x ≤ key b) same (omega arith);
      others = λ q h. absurd (omega (arith, h.1));
    }
has_least b (x ∷ rs) r e = has_least_by b x rs r (precedes x b) refl e (has_least x rs r) (has_least b rs r)

pub least_is_first : (rs : List Refusal) (r : Refusal) → least None rs ≡ Some r → IsFirst rs r
least_is_first [] r e = absurd cc
least_is_first (x ∷ rs) r e =
    let k = has_least x rs r e in record {
      is = ⊎_elim (λ c. subst (λ y. Contains (x ∷ rs) y) (sym c) (first_member x rs)) (λ c. later_member x r rs c) k.one;
      first = λ q c.
          not_precedes_from q r (⊎_elim (λ d. subst (λ (y : Refusal). key r ≤ key y) (sym d) k.start) (k.others q) (member_cases x q rs c));
    }

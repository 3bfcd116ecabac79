-- For each name the protocols that declare it.
use Rattle.std.proofs.Common.{◌≡◌, ℕ, ◌+◌, ◌<◌, ◌≤◌, Bool, true, false, ◌||◌, ◌&&◌, nat_eq, ◌⊎◌, inl, inr, ⊎_elim, ◌↔◌, List, [], ◌∷◌, ◌++◌, length, get_or, take, replicate, Contains, refl, sym, ap, subst, ◌∙◌, eqb-true}
use Rattle.std.specs.List.{list_any}
use Rattle.std.proofs.lemmas.Bool.{eq-eqb, and_from, and_parts}
use Rattle.std.proofs.lemmas.List.{take_more, take_all}
use Rattle.std.proofs.lemmas.List.Elements.{Contains-append_left, Contains-push, Contains-push_cases}
use Rattle.swreq_rank.proofs.swreq_lemmas.Members.{no_member}
use Rattle.swreq_rank.proofs.Pushed.{all_alike, pushed, with_item}
use Rattle.swreq_rank.proofs.Tests.{same_bool, some_passes, passes}
use Rattle.swreq_derive.specs.swreq_param.declared.ids.NameId.{NameId}
use Rattle.swreq_derive.specs.swreq_param.declared.ids.ProtoId.{ProtoId}
use Rattle.swreq_lexicon.specs.declared.pair.ProtocolName.{ProtocolName}
use Rattle.swreq_lexicon.specs.Lexicons.{pair}
use Rattle.swreq_lexicon.specs.Symbols.{AreDeclarers}

same_name : (a : NameId) (d : ProtocolName) → a.rank ≡ d.name.rank → pair d.proto a ≡ d
same_name a d e = λ k. record { proto = d.proto; name = record { rank = e k } }

-- if no element passes the test, none of a list does
pub none_passes : {A : Type 0} (test : A → Bool) → ((x : A) → test x ≡ false) → (xs : List A) → list_any test xs ≡ false
none_passes test none [] = refl
none_passes test none (x ∷ xs) = (λ i. none x i || list_any test xs) ∙ none_passes test none xs

-- ---- what they say of a name

module _ (associated : List ProtocolName) (lists : List (List ProtoId)) (are : AreDeclarers associated lists)
    (g : ProtoId → Bool) (a : NameId) where
  abbrev declared : ProtocolName → Bool
  declared d = nat_eq a.rank d.name.rank && g d.proto

  to : list_any g (get_or lists a.rank []) ≡ true → list_any declared associated ≡ true
  to e =
      let s = some_passes g (get_or lists a.rank []) e in
      passes declared associated (pair s.0 a) ((are s.0 a).0 s.1) (and_from (nat_eq a.rank a.rank) (g s.0) (eq-eqb a.rank a.rank refl) s.2)

  from : list_any declared associated ≡ true → list_any g (get_or lists a.rank []) ≡ true
  from e =
      let s = some_passes declared associated e in
      let d = s.0 in
      let n = eqb-true a.rank d.name.rank ((and_parts (nat_eq a.rank d.name.rank) (g d.proto) s.2).0) in
      passes g (get_or lists a.rank []) d.proto ((are d.proto a).1 (subst (λ x. Contains associated x) (sym (same_name a d n)) s.1))
      ((and_parts (nat_eq a.rank d.name.rank) (g d.proto) s.2).1)

  -- whether some protocol that declares the name passes the test, by the lists and by the associated types
  pub any_declarer : list_any g (get_or lists a.rank []) ≡ list_any declared associated
  any_declarer = same_bool (list_any g (get_or lists a.rank [])) (list_any declared associated) to from

-- ---- how they grow

module _ (pairs : List ProtocolName) (i : ℕ) (d : ProtocolName) (lists : List (List ProtoId)) (within : i < length pairs)
    (is : d ≡ get_or pairs i d) (room : d.name.rank < length lists)
    (are : AreDeclarers (take i pairs) lists) where
  more : take (i + 1) pairs ≡ take i pairs ++ d ∷ []
  more = take_more pairs i d within ∙ ap (λ x. take i pairs ++ x ∷ []) (sym is)

  pub declared_more : AreDeclarers (take (i + 1) pairs) (with_item lists d.name.rank d.proto)
  declared_more p a = (
    λ c.
        subst (λ xs. Contains xs (pair p a)) (sym more)
        (⊎_elim (λ h. Contains-append_left (take i pairs) (d ∷ []) (pair p a) ((are p a).0 h))
        (λ s. subst (λ x. Contains (take i pairs ++ d ∷ []) x) (sym (same_name a d s.0) ∙ ap (λ q. pair q a) (sym s.1))
        (Contains-push (take i pairs) d))
        ((both p a).0 c)),
    λ c.
        (both p a).1
        (⊎_elim (λ h. inl ((are p a).1 h))
        (λ s. inr (ap (λ (x : ProtocolName). x.name.rank) (sym s), ap (λ (x : ProtocolName). x.proto) (sym s)))
        (Contains-push_cases (take i pairs) d (pair p a) (subst (λ xs. Contains xs (pair p a)) more c))),
  )
    where
      both : (p : ProtoId) (a : NameId)
          → Contains (get_or (with_item lists d.name.rank d.proto) a.rank []) p
          ↔ (Contains (get_or lists a.rank []) p ⊎ ((a.rank ≡ d.name.rank) × (p ≡ d.proto)))
      both p a = pushed lists d.name.rank d.proto room a.rank p

pub none_declared : (pairs : List ProtocolName) (lists : List (List ProtoId)) (names : ℕ) → lists ≡ replicate names []
    → AreDeclarers (take 0 pairs) lists
none_declared pairs lists names none p a = (
  λ c. no_member p (subst (λ xs. Contains xs p) (ap (λ ls. get_or ls a.rank []) none ∙ all_alike names a.rank []) c),
  λ c. no_member (pair p a) c,
)

pub all_declared : (pairs : List ProtocolName) (i : ℕ) (lists : List (List ProtoId)) → length pairs ≤ i → AreDeclarers (take i pairs) lists
    → AreDeclarers pairs lists
all_declared pairs i lists h are = subst (λ xs. AreDeclarers xs lists) (take_all i pairs h) are

-- lists of declarers are right for the same associated types in another order too
pub same_declarers : (xs ys : List ProtocolName) (lists : List (List ProtoId)) → ((d : ProtocolName) → Contains ys d ↔ Contains xs d)
    → AreDeclarers xs lists → AreDeclarers ys lists
same_declarers xs ys lists same are p a = (λ c. (same (pair p a)).1 ((are p a).0 c), λ c. (are p a).1 ((same (pair p a)).0 c))

-- What lines allow after a type parameter, in a derivation and on the derivations that it grows to.
use Rattle.std.proofs.Common.{◌≡◌, inl, inr, ℕ, zero, suc, ◌+◌, ◌<◌, Bool, List, [], ◌∷◌, ◌++◌, length, drop, take, get_or, slice_get}
use Rattle.std.proofs.Common.{arith, Option, Some, MatchOption, true, false, refl, sym, ap, subst, ◌∙◌}
use Rattle.std.proofs.lemmas.{List.{drop_more, take_more}, Option.{MatchOption-at_some, get_or_from_slice_get, same_Some}}
use Rattle.std.specs.Bool.{Decides}
use Rattle.swreq_derive.specs.swreq_param.declared.ids.{NameId.{NameId}, ProtoId.{ProtoId}, TermId.{TermId}, Step.{Step}}
use Rattle.swreq_derive.specs.swreq_param.{declared.ids.Step.TheVariants.{Name as NameStep}, Tables.{IsOf, term_at}, Terms.{Term}}
use Rattle.swreq_derive.specs.Derivation.{TermRequirement.{Conforms, IsAnyObject}, TermStatement.{Requires}}
use Rattle.swreq_word.specs.declared.symbols.Symbol.{Symbol, TheVariants.{Proto, Member, Param, Name, Layout}}
use Rattle.swreq_derivation.specs.declared.{derivation.Derivation.{Derivation}, statements.Bound.{Bound}}
use Rattle.swreq_derivation.specs.declared.statements.Bound.TheVariants.{AnyObject, Protocol}
use Rattle.swreq_derivation.specs.UnderWay.{AddsLines, AreEqualIds, AreStatedEqual, States, StatesBound}
use Rattle.swreq_readings.specs.declared.alphabet.Alphabet.{Alphabet}
use Rattle.swreq_derive.specs.declared.requirements.Requirement.{Requirement, TheVariants.{Conf}}
use Rattle.swreq_readings.specs.Inherited.{IsParentBy}
use Rattle.swreq_readings.specs.Alphabets.{IsFromAbove, IsMember, IsParentAt, IsParentFor, lexicon, written_at}
use Rattle.swreq_derive.proofs.swreq_lemmas.Stable.{less_stable, truncated_map}
use Rattle.swreq_world.specs.swreq_lexicon.Views.{IsProtocol, depth}
use mathlib.Core.Logic.{∥∥₁_elim}
use Rattle.swreq_readings.specs.Readable.{read_symbol, read_word, IsGiven, IsGivenAt, IsOfStep, IsReadAs, AreReadEqual, AllowsName}
use Rattle.swreq_readings.specs.Readable.{AllowsSymbol, AllowsWord, IsCarried}
use Rattle.swreq_world.specs.swreq_lexicon.declared.pair.ProtocolName.{ProtocolName}
use Rattle.swreq_derivation.proofs.DerivationLemmas as derivations

module _ (g : Alphabet) (s u : Derivation) (grows : AddsLines s u) where
  pub equal_still : (t v : Term) → AreStatedEqual s t v → AreStatedEqual u t v
  equal_still t v (inl e) = inl e
  equal_still t v (inr w) = inr (grows.stays _ w)

  pub name_still : (t : Term) (a : NameId) → AllowsName g s t a → AllowsName g u t a
  name_still t a w = (w.0, w.1, grows.stays _ w.2)

  pub symbol_still : (t : Term) (x : Symbol) → AllowsSymbol g s t x → AllowsSymbol g u t x
  symbol_still t (Proto q) w = grows.stays _ w
  symbol_still t (Member k) w = (w.0, grows.stays _ w.1, name_still t _ w.2)
  symbol_still t (Param d i) w = w
  symbol_still t (Name a) w = name_still t _ w
  symbol_still t Layout w = grows.stays _ w

  pub given_still : (t : Term) (x : Step) (n : ProtocolName) → IsGiven g s t x n → IsGiven g u t x n
  given_still t x n w = (w.0, (w.1.0, w.1.1, grows.stays _ w.1.2))

  pub word_still : (t : Term) (w : List Symbol) → AllowsWord g s t w → AllowsWord g u t w
  word_still t [] h = h
  word_still t (x ∷ w) h = (symbol_still t x h.0, word_still (read_symbol g t x) w h.1)

-- ---- written inheritance

module _ (g : Alphabet) where
  pub goes_down : (p q : ProtoId) (k : ℕ) → IsParentAt g p k q → depth (lexicon g) q < depth (lexicon g) p
  goes_down p q k at = less_stable _ _ (truncated_map (λ h. h.goes_down p q k at) g.inherited)

  pub of_text : (p : ProtoId) (a : NameId) → IsMember g p a → IsProtocol (lexicon g) p
  of_text p a is = less_stable _ _ (truncated_map (λ h. h.of_text p a is) g.inherited)

  -- a protocol that does not declare its member name is written to inherit one that has it
  pub has_parent : (p : ProtoId) (a : NameId) → IsFromAbove g p a → ((k : ℕ) (q : ProtoId) → IsParentFor g p a k q → ⊥) → ⊥
  has_parent p a is none = ∥∥₁_elim g.inherited (λ x y. absurd x) (λ h. elim (h.from p a is.0) [
    | inl declared ↦ is.1 declared
    | inr w ↦ none w.0 w.1 (w.2, w.3)
  ])

  -- the requirement at the place where P inherits Q is `[Self : Q]`
  pub parent_here : (p q : ProtoId) (a : NameId) (k : ℕ) (d : Requirement) (list : List Requirement) → list ≡ written_at g p
      → IsParentFor g p a k q → IsParentBy g.self_id (get_or list k d) q × IsMember g q a
  parent_here p q a k d list e ((s, id, at), is) =
      ((s, id, get_or_from_slice_get list k (Conf s q) d (ap (λ z. slice_get z k) e ∙ at)), is)

-- ---- words one after the other

pub read_on : (g : Alphabet) (t : Term) (u v : List Symbol) → read_word g t (u ++ v) ≡ read_word g (read_word g t u) v
read_on g t [] v = refl
read_on g t (x ∷ u) v = read_on g (read_symbol g t x) u v

module _ (g : Alphabet) (s : Derivation) where
  pub word_left : (t : Term) (u v : List Symbol) → AllowsWord g s t (u ++ v) → AllowsWord g s t u
  word_left t [] v h = tt
  word_left t (x ∷ u) v h = (h.0, word_left (read_symbol g t x) u v h.1)

  pub word_right : (t : Term) (u v : List Symbol) → AllowsWord g s t (u ++ v) → AllowsWord g s (read_word g t u) v
  word_right t [] v h = h
  word_right t (x ∷ u) v h = word_right (read_symbol g t x) u v h.1

  pub word_both : (t : Term) (u v : List Symbol) → AllowsWord g s t u → AllowsWord g s (read_word g t u) v → AllowsWord g s t (u ++ v)
  word_both t [] v h k = k
  word_both t (x ∷ u) v h k = (h.0, word_both (read_symbol g t x) u v h.1 k)

-- ---- place by place

module _ (g : Alphabet) (t : Term) (w : List Symbol) (k : ℕ) (d : Symbol) (within : k < length w) where
  pub read_more : read_word g t (take (k + 1) w) ≡ read_symbol g (read_word g t (take k w)) (get_or w k d)
  read_more = ap (read_word g t) (take_more w k d within) ∙ read_on g t (take k w) (get_or w k d ∷ [])

  pub says_more : (s : Derivation) → AllowsWord g s t (take k w) → AllowsSymbol g s (read_word g t (take k w)) (get_or w k d)
      → AllowsWord g s t (take (k + 1) w)
  says_more s h x = subst (AllowsWord g s t) (sym (take_more w k d within)) (word_both g s t (take k w) (get_or w k d ∷ []) h (x, tt))

pub says_place : (g : Alphabet) (s : Derivation) (t : Term) (w : List Symbol) (k : ℕ) (d : Symbol) → k < length w → AllowsWord g s t w
    → AllowsSymbol g s (read_word g t (take k w)) (get_or w k d)
says_place g s t [] k d within h = absurd (omega arith)
says_place g s t (x ∷ w) zero d within h = h.0
says_place g s t (x ∷ w) (suc k) d within h = says_place g s (read_symbol g t x) w k d (omega arith) h.1

pub read_step : (g : Alphabet) (t v u : Term) (w : List Symbol) (k : ℕ) (d : Symbol) → k < length w → v ≡ read_symbol g t (get_or w k d)
    → read_word g t (drop k w) ≡ u → read_word g v (drop (k + 1) w) ≡ u
read_step g t v u w k d h e f = ap (λ z. read_word g z (drop (k + 1) w)) e ∙ sym (ap (read_word g t) (drop_more w k d h)) ∙ f

-- ---- associated types that steps name

module _ (g : Alphabet) (s : Derivation) (t : Term) (a : NameId) where
  -- an associated type that the unbound step A names, and a protocol that declares A
  pub named_given : (n : ProtocolName) → IsGiven g s t (NameStep a) n → AllowsName g s t a
  named_given n w = (
    n.proto,
    (
      w.0,
      subst (λ z. slice_get (lexicon g).associated w.0 ≡ Some
          (record { proto = n.proto; name = z })) w.1.1 w.1.0,
    ),
    w.1.2,
  )

  pub given_named : AllowsName g s t a → (n : ProtocolName) × IsGiven g s t (NameStep a) n
  given_named w = (record { proto = w.0; name = a }, (w.1.0, (w.1.1, refl, w.2)))

-- what is said of the associated type with a rank, of the pair that stands there
pub given_at : (g : Alphabet) (s : Derivation) (t : Term) (x : Step) (k : ℕ) (n m : ProtocolName)
    → slice_get (lexicon g).associated k ≡ Some n → IsGivenAt g s t x k m
    → IsOfStep x k n × States s (Requires (Conforms t n.proto))
given_at g s t x k n m e w =
    let same : m ≡ n = same_Some m n (sym w.0 ∙ e) in
    subst (λ (z : ProtocolName). IsOfStep x k z × States s (Requires (Conforms t z.proto))) same (w.1, w.2)

-- ---- ids of a derivation that grows

pub equal_as : (s : Derivation) (a b t u : Term) → a ≡ t → b ≡ u → AreStatedEqual s t u → AreStatedEqual s a b
equal_as s a b t u e f w = subst (λ z. AreStatedEqual s z b) (sym e) (subst (AreStatedEqual s t) (sym f) w)

module _ (s u : Derivation) (grows : AddsLines s u) where
  pub is_still : (t : TermId) → IsOf s.table t → IsOf u.table t
  is_still t h = omega (arith, grows.extends.longer, h)

  pub term_still : (t : TermId) → IsOf s.table t → term_at u.table t ≡ term_at s.table t
  term_still t h = grows.extends.stands t h

  pub bound_still : (t : TermId) (bound : Bound) → IsOf s.table t → StatesBound s s t bound → StatesBound u u t bound
  bound_still t (Protocol p) h w = subst (λ z. States u (Requires (Conforms z p))) (sym (term_still t h)) (grows.stays _ w)
  bound_still t AnyObject h w = subst (λ z. States u (Requires (IsAnyObject z))) (sym (term_still t h)) (grows.stays _ w)

  -- if the grown derivation says that what two ids stood for is equal, the ids are equal on it
  pub equal_ids_now : (t v : TermId) → IsOf s.table t → IsOf s.table v → AreStatedEqual u (term_at s.table t) (term_at s.table v)
      → AreEqualIds u t v
  equal_ids_now t v h k w = (is_still t h, is_still v k, equal_as u _ _ _ _ (term_still t h) (term_still v k) w)

  -- ids that a derivation says are equal are equal in the grown derivation
  pub equal_ids_still : (t v : TermId) → AreEqualIds s t v → AreEqualIds u t v
  equal_ids_still t v w = equal_ids_now t v w.0 w.1 (again w.2)
    where
      again : {y z : Term} → AreStatedEqual s y z → AreStatedEqual u y z
      again (inl e) = inl e
      again (inr w) = inr (grows.stays _ w)

-- if lines allow a symbol after an id, they allow it after that id in the grown derivation
pub symbol_now : (g : Alphabet) (s u : Derivation) → AddsLines s u → (t : TermId) (x : Symbol) → IsOf s.table t → AllowsSymbol g s
    (term_at s.table t) x
    → AllowsSymbol g u (term_at u.table t) x
symbol_now g s u grows t x h w = subst (λ z. AllowsSymbol g u z x) (sym (term_still s u grows t h)) (symbol_still g s u grows _ x w)

-- ---- a word carried, symbol by symbol

-- lines allow the symbol at a place after what the symbols before it are read as
pub symbol_after : (g : Alphabet) (s n : Derivation) (t u : TermId) (w : List Symbol) (k : ℕ) (d : Symbol) (m : TermId × TermId)
    → AddsLines s n → k < length w → AllowsWord g s (term_at s.table t) w → IsCarried g s n t u (take k w) m
    → AllowsSymbol g n (term_at n.table m.0) (get_or w k d)
symbol_after g s n t u w k d m grows within h c = subst (λ z. AllowsSymbol g n z (get_or w k d)) (sym c.first)
    (symbol_still g s n grows _ (get_or w k d) (says_place g s (term_at s.table t) w k d within h))

-- A word is carried, and then another one from there.
pub carried_then : (g : Alphabet) (s n v : Derivation) (t u : TermId) (w x : List Symbol) (m r : TermId × TermId) → AddsLines n v
    → IsCarried g s n t u w m → IsCarried g n v m.0 m.1 x r → IsCarried g s v t u (w ++ x) r
carried_then g s n v t u w x m r grows a b = record {
  word = word_both g v (term_at s.table u) w x (word_still g n v grows _ w a.word) (subst (λ z. AllowsWord g v z x) a.second b.word);
  first = b.first ∙ ap (λ z. read_word g z x) a.first ∙ sym (read_on g (term_at s.table t) w x);
  second = b.second ∙ ap (λ z. read_word g z x) a.second ∙ sym (read_on g (term_at s.table u) w x);
  equal = b.equal;
}

-- ---- words that are read alike

-- Two words are read after T, one after the other: these ids stand for what they are read as.
module _ (g : Alphabet) {s m n : Derivation} (t : TermId) (h : IsOf s.table t) (u v : List Symbol) (f : AddsLines s m) (k : AddsLines m n)
    (a b : TermId) (of_a : IsOf m.table a) (is_a : term_at m.table a ≡ read_word g (term_at s.table t) u) (of_b : IsOf n.table b)
    (is_b : term_at n.table b ≡ read_word g (term_at m.table t) v) where
  pub first_read : term_at n.table a ≡ read_word g (term_at s.table t) u
  first_read = term_still m n k a of_a ∙ is_a

  pub second_read : term_at n.table b ≡ read_word g (term_at s.table t) v
  second_read = is_b ∙ ap (λ z. read_word g z v) (term_still s m f t h)

  -- if the words are read alike, the ids are equal
  pub alike_ids : AreStatedEqual s (read_word g (term_at s.table t) u) (read_word g (term_at s.table t) v) → AreEqualIds n a b
  alike_ids w = (
    is_still m n k a of_a,
    of_b,
    equal_as n _ _ _ _ first_read second_read (equal_still g s n (derivations.grows_then f k) _ _ w),
  )

-- ---- a side put in place of another

-- if lines allow a word after a type parameter, they allow it after an identical one
pub word_at : (g : Alphabet) (s : Derivation) (t u : Term) (w : List Symbol) → u ≡ t → AllowsWord g s t w → AllowsWord g s u w
word_at g s t u w e h = subst (λ z. AllowsWord g s z w) (sym e) h

pub both_still : (g : Alphabet) (s u : Derivation) → AddsLines s u → (t : Term) (a b : List Symbol) → AreReadEqual g s t a b → AreReadEqual
    g u t a b
both_still g s u grows t a b w =
    record {
      left = word_still g s u grows t a w.left;
      right = word_still g s u grows t b w.right;
      equal = equal_still g s u grows
          (read_word g t a) (read_word g t b) w.equal;
    }

-- two words that are read alike are read alike with the same word after them
pub both_with : (g : Alphabet) (s : Derivation) (t : Term) (a b c : List Symbol) → AreReadEqual g s t a b → AllowsWord g s (read_word g t a)
    c
    → AllowsWord g s (read_word g t b) c
    → AreStatedEqual s (read_word g (read_word g t a) c) (read_word g (read_word g t b) c) → AreReadEqual g s t (a ++ c) (b ++ c)
both_with g s t a b c w left right equal = record {
  left = word_both g s t a c w.left left;
  right = word_both g s t b c w.right right;
  equal = equal_as s (read_word g t (a ++ c)) (read_word g t (b ++ c)) _ _ (read_on g t a c) (read_on g t b c) equal;
}

-- two words that are read alike after what a word is read as are read alike with that word before them
pub both_behind : (g : Alphabet) (s : Derivation) (t : Term) (before a b : List Symbol) → AllowsWord g s t before
    → AreReadEqual g s (read_word g t before) a b → AreReadEqual g s t (before ++ a) (before ++ b)
both_behind g s t before a b h w = record {
  left = word_both g s t before a h w.left;
  right = word_both g s t before b h w.right;
  equal = equal_as s (read_word g t (before ++ a)) (read_word g t (before ++ b)) _ _ (read_on g t before a) (read_on g t before b) w.equal;
}

-- ---- whether a word is said, symbol by symbol

-- Lines allow the symbols before this place, and this is what they are read as.
pub record IsSaidTo (g : Alphabet) (s : Derivation) (t : Term) (w : List Symbol) (k : ℕ) (at : Term) : Type 0 where
  pub word : AllowsWord g s t (take k w)
  pub stands : at ≡ read_word g t (take k w)

pub said_on : (g : Alphabet) (s n : Derivation) (t : Term) (w : List Symbol) (k : ℕ) (d : Symbol) (at next : Term) → AddsLines s n → k <
    length w
    → IsSaidTo g s t w k at → AllowsSymbol g s at (get_or w k d) → next ≡ read_symbol g at (get_or w k d) → IsSaidTo g n t w (k + 1) next
said_on g s n t w k d at next grows within h says e =
    let x = subst (λ z. AllowsSymbol g s z (get_or w k d)) h.stands says in record {
      word = says_more g t w k d within n (word_still g s n grows t (take k w) h.word)
          (symbol_still g s n grows (read_word g t (take k w)) (get_or w k d) x);
      stands = e ∙ ap (λ z. read_symbol g z (get_or w k d)) h.stands ∙ sym (read_more g t w k d within);
    }

pub not_said : (g : Alphabet) (s : Derivation) (t : Term) (w : List Symbol) (k : ℕ) (d : Symbol) (at : Term) (b : Bool) → k < length w
    → IsSaidTo g s t w k at
    → (AllowsSymbol g s at (get_or w k d) → b ≡ true) → b ≡ false → AllowsWord g s t w → ⊥
not_said g s t w k d at b within h told is_false says =
    let is : b ≡ true = told (subst (λ z. AllowsSymbol g s z (get_or w k d)) (sym h.stands) (says_place g s t w k d within says)) in
    absurd cc

pub read_as : (g : Alphabet) (s : Derivation) (t : Term) (w : List Symbol) (o : Option TermId) (x : TermId) → o ≡ Some x
    → MatchOption o (AllowsWord g s t w → ⊥) (IsReadAs g s t w) → IsReadAs g s t w x
read_as g s t w o x e h = MatchOption-at_some (AllowsWord g s t w → ⊥) (IsReadAs g s t w) x e h

-- two words that lines allow are read alike if and only if lines state that what they are read as is equal
pub both_told : (g : Alphabet) (s : Derivation) (t : Term) (u v : List Symbol) (a b : Term) (is : Bool) → a ≡ read_word g t u → b
    ≡ read_word g t v
    → AllowsWord g s t u → AllowsWord g s t v → Decides is (AreStatedEqual s a b) → Decides is (AreReadEqual g s t u v)
both_told g s t u v a b is e f h k d = (
  (λ i. record { left = h; right = k; equal = equal_as s (read_word g t u) (read_word g t v) a b (sym e) (sym f) (d.0 i) }),
  λ w. d.1 (equal_as s a b (read_word g t u) (read_word g t v) e f w.equal),
)

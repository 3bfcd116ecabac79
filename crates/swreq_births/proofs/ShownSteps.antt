-- The steps of type parameters that rules show valid, and what lines allow by them.
use Rattle.std.proofs.Common.{◌≡◌, ℕ, zero, suc, ◌+◌, ◌<◌, List, [], ◌∷◌, ◌++◌, length, map, take, get_or, slice_get, Some, Option, None}
use Rattle.std.proofs.{Common.{refl, sym, ap, subst, ◌∙◌, arith, append_assoc}, lemmas.List.{append-nil, length-map, take-map}}
use Rattle.std.proofs.lemmas.Option.{get_or_from_slice_get, same_Some, slice_get_within}
use Rattle.swreq_param.specs.declared.ids.{ParamId.{ParamId}, ProtoId.{ProtoId}, Step.{Step, TheVariants.{Bound, Name}}}
use Rattle.swreq_param.{specs.Terms.{Term, with_steps, Term.{Generic, Member}}, proofs.swreq_lemmas.Elements.{get_map}}
use Rattle.swreq_correspondence.specs.swreq_word.declared.symbols.Symbol.{Symbol}
use Rattle.swreq_correspondence.specs.swreq_word.declared.symbols.Symbol.TheVariants.{Proto, Member as MemberSymbol, Name as NameSymbol}
use Rattle.swreq_correspondence.specs.swreq_derive.Derivation.{Source, TermFacts, TermRequirement, TermRequirement.{Conforms}}
use Rattle.swreq_correspondence.specs.{swreq_derive.Derivation.TermStatement.{Requires}, Shown.{ShowsConformance, ShowsValid}}
use Rattle.swreq_correspondence.{specs.Symbols.{Symbols, Word, start, symbol, word_of}, proofs.Spelling.{spell-append}}
use Rattle.swreq_complete.specs.{swreq_rule.declared.rules.Rule.{Rule}, Alike.{ReduceAlike}}
use Rattle.swreq_derivation.specs.{declared.derivation.Derivation.{Derivation}, UnderWay.{AreStatedEqual, States}}
use Rattle.swreq_derivation.specs.Origins.{ConformsIfAny, placed}
use Rattle.swreq_readings.specs.{declared.alphabet.Alphabet.{Alphabet}, swreq_lexicon.declared.pair.ProtocolName.{ProtocolName}}
use Rattle.swreq_readings.specs.Alphabets.{lexicon, member_at}
use Rattle.swreq_readings.specs.Readable.{read_symbol, read_word, IsGiven, AllowsName, AllowsSymbol, AllowsWord}
use Rattle.swreq_readings.proofs.ReadingLemmas.{equal_as, named_given, read_more, says_more}
use Rattle.swreq_births.{specs.{Systems.{AreSymbols, IsShown, source_of}, Types.{IsStepShown}}, proofs.Ends.{alike_back}}

-- ---- steps of a term

-- the term with one step more
pub with_one : (t : Term) (xs : List Step) (k : ℕ) (x : Step) → slice_get xs k ≡ Some x
    → with_steps t (take (k + 1) xs) ≡ Member (with_steps t (take k xs)) x
with_one t [] k x e = absurd cc
with_one t (y ∷ xs) zero x e = ap (Member t) (same_Some y x e)
with_one t (y ∷ xs) (suc k) x e =
    let n : suc k + 1 ≡ suc (k + 1) = omega arith in
    subst (λ z. with_steps t (take z (y ∷ xs)) ≡ Member (with_steps (Member t y) (take k xs)) x) (sym n) (with_one (Member t y) xs k x e)

pub placed_member : (owner : Option ProtoId) (t u : Term) (x : Step) → placed owner t (Member u x) ≡ Member (placed owner t u) x
placed_member (Some p) t u x = refl
placed_member None t u x = refl

module _ (m : Symbols) (f : TermFacts) (s : Source) where
  word_with : (t : Term) (xs : List Step) → word_of m s (with_steps t xs) ≡ word_of m s t ++ map (symbol m) xs
  word_with t [] = sym (append-nil (word_of m s t))
  word_with t (x ∷ xs) =
      word_with (Member t x) xs ∙ ap (λ z. z ++ map (symbol m) xs) (sym (spell-append m s t [] (symbol m x ∷ [])))
      ∙ append_assoc (word_of m s t) (symbol m x ∷ []) (map (symbol m) xs)

  module _ (C : Word → Word → Type 0) where
    pub valid_front : (t : Term) (xs : List Step) → ShowsValid m f s C (with_steps t xs) → ShowsValid m f s C t
    valid_front t [] h = h
    valid_front t (Name a ∷ xs) h = (valid_front (Member t (Name a)) xs h).0
    valid_front t (Bound d ∷ xs) h = (valid_front (Member t (Bound d)) xs h).0

    valid_at : (t : Term) (xs : List Step) (k : ℕ) (x : Step) → slice_get xs k ≡ Some x → ShowsValid m f s C (with_steps t xs)
        → ShowsValid m f s C (Member (with_steps t (take k xs)) x)
    valid_at t [] k x e h = absurd cc
    valid_at t (y ∷ xs) zero x e h = subst (λ z. ShowsValid m f s C (Member t z)) (same_Some y x e) (valid_front (Member t y) xs h)
    valid_at t (y ∷ xs) (suc k) x e h = valid_at (Member t y) xs k x e h

-- ---- what the rules show of a step

-- The symbol is that of the step.
abbrev pub Spells : Alphabet → Step → Symbol → Type 0
Spells g (Name a) y = y ≡ NameSymbol a.rank
Spells g (Bound d) y = (j : ℕ) × (n : ProtocolName) × (y ≡ MemberSymbol j) × (slice_get (lexicon g).symbols j ≡ Some n) ×
    (slice_get (lexicon g).associated d.rank ≡ Some n)

module _ (g : Alphabet) (m : Symbols) (f : TermFacts) (s : Source) (rules : List Rule) (are : AreSymbols g m f) where
  spelled : (t : Term) (x : Step) → ShowsValid m f s (ReduceAlike rules) (Member t x) → Spells g x (symbol m x)
  spelled t (Name a) h = refl
  spelled t (Bound d) h =
      let w = h.1 in (m.rank_of d, record { proto = w.0; name = w.1 }, refl, are.members w.0 w.1 d w.2, are.associated w.0 w.1 d w.2)

  -- a conformance that the rules show is shown by the word with the protocol's symbol after it
  shown_behind : (t : Term) (p : ProtoId) → ShowsConformance m s (ReduceAlike rules) t p
      → ReduceAlike rules (word_of m s t) (word_of m s t ++ Proto p.rank ∷ [])
  shown_behind t p c =
      alike_back rules _ _ (subst (λ z. ReduceAlike rules z (word_of m s t)) (sym (spell-append m s t [] (Proto p.rank ∷ []))) c)

  pub step_shown : (t : Term) (x : Step) → ShowsValid m f s (ReduceAlike rules) (Member t x) → IsStepShown g rules (word_of m s t) x
  step_shown t (Name a) h =
      (let (p, d, c, k) = h.1 in (d.rank, record { proto = p; name = a }, (are.associated p a d c, refl, shown_behind t p k)))
  step_shown t (Bound d) h =
      (let (p, a, c, k) = h.1 in (d.rank, record { proto = p; name = a }, (are.associated p a d c, refl, shown_behind t p k)))

-- The step at this place of a type parameter that rules show, and its symbol in the word.
pub record StepAt (g : Alphabet) (rules : List Rule) (w : List Symbol) (k : ℕ) (x : Step) : Type 0 where
  pub written : Symbol
  pub there : slice_get w (k + 1) ≡ Some written
  pub spells : Spells g x written
  pub shown : IsStepShown g rules (take (k + 1) w) x

module _ (g : Alphabet) (owner : Option ProtoId) (rules : List Rule) (hd : ParamId) (xs : List Step) (w : List Symbol)
    (h : IsShown g owner rules (with_steps (Generic hd) xs) w) where
  abbrev source : Source
  source = source_of g h.list owner

  shown_word : w ≡ start source hd ∷ map (symbol h.symbols) xs
  shown_word = h.word ∙ word_with h.symbols h.facts source (Generic hd) xs

  pub shown_length : length w ≡ length xs + 1
  shown_length = omega (arith, ap length shown_word, length-map xs (symbol h.symbols))

  pub shown_start : take 1 w ≡ start source hd ∷ []
  shown_start = ap (take 1) shown_word

  front_word : (k : ℕ) → take (k + 1) w ≡ word_of h.symbols source (with_steps (Generic hd) (take k xs))
  front_word k =
      let n : k + 1 ≡ suc k = omega arith in
      ap (take (k + 1)) shown_word ∙ ap (λ z. take z (start source hd ∷ map (symbol h.symbols) xs)) n
      ∙ ap (λ z. start source hd ∷ z) (take-map (symbol h.symbols) k xs) ∙ sym (word_with h.symbols h.facts source (Generic hd) (take k xs))

  pub step_at : (k : ℕ) (x : Step) → slice_get xs k ≡ Some x → StepAt g rules w k x
  step_at k x e =
      let n : k + 1 ≡ suc k = omega arith in
      let valid = valid_at h.symbols h.facts source (ReduceAlike rules) (Generic hd) xs k x e h.shown in record {
        written = symbol h.symbols x;
        there = ap (λ z. slice_get z (k + 1)) shown_word ∙ ap (slice_get (start source hd ∷ map (symbol h.symbols) xs)) n
            ∙ get_map (symbol h.symbols) xs k x e;
        spells = spelled g h.symbols h.facts source rules h.are (with_steps (Generic hd) (take k xs)) x valid;
        shown = subst (λ z. IsStepShown g rules z x) (sym (front_word k))
            (step_shown g h.symbols h.facts source rules h.are (with_steps (Generic hd) (take k xs)) x valid);
      }

-- ---- where the reading begins

start_allowed : (g : Alphabet) (s : Derivation) (t : Term) (m : Symbols) (f : TermFacts) (list : List TermRequirement)
    (owner : Option ProtoId)
    (C : Word → Word → Type 0) (hd : ParamId)
    → ConformsIfAny s t owner → ShowsValid m f (source_of g list owner) C (Generic hd) → AllowsSymbol g s t
    (start (source_of g list owner) hd)
start_allowed g s t m f list (Some p) C hd h v = h
start_allowed g s t m f list None C hd h v = v

start_read : (g : Alphabet) (t : Term) (list : List TermRequirement) (owner : Option ProtoId) (hd : ParamId)
    → read_symbol g t (start (source_of g list owner) hd) ≡ placed owner t (Generic hd)
start_read g t list (Some p) hd = refl
start_read g t list None hd = refl

-- Lines allow the first symbol. It is read as the generic parameter that the type parameter begins with.
pub begins_said : (g : Alphabet) (s : Derivation) (t : Term) (owner : Option ProtoId) (rules : List Rule) (hd : ParamId) (xs : List Step)
    (w : List Symbol)
    → IsShown g owner rules (with_steps (Generic hd) xs) w → ConformsIfAny s t owner → AllowsWord g s t (take 1 w)
begins_said g s t owner rules hd xs w h a =
    subst (AllowsWord g s t) (sym (shown_start g owner rules hd xs w h)) (
      start_allowed g s t h.symbols h.facts h.list owner (ReduceAlike rules) hd a
          (valid_front h.symbols h.facts (source_of g h.list owner) (ReduceAlike rules) (Generic hd) xs h.shown),
      tt,
    )

pub begins_read : (g : Alphabet) (t : Term) (owner : Option ProtoId) (rules : List Rule) (hd : ParamId) (xs : List Step) (w : List Symbol)
    → IsShown g owner rules (with_steps (Generic hd) xs) w → read_word g t (take 1 w) ≡ placed owner t (Generic hd)
begins_read g t owner rules hd xs w h = ap (read_word g t) (shown_start g owner rules hd xs w h) ∙ start_read g t h.list owner hd

-- ---- what lines allow by a step

-- the associated type of a bound step
one_associated : (g : Alphabet) (k j : ℕ) (n o : ProtocolName) → j ≡ k → slice_get (lexicon g).associated k ≡ Some n
    → slice_get (lexicon g).associated j ≡ Some o → o ≡ n
one_associated g k j n o e h i = same_Some o n (sym i ∙ ap (slice_get (lexicon g).associated) e ∙ h)

-- If the step names an associated type, and a line states that the type parameter conforms to its protocol, lines allow the symbol of the
-- step. It is read as the member with that name.
pub symbol_given : (g : Alphabet) (s : Derivation) (t : Term) (x : Step) (n : ProtocolName) (y : Symbol) → IsGiven g s t x n → Spells g x y
    → AllowsSymbol g s t y
symbol_given g s t (Name a) n y w e = subst (AllowsSymbol g s t) (sym e) (named_given g s t a n w)
symbol_given g s t (Bound d) n y w e =
    let o : e.1 ≡ n = one_associated g w.0 d.rank n e.1 w.1.1 w.1.0 e.4 in
    let is : member_at g e.0 ≡ n = get_or_from_slice_get (lexicon g).symbols e.0 e.1 _ e.3 ∙ o in
    subst (AllowsSymbol g s t) (sym e.2) (
      slice_get_within (lexicon g).symbols e.0 e.1 e.3,
      subst (λ (z : ProtocolName). States s (Requires (Conforms t z.proto))) (sym is) w.1.2,
      subst (λ (z : ProtocolName). AllowsName g s t z.name) (sym is) (n.proto, (w.0, w.1.0), w.1.2),
    )

pub after_given : (g : Alphabet) (s : Derivation) (t : Term) (x : Step) (n : ProtocolName) (y : Symbol) → IsGiven g s t x n → Spells g x y
    → read_symbol g t y ≡ Member t (Name n.name)
after_given g s t (Name a) n y w e = ap (read_symbol g t) e ∙ ap (λ z. Member t (Name z)) (sym w.1.1)
after_given g s t (Bound d) n y w e =
    let o : e.1 ≡ n = one_associated g w.0 d.rank n e.1 w.1.1 w.1.0 e.4 in
    ap (read_symbol g t) e.2
    ∙ ap (λ (z : ProtocolName). Member t (Name z.name)) (get_or_from_slice_get (lexicon g).symbols e.0 e.1 _ e.3 ∙ o)

-- ---- a step more

-- Lines allow the word with one symbol more, and it is read as the type parameter with one step more.
pub record GoesOnBy (g : Alphabet) (s : Derivation) (t : Term) (w : List Symbol) (k : ℕ) (u : Term) : Type 0 where
  pub word : AllowsWord g s t (take (k + 1 + 1) w)
  pub equal : AreStatedEqual s u (read_word g t (take (k + 1 + 1) w))

pub step_on : (g : Alphabet) (owner : Option ProtoId) (rules : List Rule) (hd : ParamId) (xs : List Step) (w : List Symbol)
    → IsShown g owner rules (with_steps (Generic hd) xs) w
    → (s : Derivation) (t : Term) (k : ℕ) (x : Step) (n : ProtocolName) → slice_get xs k ≡ Some x
    → AllowsWord g s t (take (k + 1) w) → IsGiven g s (read_word g t (take (k + 1) w)) x n
    → AreStatedEqual s (Member (placed owner t (with_steps (Generic hd) (take k xs))) x)
    (Member (read_word g t (take (k + 1) w)) (Name n.name))
    → GoesOnBy g s t w k (placed owner t (with_steps (Generic hd) (take (k + 1) xs)))
step_on g owner rules hd xs w h s t k x n e says given equal =
    let at = step_at g owner rules hd xs w h k x e in
    let y = at.written in
    let before = read_word g t (take (k + 1) w) in
    let within : k + 1 < length w = slice_get_within w (k + 1) y at.there in
    let here : get_or w (k + 1) y ≡ y = get_or_from_slice_get w (k + 1) y y at.there in
    let next : read_word g t (take (k + 1 + 1) w) ≡ Member before (Name n.name) = read_more g t w (k + 1) y within
    ∙ ap (read_symbol g before) here ∙ after_given g s before x n y given at.spells in
    let whole : placed owner t (with_steps (Generic hd) (take (k + 1) xs)) ≡ Member
    (placed owner t (with_steps (Generic hd) (take k xs))) x =
    ap (placed owner t) (with_one (Generic hd) xs k x e) ∙ placed_member owner t (with_steps (Generic hd) (take k xs)) x in record {
      word = says_more g t w (k + 1) y within s says (subst (AllowsSymbol g s before) (sym here)
          (symbol_given g s before x n y given at.spells));
      equal = equal_as s _ _ _ _ whole next equal;
    }

-- Type parameters that are read in a derivation.
use Rattle.std.proofs.Common.{◌≡◌, ◌∙◌, ◌-◌, List, [], ◌∷◌, ◌++◌, Option, None, Contains, ap, arith, length, length-append, subst, sym}
use Rattle.std.proofs.{Common.{take}, Math.Seq.{take-append_seam}}
use Rattle.swreq_machine.specs.swreq_param.declared.ids.{ParamId.{ParamId}, ProtoId.{ProtoId}, AssocId.{AssocId}, Step.{Step}}
use Rattle.swreq_machine.specs.swreq_param.declared.ids.{Step.TheVariants.{Bound as BoundStep, Name as NameStep}, TermId.{TermId}}
use Rattle.swreq_machine.specs.swreq_param.{Terms.{Term, Term.{Generic, Member}}, Owned.{as_term}, Tables.{IsOf, term_at}}
use Rattle.swreq_machine.specs.{swreq_rule.declared.rules.Rule.{Rule}, swreq_complete.Alike.{ReduceAlike}}
use Rattle.swreq_machine.specs.swreq_derive.{Derivation.{Declares, Source, TermRequirement.{Conforms, IsAnyObject}}, Facts.{requirement_of}}
use Rattle.swreq_machine.specs.{swreq_lexicon.declared.pair.ProtocolName.{ProtocolName}, swreq_correspondence.Shown.{ShowsValid}}
use Rattle.swreq_machine.{specs.swreq_correspondence.Symbols.{symbol, word_of}, proofs.swreq_correspondence.Spelling.{spell-append}}
use Rattle.swreq_readings.specs.{declared.alphabet.Alphabet.{Alphabet}, swreq_word.declared.symbols.Symbol.{Symbol}}
use Rattle.swreq_readings.proofs.ReadingLemmas.{equal_as, equal_still, is_still, term_still, word_right, word_still}
use Rattle.swreq_births.{specs.{Systems.{FitsHistory, IsShown, source_of}, Types.{IsStepShown}}, proofs.ShownSteps.{valid_front}}
use Rattle.swreq_derivation.specs.declared.{statements.Bound.{Bound, TheVariants.{AnyObject, Protocol}}, derivation.Derivation.{Derivation}}
use Rattle.swreq_derivation.specs.UnderWay.{AddsLines, AreEqualIds, AreStatedEqual, Assumptions, IsStepTo, StatesBound, bound_on}
use Rattle.swreq_derivation.proofs.DerivationLemmas.{grows_then}
use Rattle.swreq_explain.specs.{declared.validity.{RoundReader.{RoundReader}, ReadAs.{ReadAs}, WordOfType.{WordOfType}}, Stating.{IsReadAt}}
use Rattle.swreq_explain.specs.Stating.{IsReady, IsWordOf, alphabet_at, bounded, rules_of, symbol_of}
use Rattle.swreq_births.proofs.ShownSteps as steps
use Rattle.swreq_readings.specs.Readable.{AllowsSymbol, AllowsWord, IsGiven, IsOfStep}

pub ready_still : (d : RoundReader) (s u : Derivation) → AddsLines s u → IsReady d s → IsReady d u
ready_still d s u g h = record { system = h.system; for_self = is_still s u g d.t h.for_self; owner = tt }

module _ (d : RoundReader) (x : WordOfType) (t : Term) where
  pub read_still : (s u : Derivation) → AddsLines s u → (r : ReadAs) → IsReadAt d x t s r → IsReadAt d x t u r
  read_still s u g r h = record {
    itself_of = is_still s u g r.itself h.itself_of;
    word_of = is_still s u g r.word h.word_of;
    itself = term_still s u g r.itself h.itself_of ∙ h.itself;
    word = term_still s u g r.word h.word_of ∙ h.word;
    says = word_still (alphabet_at d) s u g t x.word.now h.says;
    equal = equal_still (alphabet_at d) s u g _ _ h.equal;
  }

  pub read_equal : (s : Derivation) (r : ReadAs) → IsReadAt d x t s r → AreStatedEqual s (term_at s.table r.itself) (term_at s.table r.word)
  read_equal s r h = equal_as s _ _ _ _ h.itself h.word h.equal

  pub read_ids : (s : Derivation) (r : ReadAs) → IsReadAt d x t s r → AreEqualIds s r.itself r.word
  read_ids s r h = (h.itself_of, h.word_of, read_equal s r h)

  -- if lines allow the word with one symbol more, they allow the symbol after the type parameter that the word is read as
  pub vanished : (s : Derivation) (r : ReadAs) (y : Symbol) (longer : List Symbol) → IsReadAt d x t s r → longer ≡ x.word.now ++ y ∷ []
      → AllowsWord (alphabet_at d) s t longer → AllowsSymbol (alphabet_at d) s (term_at s.table r.word) y
  vanished s r y longer h e w =
      let split = subst (AllowsWord (alphabet_at d) s t) e w in
      subst (λ z. AllowsSymbol (alphabet_at d) s z y) (sym h.word) (word_right (alphabet_at d) s t x.word.now (y ∷ []) split).0

-- the requirement of an id is the requirement of its type parameter
pub bound_is : (b : Bound) (terms : List Term) (t : TermId) (u : Term) → term_at terms t ≡ u
    → requirement_of terms (bound_on b t) ≡ bounded b u
bound_is (Protocol p) terms t u e = ap (λ z. Conforms z p) e
bound_is AnyObject terms t u e = ap IsAnyObject e

-- if lines allow the symbol of a bound, a line states the bound
pub allowed_bound : (b : Bound) (g : Alphabet) (s : Derivation) (t : TermId) → AllowsSymbol g s (term_at s.table t) (symbol_of b)
    → StatesBound s s t b
allowed_bound (Protocol p) g s t h = h
allowed_bound AnyObject g s t h = h

-- If lines allow the word of a side with one symbol more, the side is still read, and they allow the symbol after what its word is read as.
pub record IsLinked (d : RoundReader) (x : WordOfType) (t : Term) (s : Derivation) (r : ReadAs) (y : Symbol) : Type 0 where
  pub read : IsReadAt d x t s r
  pub allows : AllowsSymbol (alphabet_at d) s (term_at s.table r.word) y

pub linked : (d : RoundReader) (x : WordOfType) (s n u v : Derivation) → AddsLines s n → AddsLines n u → AddsLines u v → IsOf s.table d.t
    → (r : ReadAs) (y : Symbol) (longer : List Symbol) → IsReadAt d x (term_at s.table d.t) n r → longer ≡ x.word.now ++ y ∷ []
    → AllowsWord (alphabet_at d) v (term_at u.table d.t) longer → IsLinked d x (term_at s.table d.t) v r y
linked d x s n u v f g h i r y longer read e word =
    let t = term_at s.table d.t in
    let now = read_still d x t n v (grows_then g h) r read in
    let allowed = subst (λ z. AllowsWord (alphabet_at d) v z longer) (term_still s u (grows_then f g) d.t i) word in
    record { read = now; allows = vanished d x t v r y longer now e allowed }

-- ---- the base of a member

front_of : {A : Type 0} (u : List A) (y : A) → take (length (u ++ y ∷ []) - 1) (u ++ y ∷ []) ≡ u
front_of u y =
    let count : length (u ++ y ∷ []) - 1 ≡ length u = (let e = length-append u (y ∷ []) in omega (arith, e)) in
    ap (λ n. take n (u ++ y ∷ [])) count ∙ take-append_seam u (y ∷ [])

module _ (g : Alphabet) (owner : Option ProtoId) (rules : List Rule) (t b : Term) (x : Step) (w : List Symbol) (is : t ≡ Member b x)
    (h : IsShown g owner rules t w) where
  abbrev s : Source
  s = source_of g h.list owner

  -- the word of the base is the word of the member without the last symbol
  front_is : take (length w - 1) w ≡ word_of h.symbols s b
  front_is =
      let e : w ≡ word_of h.symbols s b ++ symbol h.symbols x ∷ []
      = h.word ∙ ap (word_of h.symbols s) is ∙ sym (spell-append h.symbols s b [] (symbol h.symbols x ∷ [])) in
      ap (λ (z : List Symbol). take (length z - 1) z) e ∙ front_of (word_of h.symbols s b) (symbol h.symbols x)

  member_shown : ShowsValid h.symbols h.facts s (ReduceAlike rules) (Member b x)
  member_shown = subst (ShowsValid h.symbols h.facts s (ReduceAlike rules)) is h.shown

  pub base_shown : IsShown g owner rules b (take (length w - 1) w)
  base_shown = record {
    symbols = h.symbols;
    facts = h.facts;
    list = h.list;
    are = h.are;
    shown = valid_front h.symbols h.facts s (ReduceAlike rules) b (x ∷ []) member_shown;
    word = front_is;
  }

  pub step_shown : IsStepShown g rules (take (length w - 1) w) x
  step_shown = subst (λ z. IsStepShown g rules z x) (sym front_is) (steps.step_shown g h.symbols h.facts s rules h.are b x member_shown)

-- a generic parameter that the rules show valid is one of the list
pub shown_generic : (d : RoundReader) (x : WordOfType) (p : ParamId) (t : Term) → as_term x.param.now ≡ Generic p → IsWordOf d x
    → t ≡ Generic p
    → (b : Assumptions) → FitsHistory d.history.now b → (g : ParamId) × (t ≡ Generic g) × Contains b.params g
shown_generic d x p t is h stands b f =
    let has = subst (ShowsValid h.symbols h.facts (source_of (alphabet_at d) h.list None) (ReduceAlike (rules_of d))) is h.shown in
    (p, stands, subst (λ (z : List ParamId). Contains z p) (sym f.alphabet.params) has)

-- the protocol of a step that is given declares the associated type that the step names
pub given_by : (d : RoundReader) (s : Derivation) (t : Term) (x : Step) (n : ProtocolName) → IsGiven (alphabet_at d) s t x n
    → (b : Assumptions) → FitsHistory d.history.now b → (e : AssocId) × Declares b.facts n.proto n.name e × IsStepTo x n.name e
given_by d s t x n (k, h) b f = (record { rank = k }, f.alphabet.associated k n h.0, by x h.1)
  where
    by : (y : Step) → IsOfStep y k n → IsStepTo y n.name (record { rank = k })
    by (NameStep a) e = sym e
    by (BoundStep e) same = λ i. record { rank = same i }

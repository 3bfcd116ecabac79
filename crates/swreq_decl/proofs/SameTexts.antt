-- Lines made alike of lines with the same texts have the same texts.
use Rattle.std.proofs.Common.{List, [], ◌∷◌, inl, inr}
use Rattle.swreq_grammar.specs.declared.token.Token.{Token}
use Rattle.swreq_grammar.specs.Grammar.{Limit, unlimited, terminal, empty, mapped, sequence, alternative, repetition, Matches, Parts}
use Rattle.swreq_decl.specs.declared.terminal.Terminal.{Terminal}
use Rattle.swreq_decl.specs.declared.kind.Kind.{Kind}
use Rattle.swreq_decl.specs.Terminals.{number}
use Rattle.swreq_decl.specs.Source.{Line, after, before, or_else, separated}
use Rattle.swreq_decl.specs.Written.{SameTexts}

abbrev pub Tokens : Type 0
Tokens = List (Token Terminal)

pub same : {A : Type 0} (g : Line A) → SameTexts g g
same g = record { onward = λ ts v m. m; back = λ ts v m. m }

pub reversed : {A : Type 0} {g h : Line A} → SameTexts g h → SameTexts h g
reversed a = record { onward = a.back; back = a.onward }

pub then : {A : Type 0} {g h k : Line A} → SameTexts g h → SameTexts h k → SameTexts g k
then a b = record { onward = λ ts v m. b.onward ts v (a.onward ts v m); back = λ ts v m. a.back ts v (b.back ts v m) }

-- ---- one direction

abbrev pub Onward : {A : Type 0} (g h : Line A) → Type 0
Onward {A} g h = (ts : Tokens) (v : A) → Matches number g ts v → Matches number h ts v

mapped_onward : {A B : Type 0} (f : A → B) (g h : Line A) → Onward g h → Onward (mapped f g) (mapped f h)
mapped_onward f g h k ts w (v, m, e) = (v, k ts v m, e)

sequence_onward : {A B : Type 0} (g h : Line A) (i j : Line B) → Onward g h → Onward i j → Onward (sequence g i) (sequence h j)
sequence_onward g h i j k l ts p (first, rest, s, m, n) = (first, rest, s, k first p.0 m, l rest p.1 n)

either_onward : {A : Type 0} (g h i j : Line A) → Onward g h → Onward i j → Onward (alternative g i) (alternative h j)
either_onward g h i j k l ts v (inl m) = inl (k ts v m)
either_onward g h i j k l ts v (inr m) = inr (l ts v m)

parts_onward : {A : Type 0} (g h : Line A) → Onward g h → (vs : List A) (ts : Tokens) → Parts (Matches number g) ts vs
    → Parts (Matches number h) ts vs
parts_onward g h k [] ts e = e
parts_onward g h k (v ∷ vs) ts (first, rest, s, m, ms) = (first, rest, s, k first v m, parts_onward g h k vs rest ms)

repetition_onward : {A : Type 0} (limit : Limit Kind) (g h : Line A) → Onward g h → Onward (repetition limit g) (repetition limit h)
repetition_onward limit g h k ts vs (ms, w) = (parts_onward g h k vs ts ms, w)

-- ---- both

pub mapped_same : {A B : Type 0} (f : A → B) {g h : Line A} → SameTexts g h → SameTexts (mapped f g) (mapped f h)
mapped_same f {g} {h} a = record { onward = mapped_onward f g h a.onward; back = mapped_onward f h g a.back }

pub sequence_same : {A B : Type 0} {g h : Line A} {i j : Line B} → SameTexts g h → SameTexts i j → SameTexts (sequence g i) (sequence h j)
sequence_same {g = g} {h = h} {i = i} {j = j} a b =
    record { onward = sequence_onward g h i j a.onward b.onward; back = sequence_onward h g j i a.back b.back }

pub either : {A : Type 0} {g h i j : Line A} → SameTexts g h → SameTexts i j → SameTexts (alternative g i) (alternative h j)
either {g = g} {h = h} {i = i} {j = j} a b =
    record { onward = either_onward g h i j a.onward b.onward; back = either_onward h g j i a.back b.back }

pub repetition_same : {A : Type 0} (limit : Limit Kind) {g h : Line A} → SameTexts g h → SameTexts (repetition limit g) (repetition limit h)
repetition_same limit {g} {h} a = record { onward = repetition_onward limit g h a.onward; back = repetition_onward limit h g a.back }

pub after_same : {A B : Type 0} (a : Line A) {g h : Line B} → SameTexts g h → SameTexts (after a g) (after a h)
after_same a e = mapped_same (λ p. p.1) (sequence_same (same a) e)

pub before_same : {A B : Type 0} {g h : Line A} (s : Line B) → SameTexts g h → SameTexts (before g s) (before h s)
before_same s e = mapped_same (λ p. p.0) (sequence_same e (same s))

pub or_else_same : {A : Type 0} (default : A) {g h : Line A} → SameTexts g h → SameTexts (or_else default g) (or_else default h)
or_else_same default e = either e (same (empty default))

pub separated_same : {A : Type 0} (separators : List Terminal) {g h : Line A} → SameTexts g h
    → SameTexts (separated separators g) (separated separators h)
separated_same separators e =
    mapped_same (λ p. p.0 ∷ p.1) (sequence_same e (repetition_same unlimited (after_same (terminal separators) e)))

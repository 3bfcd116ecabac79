-- What lines say of type parameters with their words, as a derivation grows.
use Rattle.std.proofs.Common.{◌≡◌, List, Option, sym, ap, subst, ◌∙◌}
use Rattle.swreq_param.specs.{declared.ids.{ProtoId.{ProtoId}, Step.{Step}, TermId.{TermId}}, Tables.{IsOf, term_at}, Terms.{Term}}
use Rattle.swreq_correspondence.specs.swreq_word.declared.symbols.Symbol.{Symbol}
use Rattle.swreq_correspondence.specs.swreq_derive.{declared.requirements.Requirement.{Requirement}, Facts.{requirement_of}}
use Rattle.swreq_correspondence.specs.swreq_derive.{Derivation.TermRequirement.{Conforms, IsAnyObject}, Instances.{HasNumber}}
use Rattle.swreq_derivation.specs.declared.{derivation.Derivation.{Derivation}, requirements.Origin.{Origin}, statements.Bound.{Bound}}
use Rattle.swreq_derivation.specs.declared.statements.Bound.TheVariants.{AnyObject, Protocol}
use Rattle.swreq_derivation.specs.UnderWay.{AddsLines, AreEqualIds, AreStatedEqual, Assumptions, ContinuesFrom, bound_on}
use Rattle.swreq_derivation.{specs.Origins.{IsOrigin, IsWrittenOf, placed, placed_in, written_by}, proofs.DerivationLemmas.{grows_then}}
use Rattle.swreq_derivation.proofs.DerivationLemmas.{continues_if, continues_then}
use Rattle.swreq_readings.specs.{declared.alphabet.Alphabet.{Alphabet}, swreq_lexicon.declared.pair.ProtocolName.{ProtocolName}}
use Rattle.swreq_readings.specs.Readable.{AllowsWord, IsGiven, read_word}
use Rattle.swreq_readings.proofs.ReadingLemmas.{equal_as, equal_still, is_still, term_still, word_still}
use Rattle.swreq_births.{specs.Readings.{IsReadBy, bound_by}, proofs.Equations.{asked_now}}

pub origin_still : (s u : Derivation) → AddsLines s u → (o : Origin) → IsOrigin s o → IsOrigin u o
origin_still s u grows o w = record {
  for_self = is_still s u grows o.for_self w.for_self;
  owner = asked_now s u grows o.for_self o.owner w.for_self w.owner;
}

-- A type parameter with what an id stood for put in for `Self` is the same with what the id stands for now.
pub placed_now : (s u : Derivation) → AddsLines s u → (o : Option ProtoId) (t v : TermId) (x : Term) → IsOf s.table t
    → term_at u.table v ≡ placed o (term_at s.table t) x → term_at u.table v ≡ placed o (term_at u.table t) x
placed_now s u grows o t v x h e = e ∙ ap (λ z. placed o z x) (sym (term_still s u grows t h))

pub placed_still : (s n u : Derivation) → AddsLines s n → AddsLines n u → (o : Option ProtoId) (t v : TermId) (x : Term) → IsOf s.table t
    → IsOf n.table v → term_at n.table v ≡ placed o (term_at s.table t) x → term_at u.table v ≡ placed o (term_at u.table t) x
placed_still s n u first second o t v x h k e =
    placed_now s u (grows_then first second) o t v x h (term_still n u second v k ∙ e)

bound_placed : (terms : List Term) (owner : Option ProtoId) (t x : Term) (v : TermId) (bound : Bound) → term_at terms v ≡ placed owner t x
    → requirement_of terms (bound_on bound v) ≡ placed_in owner t (bound_by bound x)
bound_placed terms owner t x v (Protocol p) e = ap (λ z. Conforms z p) e
bound_placed terms owner t x v AnyObject e = ap IsAnyObject e

-- The line of a requirement of a bound is one of a requirement that the owner writes.
pub bound_put : {Of : Assumptions → Type 0} (s n u : Derivation) (o : Origin) (v : TermId) (x : Term) (bound : Bound) (r : Requirement)
    → IsOf s.table o.for_self → term_at n.table v ≡ placed o.owner (term_at s.table o.for_self) x → r ≡ bound_on bound v
    → ((b : Assumptions) → Of b → HasNumber o.number (written_by b o.owner) (bound_by bound x)) → ContinuesFrom Of s n
    → ContinuesFrom (IsWrittenOf n o r) n u → ContinuesFrom Of s u
bound_put s n u o v x bound r is at e written first put = continues_then first (continues_if (λ b f. (
  bound_by bound x,
  written b f,
  subst (λ z. requirement_of n.table z ≡ placed_in o.owner (term_at n.table o.for_self) (bound_by bound x)) (sym e)
      (bound_placed n.table o.owner (term_at n.table o.for_self) x v bound (placed_now s n first.grows o.owner o.for_self v x is at)),
)) put)

pub side_still : (g : Alphabet) (s u : Derivation) → AddsLines s u → (t v : TermId) (w : List Symbol) → IsOf s.table t → IsReadBy g s t v w
    → IsReadBy g u t v w
side_still g s u grows t v w h side =
    let now = sym (term_still s u grows t h) in record {
      id = is_still s u grows v side.id;
      word = subst (λ z. AllowsWord g u z w) now (word_still g s u grows (term_at s.table t) w side.word);
      equal = equal_as u _ _ _ _ (term_still s u grows v side.id) (ap (λ z. read_word g z w) (sym now))
          (equal_still g s u grows _ _ side.equal);
    }

-- A type parameter is read by its word in the next derivation if lines of that derivation allow the word and state the equality.
pub side_read : (g : Alphabet) (s u : Derivation) → AddsLines s u → (t v : TermId) (x : Term) (w : List Symbol) → IsOf s.table t → IsOf
    u.table v
    → term_at u.table v ≡ x → AllowsWord g u (term_at s.table t) w → AreStatedEqual u x (read_word g (term_at s.table t) w) → IsReadBy g u t
    v w
side_read g s u grows t v x w h id stands says equal =
    let now = term_still s u grows t h in record {
      id = id;
      word = subst (λ z. AllowsWord g u z w) (sym now) says;
      equal = equal_as u _ _ _ _ stands (ap (λ z. read_word g z w) now) equal;
    }

-- A side after lines were added. Its word was read after lines were added for the other side.
pub record IsOnSide (g : Alphabet) (s u : Derivation) (t v last : TermId) (w : List Symbol) : Type 0 where
  pub stands : term_at u.table last ≡ read_word g (term_at s.table t) w
  pub word : AllowsWord g u (term_at s.table t) w
  pub equal : AreEqualIds u v last

pub on_side : (g : Alphabet) (s n u : Derivation) → AddsLines s n → AddsLines n u → (t v last : TermId) (w : List Symbol) → IsOf s.table t
    → IsReadBy g s t v w → IsOf u.table last → term_at u.table last ≡ read_word g (term_at n.table t) w → IsOnSide g s u t v last w
on_side g s n u first second t v last w h side is e =
    let grows = grows_then first second in
    let stands = e ∙ ap (λ z. read_word g z w) (term_still s n first t h) in record {
      stands = stands;
      word = word_still g s u grows (term_at s.table t) w side.word;
      equal = (
        is_still s u grows v side.id,
        is,
        equal_as u _ _ _ _ (term_still s u grows v side.id) stands (equal_still g s u grows _ _ side.equal),
      );
    }

-- A part of a word, read once lines state that an associated type is declared after it.
module _ (g : Alphabet) (s0 s s1 s2 : Derivation) (g0 : AddsLines s0 s) (g1 : AddsLines s s1) (t : TermId) (h : IsOf s0.table t)
    (last : TermId)
    (part w : List Symbol) (e : part ≡ w) where
  pub part_read : term_at s2.table last ≡ read_word g (term_at s1.table t) part → term_at s2.table last ≡ read_word g (term_at s0.table t) w
  part_read stands = stands ∙ ap (read_word g (term_at s1.table t)) e ∙ ap (λ z. read_word g z w)
      (term_still s0 s1 (grows_then g0 g1) t h)

  pub part_given : (x : Step) (n : ProtocolName) → IsGiven g s1 (read_word g (term_at s.table t) part) x n
      → IsGiven g s1 (read_word g (term_at s0.table t) w) x n
  part_given x n = subst (λ z. IsGiven g s1 z x n)
      (ap (read_word g (term_at s.table t)) e ∙ ap (λ z. read_word g z w) (term_still s0 s g0 t h))

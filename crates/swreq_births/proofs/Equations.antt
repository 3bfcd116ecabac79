-- The equations of rounds: if lines state what the left side asks, both sides are read alike.
use Rattle.std.proofs.Common.{◌≡◌, inl, ℕ, List, [], ◌∷◌, ◌++◌, Option, Some, None, slice_get, refl, sym, ap, subst, ◌∙◌}
use Rattle.std.proofs.lemmas.Option.{get_or_from_slice_get, same_Some, slice_get_within}
use Rattle.swreq_param.specs.declared.ids.{ProtoId.{ProtoId}, Step.TheVariants.{Name as NameStep}, TermId.{TermId}}
use Rattle.swreq_param.specs.{Tables.{IsOf, term_at}, Terms.{Term, Term.{Member as MemberOf}}}
use Rattle.swreq_correspondence.specs.swreq_derive.Derivation.{TermRequirement.{Conforms, IsAnyObject}, TermStatement.{Requires}}
use Rattle.swreq_correspondence.specs.swreq_derive.declared.requirements.Statement.TheVariants.{Holds}
use Rattle.swreq_correspondence.specs.swreq_word.declared.symbols.Symbol.{Symbol}
use Rattle.swreq_correspondence.specs.swreq_word.declared.symbols.Symbol.TheVariants.{Layout as LayoutSymbol, Member, Name, Proto}
use Rattle.swreq_complete.specs.swreq_rule.declared.rules.Rule.{Rule}
use Rattle.swreq_derivation.specs.declared.{derivation.Derivation.{Derivation}, statements.Bound.{Bound}}
use Rattle.swreq_derivation.specs.declared.statements.Bound.TheVariants.{AnyObject, Protocol}
use Rattle.swreq_derivation.specs.Origins.{ConformsIfAny}
use Rattle.swreq_derivation.specs.UnderWay.{AddsLines, AreIdsIn, States, StatesBound, bound_on}
use Rattle.swreq_readings.specs.{declared.alphabet.Alphabet.{Alphabet}, swreq_lexicon.declared.pair.ProtocolName.{ProtocolName}}
use Rattle.swreq_readings.specs.{Alphabets.{lexicon, member_at}, Readable.{AllowsName, AllowsSymbol, AllowsWord, AreReadEqual, read_word}}
use Rattle.swreq_readings.proofs.ReadingLemmas.{is_still, read_on, term_still, word_both, word_right}
use Rattle.swreq_births.specs.declared.history.{History.{History}, Equation.{Equation}, Reason.{Reason}}
use Rattle.swreq_births.specs.declared.history.OwnedRequirement.{OwnedRequirement, TheVariants.{Conf, Layout, Same}}
use Rattle.swreq_births.specs.{declared.types.ReadingPlace.{ReadingPlace}, Heads.{head_of, IsHeadStated}, Readings.{symbol_of}}
use Rattle.swreq_births.specs.{Systems.{HasEquation, HasShownSides, IsGivenBy}, Unfolding.{AllowsScope}}
use Rattle.swreq_births.proofs.{Headed.{shown_head}, Alike.{both_as}, Asking.{head_front}}

-- ---- what is asked, as a derivation grows

pub asked_still : (s u : Derivation) → AddsLines s u → (t : Term) (h : Option ProtoId) → ConformsIfAny s t h → ConformsIfAny u t h
asked_still s u grows t (Some p) a = grows.stays (Requires (Conforms t p)) a
asked_still s u grows t None a = tt

pub asked_now : (s u : Derivation) → AddsLines s u → (t : TermId) (h : Option ProtoId) → IsOf s.table t → ConformsIfAny s
    (term_at s.table t) h
    → ConformsIfAny u (term_at u.table t) h
asked_now s u grows t h i a = subst (λ z. ConformsIfAny u z h) (sym (term_still s u grows t i))
    (asked_still s u grows (term_at s.table t) h a)

pub allows_now : (g : Alphabet) (s u : Derivation) → AddsLines s u → (t : TermId) (w : List Symbol) → IsOf s.table t
    → IsHeadStated g s (term_at s.table t) w
    → IsHeadStated g u (term_at u.table t) w
allows_now g s u grows t w i a = (a.0, a.1, asked_now s u grows t a.0 i a.2)

-- what is read by a scope may be read by it in the grown derivation
pub scope_still : {b : History} {s u : Derivation} {scope : ReadingPlace} → AllowsScope b s scope → AddsLines s u → AllowsScope b u scope
scope_still {b} {s} {u} {scope} w grows = record {
  system = w.system;
  for_self = is_still s u grows scope.for_self w.for_self;
  owner = asked_now s u grows scope.for_self scope.owner w.for_self w.owner;
}

-- if a rule may be read in a derivation, it may be read in the grown derivation
pub allowed_still : (g : Alphabet) (s u : Derivation) → AddsLines s u → (t : TermId) (w : List Symbol) → IsOf s.table t
    → IsHeadStated g s (term_at s.table t) w → IsOf u.table t × IsHeadStated g u (term_at u.table t) w
allowed_still g s u grows t w i a = (is_still s u grows t i, allows_now g s u grows t w i a)

-- ---- what the left sides of equations ask

pub asked_of : (g : Alphabet) (s : Derivation) (t : Term) (w : List Symbol) (h : Option ProtoId) → IsHeadStated g s t w
    → head_of g w ≡ Some h → ConformsIfAny s t h
asked_of g s t w h a e = subst (ConformsIfAny s t) (same_Some a.0 h (sym a.1 ∙ e)) a.2

-- the equation of a requirement asks that what stands for `Self` conforms to its owner
pub sides_asked : (g : Alphabet) (owner : Option ProtoId) (rules : List Rule) (q : OwnedRequirement) (left right : List Symbol)
    → HasShownSides g owner rules q left right
    → head_of g left ≡ Some owner
sides_asked g owner rules (Conf t p) left right h = ap (head_of g) h.1 ∙ head_front g right _ owner (shown_head g owner rules _ right h.0)
sides_asked g owner rules (Layout t) left right h = ap (head_of g) h.1 ∙ head_front g right _ owner (shown_head g owner rules _ right h.0)
sides_asked g owner rules (Same t u) left right h = shown_head g owner rules _ left h.0

pub sides_as : (g : Alphabet) (owner : Option ProtoId) (rules : List Rule) (q p : OwnedRequirement) (left right : List Symbol) → q ≡ p
    → HasShownSides g owner rules q left right → HasShownSides g owner rules p left right
sides_as g owner rules q p left right = subst (λ z. HasShownSides g owner rules z left right)

-- ---- the basic equations

pub member_is : (g : Alphabet) (k : ℕ) (n : ProtocolName) → slice_get (lexicon g).symbols k ≡ Some n → member_at g k ≡ n
member_is g k n there = get_or_from_slice_get (lexicon g).symbols k n _ there

module _ (g : Alphabet) (s : Derivation) (t : Term) (left right : List Symbol) where
  -- a doubled protocol symbol
  pub doubled_both : (p : ProtoId) → left ≡ Proto p.rank ∷ Proto p.rank ∷ [] → right ≡ Proto p.rank ∷ [] → IsHeadStated g s t left
      → AreReadEqual g s t left right
  doubled_both p e f a =
      let says : States s (Requires (Conforms t p)) = asked_of g s t left (Some p) a (ap (head_of g) e) in
      both_as g s t t (Proto p.rank ∷ Proto p.rank ∷ []) left (Proto p.rank ∷ []) right refl (sym e) (sym f)
      (record { left = (says, (says, tt)); right = (says, tt); equal = inl refl })

  module _ (k : ℕ) (n : ProtocolName) (there : slice_get (lexicon g).symbols k ≡ Some n) where
    -- a member symbol
    pub member_both : left ≡ Proto n.proto.rank ∷ Name n.name.rank ∷ [] → right ≡ Member k ∷ [] → States s (Requires (Conforms t n.proto))
        → AllowsName g s t n.name → AreReadEqual g s t left right
    member_both e f says named =
        let is = sym (member_is g k n there) in
        both_as g s t t (Proto n.proto.rank ∷ Name n.name.rank ∷ []) left (Member k ∷ []) right refl (sym e) (sym f) (record {
          left = (says, (named, tt));
          right = (
            (
              slice_get_within (lexicon g).symbols k n there,
              subst (λ (z : ProtocolName). States s (Requires (Conforms t z.proto))) is says,
              subst (λ (z : ProtocolName). AllowsName g s t z.name) is named,
            ),
            tt,
          );
          equal = inl (ap (λ (z : ProtocolName). MemberOf t (NameStep z.name)) is);
        })

-- ---- the equations of requirements

module _ (g : Alphabet) (s : Derivation) (t : Term) (w : List Symbol) where
  -- one side is the other one with a symbol more, which does not change what the word is read as
  pub bound_both : (bound : Bound) → AllowsWord g s t w → AllowsSymbol g s (read_word g t w) (symbol_of bound)
      → AreReadEqual g s t (w ++ symbol_of bound ∷ []) w
  bound_both (Protocol p) h says = record {
    left = word_both g s t w (Proto p.rank ∷ []) h (says, tt);
    right = h;
    equal = inl (read_on g t w (Proto p.rank ∷ []));
  }
  bound_both AnyObject h says = record {
    left = word_both g s t w (LayoutSymbol ∷ []) h (says, tt);
    right = h;
    equal = inl (read_on g t w (LayoutSymbol ∷ []));
  }

pub bound_ids : (terms : List Term) (bound : Bound) (t : TermId) → IsOf terms t → AreIdsIn terms (Holds (bound_on bound t))
bound_ids terms (Protocol p) t h = h
bound_ids terms AnyObject t h = h

-- what lines state of the bound of a type parameter allows the symbol of the bound after it
pub bound_allowed : (g : Alphabet) (s u : Derivation) (v : TermId) (x : Term) (bound : Bound) → term_at s.table v ≡ x
    → StatesBound s u v bound → AllowsSymbol g u x (symbol_of bound)
bound_allowed g s u v x (Protocol p) e = subst (λ z. States u (Requires (Conforms z p))) e
bound_allowed g s u v x AnyObject e = subst (λ z. States u (Requires (IsAnyObject z))) e

-- if lines allow a word with a protocol symbol after it, they state that what the word is read as conforms to the protocol
pub proto_said : (g : Alphabet) (s : Derivation) (t : Term) (w v : List Symbol) (p : ProtoId) → v ≡ w ++ Proto p.rank ∷ [] → AllowsWord g s
    t v
    → States s (Requires (Conforms (read_word g t w) p))
proto_said g s t w v p e h = (word_right g s t w (Proto p.rank ∷ []) (subst (AllowsWord g s t) e h)).0

-- an equation of a history, by its reason
pub given_as : {b : History} {r : ℕ} {e : Equation} → HasEquation b r e → (reason : Reason) → e.reason ≡ reason
    → IsGivenBy b r reason e.left e.right
given_as {b} {r} {e} w reason same = subst (λ z. IsGivenBy b r z e.left e.right) same
    ((w.system.history.systems r w.system.within).given w.there.0 e w.there.1)

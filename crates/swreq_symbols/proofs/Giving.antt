-- The first associated type that is given after a word.
use Rattle.std.proofs.Common.{◌≡◌, ◌∙◌, inl, inr, refl, sym, ap, subst, ℕ, ◌<◌, ◌≤◌, ◌+◌, arith, Bool, List, length, slice_get, Some}
use Rattle.std.specs.Bool.{Decides}
use Rattle.std.proofs.lemmas.Bool.{cases_eq, cases_lt}
use Rattle.std.proofs.lemmas.Option.{same_Some, slice_get_within}
use Rattle.swreq_correspondence.specs.swreq_param.declared.ids.AssocId.{AssocId}
use Rattle.swreq_correspondence.specs.swreq_param.declared.ids.NameId.{NameId}
use Rattle.swreq_correspondence.specs.swreq_param.declared.ids.ProtoId.{ProtoId}
use Rattle.swreq_correspondence.specs.swreq_word.declared.symbols.Symbol.TheVariants.{Proto}
use Rattle.swreq_complete.specs.swreq_rule.declared.rules.Rule.{Rule}
use Rattle.swreq_world.specs.swreq_lexicon.declared.pair.ProtocolName.{ProtocolName}
use Rattle.swreq_world.specs.swreq_lexicon.Lexicons.{pair}
use Rattle.swreq_world.specs.swreq_lexicon.Views.{LexiconView}
use Rattle.swreq_correspondence.specs.Symbols.{Word}
use Rattle.swreq_map.specs.Properties.{Vanishes}
use Rattle.swreq_symbols.specs.Vanishing.{DeclaresType, IsFirstBehind, IsGivenBehind}
use Rattle.swreq_symbols.proofs.Declared.{at_rank, from_rank}

-- ---- of any property of protocols

module _ (x : LexiconView) (Has : ProtoId → Type 0) where
  -- d is an associated type A of a protocol that has the property.
  abbrev pub IsGiven : NameId → AssocId → Type 0
  IsGiven a d = (p : ProtoId) × DeclaresType x p a d × Has p

  module _ (a : NameId) where
    declared_as : (d : AssocId) (e : ProtocolName) → slice_get x.associated d.rank ≡ Some e → (p : ProtoId)
        → DeclaresType x p a d → pair p a ≡ e
    declared_as d e at p c = same_Some (pair p a) e (sym (at_rank x p a d c) ∙ at)

    pub given_answer : (d : AssocId) (e : ProtocolName) (r : Bool) → slice_get x.associated d.rank ≡ Some e → e.name.rank ≡ a.rank
        → Decides r (Has e.proto) → Decides r (IsGiven a d)
    given_answer d e r at named k =
        let same : e ≡ pair e.proto a = λ j. record { proto = e.proto; name = record { rank = named j } } in (
          (λ h. (e.proto, from_rank x e.proto a d (at ∙ ap Some same), k.0 h)),
          λ g. k.1 (subst (λ (z : ProtocolName). Has z.proto) (declared_as d e at g.0 g.1) g.2),
        )

    pub not_given : (d : AssocId) (e : ProtocolName) → slice_get x.associated d.rank ≡ Some e → (e.name.rank ≡ a.rank → ⊥)
        → IsGiven a d → ⊥
    not_given d e at other g = other (sym (ap (λ (z : ProtocolName). z.name.rank) (declared_as d e at g.0 g.1)))

    -- none of lesser rank is given
    abbrev pub NoneGiven : ℕ → Type 0
    NoneGiven bound = (d : AssocId) → d.rank < bound → IsGiven a d → ⊥

    pub none_given : (k : ℕ) → (IsGiven a (record { rank = k }) → ⊥) → NoneGiven k → NoneGiven (k + 1)
    none_given k n none d l g = elim (cases_eq d.rank k) [
      | inl e ↦ n (subst (λ (r : ℕ). IsGiven a (record { rank = r })) e g)
      | inr e ↦ none d (omega (arith, l, e)) g
    ]

    pub none_at_all : (k : ℕ) → length x.associated ≤ k → NoneGiven k → (d : AssocId) → IsGiven a d → ⊥
    none_at_all k l none d g =
        let o = slice_get_within x.associated d.rank (pair g.0 a) (at_rank x g.0 a d g.1) in
        none d (omega (arith, l, o)) g

  -- the protocol of an associated type gives it
  pub assoc_answer : (d : AssocId) (e : ProtocolName) (r : Bool) → slice_get x.associated d.rank ≡ Some e
      → Decides r (Has e.proto) → Decides r ((a : NameId) × IsGiven a d)
  assoc_answer d e r at k =
      let one = given_answer e.name d e r at refl k in (
        (λ h. (e.name, one.0 h)),
        λ h. k.1 (subst (λ (z : ProtocolName). Has z.proto) (declared_as h.0 d e at h.1.0 h.1.1) h.1.2),
      )

-- ---- behind a word

-- the symbol of the protocol vanishes after the word
abbrev pub VanishesAfter : List Rule → Word → ProtoId → Type 0
VanishesAfter rules w p = Vanishes rules w (Proto p.rank)

pub first_given : (x : LexiconView) (rules : List Rule) (w : Word) (a : NameId) (k : ℕ) → IsGivenBehind x rules w a (record { rank = k })
    → NoneGiven x (VanishesAfter rules w) a k → IsFirstBehind x rules w a (record { rank = k })
first_given x rules w a k g none =
    record { given = g; first = λ e h. elim (cases_lt e.rank k) [ inl l ↦ absurd (none e l h) | inr l ↦ l ] }

-- The bound member for which a member symbol stands after a word.
use Rattle.std.proofs.Common.{◌≡◌, refl, sym, ap, subst, ℕ, ◌<◌, ◌≤◌, arith, List, length, slice_get, Option, Some, None, MatchOption}
use Rattle.std.proofs.lemmas.List.{length-map}
use Rattle.swreq_machine.specs.swreq_param.declared.ids.AssocId.{AssocId}
use Rattle.swreq_machine.specs.swreq_param.declared.ids.ProtoId.{ProtoId}
use Rattle.swreq_homotopy.specs.swreq_word.declared.symbols.Symbol.{Symbol}
use Rattle.swreq_homotopy.specs.swreq_word.declared.symbols.Symbol.TheVariants.{Proto, Member as MemberSymbol}
use Rattle.swreq_homotopy.proofs.swreq_word.SameSymbols.{same_members}
use Rattle.swreq_machine.specs.swreq_rule.declared.rules.Rule.{Rule}
use Rattle.swreq_machine.specs.swreq_lexicon.declared.pair.ProtocolName.{ProtocolName}
use Rattle.swreq_machine.specs.swreq_lexicon.Views.{LexiconView}
use Rattle.swreq_machine.specs.swreq_correspondence.Symbols.{MemberName, Word, name_of, proto_of}
use Rattle.swreq_machine.specs.swreq_symbols.Meaning.{member_name, symbols_of}
use Rattle.swreq_machine.proofs.swreq_symbols.Declared.{is_rank, member_is}
use Rattle.swreq_machine.specs.swreq_map.Properties.{Vanishes}
use Rattle.swreq_machine.specs.swreq_symbols.Vanishing.{IsFirstBehind, IsGivenBehind}
use Rattle.swreq_minimal.specs.Typed.{IsMemberBehind}

module _ (x : LexiconView) (rules : List Rule) (w : Word) where
  pub no_symbol : (y : Symbol) → ((k : ℕ) → y ≡ MemberSymbol k → ⊥) → (d : AssocId) → IsMemberBehind x rules w y d → ⊥
  no_symbol y n d (k, e, r, v, f) = n k e

  pub no_rank : (rank : ℕ) → length x.symbols ≤ rank → (d : AssocId) → IsMemberBehind x rules w (MemberSymbol rank) d → ⊥
  no_rank rank l d (k, e, r, v, f) =
      let same = same_members e in
      let few : k < length x.symbols = subst (λ n. k < n) (length-map x.symbols member_name) r in
      omega (arith, same, few, l)

  module _ (rank : ℕ) (s : ProtocolName) (at : slice_get x.symbols rank ≡ Some s) where
    proto_is : proto_of (symbols_of x) rank ≡ s.proto
    proto_is = ap (λ (z : MemberName). z.proto) (member_is x rank s at)

    name_is : name_of (symbols_of x) rank ≡ s.name
    name_is = ap (λ (z : MemberName). z.name) (member_is x rank s at)

    pub not_vanishing : (Vanishes rules w (Proto s.proto.rank) → ⊥) → (d : AssocId) → IsMemberBehind x rules w (MemberSymbol rank) d → ⊥
    not_vanishing n d (k, e, r, v, f) =
        n (subst (λ (p : ProtoId). Vanishes rules w (Proto p.rank)) proto_is
        (subst (λ j. Vanishes rules w (Proto (proto_of (symbols_of x) j).rank)) (sym (same_members e)) v))

    pub member_given : Vanishes rules w (Proto s.proto.rank) → (o : Option AssocId)
        → MatchOption o ((d : AssocId) → IsGivenBehind x rules w s.name d → ⊥) (IsFirstBehind x rules w s.name)
        → MatchOption o ((d : AssocId) → IsMemberBehind x rules w (MemberSymbol rank) d → ⊥) (IsMemberBehind x rules w (MemberSymbol rank))
    member_given v None n = λ d h. let (k, e, r, u, f) = h in
        n d (subst (λ a. IsGivenBehind x rules w a d) name_is
        (subst (λ j. IsGivenBehind x rules w (name_of (symbols_of x) j) d) (sym (same_members e)) f.given))
    member_given v (Some d) f = (
      rank,
      refl,
      is_rank x rank s at,
      subst (λ (p : ProtoId). Vanishes rules w (Proto p.rank)) (sym proto_is) v,
      subst (λ a. IsFirstBehind x rules w a d) (sym name_is) f,
    )

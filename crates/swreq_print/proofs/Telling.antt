-- The names of a text tell its ids apart.
use Rattle.std.proofs.Common.{◌≡◌, ◌∙◌, ◌<◌, ◌∷◌, ◌==◌, ℕ, true, false, List, [], Some, Contains, ⊎_elim, length, map, get_or, refl, sym, ap, subst, true≢false, arith}
use Rattle.std.specs.declared.cmp.Ordering.{Ordering}
use Rattle.std.specs.Cmp.{IsTotalOrder}
use Rattle.std.specs.List.{list_all}
use Rattle.std.specs.List.Sorted.{IsStrictlySortedBy}
use Rattle.std.proofs.lemmas.Bool.{and_parts, ne_eqb}
use Rattle.std.proofs.lemmas.Cmp.{nat_list_cmp_total}
use Rattle.std.proofs.lemmas.List.Elements.{Contains-get_or}
use Rattle.std.proofs.lemmas.Option.{slice_get-get_or, slice_get_within}
use Rattle.swreq_lexicon.specs.swreq_lex.declared.token.TokenKind.TheVariants as kinds
use Rattle.swreq_lexicon.specs.swreq_lex.Slices.{IsSpelled, IsSpelledWord}
use Rattle.swreq_lexicon.proofs.swreq_lex.SliceLemmas.{are_slices}
use Rattle.swreq_lexicon.specs.swreq_decl.declared.skeleton.AssocDecl.{AssocDecl}
use Rattle.swreq_lexicon.specs.swreq_decl.declared.skeleton.ProtocolDecl.{ProtocolDecl}
use Rattle.swreq_lexicon.specs.swreq_decl.declared.skeleton.Skeleton.{Skeleton}
use Rattle.swreq_lexicon.specs.swreq_decl.Skeletons.{StandsFor}
use Rattle.swreq_lexicon.specs.swreq_names.Mentioned.{mentioned}
use Rattle.swreq_lexicon.specs.swreq_names.Spaces.{word}
use Rattle.swreq_lexicon.specs.swreq_param.declared.ids.NameId.{NameId}
use Rattle.swreq_lexicon.specs.swreq_param.declared.ids.ProtoId.{ProtoId}
use Rattle.swreq_lexicon.specs.declared.pair.ProtocolName.{ProtocolName}
use Rattle.swreq_lexicon.specs.Lexicons.{name_by, pair, proto_by}
use Rattle.swreq_lexicon.specs.swreq_rank.Ranks.{bytes_cmp, rank}
use Rattle.swreq_lexicon.specs.Texts.{IsLexiconOf, declared_by, declared_in, protocol_names}
use Rattle.swreq_lexicon.specs.Views.{LexiconView, IsName, IsProtocol, assoc_cmp, inherits}
use Rattle.swreq_lexicon.proofs.Declared.{from_pieces, named_within}
use Rattle.swreq_lexicon.proofs.RankLaws.{assoc_total, rank_is}
use Rattle.swreq_lexicon.proofs.swreq_rank.Rising.{one_place, rising_from_sorted}
use Rattle.swreq_lexicon.specs.swreq_names.WordBytes.{HasWordBytes, in_word}
use Rattle.swreq_lexicon.proofs.swreq_names.Bytes.{word_bytes}
use Rattle.swreq_lexicon.proofs.swreq_names.Whole.{members_spelled, protocols_spelled}
use Rattle.swreq_print.specs.Names.{Text, name_text, pair_at, protocol_name}
use Rattle.swreq_print.specs.Reading.{IsPair, IsProper, TellsApart, in_name}
use Rattle.swreq_rule.proofs.swreq_lemmas.Members.{contains_map, no_member, member_cases}

-- ---- bytes

other_byte : (b k : ℕ) → in_word k ≡ false → in_word b ≡ true → (b == k) ≡ false
other_byte b k none e = ne_eqb b k (λ s. true≢false (sym e ∙ ap in_word s ∙ none))

-- A byte of a word is one of a name.
byte_of_name : (b : ℕ) → in_word b ≡ true → in_name b ≡ true
byte_of_name b e =
    rw (
      other_byte b 32 refl e,
      other_byte b 44 refl e,
      other_byte b 46 refl e,
      other_byte b 58 refl e,
      other_byte b 61 refl e,
      other_byte b 62 refl e,
      other_byte b 91 refl e,
      other_byte b 93 refl e,
    ) refl

bytes_of_name : (t : Text) → list_all in_word t ≡ true → list_all in_name t ≡ true
bytes_of_name [] e = refl
bytes_of_name (b ∷ t) e = let p = and_parts (in_word b) _ e in rw (byte_of_name b p.0) (bytes_of_name t p.1)

proper : (t : Text) → HasWordBytes t → IsProper t
proper [] w = absurd (omega (arith, w.some))
proper (b ∷ t) w = record { first = b; rest = t; is = refl; bytes = bytes_of_name (b ∷ t) w.each }

-- ---- ranks

-- Equal items of a strictly sorted list stand at one place.
one_rank : {K : Type 0} (cmp : K → K → Ordering) → IsTotalOrder cmp → (xs : List K) → IsStrictlySortedBy cmp xs → (i j : ℕ) (d : K)
    → i < length xs → j < length xs → get_or xs i d ≡ get_or xs j d → i ≡ j
one_rank cmp total xs sorted i j d l m e =
    let rising = rising_from_sorted cmp xs sorted in
    one_place cmp total xs rising i j (get_or xs i d) (slice_get-get_or xs i d l) (slice_get-get_or xs j d m ∙ ap Some (sym e))

-- ---- the lexicon of a text

-- What holds of each item under a map holds of all that the mapped list has.
of_mapped : {A B : Type 0} (f : A → B) (P : B → Type 0) → ((a : A) → P (f a)) → (xs : List A) (y : B) → Contains (map f xs) y → P y
of_mapped f P all [] y c = no_member y c
of_mapped f P all (x ∷ xs) y c = ⊎_elim (λ e. subst P (sym e) (all x)) (λ d. of_mapped f P all xs y d) (member_cases (f x) y (map f xs) c)

module _ (text : Text) (s : Skeleton) (x : LexiconView) (is : IsLexiconOf text s x) where
  ranked : (p : ProtocolDecl) → Contains s.protocols p → rank x.protocols (word text p.name) < length x.protocols
  ranked p c =
      let name = word text p.name in
      let there = contains_map (λ (q : ProtocolDecl). word text q.name) s.protocols p c in
      slice_get_within x.protocols (rank x.protocols name) name
      (rank_is (Contains (protocol_names text s.protocols)) x.protocols is.protocols name there)

  pair_of : (d : ProtocolName) → Contains (declared_in text x.protocols x.names s.protocols) d → IsPair x d
  pair_of d c =
      let p = from_pieces (declared_by text x.protocols x.names) s.protocols d c in (
        of_mapped (λ (m : AssocDecl). pair (proto_by x.protocols (word text p.0.name)) (name_by x.names (word text m.name)))
            (λ e. IsProtocol x e.proto) (λ m. ranked p.0 p.1) p.0.members d p.2,
        named_within text s x.protocols x.names is.names d c,
      )

  module _ (are_protocols : (name : Text) → Contains (protocol_names text s.protocols) name → IsSpelled kinds.Name name)
      (are_names : (name : Text) → Contains (mentioned text s) name → IsSpelled kinds.Name name) where
    protocol_spelled : (p : ProtoId) → IsProtocol x p → IsSpelled kinds.Name (protocol_name x p)
    protocol_spelled p o =
        let name = protocol_name x p in are_protocols name ((is.protocols.same name).0 (Contains-get_or x.protocols p.rank [] o))

    name_spelled : (a : NameId) → IsName x a → IsSpelled kinds.Name (name_text x a)
    name_spelled a o = let name = name_text x a in are_names name ((is.names.same name).0 (Contains-get_or x.names a.rank [] o))

    tells_apart : TellsApart x
    tells_apart = record {
      protocols = λ p o. proper (protocol_name x p) (word_bytes (protocol_name x p) (protocol_spelled p o).0);
      names = λ a o. proper (name_text x a) (word_bytes (name_text x a) (name_spelled a o).0);
      one_protocol = λ p q o k e.
          let r = one_rank bytes_cmp nat_list_cmp_total x.protocols is.protocols.sorted p.rank q.rank [] o k e in
          (λ i. record { rank = r i });
      one_name = λ a b o k e.
          let r = one_rank bytes_cmp nat_list_cmp_total x.names is.names.sorted a.rank b.rank [] o k e in (λ i. record { rank = r i });
      pairs = λ d o. pair_of (pair_at x d) ((is.associated.same (pair_at x d)).0 (Contains-get_or x.associated d.rank _ o));
      one_pair = λ d e o k h.
          let total = assoc_total (inherits x) x.associated in
          let r = one_rank (assoc_cmp x) total x.associated is.associated.sorted d.rank e.rank _ o k h in (λ i. record { rank = r i });
      no_any_object = λ p o e. (protocol_spelled p o).1 5 (ap Some (sym e));
    }

-- ---- a text and its skeleton

pub names_tell : (text : Text) (s : Skeleton) (x : LexiconView) → StandsFor text s → IsLexiconOf text s x → TellsApart x
names_tell text s x stands is =
    let slices = are_slices text in
    tells_apart text s x is (protocols_spelled text s slices stands) (members_spelled text s slices stands)

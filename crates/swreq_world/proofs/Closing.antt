-- All that is written in the world of a text is of the world, where the names of the text resolve.
use Rattle.std.proofs.Common.{◌≡◌, ℕ, cond, length, get_or, Contains, sym, ap, subst, ◌∙◌, arith}
use Rattle.std.proofs.lemmas.Cmp.{then_total, on_total, back_total, nat_cmp_total}
use Rattle.std.proofs.lemmas.List.{length-map}
use Rattle.std.proofs.lemmas.List.Elements.{All-map}
use Rattle.std.specs.Cmp.{IsTotalOrder}
use Rattle.std.specs.List.{All, IsDistinct}
use Rattle.std.specs.Ordering.{nat_cmp, then_cmp, on}
use Rattle.std.specs.Str.{bytes_eq}
use Rattle.swreq_lexicon.specs.swreq_decl.declared.skeleton.AssocDecl.{AssocDecl}
use Rattle.swreq_lexicon.specs.swreq_decl.declared.skeleton.Skeleton.{Skeleton}
use Rattle.swreq_resolve.specs.Resolving.{Resolve}
use Rattle.swreq_lexicon.specs.swreq_names.Spaces.{word}
use Rattle.swreq_param.specs.declared.ids.ProtoId.{ProtoId}
use Rattle.swreq_lexicon.specs.declared.pair.ProtocolName.{ProtocolName}
use Rattle.swreq_lexicon.specs.Associated.{is_root, depth, order_cmp}
use Rattle.swreq_lexicon.specs.Lexicons.{pair, proto_by, name_by}
use Rattle.swreq_lexicon.specs.swreq_rank.Ranks.{Bytes}
use Rattle.swreq_lexicon.specs.Texts.{IsLexiconOf, protocol_names, declared_by}
use Rattle.swreq_lexicon.specs.Views.{LexiconView, IsProtocol, place_of, inherits, assoc_cmp, symbol_cmp}
use Rattle.swreq_lexicon.proofs.Declared.{from_pieces, named_within}
use Rattle.swreq_lexicon.proofs.Depths.{inherits_more}
use Rattle.swreq_lexicon.proofs.RankLaws.{one_to_one, assoc_total, by_name, written_at, written_protocol, written_once}
use Rattle.swreq_lexicon.proofs.swreq_rank.Rising.{rising_from_sorted, one_place}
use Rattle.swreq_lowering.specs.Signatures.{in_order}
use Rattle.swreq_world.specs.Closed.{IsClosed, AreIds, IsOfProtocol, HasOwn, HasOuter, IsQueryOf}
use Rattle.swreq_world.specs.Text.{requirements_named, signature_in, signatures}
use Rattle.swreq_world.specs.WorldOf.{IsWorldOf, words_of}
use Rattle.swreq_world.specs.Worlds.{TextWorld}
use Rattle.swreq_world.proofs.Everywhere.{mapped_from}
use Rattle.swreq_world.proofs.InProtocols.{protocols_are}
use Rattle.swreq_world.proofs.InQueries.{queries_are}
use Rattle.swreq_world.proofs.InSignatures.{signatures_are}
use Rattle.swreq_world.proofs.Leading.{inheritance_written}
use Rattle.swreq_world.proofs.OnceDeclared.{protocols_differ}
use Rattle.swreq_world.proofs.Offsets.{AreRising, name_start}
use Rattle.swreq_world.proofs.Resolving.{protocol_is, resolved}
use Rattle.swreq_world.proofs.Standing.{outer_within}
use Rattle.swreq_param.proofs.swreq_lemmas.Elements.{contains_get, get_contains}

module _ (text : Bytes) (s : Skeleton) (x : LexiconView) (is : IsLexiconOf text s x) where
  order_total : IsTotalOrder (order_cmp (inherits x) (length x.protocols))
  order_total = then_total (back_total (on_total (depth (inherits x) (length x.protocols)) nat_cmp_total))
      (on_total (λ (p : ProtoId). p.rank) nat_cmp_total)

  symbols_total : IsTotalOrder (symbol_cmp x)
  symbols_total =
      then_total (on_total (λ (d : ProtocolName). d.name.rank) nat_cmp_total) (on_total (λ (d : ProtocolName). d.proto) order_total)

  -- the protocol of an associated type
  declares_it : (d : ProtocolName) → Contains x.associated d → IsProtocol x d.proto
  declares_it d c =
      let p = from_pieces (declared_by text x.protocols x.names) s.protocols d ((is.associated.same d).0 c) in
      let at = contains_get s.protocols p.0 p.1 in
      let name = word text p.0.name in
      let in_it = contains_get (declared_by text x.protocols x.names p.0) d p.2 in
      let m = mapped_from (λ (m : AssocDecl). pair (proto_by x.protocols name) (name_by x.names (word text m.name)))
      p.0.members in_it.0 d in_it.1 in
      subst (λ (e : ProtocolName). IsProtocol x e.proto) m.2 (protocol_is text s x is at.0 p.0 at.1)

  ids : IsDistinct bytes_eq (protocol_names text s.protocols) → AreIds x
  ids distinct = record {
    written_order = λ p. (
      λ c. let k = contains_get x.written_order p c in written_protocol text s x is k.0 p k.1,
      λ h. get_contains x.written_order (place_of x p) p (written_at text s x is p h),
    );
    each_once = written_once text s x is distinct;
    associated = λ d c. (declares_it d c, named_within text s x.protocols x.names is.names d ((is.associated.same d).0 c));
    one_to_one = one_to_one (assoc_cmp x) (assoc_total (inherits x) x.associated) x.associated is.associated.sorted;
    associated_by_name = by_name (then_cmp (on (λ (d : ProtocolName). cond (is_root (inherits x) x.associated d) 0 1) nat_cmp)
        (on (λ (d : ProtocolName). d.proto.rank) nat_cmp)) x.associated is.associated.sorted;
    symbols = λ p a. is.symbols.same (pair p a);
    one_symbol = one_place (symbol_cmp x) symbols_total x.symbols (rising_from_sorted (symbol_cmp x) x.symbols is.symbols.sorted);
    symbols_by_name =
        by_name (on (λ (d : ProtocolName). d.proto) (order_cmp (inherits x) (length x.protocols))) x.symbols is.symbols.sorted;
  }

-- the structs around the signatures
outers : (text : Bytes) (s : Skeleton) (w : TextWorld) → w.signatures ≡ signatures (words_of text s w) → All (HasOuter w) w.signatures
outers text s w is =
    subst (All (HasOuter w)) (sym is) (All-map (HasOuter w) (signature_in (words_of text s w) (in_order s)) (in_order s) one)
  where
    count : length w.signatures ≡ length (in_order s)
    count = ap length is ∙ length-map (in_order s) (signature_in (words_of text s w) (in_order s))

    one : All (λ g. HasOuter w (signature_in (words_of text s w) (in_order s) g)) (in_order s)
    one k g l f e = let h = outer_within (in_order s) (get_or (in_order s) k g) f (omega arith) e in omega (arith, h, count)

pub closed : (text : Bytes) (s : Skeleton) (w : TextWorld) (from : ℕ) → AreRising name_start from s.protocols
    → IsWorldOf text s w → Resolve text s → IsClosed w
closed text s w from rising is resolve =
    let words = words_of text s w in
    let tells = resolve.names.inherits in
    let are = resolved text s w.lexicon is.lexicon resolve.names in
    let same = is.lexicon.resolved.declared in
    record {
      ids = ids text s w.lexicon is.lexicon (protocols_differ text s resolve.names from rising);
      protocols = ap length is.requirements ∙ length-map w.lexicon.protocols (requirements_named words);
      requirements = subst (All (All (IsOfProtocol w.lexicon))) (sym is.requirements) (protocols_are words tells are w.lexicon.protocols);
      signatures = subst (All (HasOwn w.lexicon)) (sym is.signatures) (signatures_are words tells are same (in_order s) (in_order s));
      outer = outers text s w is.signatures;
      queries = subst (All (IsQueryOf w)) (sym is.queries) (queries_are text s w tells are same is.signatures);
      inheritance = inheritance_written text s resolve.names w is;
      goes_down = λ p q h k l. inherits_more text s w.lexicon is.lexicon p q k ((inheritance_written text s resolve.names w is p q h k).1 l)
          (λ e. resolve.no_cycle (place_of w.lexicon q) ((is.lexicon.inheritance q q).0 e));
    }

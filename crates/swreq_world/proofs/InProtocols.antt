-- What is written in a protocol, where its names resolve.
use Rattle.std.proofs.Common.{◌≡◌, ℕ, Bool, true, false, cond, ◌||◌, List, [], ◌++◌, Option, Some, None, get_or, map, slice_get, refl, subst, sym}
use Rattle.std.proofs.lemmas.List.Elements.{All-nil, All-head, All-tail, All-append, All-map}
use Rattle.std.specs.List.{All, flat_map}
use Rattle.std.specs.Str.{bytes_eq}
use Rattle.swreq_lexicon.specs.swreq_decl.declared.skeleton.AssocDecl.{AssocDecl}
use Rattle.swreq_lexicon.specs.swreq_decl.declared.skeleton.ProtocolDecl.{ProtocolDecl}
use Rattle.swreq_lexicon.specs.swreq_decl.declared.skeleton.Span.{Span}
use Rattle.swreq_lexicon.specs.swreq_names.declared.directory.Declaration.{Declaration}
use Rattle.swreq_lexicon.specs.swreq_names.Walk as names
use Rattle.swreq_resolve.specs.Refusals.{begins_in_protocol, duplicates, of_primaries, of_entity, of_requirement, of_member, of_members}
use Rattle.swreq_lexicon.specs.swreq_names.Spaces.{self_bytes, word, protocol_of, has_member}
use Rattle.swreq_resolve.specs.Refusals as refusals
use Rattle.swreq_param.specs.declared.ids.ParamId.{ParamId}
use Rattle.swreq_param.specs.Terms.{self, self_param, head}
use Rattle.swreq_lexicon.specs.swreq_rank.Ranks.{Bytes}
use Rattle.swreq_lowering.specs.declared.context.Context.TheVariants.{Protocol}
use Rattle.swreq_lowering.specs.Requirements.{in_bounds, in_protocol}
use Rattle.swreq_lowering.specs.Walk.{in_clause, in_member, in_members}
use Rattle.swreq_lowering.proofs.Walked.{protocol_walked}
use Rattle.swreq_lowering.specs.Types.{member_named, protocol_head}
use Rattle.swreq_lowering.specs.Words.{WordsView, declared}
use Rattle.swreq_world.specs.Closed.{IsTermOf, IsOfProtocol}
use Rattle.swreq_world.specs.Text.{of_protocol, of_place, requirements_named}
use Rattle.swreq_world.proofs.Everywhere.{all_in_pieces}
use Rattle.swreq_world.proofs.Resolving.{IsRanked, AreResolved, Resolved}
use Rattle.swreq_world.proofs.Constraints.{parts, after, each, bounds_are, clause_is}

module _ (w : WordsView) (inherits : ℕ → ℕ → Bool) (are : AreResolved w inherits) where
  module _ (i : ℕ) where
    abbrev begins : Bytes → Bool
    begins = begins_in_protocol (declared w) inherits i

    abbrev IsSelf : ParamId → Type 0
    IsSelf g = g ≡ self_param

    starts : (s : Span) → begins (word w.text s) ≡ true → IsTermOf w.lexicon (protocol_head w s) × IsSelf (head (protocol_head w s))
    starts s e = by (bytes_eq self_bytes (word w.text s)) e
      where
        by : (b : Bool) → (b || has_member (declared w) inherits i (word w.text s)) ≡ true
            → IsTermOf w.lexicon (cond b self (member_named w self s)) × IsSelf (head (cond b self (member_named w self s)))
        by true e = (tt, refl)
        by false e = ((tt, are.refers.member inherits i s e), refl)

    member_is : (m : AssocDecl) → Resolved w (of_member w.text (declared w) begins m) (names.in_member w.text m)
        → All (IsOfProtocol w.lexicon) (in_member w m)
    member_is m h =
        let of_inherits = flat_map (of_entity w.text (declared w) begins) m.inherits in
        let of_clause = flat_map (of_requirement w.text (declared w) begins) m.clause in
        let in_inherits = names.in_bounds w.text m.inherits in
        let in_its_clause = names.in_clause w.text m.clause in
        let name = All-head (IsRanked w) (word w.text m.name) (in_inherits ++ in_its_clause) h.1 in
        let p = parts w of_inherits of_clause in_inherits in_its_clause
        (h.0, All-tail (IsRanked w) (word w.text m.name) (in_inherits ++ in_its_clause) h.1) in
        All-append (IsOfProtocol w.lexicon) (in_bounds w Protocol (member_named w self m.name) m.name.start m.inherits)
        (in_clause w Protocol m.clause)
        (bounds_are w are.refers Protocol begins IsSelf starts (member_named w self m.name) m.name.start m.inherits ((tt, name), refl) p.0)
        (clause_is w are.refers Protocol begins IsSelf starts m.clause p.1)

    protocol_is : (p : ProtocolDecl) → Resolved w (refusals.of_protocol w.text (declared w) inherits i p) (names.in_protocol w.text p)
        → All (IsOfProtocol w.lexicon) (in_protocol w p)
    protocol_is p h =
        let members : List Declaration = get_or (declared w).members i [] in
        let of_inherits = flat_map (of_entity w.text (declared w) begins) p.inherits in
        let of_clause = flat_map (of_requirement w.text (declared w) begins) p.clause in
        let of_each = flat_map (of_member w.text (declared w) begins) p.members in
        let in_inherits = names.in_bounds w.text p.inherits in
        let in_its_clause = names.in_clause w.text p.clause in
        let in_each = flat_map (names.in_member w.text) p.members in
        let all = after w (of_primaries (declared w) inherits i) (of_inherits ++ (of_clause ++ (duplicates members members ++ of_each)))
        (names.in_protocol w.text p) h in
        let first = parts w of_inherits (of_clause ++ (duplicates members members ++ of_each)) in_inherits (in_its_clause ++ in_each) all in
        let second = parts w of_clause (duplicates members members ++ of_each) in_its_clause in_each first.1 in
        let last = after w (duplicates members members) of_each in_each second.1 in
        subst (All (IsOfProtocol w.lexicon)) (sym (protocol_walked w p))
        (All-append (IsOfProtocol w.lexicon) (in_bounds w Protocol self p.name.start p.inherits)
        (in_clause w Protocol p.clause ++ in_members w p.members)
        (bounds_are w are.refers Protocol begins IsSelf starts self p.name.start p.inherits (tt, refl) first.0)
        (All-append (IsOfProtocol w.lexicon) (in_clause w Protocol p.clause) (in_members w p.members)
        (clause_is w are.refers Protocol begins IsSelf starts p.clause second.0)
        (all_in_pieces (IsOfProtocol w.lexicon) (λ m. Resolved w (of_member w.text (declared w) begins m) (names.in_member w.text m))
        (in_member w) p.members member_is
        (each w (of_member w.text (declared w) begins) (names.in_member w.text) p.members last))))

  -- ---- the protocols of the text

  stated : (i : ℕ) (o : Option ProtocolDecl) → slice_get w.skeleton.protocols i ≡ o → All (IsOfProtocol w.lexicon) (of_protocol w o)
  stated i None e = All-nil (IsOfProtocol w.lexicon)
  stated i (Some p) e = protocol_is i p (are.protocol_at i p e)

  placed : (o : Option ℕ) → All (IsOfProtocol w.lexicon) (of_place w o)
  placed None = All-nil (IsOfProtocol w.lexicon)
  placed (Some i) = stated i (slice_get w.skeleton.protocols i) refl

  pub protocols_are : (ns : List Bytes) → All (All (IsOfProtocol w.lexicon)) (map (requirements_named w) ns)
  protocols_are ns =
      All-map (All (IsOfProtocol w.lexicon)) (requirements_named w) ns (λ k n l. placed (protocol_of (declared w) (get_or ns k n)))

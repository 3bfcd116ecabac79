-- The names of the skeleton of a text are names.
use Rattle.std.proofs.Common.{◌≡◌, ◌<◌, ◌∷◌, ◌++◌, ℕ, zero, suc, Bool, true, not, List, [], Contains, length, map, get_or, slice_range, flat_map, refl, sym, subst, true≢false, arith}
use Rattle.std.specs.List.{AllByRecursion, list_all}
use Rattle.std.specs.Str.{chars}
use Rattle.std.proofs.lemmas.Bool.{and_parts, not-true, both_ways}
use Rattle.swreq_lex.specs.declared.token.Token as lexed
use Rattle.swreq_lex.specs.declared.token.TokenKind.{TokenKind}
use Rattle.swreq_lex.specs.declared.token.TokenKind.TheVariants as kinds
use Rattle.swreq_lex.specs.Slices.{AreSlices, IsSpelled, next}
use Rattle.swreq_lex.specs.Tokens.{HasTokens, first_offset}
use Rattle.swreq_decl.specs.swreq_grammar.Grammar.{has}
use Rattle.swreq_decl.specs.declared.terminal.Terminal.{Terminal}
use Rattle.swreq_decl.specs.declared.terminal.Terminal.TheVariants.{Name, Query}
use Rattle.swreq_decl.specs.declared.skeleton.Item.{Item}
use Rattle.swreq_decl.specs.declared.skeleton.Item.TheVariants as items
use Rattle.swreq_decl.specs.declared.skeleton.ProtocolDecl.{ProtocolDecl}
use Rattle.swreq_decl.specs.declared.skeleton.Skeleton.{Skeleton}
use Rattle.swreq_decl.specs.Skeletons.{StandsFor, skeleton_of}
use Rattle.swreq_decl.specs.Terminals.{number, by_kind, entry, marks, reserved_words, slice, with_terminals}
use Rattle.swreq_names.specs.Mentioned.{mentioned}
use Rattle.swreq_names.specs.Walk as names
use Rattle.swreq_names.specs.Spaces.{word}
use Rattle.swreq_names.proofs.Walk.{AreNames, AreNamed, IsItemNamed, IsProtocolNamed, join, join_all, parts_named}
use Rattle.swreq_names.proofs.Walked.{same_names}

-- ---- tokens

abbrev is_name : Terminal → Bool
is_name t = has number (Name ∷ Query ∷ []) t

-- If no terminal of a table is a name, no entry is one: past the end of the table stands the underscore.
no_name_in : (table : List Terminal) (n : ℕ) → list_all (λ t. not (is_name t)) table ≡ true → is_name (entry table n) ≡ true → ⊥
no_name_in [] n all e = true≢false (sym e)
no_name_in (t ∷ table) zero all e = both_ways (is_name t) (not-true (is_name t) (and_parts (not (is_name t)) _ all).0) e
no_name_in (t ∷ table) (suc n) all e = no_name_in table n (and_parts (not (is_name t)) _ all).1 e

-- A token that is a name for the grammar is spelled as one.
spelled_name : (kind : TokenKind) (other bytes : List ℕ) → is_name (by_kind other kind) ≡ true → IsSpelled kind bytes
    → IsSpelled kinds.Name bytes
spelled_name kinds.Name other bytes e s = s
spelled_name (kinds.Reserved n) other bytes e s = absurd (no_name_in reserved_words n refl e)
spelled_name kinds.Underscore other bytes e s = absurd (true≢false (sym e))
spelled_name (kinds.Mark n) other bytes e s = absurd (no_name_in marks n refl e)

tokens_named : (text : List ℕ) (from : ℕ) (ts : List lexed.Token) → AreSlices text from ts → AreNamed text (with_terminals text ts)
tokens_named text from [] s = tt
tokens_named text from (t ∷ ts) (next a b c d spelled s) =
    ((λ e. (spelled_name t.kind (slice text t.start t.end) (slice_range text t.start t.end) e spelled, tt)), tokens_named text t.end ts s)

-- ---- skeletons

-- The names in the lists of a skeleton are names.
record IsSkeletonNamed (text : List ℕ) (s : Skeleton) : Type 0 where
  protocols : AllByRecursion (IsProtocolNamed text) s.protocols
  structs : AllByRecursion (λ t. AreNames (names.in_struct text t)) s.structs
  functions : AllByRecursion (λ f. AreNames (names.in_function text f)) s.functions
  queries : AllByRecursion (λ q. AreNames (names.in_query text q)) s.queries

skeleton_named : (text : List ℕ) (parts : List Item) → AllByRecursion (IsItemNamed text) parts → IsSkeletonNamed text (skeleton_of parts)
skeleton_named text [] n = record { protocols = tt; structs = tt; functions = tt; queries = tt }
skeleton_named text (items.Protocol p ∷ parts) n =
    let more = skeleton_named text parts n.1 in
    record { protocols = (n.0, more.protocols); structs = more.structs; functions = more.functions; queries = more.queries }
skeleton_named text (items.Struct s ∷ parts) n =
    let more = skeleton_named text parts n.1 in
    record { protocols = more.protocols; structs = (n.0, more.structs); functions = more.functions; queries = more.queries }
skeleton_named text (items.Function f ∷ parts) n =
    let more = skeleton_named text parts n.1 in
    record { protocols = more.protocols; structs = more.structs; functions = (n.0, more.functions); queries = more.queries }
skeleton_named text (items.Query q ∷ parts) n =
    let more = skeleton_named text parts n.1 in
    record { protocols = more.protocols; structs = more.structs; functions = more.functions; queries = (n.0, more.queries) }

all_names : (text : List ℕ) (s : Skeleton) → IsSkeletonNamed text s → AreNames (names.walked text s)
all_names text s n =
    let ps = flat_map (names.in_protocol text) s.protocols in
    let ts = flat_map (names.in_struct text) s.structs in
    let fs = flat_map (names.in_function text) s.functions in
    let qs = flat_map (names.in_query text) s.queries in
    join ps (ts ++ (fs ++ qs)) (join_all (names.in_protocol text) s.protocols (bodies s.protocols n.protocols))
    (join ts (fs ++ qs) (join_all (names.in_struct text) s.structs n.structs)
    (join fs qs (join_all (names.in_function text) s.functions n.functions) (join_all (names.in_query text) s.queries n.queries)))
  where
    bodies : (ps : List ProtocolDecl) → AllByRecursion (IsProtocolNamed text) ps
        → AllByRecursion (λ p. AreNames (names.in_protocol text p)) ps
    bodies [] n = tt
    bodies (p ∷ ps) n = (n.0.1, bodies ps n.1)

protocol_names : (text : List ℕ) (ps : List ProtocolDecl) → AllByRecursion (IsProtocolNamed text) ps
    → AreNames (map (λ p. word text p.name) ps)
protocol_names text [] n = tt
protocol_names text (p ∷ ps) n = (n.0.0, protocol_names text ps n.1)

-- ---- texts

one_of : (ws : List (List ℕ)) (k : ℕ) (d : List ℕ) → AreNames ws → k < length ws → IsSpelled kinds.Name (get_or ws k d)
one_of [] k d n l = absurd (omega arith)
one_of (w ∷ ws) zero d n l = n.0
one_of (w ∷ ws) (suc k) d n l = one_of ws k d n.1 (omega arith)

contained : (ws : List (List ℕ)) (w : List ℕ) → AreNames ws → Contains ws w → IsSpelled kinds.Name w
contained ws w n (k, l, e) = subst (IsSpelled kinds.Name) e (one_of ws k w n l)

module _ (text : List ℕ) (s : Skeleton)
    (slices : (ts : List lexed.Token) → HasTokens text ts → AreSlices text (first_offset (chars text)) ts)
  where
    named : StandsFor text s → IsSkeletonNamed text s
    named (found, tokens, (parts, m, e)) =
        let n = tokens_named text (first_offset (chars text)) found (slices found tokens) in
        subst (IsSkeletonNamed text) (sym e) (skeleton_named text parts (parts_named text (with_terminals text found) parts n m))

    pub protocols_spelled : StandsFor text s → (name : List ℕ) → Contains (map (λ p. word text p.name) s.protocols) name
        → IsSpelled kinds.Name name
    protocols_spelled stands name c =
        let n = protocol_names text s.protocols (named stands).protocols in
        contained (map (λ (p : ProtocolDecl). word text p.name) s.protocols) name n c

    pub members_spelled : StandsFor text s → (name : List ℕ) → Contains (mentioned text s) name → IsSpelled kinds.Name name
    members_spelled stands name c = contained (names.walked text s) name (all_names text s (named stands)) ((same_names text s name).1 c)

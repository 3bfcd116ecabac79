-- The places of protocols in written order.
use Rattle.std.proofs.Common.{◌≡◌, ℕ, ◌+◌, Bool, true, false, cond, List, [], ◌∷◌, length, get_or, map, slice_get, Option, Some, None}
use Rattle.std.proofs.Common.{unwrap_or, Contains, refl, sym, ap, subst, ◌∙◌, true≢false}
use Rattle.std.specs.List.{position_from}
use Rattle.std.specs.Cmp.Lexicographic.{same_text}
use Rattle.std.specs.Str.{bytes_eq}
use Rattle.std.proofs.lemmas.List.{length-map, get_or-map}
use Rattle.std.proofs.lemmas.List.Elements.{Contains-append_left, Contains-append_right, Contains-push}
use Rattle.std.proofs.lemmas.Iterator.Adapters.{position_from-zero}
use Rattle.std.proofs.lemmas.Option.{slice_get_within, get_or_from_slice_get}
use Rattle.swreq_rank.proofs.swreq_lemmas.Elements.{contains_get, get_contains}
use Rattle.swreq_decl.specs.declared.skeleton.ProtocolDecl.{ProtocolDecl}
use Rattle.swreq_names.specs.Spaces.{word, declarations, place}
use Rattle.swreq_names.specs.declared.directory.Declaration.{Declaration}
use Rattle.swreq_names.proofs.Firsts.{same_true}
use Rattle.swreq_rank.specs.Ranks.{Bytes}
use Rattle.swreq_lexicon.specs.Heirs.{HaveProtocols}
use Rattle.swreq_lexicon.specs.Texts.{protocol_names}
use Rattle.swreq_lexicon.proofs.Positions.{fails_all}

-- a name of a list has a first place in it
pub some_place : (all : List Bytes) (q : Bytes) → Contains all q → (k : ℕ) × (position_from (bytes_eq q) 0 all ≡ Some k)
some_place all q c = by (position_from (bytes_eq q) 0 all) refl
  where
    by : (o : Option ℕ) → position_from (bytes_eq q) 0 all ≡ o → (k : ℕ) × (position_from (bytes_eq q) 0 all ≡ Some k)
    by (Some k) e = (k, e)
    by None e =
        let no = fails_all (bytes_eq q) all (position_from-zero (bytes_eq q) all ∙ e) c.0 q c.1 in
        absurd (true≢false (sym (same_true q (get_or all c.0 q) (sym c.2)) ∙ no))

placed_from : (all : List Bytes) (q : Bytes) (i k : ℕ) → position_from (bytes_eq q) i all ≡ Some k → Contains all q
placed_from [] q i k e = absurd cc
placed_from (x ∷ xs) q i k e = by (bytes_eq q x) refl e (placed_from xs q (i + 1) k)
  where
    by : (b : Bool) → bytes_eq q x ≡ b → cond b (Some i) (position_from (bytes_eq q) (i + 1) xs) ≡ Some k
        → (position_from (bytes_eq q) (i + 1) xs ≡ Some k → Contains xs q) → Contains (x ∷ xs) q
    by true t f later = subst (Contains (x ∷ xs)) (sym (same_text q x (sym t))) (Contains-append_left (x ∷ []) xs x (Contains-push [] x))
    by false t f later = Contains-append_right (x ∷ []) xs q (later f)

-- a name that has a first place in a list is one of it
placed_there : (all : List Bytes) (q : Bytes) (k : ℕ) → position_from (bytes_eq q) 0 all ≡ Some k → Contains all q
placed_there all q k h = placed_from all q 0 k h

-- ---- the names of the protocols

-- the names of the declared protocols are the names of the protocols of the text
pub declared_names : (text : Bytes) (ps : List ProtocolDecl)
    → map (λ (d : Declaration). d.name) (declarations text (map (λ (p : ProtocolDecl). p.name) ps)) ≡ protocol_names text ps
declared_names text [] = refl
declared_names text (p ∷ ps) = ap (λ xs. word text p.name ∷ xs) (declared_names text ps)

pub names_length : (text : Bytes) (ps : List ProtocolDecl) → length (protocol_names text ps) ≡ length ps
names_length text ps = length-map ps (λ (x : ProtocolDecl). word text x.name)

-- a ranked name has its first place among the names of the protocols
pub placed : (all ranks : List Bytes) (ds : List Declaration) → map (λ (d : Declaration). d.name) ds ≡ all
    → ((q : Bytes) → Contains ranks q → Contains all q)
    → (r : ℕ) (q : Bytes) → slice_get ranks r ≡ Some q
    → position_from (bytes_eq q) 0 all ≡ Some (get_or (map (λ name. unwrap_or (place ds name) 0) ranks) r 0)
placed all ranks ds names within r q h =
    let first = λ (name : Bytes). unwrap_or (place ds name) 0 in
    let k = some_place all q (within q (get_contains ranks r q h)) in
    k.1
    ∙ ap Some (sym (get_or-map first ranks r q 0 (slice_get_within ranks r q h) ∙ ap first (get_or_from_slice_get ranks r q q h)
    ∙ ap (λ o. unwrap_or o 0) (ap (position_from (bytes_eq q) 0) names ∙ k.1)))

-- the protocol of a name's rank stands where the name is declared first
pub declared_place : (ranks : List Bytes) (ds : List Declaration)
    → ((q : Bytes) → Contains (map (λ (d : Declaration). d.name) ds) q → Contains ranks q)
    → HaveProtocols ds (map (λ name. unwrap_or (place ds name) 0) ranks) (length ranks)
declared_place ranks ds ranked name j h =
    let first = λ (q : Bytes). unwrap_or (place ds q) 0 in
    let there = placed_there (map (λ (d : Declaration). d.name) ds) name j h in
    let at = contains_get ranks name (ranked name there) in
    let within = slice_get_within ranks at.0 name at.1 in (
      record { rank = at.0 },
      within,
      get_or-map first ranks at.0 name 0 within ∙ ap first (get_or_from_slice_get ranks at.0 name name at.1) ∙ ap (λ o. unwrap_or o 0) h,
    )

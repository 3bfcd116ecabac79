-- The names of the protocols, of the structs and of the functions at the top of a text stand in the order of each of these lists.
use Rattle.std.proofs.Common.{◌≡◌, ℕ, zero, suc, ◌≤◌, ◌<◌, List, [], ◌∷◌, ◌++◌, Option, Some, None, drop, slice_get, refl, sym, ap, subst, arith}
use Rattle.std.proofs.lemmas.Option.{same_Some}
use Rattle.std.specs.List.{cons_option, filter_map}
use Rattle.std.specs.Str.{chars}
use Rattle.swreq_lex.specs.declared.token.Token as lexed
use Rattle.swreq_lex.specs.Slices.{AreSlices}
use Rattle.swreq_lex.specs.Tokens.{HasTokens, first_offset}
use Rattle.swreq_lexicon.specs.swreq_grammar.Grammar.{Matches, Parts}
use Rattle.swreq_lexicon.specs.swreq_decl.declared.skeleton.FunctionDecl.{FunctionDecl}
use Rattle.swreq_lexicon.specs.swreq_decl.declared.skeleton.ProtocolDecl.{ProtocolDecl}
use Rattle.swreq_lexicon.specs.swreq_decl.declared.skeleton.StructDecl.{StructDecl}
use Rattle.swreq_lexicon.specs.swreq_decl.declared.skeleton.Skeleton.{Skeleton}
use Rattle.swreq_lexicon.specs.swreq_decl.declared.skeleton.Item.{Item}
use Rattle.swreq_lexicon.specs.swreq_decl.declared.skeleton.Item.TheVariants as items
use Rattle.swreq_lexicon.specs.swreq_decl.Terminals.{number, with_terminals}
use Rattle.swreq_lexicon.specs.swreq_decl.Source as lines
use Rattle.swreq_lexicon.specs.swreq_decl.Skeletons.{StandsFor, protocol_of, struct_of, function_of}
use Rattle.swreq_resolve.proofs.swreq_decl.SameTexts.{Tokens}
use Rattle.swreq_resolve.proofs.swreq_decl.WrittenOrder.{Starts, Stands, item_stands}
pub use Rattle.swreq_resolve.proofs.DeclaredOrder.{AreRising, rising_after, rising_front, rising_past, rising_sooner, slices_rising, start_of}

-- ---- rising offsets

module _ {A : Type 0} (start : A → ℕ) where
  pub rising_drop : (from n : ℕ) (xs : List A) → AreRising start from xs → AreRising start from (drop n xs)
  rising_drop from zero xs r = r
  rising_drop from (suc n) [] r = tt
  rising_drop from (suc n) (x ∷ xs) r =
      let k = r.0 in rising_sooner start from (suc (start x)) (omega arith) (drop n xs) (rising_drop (suc (start x)) n xs r.1)

  pub starts_from : (from : ℕ) (xs : List A) → AreRising start from xs → (j : ℕ) (y : A) → slice_get xs j ≡ Some y → from ≤ start y
  starts_from from [] r j y e = absurd cc
  starts_from from (x ∷ xs) r zero y e = let k = r.0 in let s = ap start (same_Some x y e) in omega (arith, k, s)
  starts_from from (x ∷ xs) r (suc j) y e = let k = r.0 in let l = starts_from (suc (start x)) xs r.1 j y e in omega arith

  pub starts_before : (from : ℕ) (xs : List A) → AreRising start from xs → (i j : ℕ) (x y : A) → slice_get xs i ≡ Some x
      → slice_get xs j ≡ Some y
      → i < j → start x < start y
  starts_before from [] r i j x y e f l = absurd cc
  starts_before from (z ∷ zs) r i zero x y e f l = absurd (omega arith)
  starts_before from (z ∷ zs) r zero (suc j) x y e f l =
      let s = ap start (same_Some z x e) in let k = starts_from (suc (start z)) zs r.1 j y f in omega (arith, s, k)
  starts_before from (z ∷ zs) r (suc i) (suc j) x y e f l = starts_before (suc (start z)) zs r.1 i j x y e f (omega arith)

-- ---- tokens

pub rising_first : (from : ℕ) (ts a b : Tokens) → ts ≡ a ++ b → AreRising start_of from ts → AreRising start_of from a
rising_first from ts a b s r = rising_front start_of from a b (subst (AreRising start_of from) s r)

pub rising_rest : (from : ℕ) (ts a b : Tokens) → ts ≡ a ++ b → AreRising start_of from ts → AreRising start_of from b
rising_rest from ts a b s r = rising_after start_of from a b (subst (AreRising start_of from) s r)

-- ---- the parts of a text

-- what is picked of the parts, where its start is that of a token of its part
module _ {A : Type 0} (pick : Item → Option A) (start : A → ℕ)
    (stands : (v : Item) (x : A) (ts : Tokens) → pick v ≡ Some x → Stands v ts → Starts (start x) ts) where
  joined : (from : ℕ) (o : Option A) (xs : List A) (a b : Tokens) → AreRising start_of from (a ++ b)
      → ((x : A) → o ≡ Some x → Starts (start x) a)
      → ((to : ℕ) → AreRising start_of to b → AreRising start to xs) → AreRising start from (cons_option o xs)
  joined from None xs a b r starts later = later from (rising_after start_of from a b r)
  joined from (Some x) xs a b r starts later = let q = rising_past from (start x) a b r (starts x refl) in (q.0, later (suc (start x)) q.1)

  pub parts_rising : (from : ℕ) (vs : List Item) (ts : Tokens) → Parts (Matches number lines.item) ts vs → AreRising start_of from ts
      → AreRising start from (filter_map pick vs)
  parts_rising from [] ts e r = tt
  parts_rising from (v ∷ vs) ts (a, b, s, m, ms) r =
      joined from (pick v) (filter_map pick vs) a b (subst (AreRising start_of from) s r) (λ x e. stands v x a e (item_stands a v m))
      (λ to. parts_rising to vs b ms)

  picked_rising : (text : List ℕ) (s : Skeleton)
      → ((ts : List lexed.Token) → HasTokens text ts → AreSlices text (first_offset (chars text)) ts) → (stands_for : StandsFor text s)
      → AreRising start (first_offset (chars text)) (filter_map pick stands_for.2.0)
  unfolding lines.source
  picked_rising text s slices (found, tokens, (parts, m, e)) =
      let from = first_offset (chars text) in
      parts_rising from parts (with_terminals text found) m.0 (slices_rising text from found (slices found tokens))

-- ---- the protocols, the structs and the functions at the top

abbrev pub name_start : ProtocolDecl → ℕ
name_start p = p.name.start

abbrev pub struct_start : StructDecl → ℕ
struct_start t = t.name.start

abbrev pub function_start : FunctionDecl → ℕ
function_start f = f.name.start

protocol_starts : (v : Item) (p : ProtocolDecl) (ts : Tokens) → protocol_of v ≡ Some p → Stands v ts → Starts (name_start p) ts
protocol_starts (items.Protocol q) p ts e h = subst (λ (r : ProtocolDecl). Starts (name_start r) ts) (same_Some q p e) h
protocol_starts (items.Struct t) p ts e h = absurd cc
protocol_starts (items.Function f) p ts e h = absurd cc
protocol_starts (items.Query q) p ts e h = absurd cc

pub struct_starts : (v : Item) (t : StructDecl) (ts : Tokens) → struct_of v ≡ Some t → Stands v ts → Starts (struct_start t) ts
struct_starts (items.Struct u) t ts e h = subst (λ (r : StructDecl). Starts (struct_start r) ts) (same_Some u t e) h
struct_starts (items.Protocol p) t ts e h = absurd cc
struct_starts (items.Function f) t ts e h = absurd cc
struct_starts (items.Query q) t ts e h = absurd cc

pub function_starts : (v : Item) (f : FunctionDecl) (ts : Tokens) → function_of v ≡ Some f → Stands v ts → Starts (function_start f) ts
function_starts (items.Function g) f ts e h = subst (λ (r : FunctionDecl). Starts (function_start r) ts) (same_Some g f e) h
function_starts (items.Protocol p) f ts e h = absurd cc
function_starts (items.Struct t) f ts e h = absurd cc
function_starts (items.Query q) f ts e h = absurd cc

module _ (text : List ℕ) (s : Skeleton)
    (slices : (ts : List lexed.Token) → HasTokens text ts → AreSlices text (first_offset (chars text)) ts) (stands : StandsFor text s) where
  pub protocols_rising : AreRising name_start (first_offset (chars text)) s.protocols
  protocols_rising =
      subst (λ (u : Skeleton). AreRising name_start (first_offset (chars text)) u.protocols) (sym stands.2.2)
      (picked_rising protocol_of name_start protocol_starts text s slices stands)

  pub structs_rising : AreRising struct_start (first_offset (chars text)) s.structs
  structs_rising =
      subst (λ (u : Skeleton). AreRising struct_start (first_offset (chars text)) u.structs) (sym stands.2.2)
      (picked_rising struct_of struct_start struct_starts text s slices stands)

  pub functions_rising : AreRising function_start (first_offset (chars text)) s.functions
  functions_rising =
      subst (λ (u : Skeleton). AreRising function_start (first_offset (chars text)) u.functions) (sym stands.2.2)
      (picked_rising function_of function_start function_starts text s slices stands)

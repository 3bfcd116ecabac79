-- The names of a text stand apart: the functions of a struct in their order, and no struct where a function at the top stands.
use Rattle.std.proofs.Common.{◌≡◌, ℕ, suc, inl, inr, ⊎_elim, List, [], ◌∷◌, ◌++◌, Option, Some, None, Contains, refl, sym, ap, subst, ◌∙◌, arith}
use Rattle.std.proofs.lemmas.List.{append-nil}
use Rattle.std.proofs.lemmas.Option.{same_Some}
use Rattle.std.specs.List.{cons_option, filter_map}
use Rattle.std.specs.Str.{chars}
use Rattle.swreq_param.proofs.swreq_lemmas.Elements.{contains_get}
use Rattle.swreq_param.proofs.swreq_lemmas.Members.{member_cases, no_member}
use Rattle.swreq_lex.specs.declared.token.Token as lexed
use Rattle.swreq_lex.specs.Slices.{AreSlices}
use Rattle.swreq_lex.specs.Tokens.{HasTokens, first_offset}
use Rattle.swreq_lexicon.specs.swreq_grammar.Grammar.{Matches, Parts}
use Rattle.swreq_lexicon.specs.swreq_decl.declared.skeleton.FunctionDecl.{FunctionDecl}
use Rattle.swreq_lexicon.specs.swreq_decl.declared.skeleton.StructDecl.{StructDecl}
use Rattle.swreq_lexicon.specs.swreq_decl.declared.skeleton.Skeleton.{Skeleton}
use Rattle.swreq_lexicon.specs.swreq_decl.declared.skeleton.Item.{Item}
use Rattle.swreq_lexicon.specs.swreq_decl.declared.skeleton.Item.TheVariants as items
use Rattle.swreq_lexicon.specs.swreq_decl.Terminals.{number, with_terminals}
use Rattle.swreq_lexicon.specs.swreq_decl.Source as lines
use Rattle.swreq_lexicon.specs.swreq_decl.Skeletons.{StandsFor, struct_of, function_of}
use Rattle.swreq_resolve.proofs.swreq_decl.SameTexts.{Tokens}
use Rattle.swreq_resolve.proofs.swreq_decl.WrittenOrder.{Starts, starts_left, starts_right, item_stands}
use Rattle.swreq_world.proofs.Offsets.{AreRising, rising_first, rising_past, rising_rest, slices_rising, starts_from, start_of, struct_start, function_start, function_starts, struct_starts, parts_rising}

-- ---- the functions of a struct

function_is_item : (ts : Tokens) (f : FunctionDecl) → Matches number lines.function ts f → Matches number lines.item ts (items.Function f)
unfolding lines.item lines.bare_item lines.declaration lines.semicolon
function_is_item ts f m =
    ((items.Function f, tt), (ts, [], sym (append-nil ts), inr (inl (inr (inl (f, m, refl)))), inr (refl, refl)), refl)

inner_starts : (ts : Tokens) (f : FunctionDecl) → Matches number lines.inner_function ts f → Starts (function_start f) ts
unfolding lines.inner_function
inner_starts ts f (v, (a, b, s, (w, (c, d, r, skip, m), e), end), k) =
    let here = item_stands d (items.Function w.1) (function_is_item d w.1 m) in
    let same : w.1 ≡ f = e ∙ k in
    subst (λ (g : FunctionDecl). Starts (function_start g) ts) same
    (subst (λ us. Starts (function_start w.1) us) (sym (s ∙ ap (λ us. us ++ b) r))
    (starts_left (function_start w.1) (c ++ d) b (starts_right (function_start w.1) c d here)))

inner_rising : (from : ℕ) (fs : List FunctionDecl) (ts : Tokens) → Parts (Matches number lines.inner_function) ts fs
    → AreRising start_of from ts
    → AreRising function_start from fs
inner_rising from [] ts e r = tt
inner_rising from (f ∷ fs) ts (a, b, s, m, ms) r =
    let q = rising_past from (function_start f) a b (subst (AreRising start_of from) s r) (inner_starts a f m) in
    (q.0, inner_rising (suc (function_start f)) fs b ms q.1)

structure_rising : (from : ℕ) (ts : Tokens) (t : StructDecl) → Matches number lines.structure ts t → AreRising start_of from ts
    → AreRising function_start from t.functions
unfolding lines.structure
structure_rising from ts t (
  p,
  (q, (a, b, s, m, (c, d, r, n, (a1, b1, s1, m1, (a2, b2, s2, m2, (v3, (a3, b3, s3, m3, (v4, (a4, b4, s4, m4, m5), e4)), e3))))), e),
  k,
) rising =
    let at_b = rising_rest from ts a b s rising in
    let at_d = rising_rest from b c d r at_b in
    let at_b1 = rising_rest from d a1 b1 s1 at_d in
    let at_b2 = rising_rest from b1 a2 b2 s2 at_b1 in
    let at_b3 = rising_rest from b2 a3 b3 s3 at_b2 in
    let at_a4 = rising_first from b3 a4 b4 s4 at_b3 in
    let same : v4.0 ≡ t.functions = e4 ∙ e3 ∙ ap (λ x. x.1.1.1) e ∙ ap (λ (u : StructDecl). u.functions) k in
    subst (AreRising function_start from) same (inner_rising from v4.0 a4 m4.0 at_a4)

-- The functions of a struct stand in the order of their names.
abbrev pub AreInOrder : StructDecl → Type 0
AreInOrder t = (from : ℕ) × AreRising function_start from t.functions

abbrev HasInOrder : Item → Type 0
HasInOrder (items.Struct t) = AreInOrder t
HasInOrder (items.Protocol p) = Unit {0}
HasInOrder (items.Function f) = Unit {0}
HasInOrder (items.Query q) = Unit {0}

declaration_in_order : (from : ℕ) (ts : Tokens) (v : Item) → Matches number lines.declaration ts v
    → AreRising start_of from ts → HasInOrder v
unfolding lines.declaration
declaration_in_order from ts v (inl (p, m, e)) r = subst HasInOrder e tt
declaration_in_order from ts v (inr (inl (f, m, e))) r = subst HasInOrder e tt
declaration_in_order from ts v (inr (inr (t, m, e))) r = subst HasInOrder e (from, structure_rising from ts t m r)

bare_in_order : (from : ℕ) (ts : Tokens) (v : Item) → Matches number lines.bare_item ts v → AreRising start_of from ts → HasInOrder v
unfolding lines.bare_item
bare_in_order from ts v (inl (w, (a, b, s, m, n), e)) r =
    subst HasInOrder e (declaration_in_order from b w.1 n (rising_rest from ts a b s r))
bare_in_order from ts v (inr (inl m)) r = declaration_in_order from ts v m r
bare_in_order from ts v (inr (inr (q, m, e))) r = subst HasInOrder e tt

item_in_order : (from : ℕ) (ts : Tokens) (v : Item) → Matches number lines.item ts v → AreRising start_of from ts → HasInOrder v
unfolding lines.item
item_in_order from ts v (w, (a, b, s, m, n), e) r = subst HasInOrder e (bare_in_order from a w.0 m (rising_first from ts a b s r))

-- ---- the items of a text

is_struct : (v : Item) (t : StructDecl) → HasInOrder v → struct_of v ≡ Some t → AreInOrder t
is_struct (items.Struct u) t h e = subst AreInOrder (same_Some u t e) h
is_struct (items.Protocol p) t h e = absurd cc
is_struct (items.Function f) t h e = absurd cc
is_struct (items.Query q) t h e = absurd cc

-- what is picked first, or later
pub picked_cases : {A B : Type 0} (o : Option A) (xs : List A) (x : A) → Contains (cons_option o xs) x → ((o ≡ Some x) → B)
    → (Contains xs x → B) → B
picked_cases None xs x c first later = later c
picked_cases (Some y) xs x c first later = ⊎_elim (λ e. first (ap Some (sym e))) later (member_cases y x xs c)

all_in_order : (from : ℕ) (vs : List Item) (ts : Tokens) → Parts (Matches number lines.item) ts vs → AreRising start_of from ts
    → (t : StructDecl) → Contains (filter_map struct_of vs) t → AreInOrder t
all_in_order from [] ts e r t c = no_member t c
all_in_order from (v ∷ vs) ts (a, b, s, m, ms) r t c =
    picked_cases (struct_of v) (filter_map struct_of vs) t c
    (λ e. is_struct v t (item_in_order from a v m (rising_first from ts a b s r)) e)
    (all_in_order from vs b ms (rising_rest from ts a b s r) t)

-- No struct starts where a function at the top does.
apart : (from : ℕ) (vs : List Item) (ts : Tokens) → Parts (Matches number lines.item) ts vs → AreRising start_of from ts
    → (t : StructDecl) (f : FunctionDecl) → Contains (filter_map struct_of vs) t → Contains (filter_map function_of vs) f
    → struct_start t ≡ function_start f → ⊥
apart from [] ts e r t f c d same = no_member t c
apart from (v ∷ vs) ts (a, b, s, m, ms) r t f c d same =
    picked_cases (struct_of v) (filter_map struct_of vs) t c
    (λ e. picked_cases (function_of v) (filter_map function_of vs) f d (λ g. not_both v t f e g)
    (λ k. let past = rising_past from (struct_start t) a b whole (struct_starts v t a e (item_stands a v m)) in
    let later = parts_rising function_of function_start function_starts (suc (struct_start t)) vs b ms past.1 in
    let at = contains_get (filter_map function_of vs) f k in
    let l = starts_from function_start (suc (struct_start t)) (filter_map function_of vs) later at.0 f at.1 in
    omega (arith, l, same)))
    (λ k. picked_cases (function_of v) (filter_map function_of vs) f d
    (λ g. let past = rising_past from (function_start f) a b whole (function_starts v f a g (item_stands a v m)) in
    let later = parts_rising struct_of struct_start struct_starts (suc (function_start f)) vs b ms past.1 in
    let at = contains_get (filter_map struct_of vs) t k in
    let l = starts_from struct_start (suc (function_start f)) (filter_map struct_of vs) later at.0 t at.1 in
    omega (arith, l, same))
    (λ l. apart from vs b ms (rising_rest from ts a b s r) t f k l same))
  where
    whole : AreRising start_of from (a ++ b)
    whole = subst (AreRising start_of from) s r

    not_both : (v : Item) (t : StructDecl) (f : FunctionDecl) → struct_of v ≡ Some t → function_of v ≡ Some f → ⊥
    not_both (items.Struct u) t f e g = absurd cc
    not_both (items.Protocol p) t f e g = absurd cc
    not_both (items.Function h) t f e g = absurd cc
    not_both (items.Query q) t f e g = absurd cc

module _ (text : List ℕ) (s : Skeleton)
    (slices : (ts : List lexed.Token) → HasTokens text ts → AreSlices text (first_offset (chars text)) ts) where
  pub functions_in_order : StandsFor text s → (t : StructDecl) → Contains s.structs t → AreInOrder t
  unfolding lines.source
  functions_in_order (found, tokens, (parts, m, e)) t c =
      let from = first_offset (chars text) in
      all_in_order from parts (with_terminals text found) m.0 (slices_rising text from found (slices found tokens)) t
      (subst (λ (u : Skeleton). Contains u.structs t) e c)

  pub structs_apart : StandsFor text s → (t : StructDecl) (f : FunctionDecl) → Contains s.structs t → Contains s.functions f
      → struct_start t ≡ function_start f → ⊥
  unfolding lines.source
  structs_apart (found, tokens, (parts, m, e)) t f c d =
      let from = first_offset (chars text) in
      apart from parts (with_terminals text found) m.0 (slices_rising text from found (slices found tokens)) t f
      (subst (λ (u : Skeleton). Contains u.structs t) e c) (subst (λ (u : Skeleton). Contains u.functions f) e d)

-- The generic parameters of a text stand in the order of their names, and those of a struct before those of its functions.
use Rattle.std.proofs.Common.{◌≡◌, ℕ, suc, inl, inr, ⊎_elim, List, [], ◌∷◌, Option, Some, Contains, sym, ap, subst, ◌∙◌}
use Rattle.std.proofs.lemmas.Option.{same_Some}
use Rattle.std.specs.List.{filter_map}
use Rattle.std.specs.Str.{chars}
use Rattle.swreq_param.proofs.swreq_lemmas.Members.{member_cases, no_member}
use Rattle.swreq_lex.specs.declared.token.Token as lexed
use Rattle.swreq_lex.specs.Slices.{AreSlices}
use Rattle.swreq_lex.specs.Tokens.{HasTokens, first_offset}
use Rattle.swreq_lexicon.specs.swreq_grammar.Grammar.{Matches, Parts, terminal}
use Rattle.swreq_lexicon.specs.swreq_decl.declared.terminal.Terminal.TheVariants.{Comma}
use Rattle.swreq_lexicon.specs.swreq_decl.declared.skeleton.FunctionDecl.{FunctionDecl}
use Rattle.swreq_lexicon.specs.swreq_decl.declared.skeleton.ParamDecl.{ParamDecl}
use Rattle.swreq_lexicon.specs.swreq_decl.declared.skeleton.StructDecl.{StructDecl}
use Rattle.swreq_lexicon.specs.swreq_decl.declared.skeleton.Skeleton.{Skeleton}
use Rattle.swreq_lexicon.specs.swreq_decl.declared.skeleton.Item.{Item}
use Rattle.swreq_lexicon.specs.swreq_decl.declared.skeleton.Item.TheVariants as items
use Rattle.swreq_lexicon.specs.swreq_decl.Terminals.{number, with_terminals}
use Rattle.swreq_lexicon.specs.swreq_decl.Source as lines
use Rattle.swreq_lexicon.specs.swreq_decl.Source.{after}
use Rattle.swreq_lexicon.specs.swreq_decl.Skeletons.{StandsFor, struct_of, function_of}
use Rattle.swreq_resolve.proofs.swreq_decl.SameTexts.{Tokens}
use Rattle.swreq_resolve.proofs.swreq_decl.WrittenOrder.{Starts, starts_left, starts_right, name_starts}
use Rattle.swreq_world.proofs.Apart.{picked_cases}
use Rattle.swreq_world.proofs.Offsets.{AreRising, rising_first, rising_past, rising_rest, slices_rising, start_of}

abbrev pub param_start : ParamDecl → ℕ
param_start p = p.name.start

-- ---- generic parameters

param_starts : (ts : Tokens) (p : ParamDecl) → Matches number lines.param ts p → Starts (param_start p) ts
unfolding lines.param
param_starts ts p (v, (a, b, s, m, n), e) =
    subst (λ (q : ParamDecl). Starts (param_start q) ts) e
    (subst (λ (us : Tokens). Starts v.0.start us) (sym s) (starts_left v.0.start a b (name_starts a v.0 m)))

next_starts : (ts : Tokens) (p : ParamDecl) → Matches number (after (terminal (Comma ∷ [])) lines.param) ts p → Starts (param_start p) ts
next_starts ts p (v, (a, b, s, m, n), e) =
    subst (λ (q : ParamDecl). Starts (param_start q) ts) e
    (subst (λ (us : Tokens). Starts (param_start v.1) us) (sym s) (starts_right (param_start v.1) a b (param_starts b v.1 n)))

-- They stand in order, and each of them in the tokens.
record StandIn (from : ℕ) (ts : Tokens) (ps : List ParamDecl) : Type 0 where
  rising : AreRising param_start from ps
  within : (p : ParamDecl) → Contains ps p → Starts (param_start p) ts

next_stand : (from : ℕ) (ps : List ParamDecl) (ts : Tokens) → Parts (Matches number (after (terminal (Comma ∷ [])) lines.param)) ts ps
    → AreRising start_of from ts
    → StandIn from ts ps
next_stand from [] ts e r = record { rising = tt; within = λ p c. no_member p c }
next_stand from (p ∷ ps) ts (a, b, s, m, ms) r =
    let past = rising_past from (param_start p) a b (subst (AreRising start_of from) s r) (next_starts a p m) in
    let more = next_stand (suc (param_start p)) ps b ms past.1 in
    record {
      rising = (past.0, more.rising);
      within = λ q c. subst (Starts (param_start q)) (sym s)
          (⊎_elim (λ e. starts_left (param_start q) a b (subst (λ (x : ParamDecl). Starts (param_start x) a) (sym e) (next_starts a p m)))
          (λ k. starts_right (param_start q) a b (more.within q k)) (member_cases p q ps c));
    }

listed_stand : (from : ℕ) (ts : Tokens) (ps : List ParamDecl) → Matches number (lines.separated (Comma ∷ []) lines.param) ts ps
    → AreRising start_of from ts → StandIn from ts ps
listed_stand from ts ps (v, (a, b, s, m, n), e) r =
    let past = rising_past from (param_start v.0) a b (subst (AreRising start_of from) s r) (param_starts a v.0 m) in
    let more = next_stand (suc (param_start v.0)) v.1 b n.0 past.1 in
    subst (StandIn from ts) e (record {
      rising = (past.0, more.rising);
      within = λ q c. subst (Starts (param_start q)) (sym s)
          (⊎_elim (λ e.
          starts_left (param_start q) a b (subst (λ (x : ParamDecl). Starts (param_start x) a) (sym e) (param_starts a v.0 m)))
          (λ k. starts_right (param_start q) a b (more.within q k)) (member_cases v.0 q v.1 c));
    })

params_stand : (from : ℕ) (ts : Tokens) (ps : List ParamDecl) → Matches number lines.params ts ps
    → AreRising start_of from ts → StandIn from ts ps
unfolding lines.params lines.generics
params_stand from ts ps (inl (v, (a, b, s, m, (w, (c, d, t, n, k), f)), e)) r =
    let stand = listed_stand from c w.0 n (rising_first from b c d t (rising_rest from ts a b s r)) in
    subst (StandIn from ts) (f ∙ e) (record {
      rising = stand.rising;
      within = λ q h. subst (Starts (param_start q)) (sym s)
          (starts_right (param_start q) a b (subst (Starts (param_start q)) (sym t) (starts_left (param_start q) c d (stand.within q h))));
    })
params_stand from ts ps (inr (e, f)) r = subst (StandIn from ts) f (record { rising = tt; within = λ p c. no_member p c })

-- ---- functions and structs

function_params : (from : ℕ) (ts : Tokens) (f : FunctionDecl) → Matches number lines.function ts f → AreRising start_of from ts
    → AreRising param_start from f.params
unfolding lines.function
function_params from ts f (p, (q, (a, b, s, m, (c, d, r, n, (a1, b1, s1, m1, rest))), e), k) rising =
    let at_d = rising_rest from b c d r (rising_rest from ts a b s rising) in
    let same : q.1.1.0 ≡ f.params = ap (λ x. x.1.0) e ∙ ap (λ (g : FunctionDecl). g.params) k in
    subst (AreRising param_start from) same (params_stand from a1 q.1.1.0 m1 (rising_first from d a1 b1 s1 at_d)).rising

inner_params : (from : ℕ) (ts : Tokens) (f : FunctionDecl) → Matches number lines.inner_function ts f → AreRising start_of from ts
    → AreRising param_start from f.params
unfolding lines.inner_function
inner_params from ts f (v, (a, b, s, (w, (c, d, r, skip, m), e), end), k) rising =
    let at_d = rising_rest from a c d r (rising_first from ts a b s rising) in
    let same : w.1 ≡ f = e ∙ k in
    subst (λ (g : FunctionDecl). AreRising param_start from g.params) same (function_params from d w.1 m at_d)

each_inner : (from : ℕ) (fs : List FunctionDecl) (ts : Tokens) → Parts (Matches number lines.inner_function) ts fs
    → AreRising start_of from ts
    → (f : FunctionDecl) → Contains fs f → AreRising param_start from f.params
each_inner from [] ts e r f c = no_member f c
each_inner from (g ∷ fs) ts (a, b, s, m, ms) r f c =
    ⊎_elim (λ e.
    subst (λ (h : FunctionDecl). AreRising param_start from h.params) (sym e) (inner_params from a g m (rising_first from ts a b s r)))
    (λ k. each_inner from fs b ms (rising_rest from ts a b s r) f k) (member_cases g f fs c)

-- The generic parameters of a struct and of its functions are in order, and those of a function come after the struct's.
pub record AreParamsInOrder (t : StructDecl) : Type 0 where
  pub from : ℕ
  pub own : AreRising param_start from t.params
  pub inner : (f : FunctionDecl) → Contains t.functions f → AreRising param_start from f.params
  pub later : (p : ParamDecl) → Contains t.params p → (f : FunctionDecl) → Contains t.functions f
      → AreRising param_start (suc (param_start p)) f.params

structure_params : (from : ℕ) (ts : Tokens) (t : StructDecl) → Matches number lines.structure ts t
    → AreRising start_of from ts → AreParamsInOrder t
unfolding lines.structure
structure_params from ts t (
  p,
  (q, (a, b, s, m, (c, d, r, n, (a1, b1, s1, m1, (a2, b2, s2, m2, (v3, (a3, b3, s3, m3, (v4, (a4, b4, s4, m4, m5), e4)), e3))))), e),
  k,
) rising =
    let at_d = rising_rest from b c d r (rising_rest from ts a b s rising) in
    let stand = params_stand from a1 q.1.1.0 m1 (rising_first from d a1 b1 s1 at_d) in
    let params : q.1.1.0 ≡ t.params = ap (λ x. x.1.0) e ∙ ap (λ (u : StructDecl). u.params) k in
    let functions : v4.0 ≡ t.functions = e4 ∙ e3 ∙ ap (λ x. x.1.1.1) e ∙ ap (λ (u : StructDecl). u.functions) k in
    let in_body =
    λ (to : ℕ) (l : AreRising start_of to b1). rising_first to b3 a4 b4 s4 (rising_rest to b2 a3 b3 s3 (rising_rest to b1 a2 b2 s2 l)) in
    record {
      from = from;
      own = subst (AreRising param_start from) params stand.rising;
      inner = λ f h.
          each_inner from v4.0 a4 m4.0 (in_body from (rising_rest from d a1 b1 s1 at_d)) f (subst (λ fs. Contains fs f) (sym functions) h);
      later = λ x g f h.
          let past = rising_past from (param_start x) a1 b1 (subst (AreRising start_of from) s1 at_d)
          (stand.within x (subst (λ ps. Contains ps x) (sym params) g)) in
          each_inner (suc (param_start x)) v4.0 a4 m4.0 (in_body (suc (param_start x)) past.1) f
          (subst (λ fs. Contains fs f) (sym functions) h);
    }

-- ---- the items of a text

abbrev HasParamsInOrder : Item → Type 0
HasParamsInOrder (items.Struct t) = AreParamsInOrder t
HasParamsInOrder (items.Function f) = (from : ℕ) × AreRising param_start from f.params
HasParamsInOrder (items.Protocol p) = Unit {0}
HasParamsInOrder (items.Query q) = Unit {0}

in_declaration : (from : ℕ) (ts : Tokens) (v : Item) → Matches number lines.declaration ts v
    → AreRising start_of from ts → HasParamsInOrder v
unfolding lines.declaration
in_declaration from ts v (inl (p, m, e)) r = subst HasParamsInOrder e tt
in_declaration from ts v (inr (inl (f, m, e))) r = subst HasParamsInOrder e (from, function_params from ts f m r)
in_declaration from ts v (inr (inr (t, m, e))) r = subst HasParamsInOrder e (structure_params from ts t m r)

in_bare_item : (from : ℕ) (ts : Tokens) (v : Item) → Matches number lines.bare_item ts v → AreRising start_of from ts → HasParamsInOrder v
unfolding lines.bare_item
in_bare_item from ts v (inl (w, (a, b, s, m, n), e)) r =
    subst HasParamsInOrder e (in_declaration from b w.1 n (rising_rest from ts a b s r))
in_bare_item from ts v (inr (inl m)) r = in_declaration from ts v m r
in_bare_item from ts v (inr (inr (q, m, e))) r = subst HasParamsInOrder e tt

in_item : (from : ℕ) (ts : Tokens) (v : Item) → Matches number lines.item ts v → AreRising start_of from ts → HasParamsInOrder v
unfolding lines.item
in_item from ts v (w, (a, b, s, m, n), e) r = subst HasParamsInOrder e (in_bare_item from a w.0 m (rising_first from ts a b s r))

of_struct : (v : Item) (t : StructDecl) → HasParamsInOrder v → struct_of v ≡ Some t → AreParamsInOrder t
of_struct (items.Struct u) t h e = subst AreParamsInOrder (same_Some u t e) h
of_struct (items.Protocol p) t h e = absurd cc
of_struct (items.Function f) t h e = absurd cc
of_struct (items.Query q) t h e = absurd cc

of_function : (v : Item) (f : FunctionDecl) → HasParamsInOrder v → function_of v ≡ Some f → (from : ℕ) × AreRising param_start from f.params
of_function (items.Function g) f h e = subst (λ (k : FunctionDecl). (from : ℕ) × AreRising param_start from k.params) (same_Some g f e) h
of_function (items.Protocol p) f h e = absurd cc
of_function (items.Struct t) f h e = absurd cc
of_function (items.Query q) f h e = absurd cc

-- what holds of each that is picked
module _ {A : Type 0} (pick : Item → Option A) (Holds : A → Type 0)
    (holds : (v : Item) (x : A) → HasParamsInOrder v → pick v ≡ Some x → Holds x) where
  each_picked : (from : ℕ) (vs : List Item) (ts : Tokens) → Parts (Matches number lines.item) ts vs → AreRising start_of from ts
      → (x : A) → Contains (filter_map pick vs) x → Holds x
  each_picked from [] ts e r x c = no_member x c
  each_picked from (v ∷ vs) ts (a, b, s, m, ms) r x c =
      picked_cases (pick v) (filter_map pick vs) x c
      (λ e. holds v x (in_item from a v m (rising_first from ts a b s r)) e)
      (λ k. each_picked from vs b ms (rising_rest from ts a b s r) x k)

module _ (text : List ℕ) (s : Skeleton)
    (slices : (ts : List lexed.Token) → HasTokens text ts → AreSlices text (first_offset (chars text)) ts) where
  pub struct_params_in_order : StandsFor text s → (t : StructDecl) → Contains s.structs t → AreParamsInOrder t
  unfolding lines.source
  struct_params_in_order (found, tokens, (parts, m, e)) t c =
      let from = first_offset (chars text) in
      each_picked struct_of AreParamsInOrder of_struct from parts (with_terminals text found) m.0
      (slices_rising text from found (slices found tokens)) t
      (subst (λ (u : Skeleton). Contains u.structs t) e c)

  pub function_params_in_order : StandsFor text s → (f : FunctionDecl) → Contains s.functions f
      → (from : ℕ) × AreRising param_start from f.params
  unfolding lines.source
  function_params_in_order (found, tokens, (parts, m, e)) f c =
      let from = first_offset (chars text) in
      each_picked function_of (λ (g : FunctionDecl). (from : ℕ) × AreRising param_start from g.params) of_function from parts
      (with_terminals text found) m.0
      (slices_rising text from found (slices found tokens)) f (subst (λ (u : Skeleton). Contains u.functions f) e c)

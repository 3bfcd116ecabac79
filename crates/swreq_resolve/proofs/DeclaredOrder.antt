-- The names that a text declares stand in order in their lists.
use Rattle.std.proofs.Common.{◌≡◌, ℕ, zero, suc, ◌≤◌, inl, inr, ⊎_elim, List, [], ◌∷◌, ◌++◌, map, get_or, Contains, sym, ap, subst, ◌∙◌, arith}
use Rattle.std.specs.List.{AllByRecursion, filter_map}
use Rattle.std.specs.Str.{chars}
use Rattle.swreq_names.proofs.swreq_lemmas.Members.{no_member, first_member, later_member, member_cases}
use Rattle.swreq_lex.specs.declared.token.Token as lexed
use Rattle.swreq_lex.specs.Slices.{AreSlices, next}
use Rattle.swreq_lex.specs.Tokens.{HasTokens, first_offset}
use Rattle.swreq_decl.specs.swreq_grammar.declared.token.Token.{Token}
use Rattle.swreq_decl.specs.swreq_grammar.Grammar.{Limit, Matches, Parts, terminal, mapped, sequence, alternative, repetition}
use Rattle.swreq_decl.specs.declared.terminal.Terminal.{Terminal}
use Rattle.swreq_decl.specs.declared.kind.Kind.{Kind}
use Rattle.swreq_decl.specs.declared.skeleton.Span.{Span}
use Rattle.swreq_decl.specs.declared.skeleton.AssocDecl.{AssocDecl}
use Rattle.swreq_decl.specs.declared.skeleton.ProtocolDecl.{ProtocolDecl}
use Rattle.swreq_decl.specs.declared.skeleton.ParamDecl.{ParamDecl}
use Rattle.swreq_decl.specs.declared.skeleton.FunctionDecl.{FunctionDecl}
use Rattle.swreq_decl.specs.declared.skeleton.StructDecl.{StructDecl}
use Rattle.swreq_decl.specs.declared.skeleton.Item.{Item}
use Rattle.swreq_decl.specs.declared.skeleton.Item.TheVariants as items
use Rattle.swreq_decl.specs.declared.skeleton.Skeleton.{Skeleton}
use Rattle.swreq_decl.specs.Terminals.{number, with_terminals}
use Rattle.swreq_decl.specs.Source as lines
use Rattle.swreq_decl.specs.Source.{Line, after, before, or_else, separated, in_angles}
use Rattle.swreq_decl.specs.Skeletons.{StandsFor, struct_of, function_of, skeleton_of}
use Rattle.swreq_decl.proofs.SameTexts.{Tokens}
use Rattle.swreq_decl.proofs.WrittenOrder.{Starts, starts_left, starts_right, item_stands}
use Rattle.swreq_names.specs.declared.directory.Declaration.{Declaration}
use Rattle.swreq_names.specs.declared.signature.Signature.{Signature}
use Rattle.swreq_names.specs.declared.signature.Signature.TheVariants.{Struct, Function, Nested}
use Rattle.swreq_names.specs.Spaces.{declaration, declarations, of_params, own_params, outer_params, spaces}
use Rattle.swreq_resolve.proofs.Meaning.{AreInOrder, IsInOrder}

-- ---- rising offsets

module _ {A : Type 0} (start : A → ℕ) where
  -- Each item starts before those after it, and none before the offset.
  abbrev pub AreRising : ℕ → List A → Type 0
  AreRising from [] = Unit {0}
  AreRising from (x ∷ xs) = (from ≤ start x) × AreRising (suc (start x)) xs

  pub rising_sooner : (from to : ℕ) → from ≤ to → (xs : List A) → AreRising to xs → AreRising from xs
  rising_sooner from to l [] r = tt
  rising_sooner from to l (x ∷ xs) r = (let k = r.0 in omega arith, r.1)

  pub rising_front : (from : ℕ) (xs ys : List A) → AreRising from (xs ++ ys) → AreRising from xs
  rising_front from [] ys r = tt
  rising_front from (x ∷ xs) ys r = (r.0, rising_front (suc (start x)) xs ys r.1)

  pub rising_after : (from : ℕ) (xs ys : List A) → AreRising from (xs ++ ys) → AreRising from ys
  rising_after from [] ys r = r
  rising_after from (x ∷ xs) ys r =
      let k = r.0 in rising_sooner from (suc (start x)) (omega arith) ys (rising_after (suc (start x)) xs ys r.1)

-- ---- tokens

abbrev pub start_of : Token Terminal → ℕ
start_of t = t.start

abbrev Rising : ℕ → Tokens → Type 0
Rising from ts = AreRising start_of from ts

pub slices_rising : (text : List ℕ) (from : ℕ) (ts : List lexed.Token) → AreSlices text from ts → Rising from (with_terminals text ts)
slices_rising text from [] s = tt
slices_rising text from (t ∷ ts) (next a b c d e s) =
    (a, rising_sooner start_of (suc t.start) t.end (omega arith) (with_terminals text ts) (slices_rising text t.end ts s))

-- What comes after tokens starts after each of them.
pub rising_past : (from n : ℕ) (xs ys : Tokens) → Rising from (xs ++ ys) → Starts n xs → (from ≤ n) × Rising (suc n) ys
rising_past from n [] ys r h = absurd h
rising_past from n (t ∷ xs) ys r (inl e) =
    let k = r.0 in
    (omega arith, rising_sooner start_of (suc n) (suc t.start) (omega arith) ys (rising_after start_of (suc t.start) xs ys r.1))
rising_past from n (t ∷ xs) ys r (inr h) =
    let k = r.0 in let p = rising_past (suc t.start) n xs ys r.1 h in let l = p.0 in (omega arith, p.1)

rising_parts : (from : ℕ) (ts a b : Tokens) → ts ≡ a ++ b → Rising from ts → Rising from a × Rising from b
rising_parts from ts a b e r = let s = subst (Rising from) e r in (rising_front start_of from a b s, rising_after start_of from a b s)

-- ---- lines

-- What a text of the line stands for has a name that is one of its tokens.
record Begins {A : Type 0} (g : Line A) (start : A → ℕ) : Type 0 where
  at : (ts : Tokens) (v : A) → Matches number g ts v → Starts (start v) ts

-- What a text of the line stands for has this, where its tokens stand in order.
record Keeps {A : Type 0} (g : Line A) (Is : A → Type 0) : Type 0 where
  holds : (from : ℕ) (ts : Tokens) (v : A) → Rising from ts → Matches number g ts v → Is v

begins_first : {A B : Type 0} {g : Line A} {h : Line B} {start : A → ℕ} → Begins g start → Begins (sequence g h) (λ p. start p.0)
begins_first {start} b = record {
  at = λ ts p m. subst (λ us. Starts (start p.0) us) (sym m.2) (starts_left (start p.0) m.0 m.1 (b.at m.0 p.0 m.3));
}

begins_second : {A B : Type 0} {g : Line A} {h : Line B} {start : B → ℕ} → Begins h start → Begins (sequence g h) (λ p. start p.1)
begins_second {start} b = record {
  at = λ ts p m. subst (λ us. Starts (start p.1) us) (sym m.2) (starts_right (start p.1) m.0 m.1 (b.at m.1 p.1 m.4));
}

begins_mapped : {A B : Type 0} {f : A → B} {g : Line A} {start : B → ℕ} → Begins g (λ v. start (f v)) → Begins (mapped f g) start
begins_mapped {start} b = record { at = λ ts w m. subst (λ v. Starts (start v) ts) m.2 (b.at ts m.0 m.1) }

begins_after : {A B : Type 0} {g : Line A} {h : Line B} {start : B → ℕ} → Begins h start → Begins (after g h) start
begins_after b = begins_mapped (begins_second b)

begins_before : {A B : Type 0} {g : Line A} {h : Line B} {start : A → ℕ} → Begins g start → Begins (before g h) start
begins_before b = begins_mapped (begins_first b)

none : {A : Type 0} {g : Line A} → Keeps g (λ v. Unit {0})
none = record { holds = λ from ts v r m. tt }

at_both : {A B : Type 0} {g : Line A} {h : Line B} {Is : A → Type 0} {Js : B → Type 0} → Keeps g Is → Keeps h Js
    → Keeps (sequence g h) (λ p. Is p.0 × Js p.1)
at_both p q = record {
  holds = λ from ts v r m. let k = rising_parts from ts m.0 m.1 m.2 r in (p.holds from m.0 v.0 k.0 m.3, q.holds from m.1 v.1 k.1 m.4);
}

at_second : {A B : Type 0} {g : Line A} {h : Line B} {Js : B → Type 0} → Keeps h Js → Keeps (sequence g h) (λ p. Js p.1)
at_second q = record { holds = λ from ts v r m. let k = rising_parts from ts m.0 m.1 m.2 r in q.holds from m.1 v.1 k.1 m.4 }

at_first : {A B : Type 0} {g : Line A} {h : Line B} {Is : A → Type 0} → Keeps g Is → Keeps (sequence g h) (λ p. Is p.0)
at_first p = record { holds = λ from ts v r m. let k = rising_parts from ts m.0 m.1 m.2 r in p.holds from m.0 v.0 k.0 m.3 }

at_mapped : {A B : Type 0} {f : A → B} {g : Line A} {Is : B → Type 0} → Keeps g (λ v. Is (f v)) → Keeps (mapped f g) Is
at_mapped {Is} p = record { holds = λ from ts w r m. subst Is m.2 (p.holds from ts m.0 r m.1) }

at_alternative : {A : Type 0} {g h : Line A} {Is : A → Type 0} → Keeps g Is → Keeps h Is → Keeps (alternative g h) Is
at_alternative p q = record { holds = λ from ts v r m. ⊎_elim (p.holds from ts v r) (q.holds from ts v r) m }

at_after : {A B : Type 0} {g : Line A} {h : Line B} {Is : B → Type 0} → Keeps h Is → Keeps (after g h) Is
at_after p = at_mapped (at_second p)

at_before : {A B : Type 0} {g : Line A} {h : Line B} {Is : A → Type 0} → Keeps g Is → Keeps (before g h) Is
at_before p = at_mapped (at_first p)

at_or_else : {A : Type 0} {default : A} {g : Line A} {Is : A → Type 0} → Is default → Keeps g Is → Keeps (or_else default g) Is
at_or_else {Is} d p = at_alternative p (record { holds = λ from ts v r m. subst Is m.1 d })

at_twice : {A : Type 0} {g : Line A} {Is Js : A → Type 0} → Keeps g Is → Keeps g Js → Keeps g (λ v. Is v × Js v)
at_twice p q = record { holds = λ from ts v r m. (p.holds from ts v r m, q.holds from ts v r m) }

each_part : {A : Type 0} (g : Line A) (Is : A → Type 0) → Keeps g Is → (from : ℕ) (ts : Tokens) (vs : List A) → Rising from ts
    → Parts (Matches number g) ts vs → AllByRecursion Is vs
each_part g Is p from ts [] r e = tt
each_part g Is p from ts (v ∷ vs) r (a, b, s, m, ms) =
    let k = rising_parts from ts a b s r in (p.holds from a v k.0 m, each_part g Is p from b vs k.1 ms)

at_each : {A : Type 0} {limit : Limit Kind} {g : Line A} {Is : A → Type 0} → Keeps g Is → Keeps (repetition limit g) (AllByRecursion Is)
at_each {A} {limit} {g} {Is} p = record { holds = λ from ts vs r m. each_part g Is p from ts vs r m.0 }

-- the names of the parts of a repetition
names_rising : {A : Type 0} (g : Line A) (start : A → ℕ) → Begins g start → (from : ℕ) (ts : Tokens) (vs : List A) → Rising from ts
    → Parts (Matches number g) ts vs → AreRising start from vs
names_rising g start b from ts [] r e = tt
names_rising g start b from ts (v ∷ vs) r (first, rest, s, m, ms) =
    let q = rising_past from (start v) first rest (subst (Rising from) s r) (b.at first v m) in
    (q.0, names_rising g start b (suc (start v)) rest vs q.1 ms)

rising_in : {A : Type 0} {limit : Limit Kind} {g : Line A} {start : A → ℕ} → Begins g start → Keeps (repetition limit g) (AreRising start 0)
rising_in {A} {limit} {g} {start} b = record {
  holds = λ from ts vs r m. rising_sooner start 0 from (omega arith) vs (names_rising g start b from ts vs r m.0);
}

rising_separated : {A : Type 0} {ss : List Terminal} {g : Line A} {start : A → ℕ} → Begins g start
    → Keeps (separated ss g) (AreRising start 0)
rising_separated {A} {ss} {g} {start} b = at_mapped (record {
  holds = λ from ts v r m.
      let q = rising_past from (start v.0) m.0 m.1 (subst (Rising from) m.2 r) (b.at m.0 v.0 m.3) in
      (omega arith, names_rising (after (terminal ss) g) start (begins_after b) (suc (start v.0)) m.1 v.1 q.1 m.4.0);
})

rising_in_angles : {A : Type 0} {g : Line A} {start : A → ℕ} → Begins g start → Keeps (in_angles g) (AreRising start 0)
rising_in_angles b = at_after (at_before (rising_separated b))

-- ---- the lines of the source

abbrev pub span_start : Span → ℕ
span_start s = s.start

abbrev pub member_start : AssocDecl → ℕ
member_start m = m.name.start

abbrev pub protocol_start : ProtocolDecl → ℕ
protocol_start p = p.name.start

abbrev pub param_start : ParamDecl → ℕ
param_start g = g.name.start

abbrev pub function_start : FunctionDecl → ℕ
function_start f = f.name.start

abbrev pub struct_start : StructDecl → ℕ
struct_start t = t.name.start

-- The names that a part declares stand in order.
abbrev pub IsRisenProtocol : ProtocolDecl → Type 0
IsRisenProtocol p = AreRising span_start 0 p.primaries × AreRising member_start 0 p.members

abbrev pub IsRisenFunction : FunctionDecl → Type 0
IsRisenFunction f = AreRising param_start 0 f.params

abbrev pub IsRisenStruct : StructDecl → Type 0
IsRisenStruct t = AreRising param_start 0 t.params × (AreRising function_start 0 t.functions × AllByRecursion IsRisenFunction t.functions)

abbrev IsRisenItem : Item → Type 0
IsRisenItem (items.Protocol p) = IsRisenProtocol p
IsRisenItem (items.Struct t) = IsRisenStruct t
IsRisenItem (items.Function f) = IsRisenFunction f
IsRisenItem (items.Query q) = Unit {0}

name_begins : Begins lines.name span_start
unfolding lines.name
name_begins = record { at = λ ts s m. subst (λ us. Starts s.start us) (sym m.1.0) (inl (sym (ap (λ (x : Span). x.start) m.2))) }

member_begins : Begins lines.member member_start
unfolding lines.member
member_begins = begins_mapped (begins_after (begins_first name_begins))

param_begins : Begins lines.param param_start
unfolding lines.param
param_begins = begins_mapped (begins_first name_begins)

function_begins : Begins lines.function function_start
unfolding lines.function
function_begins = begins_mapped (begins_after (begins_first name_begins))

inner_begins : Begins lines.inner_function function_start
unfolding lines.inner_function
inner_begins = begins_before (begins_after function_begins)

primaries_risen : Keeps lines.primary_names (AreRising span_start 0)
unfolding lines.primary_names lines.primaries
primaries_risen = at_or_else tt (rising_in_angles name_begins)

params_risen : Keeps lines.params (AreRising param_start 0)
unfolding lines.params lines.generics
params_risen = at_or_else tt (rising_in_angles param_begins)

protocol_risen : Keeps lines.protocol IsRisenProtocol
unfolding lines.protocol
protocol_risen =
    at_mapped (at_after (at_second (at_both primaries_risen (at_second (at_second (at_after (at_before (rising_in member_begins))))))))

function_risen : Keeps lines.function IsRisenFunction
unfolding lines.function
function_risen = at_mapped (at_after (at_second (at_first params_risen)))

inner_risen : Keeps lines.inner_function IsRisenFunction
unfolding lines.inner_function
inner_risen = at_before (at_after function_risen)

structure_risen : Keeps lines.structure IsRisenStruct
unfolding lines.structure
structure_risen =
    at_mapped (at_after
    (at_second (at_both params_risen (at_second (at_after (at_before (at_twice (rising_in inner_begins) (at_each inner_risen))))))))

declaration_risen : Keeps lines.declaration IsRisenItem
unfolding lines.declaration
declaration_risen = at_alternative (at_mapped protocol_risen) (at_alternative (at_mapped function_risen) (at_mapped structure_risen))

bare_item_risen : Keeps lines.bare_item IsRisenItem
unfolding lines.bare_item
bare_item_risen = at_alternative (at_after declaration_risen) (at_alternative declaration_risen (at_mapped none))

item_risen : Keeps lines.item IsRisenItem
unfolding lines.item
item_risen = at_before bare_item_risen

-- ---- skeletons

-- No two have one place.
abbrev pub AreApart : List StructDecl → List FunctionDecl → Type 0
AreApart ts fs = (t : StructDecl) (f : FunctionDecl) → Contains ts t → Contains fs f → struct_start t ≡ function_start f → ⊥

starts_from : {A : Type 0} (start : A → ℕ) (from : ℕ) (xs : List A) → AreRising start from xs → (y : A) → Contains xs y → from ≤ start y
starts_from start from [] r y c = no_member y c
starts_from start from (x ∷ xs) r y c =
    ⊎_elim (λ e. let k = r.0 in let s = ap start e in omega (arith, k, s))
    (λ h. let k = r.0 in let l = starts_from start (suc (start x)) xs r.1 y h in omega (arith, k, l)) (member_cases x y xs c)

one_more_struct : (t : StructDecl) (ts : List StructDecl) (fs : List FunctionDecl)
    → AreRising function_start (suc (struct_start t)) fs → AreApart ts fs
    → AreApart (t ∷ ts) fs
one_more_struct t ts fs r a u f c d e =
    ⊎_elim (λ s. let l = starts_from function_start (suc (struct_start t)) fs r f d in let z = ap struct_start s in omega (arith, l, z, e))
    (λ h. a u f h d e) (member_cases t u ts c)

one_more_function : (f : FunctionDecl) (ts : List StructDecl) (fs : List FunctionDecl)
    → AreRising struct_start (suc (function_start f)) ts → AreApart ts fs
    → AreApart ts (f ∷ fs)
one_more_function f ts fs r a t g c d e =
    ⊎_elim (λ s.
    let l = starts_from struct_start (suc (function_start f)) ts r t c in let z = ap function_start s in omega (arith, l, z, e))
    (λ h. a t g c h e) (member_cases f g fs d)

-- The names that the parts of a skeleton declare stand in order, and so do the names of the parts of each kind.
pub record IsRisen (from : ℕ) (s : Skeleton) : Type 0 where
  pub protocols : AreRising protocol_start from s.protocols
  pub structs : AreRising struct_start from s.structs
  pub functions : AreRising function_start from s.functions
  pub each_protocol : AllByRecursion IsRisenProtocol s.protocols
  pub each_struct : AllByRecursion IsRisenStruct s.structs
  pub each_function : AllByRecursion IsRisenFunction s.functions
  pub apart : AreApart s.structs s.functions

sooner : (from to : ℕ) → from ≤ to → (s : Skeleton) → IsRisen to s → IsRisen from s
sooner from to l s r = record {
  protocols = rising_sooner protocol_start from to l s.protocols r.protocols;
  structs = rising_sooner struct_start from to l s.structs r.structs;
  functions = rising_sooner function_start from to l s.functions r.functions;
  each_protocol = r.each_protocol;
  each_struct = r.each_struct;
  each_function = r.each_function;
  apart = r.apart;
}

parts_risen : (from : ℕ) (vs : List Item) (ts : Tokens) → Parts (Matches number lines.item) ts vs → Rising from ts
    → IsRisen from (skeleton_of vs)
parts_risen from [] ts e r = record {
  protocols = tt;
  structs = tt;
  functions = tt;
  each_protocol = tt;
  each_struct = tt;
  each_function = tt;
  apart = λ t f c d e. no_member t c;
}
parts_risen from (items.Protocol p ∷ vs) ts (a, b, s, m, ms) r =
    let k = rising_parts from ts a b s r in
    let q = rising_past from p.name.start a b (subst (Rising from) s r) (item_stands a (items.Protocol p) m) in
    let all = parts_risen (suc p.name.start) vs b ms q.1 in
    let less = q.0 in
    let more = sooner from (suc p.name.start) (omega arith) (skeleton_of vs) all in
    record {
      protocols = (q.0, all.protocols);
      structs = more.structs;
      functions = more.functions;
      each_protocol = (item_risen.holds from a (items.Protocol p) k.0 m, all.each_protocol);
      each_struct = all.each_struct;
      each_function = all.each_function;
      apart = all.apart;
    }
parts_risen from (items.Struct t ∷ vs) ts (a, b, s, m, ms) r =
    let k = rising_parts from ts a b s r in
    let q = rising_past from t.name.start a b (subst (Rising from) s r) (item_stands a (items.Struct t) m) in
    let all = parts_risen (suc t.name.start) vs b ms q.1 in
    let less = q.0 in
    let more = sooner from (suc t.name.start) (omega arith) (skeleton_of vs) all in
    record {
      protocols = more.protocols;
      structs = (q.0, all.structs);
      functions = more.functions;
      each_protocol = all.each_protocol;
      each_struct = (item_risen.holds from a (items.Struct t) k.0 m, all.each_struct);
      each_function = all.each_function;
      apart = one_more_struct t (filter_map struct_of vs) (filter_map function_of vs) all.functions all.apart;
    }
parts_risen from (items.Function f ∷ vs) ts (a, b, s, m, ms) r =
    let k = rising_parts from ts a b s r in
    let q = rising_past from f.name.start a b (subst (Rising from) s r) (item_stands a (items.Function f) m) in
    let all = parts_risen (suc f.name.start) vs b ms q.1 in
    let less = q.0 in
    let more = sooner from (suc f.name.start) (omega arith) (skeleton_of vs) all in
    record {
      protocols = more.protocols;
      structs = more.structs;
      functions = (q.0, all.functions);
      each_protocol = all.each_protocol;
      each_struct = all.each_struct;
      each_function = (item_risen.holds from a (items.Function f) k.0 m, all.each_function);
      apart = one_more_function f (filter_map struct_of vs) (filter_map function_of vs) all.structs all.apart;
    }
parts_risen from (items.Query q ∷ vs) ts (a, b, s, m, ms) r =
    let all = parts_risen from vs b ms (rising_parts from ts a b s r).1 in
    record {
      protocols = all.protocols;
      structs = all.structs;
      functions = all.functions;
      each_protocol = all.each_protocol;
      each_struct = all.each_struct;
      each_function = all.each_function;
      apart = all.apart;
    }

pub text_risen : (text : List ℕ) (s : Skeleton)
    → ((ts : List lexed.Token) → HasTokens text ts → AreSlices text (first_offset (chars text)) ts)
    → StandsFor text s → IsRisen (first_offset (chars text)) s
unfolding lines.source
text_risen text s slices (found, tokens, (parts, m, e)) =
    let from = first_offset (chars text) in
    subst (IsRisen from) (sym e)
    (parts_risen from parts (with_terminals text found) m.0 (slices_rising text from found (slices found tokens)))

-- ---- declared names

module _ (text : List ℕ) where
  none_sooner : (from : ℕ) (ss : List Span) → AreRising span_start from ss → (d : Declaration)
      → Contains (declarations text ss) d → from ≤ d.at
  none_sooner from [] r d c = no_member d c
  none_sooner from (x ∷ ss) r d c =
      ⊎_elim (λ e. let k = r.0 in let s = ap (λ (y : Declaration). y.at) e in omega (arith, k, s))
      (λ h. let k = r.0 in let l = none_sooner (suc x.start) ss r.1 d h in omega (arith, k, l))
      (member_cases (declaration text x) d (declarations text ss) c)

  in_order : (from : ℕ) (ss : List Span) → AreRising span_start from ss → AreInOrder (declarations text ss)
  in_order from [] r = tt
  in_order from (x ∷ ss) r = ((λ d c. let l = none_sooner (suc x.start) ss r.1 d c in omega (arith, l)), in_order (suc x.start) ss r.1)

  named_rising : {A : Type 0} (name : A → Span) (from : ℕ) (xs : List A) → AreRising (λ x. (name x).start) from xs
      → AreRising span_start from (map name xs)
  named_rising name from [] r = tt
  named_rising name from (x ∷ xs) r = (r.0, named_rising name (suc (name x).start) xs r.1)

  named_in_order : {A : Type 0} (name : A → Span) (from : ℕ) (xs : List A) → AreRising (λ x. (name x).start) from xs
      → AreInOrder (declarations text (map name xs))
  named_in_order name from xs r = in_order from (map name xs) (named_rising name from xs r)

  -- the part that has the declared name
  named_by : {A : Type 0} (name : A → Span) (xs : List A) (d : Declaration) → Contains (declarations text (map name xs)) d
      → (x : A) × Contains xs x × (d.at ≡ (name x).start)
  named_by name [] d c = no_member d c
  named_by name (x ∷ xs) d c =
      ⊎_elim (λ e. (x, first_member x xs, ap (λ (y : Declaration). y.at) e))
      (λ h. let r = named_by name xs d h in (r.0, later_member x r.0 xs r.1, r.2))
      (member_cases (declaration text (name x)) d (declarations text (map name xs)) c)

  -- a fact for each list of lists
  at_place : {A B : Type 0} (P : List B → Type 0) (f : A → List B) (Is : A → Type 0) → P [] → ((x : A) → Is x → P (f x))
      → (xs : List A) → AllByRecursion Is xs → (i : ℕ) → P (get_or (map f xs) i [])
  at_place P f Is empty one [] a i = empty
  at_place P f Is empty one (x ∷ xs) a zero = one x a.0
  at_place P f Is empty one (x ∷ xs) a (suc i) = at_place P f Is empty one xs a.1 i

  params_in_order : (gs : List ParamDecl) → AreRising param_start 0 gs → AreInOrder (of_params text gs)
  params_in_order gs r = named_in_order (λ g. g.name) 0 gs r

  module _ (from : ℕ) (s : Skeleton) (r : IsRisen from s) where
    of_structs : (i : ℕ) → AreInOrder (get_or (map (λ t. of_params text t.params) s.structs) i [])
    of_structs i =
        at_place AreInOrder (λ (t : StructDecl). of_params text t.params) IsRisenStruct tt
        (λ t h. params_in_order t.params h.0) s.structs r.each_struct i

    of_functions : (i : ℕ) → AreInOrder (get_or (map (λ f. of_params text f.params) s.functions) i [])
    of_functions i =
        at_place AreInOrder (λ (f : FunctionDecl). of_params text f.params) IsRisenFunction tt
        (λ f h. params_in_order f.params h) s.functions r.each_function i

    of_nested : (i j : ℕ) → AreInOrder (get_or (get_or (map (λ t. map (λ f. of_params text f.params) t.functions) s.structs) i []) j [])
    of_nested i j =
        at_place (λ (dss : List (List Declaration)). AreInOrder (get_or dss j []))
        (λ (t : StructDecl). map (λ (f : FunctionDecl). of_params text f.params) t.functions)
        IsRisenStruct tt
        (λ t h. at_place AreInOrder (λ (f : FunctionDecl). of_params text f.params) IsRisenFunction tt
        (λ f k. params_in_order f.params k) t.functions h.1.1 j)
        s.structs r.each_struct i

    own_in_order : (g : Signature) → AreInOrder (own_params (spaces text s) g)
    own_in_order (Struct i) = of_structs i
    own_in_order (Function i) = of_functions i
    own_in_order (Nested i j) = of_nested i j

    outer_in_order : (g : Signature) → AreInOrder (outer_params (spaces text s) g)
    outer_in_order (Struct i) = tt
    outer_in_order (Function i) = tt
    outer_in_order (Nested i j) = of_structs i

    all_in_order : IsInOrder (spaces text s)
    all_in_order = record {
      protocols = named_in_order (λ (p : ProtocolDecl). p.name) from s.protocols r.protocols;
      structs = named_in_order (λ (t : StructDecl). t.name) from s.structs r.structs;
      functions = named_in_order (λ (f : FunctionDecl). f.name) from s.functions r.functions;
      members = at_place AreInOrder (λ (p : ProtocolDecl). declarations text (map (λ (m : AssocDecl). m.name) p.members)) IsRisenProtocol tt
          (λ p h. named_in_order (λ (m : AssocDecl). m.name) 0 p.members h.1) s.protocols r.each_protocol;
      primaries = at_place AreInOrder (λ (p : ProtocolDecl). declarations text p.primaries) IsRisenProtocol tt
          (λ p h. in_order 0 p.primaries h.0) s.protocols r.each_protocol;
      nested = at_place AreInOrder (λ (t : StructDecl). declarations text (map (λ (f : FunctionDecl). f.name) t.functions)) IsRisenStruct tt
          (λ t h. named_in_order (λ (f : FunctionDecl). f.name) 0 t.functions h.1.0) s.structs r.each_struct;
      own = own_in_order;
      outer = outer_in_order;
      apart = λ x y c d e.
          let t = named_by (λ (t : StructDecl). t.name) s.structs x c in
          let f = named_by (λ (f : FunctionDecl). f.name) s.functions y d in
          r.apart t.0 f.0 t.1 f.1 (sym t.2 ∙ e ∙ f.2);
    }

  pub declared_in_order : (s : Skeleton) → ((ts : List lexed.Token) → HasTokens text ts → AreSlices text (first_offset (chars text)) ts)
      → StandsFor text s → IsInOrder (spaces text s)
  declared_in_order s slices stands = all_in_order (first_offset (chars text)) s (text_risen text s slices stands)

-- The words at which the sides of requirements stand begin one after another.
use Rattle.std.proofs.Common.{◌≡◌, ℕ, suc, ◌+◌, ◌≤◌, ◌<◌, ◌⊎◌, inl, inr, ⊎_elim, List, [], ◌∷◌, ◌++◌, map, refl, sym, ap, subst, ◌∙◌, arith, append_assoc}
use Rattle.std.proofs.lemmas.Grind.{flat_map-append}
use Rattle.std.proofs.lemmas.List.Folds.{flat_map-map}
use Rattle.std.specs.List.{flat_map}
use Rattle.swreq_lex.specs.declared.token.Token as lexed
use Rattle.swreq_lex.specs.Slices.{AreSlices, next}
use Rattle.swreq_lexicon.specs.swreq_grammar.declared.token.Token.{Token}
use Rattle.swreq_lexicon.specs.swreq_grammar.Grammar.{Limit, Matches, Parts, mapped, sequence, alternative, repetition}
use Rattle.swreq_lexicon.specs.swreq_decl.declared.terminal.Terminal.{Terminal}
use Rattle.swreq_lexicon.specs.swreq_decl.declared.kind.Kind.{Kind}
use Rattle.swreq_lexicon.specs.swreq_decl.declared.skeleton.Entity.{Entity}
use Rattle.swreq_lexicon.specs.swreq_decl.declared.skeleton.TypeDecl.{TypeDecl}
use Rattle.swreq_lexicon.specs.swreq_decl.declared.skeleton.ReqDecl.{ReqDecl}
use Rattle.swreq_lexicon.specs.swreq_decl.declared.skeleton.AssocDecl.{AssocDecl}
use Rattle.swreq_lexicon.specs.swreq_decl.declared.skeleton.ProtocolDecl.{ProtocolDecl}
use Rattle.swreq_lexicon.specs.swreq_decl.declared.skeleton.ParamDecl.{ParamDecl}
use Rattle.swreq_lexicon.specs.swreq_decl.declared.skeleton.FunctionDecl.{FunctionDecl}
use Rattle.swreq_lexicon.specs.swreq_decl.declared.skeleton.StructDecl.{StructDecl}
use Rattle.swreq_lexicon.specs.swreq_decl.declared.skeleton.Item.{Item}
use Rattle.swreq_lexicon.specs.swreq_decl.declared.skeleton.Item.TheVariants as items
use Rattle.swreq_lexicon.specs.swreq_decl.Terminals.{number, with_terminals}
use Rattle.swreq_lexicon.specs.swreq_decl.Source as lines
use Rattle.swreq_lexicon.specs.swreq_decl.Source.{Line, after, before, or_else, separated, in_angles, continued}
use Rattle.swreq_lexicon.specs.swreq_names.Parts as parts
use Rattle.swreq_lexicon.specs.swreq_names.Parts.{Constraint, numbered}
use Rattle.swreq_lexicon.specs.swreq_names.Parts.Constraint.{bound, same}
use Rattle.swreq_lowering.specs.Standing.{first_word}

-- ---- places

abbrev pub type_places : TypeDecl → List ℕ
type_places t = t.head.start ∷ []

abbrev pub entity_places : Entity → List ℕ
entity_places e = e.span.start ∷ flat_map type_places e.args

abbrev pub bounds_places : List Entity → List ℕ
bounds_places es = flat_map entity_places es

-- where the words of a constraint begin at which sides of requirements stand
abbrev pub places : Constraint → List ℕ
places (bound subject bounds) = (first_word subject).start ∷ bounds_places bounds
places (same t u) = t.head.start ∷ u.head.start ∷ []

abbrev pub all_places : List Constraint → List ℕ
all_places cs = flat_map places cs

abbrev requirement_places : ReqDecl → List ℕ
requirement_places r = places (parts.of_requirement r)

abbrev clause_places : List ReqDecl → List ℕ
clause_places rs = all_places (parts.of_clause rs)

abbrev member_places : AssocDecl → List ℕ
member_places m = all_places (parts.of_member m)

abbrev pub protocol_places : ProtocolDecl → List ℕ
protocol_places p = all_places (parts.of_protocol p)

abbrev param_places : ParamDecl → List ℕ
param_places g = g.name.start ∷ bounds_places g.bounds

abbrev pub signature_places : List ParamDecl → List ReqDecl → List ℕ
signature_places params clause = all_places (parts.of_signature params clause)

abbrev pub function_places : FunctionDecl → List ℕ
function_places f = signature_places f.params f.clause

abbrev pub struct_places : StructDecl → List ℕ
struct_places s = signature_places s.params s.clause ++ flat_map function_places s.functions

abbrev pub item_places : Item → List ℕ
item_places (items.Protocol p) = protocol_places p
item_places (items.Struct s) = struct_places s
item_places (items.Function f) = function_places f
item_places (items.Query q) = []

members_places : (ms : List AssocDecl) → all_places (flat_map parts.of_member ms) ≡ flat_map member_places ms
members_places [] = refl
members_places (m ∷ ms) =
    flat_map-append places (parts.of_member m) (flat_map parts.of_member ms) ∙ ap (λ ns. member_places m ++ ns) (members_places ms)

protocol_parts : (p : ProtocolDecl)
    → p.name.start ∷ (bounds_places p.inherits ++ (clause_places p.clause ++ flat_map member_places p.members)) ≡ protocol_places p
protocol_parts p =
    ap (λ ns. p.name.start ∷ (bounds_places p.inherits ++ ns))
    (sym (flat_map-append places (parts.of_clause p.clause) (flat_map parts.of_member p.members)
    ∙ ap (λ ns. clause_places p.clause ++ ns) (members_places p.members)))

params_places : (k : ℕ) (ps : List ParamDecl) → all_places (map parts.of_param (numbered k ps)) ≡ flat_map param_places ps
params_places k [] = refl
params_places k (p ∷ ps) = ap (λ ns. param_places p ++ ns) (params_places (k + 1) ps)

signature_parts : (params : List ParamDecl) (clause : List ReqDecl)
    → flat_map param_places params ++ clause_places clause ≡ signature_places params clause
signature_parts params clause =
    sym (flat_map-append places (map parts.of_param (numbered 0 params)) (parts.of_clause clause)
    ∙ ap (λ ns. ns ++ clause_places clause) (params_places 0 params))

-- ---- tokens at places

abbrev Tokens : Type 0
Tokens = List (Token Terminal)

-- Some of the tokens, in their order, begin at these places.
abbrev Begin : List ℕ → Tokens → Type 0
Begin [] ts = Unit {0}
Begin (n ∷ ns) [] = ⊥
Begin (n ∷ ns) (t ∷ ts) = ((n ≡ t.start) × Begin ns ts) ⊎ Begin (n ∷ ns) ts

begin_left : (ns : List ℕ) (xs ys : Tokens) → Begin ns xs → Begin ns (xs ++ ys)
begin_left [] xs ys h = tt
begin_left (n ∷ ns) [] ys h = absurd h
begin_left (n ∷ ns) (t ∷ xs) ys (inl h) = inl (h.0, begin_left ns xs ys h.1)
begin_left (n ∷ ns) (t ∷ xs) ys (inr h) = inr (begin_left (n ∷ ns) xs ys h)

begin_right : (ns : List ℕ) (xs ys : Tokens) → Begin ns ys → Begin ns (xs ++ ys)
begin_right [] xs ys h = tt
begin_right (n ∷ ns) [] ys h = h
begin_right (n ∷ ns) (t ∷ xs) ys h = inr (begin_right (n ∷ ns) xs ys h)

begin_both : (ns ms : List ℕ) (xs ys : Tokens) → Begin ns xs → Begin ms ys → Begin (ns ++ ms) (xs ++ ys)
begin_both [] ms xs ys h k = begin_right ms xs ys k
begin_both (n ∷ ns) ms [] ys h k = absurd h
begin_both (n ∷ ns) ms (t ∷ xs) ys (inl h) k = inl (h.0, begin_both ns ms xs ys h.1 k)
begin_both (n ∷ ns) ms (t ∷ xs) ys (inr h) k = inr (begin_both (n ∷ ns) ms xs ys h k)

-- ---- lines

-- In a text of the line tokens begin at the places of what it stands for.
record Places {A : Type 0} (g : Line A) (f : A → List ℕ) : Type 0 where
  begin : (ts : Tokens) (v : A) → Matches number g ts v → Begin (f v) ts

-- Of a line that makes a value from a value: tokens begin at the places that it adds after those of the value.
record PlacesOf {A B : Type 0} (h : Line (A → B)) (m : A → List ℕ) (f : B → List ℕ) : Type 0 where
  begin : (ts : Tokens) (k : A → B) → Matches number h ts k → (v : A) → (ns : List ℕ) × (m v ++ ns ≡ f (k v)) × Begin ns ts

none : {A : Type 0} {g : Line A} → Places g (λ v. [])
none = record { begin = λ ts v m. tt }

at_same : {A : Type 0} {g : Line A} {f e : A → List ℕ} → Places g f → ((v : A) → f v ≡ e v) → Places g e
at_same p l = record { begin = λ ts v m. subst (λ ns. Begin ns ts) (l v) (p.begin ts v m) }

at_both : {A B : Type 0} {g : Line A} {h : Line B} {f : A → List ℕ} {e : B → List ℕ} → Places g f → Places h e
    → Places (sequence g h) (λ p. f p.0 ++ e p.1)
at_both {f} {e} p q = record {
  begin = λ ts v x.
      subst (λ us. Begin (f v.0 ++ e v.1) us) (sym x.2) (begin_both (f v.0) (e v.1) x.0 x.1 (p.begin x.0 v.0 x.3) (q.begin x.1 v.1 x.4));
}

at_first : {A B : Type 0} {g : Line A} {h : Line B} {f : A → List ℕ} → Places g f → Places (sequence g h) (λ p. f p.0)
at_first {f} p = record { begin = λ ts v x. subst (λ us. Begin (f v.0) us) (sym x.2) (begin_left (f v.0) x.0 x.1 (p.begin x.0 v.0 x.3)) }

at_second : {A B : Type 0} {g : Line A} {h : Line B} {e : B → List ℕ} → Places h e → Places (sequence g h) (λ p. e p.1)
at_second {e} q = record { begin = λ ts v x. subst (λ us. Begin (e v.1) us) (sym x.2) (begin_right (e v.1) x.0 x.1 (q.begin x.1 v.1 x.4)) }

at_mapped : {A B : Type 0} {k : A → B} {g : Line A} {f : B → List ℕ} → Places g (λ v. f (k v)) → Places (mapped k g) f
at_mapped {f} p = record { begin = λ ts w m. subst (λ x. Begin (f x) ts) m.2 (p.begin ts m.0 m.1) }

at_alternative : {A : Type 0} {g h : Line A} {f : A → List ℕ} → Places g f → Places h f → Places (alternative g h) f
at_alternative p q = record { begin = λ ts v m. ⊎_elim (p.begin ts v) (q.begin ts v) m }

at_parts : {A : Type 0} (g : Line A) (f : A → List ℕ) → Places g f → (ts : Tokens) (vs : List A) → Parts (Matches number g) ts vs
    → Begin (flat_map f vs) ts
at_parts g f p ts [] e = tt
at_parts g f p ts (v ∷ vs) (a, b, s, m, ms) =
    subst (λ us. Begin (f v ++ flat_map f vs) us) (sym s) (begin_both (f v) (flat_map f vs) a b (p.begin a v m) (at_parts g f p b vs ms))

at_repetition : {A : Type 0} {limit : Limit Kind} {g : Line A} {f : A → List ℕ} → Places g f → Places (repetition limit g) (flat_map f)
at_repetition {A} {limit} {g} {f} p = record { begin = λ ts vs m. at_parts g f p ts vs m.0 }

at_after : {A B : Type 0} {g : Line A} {h : Line B} {f : B → List ℕ} → Places h f → Places (after g h) f
at_after p = at_mapped (at_second p)

at_before : {A B : Type 0} {g : Line A} {h : Line B} {f : A → List ℕ} → Places g f → Places (before g h) f
at_before p = at_mapped (at_first p)

at_or_else : {A : Type 0} {default : A} {g : Line A} {f : A → List ℕ} → f default ≡ [] → Places g f → Places (or_else default g) f
at_or_else {f} z p = at_alternative p (record { begin = λ ts v m. subst (λ ns. Begin ns ts) (sym z ∙ ap f m.1) tt })

at_separated : {A : Type 0} {ss : List Terminal} {g : Line A} {f : A → List ℕ} → Places g f → Places (separated ss g) (flat_map f)
at_separated {A} {ss} {g} {f} p = at_mapped (at_both {f = f} {e = flat_map f} p (at_repetition {f = f} (at_after p)))

at_in_angles : {A : Type 0} {g : Line A} {f : A → List ℕ} → Places g f → Places (in_angles g) (flat_map f)
at_in_angles p = at_after (at_before (at_separated p))

at_continued : {A B : Type 0} {g : Line A} {h : Line (A → B)} {m : A → List ℕ} {f : B → List ℕ} → Places g m → PlacesOf h m f
    → Places (continued g h) f
at_continued {m} {f} p q = at_mapped (record {
  begin = λ ts v x.
      let r = q.begin x.1 v.1 x.4 v.0 in
      subst (λ ns. Begin ns ts) r.1
      (subst (λ us. Begin (m v.0 ++ r.0) us) (sym x.2) (begin_both (m v.0) r.0 x.0 x.1 (p.begin x.0 v.0 x.3) r.2));
})

of_mapped : {A B C : Type 0} {k : C → A → B} {g : Line C} {m : A → List ℕ} {n : C → List ℕ} {f : B → List ℕ} → Places g n
    → ((c : C) (v : A) → m v ++ n c ≡ f (k c v)) → PlacesOf (mapped k g) m f
of_mapped {n} {f} p l = record { begin = λ ts h x v. (n x.0, l x.0 v ∙ ap (λ k. f (k v)) x.2, p.begin ts x.0 x.1) }

of_alternative : {A B : Type 0} {g h : Line (A → B)} {m : A → List ℕ} {f : B → List ℕ} → PlacesOf g m f → PlacesOf h m f
    → PlacesOf (alternative g h) m f
of_alternative p q = record { begin = λ ts k x. ⊎_elim (p.begin ts k) (q.begin ts k) x }

-- ---- the lines of the source

one : (ts : Tokens) (t : Token Terminal) → ts ≡ t ∷ [] → Begin (t.start ∷ []) ts
one ts t e = subst (λ us. Begin (t.start ∷ []) us) (sym e) (inl (refl, tt))

name_places : Places lines.name (λ s. s.start ∷ [])
unfolding lines.name
name_places = at_mapped (record { begin = λ ts t m. one ts t m.0 })

head_places : Places lines.head (λ s. s.start ∷ [])
unfolding lines.head
head_places = at_mapped (record { begin = λ ts t m. one ts t m.0 })

type_line : Places lines.written_type type_places
unfolding lines.written_type
type_line = at_mapped (at_first head_places)

args_line : Places lines.args (flat_map type_places)
unfolding lines.args
args_line = at_in_angles type_line

arguments_line : Places lines.arguments (flat_map type_places)
unfolding lines.arguments
arguments_line = at_or_else refl args_line

entity_line : Places lines.entity entity_places
unfolding lines.entity
entity_line = at_alternative (at_mapped (at_both name_places arguments_line)) (at_mapped (record { begin = λ ts t m. one ts t m.0 }))

bounds_line : Places lines.bounds bounds_places
unfolding lines.bounds
bounds_line = at_separated entity_line

inherit_line : Places lines.inherit bounds_places
unfolding lines.inherit
inherit_line = at_after (at_separated entity_line)

requirement_line : Places lines.requirement requirement_places
unfolding lines.requirement
requirement_line =
    at_continued type_line (of_alternative (of_mapped (at_after bounds_line) (λ c v. refl)) (of_mapped (at_after type_line) (λ c v. refl)))

where_line : Places lines.where_clause clause_places
unfolding lines.where_clause
where_line = at_same (at_after (at_separated requirement_line)) (λ rs. sym (flat_map-map places parts.of_requirement rs))

inherits_line : Places lines.inherits bounds_places
unfolding lines.inherits
inherits_line = at_or_else refl inherit_line

conditions_line : Places lines.conditions clause_places
unfolding lines.conditions
conditions_line = at_or_else refl where_line

member_line : Places lines.member member_places
unfolding lines.member
member_line = at_mapped (at_after (at_both name_places (at_both inherits_line (at_before conditions_line))))

protocol_line : Places lines.protocol protocol_places
unfolding lines.protocol
protocol_line =
    at_mapped (at_same
    (at_after (at_both name_places
    (at_second (at_both inherits_line (at_both conditions_line (at_after (at_before (at_repetition {f = member_places} member_line))))))))
    (λ p. protocol_parts (record { name = p.0; primaries = p.1.0; inherits = p.1.1.0; clause = p.1.1.1.0; members = p.1.1.1.1 })))

param_line : Places lines.param param_places
unfolding lines.param
param_line = at_mapped (at_both name_places (at_or_else refl (at_after bounds_line)))

generics_line : Places lines.generics (flat_map param_places)
unfolding lines.generics
generics_line = at_in_angles param_line

params_line : Places lines.params (flat_map param_places)
unfolding lines.params
params_line = at_or_else refl generics_line

function_line : Places lines.function function_places
unfolding lines.function
function_line = at_mapped (at_same (at_after (at_second (at_both params_line (at_after (at_after (at_before conditions_line))))))
    (λ p. signature_parts p.1.0 p.1.1))

inner_line : Places lines.inner_function function_places
unfolding lines.inner_function
inner_line = at_before (at_after function_line)

struct_parts : (params : List ParamDecl) (clause : List ReqDecl) (fs : List FunctionDecl) → flat_map param_places params
    ++ (clause_places clause ++ flat_map function_places fs) ≡ signature_places params clause ++ flat_map function_places fs
struct_parts params clause fs =
    sym (append_assoc (flat_map param_places params) (clause_places clause) (flat_map function_places fs))
    ∙ ap (λ ns. ns ++ flat_map function_places fs) (signature_parts params clause)

structure_line : Places lines.structure struct_places
unfolding lines.structure
structure_line =
    at_mapped (at_same (at_after
    (at_second (at_both params_line (at_both conditions_line (at_after (at_before (at_repetition {f = function_places} inner_line)))))))
    (λ p. struct_parts p.1.0 p.1.1.0 p.1.1.1))

declaration_line : Places lines.declaration item_places
unfolding lines.declaration
declaration_line = at_alternative (at_mapped protocol_line) (at_alternative (at_mapped function_line) (at_mapped structure_line))

bare_item_line : Places lines.bare_item item_places
unfolding lines.bare_item
bare_item_line = at_alternative (at_after declaration_line) (at_alternative declaration_line (at_mapped none))

item_line : Places lines.item item_places
unfolding lines.item
item_line = at_before bare_item_line

-- ---- in order

-- all of the places are after this one
abbrev pub Above : ℕ → List ℕ → Type 0
Above n [] = Unit {0}
Above n (m ∷ ms) = (n < m) × Above n ms

-- each place is after those before it
abbrev pub Ascend : List ℕ → Type 0
Ascend [] = Unit {0}
Ascend (n ∷ ns) = Above n ns × Ascend ns

above_less : (n m : ℕ) → n < m → (ns : List ℕ) → Above m ns → Above n ns
above_less n m l [] a = tt
above_less n m l (k ∷ ns) a = (let i = a.0 in omega arith, above_less n m l ns a.1)

-- The tokens begin there or later.
abbrev From : ℕ → List lexed.Token → Type 0
From n [] = Unit {0}
From n (t ∷ ts) = (n ≤ t.start) × From n ts

from_less : (n m : ℕ) → n ≤ m → (ts : List lexed.Token) → From m ts → From n ts
from_less n m l [] a = tt
from_less n m l (t ∷ ts) a = (let i = a.0 in omega arith, from_less n m l ts a.1)

slices_from : (text : List ℕ) (from : ℕ) (ts : List lexed.Token) → AreSlices text from ts → From from ts
slices_from text from [] s = tt
slices_from text from (t ∷ ts) (next a b c d e s) = (a, from_less from t.end (omega arith) ts (slices_from text t.end ts s))

begin_above : (text : List ℕ) (n : ℕ) (ns : List ℕ) (ts : List lexed.Token) → From (suc n) ts
    → Begin ns (with_terminals text ts) → Above n ns
begin_above text n [] ts f h = tt
begin_above text n (m ∷ ns) [] f h = absurd h
begin_above text n (m ∷ ns) (t ∷ ts) f (inl h) = (let i = f.0 in let j = h.0 in omega arith, begin_above text n ns ts f.1 h.1)
begin_above text n (m ∷ ns) (t ∷ ts) f (inr h) = begin_above text n (m ∷ ns) ts f.1 h

begin_ascend : (text : List ℕ) (from : ℕ) (ts : List lexed.Token) → AreSlices text from ts → (ns : List ℕ)
    → Begin ns (with_terminals text ts) → Ascend ns
begin_ascend text from ts s [] h = tt
begin_ascend text from [] s (n ∷ ns) h = absurd h
begin_ascend text from (t ∷ ts) (next a b c d e s) (n ∷ ns) (inl h) =
    let later : From (suc n) ts = from_less (suc n) t.end (let i = h.0 in omega arith) ts (slices_from text t.end ts s) in
    (begin_above text n ns ts later h.1, begin_ascend text t.end ts s ns h.1)
begin_ascend text from (t ∷ ts) (next a b c d e s) (n ∷ ns) (inr h) = begin_ascend text t.end ts s (n ∷ ns) h

-- The places of the parts of a text ascend.
pub parts_ascend : (text : List ℕ) (from : ℕ) (ts : List lexed.Token) → AreSlices text from ts → (vs : List Item)
    → Matches number lines.source (with_terminals text ts) vs → Ascend (flat_map item_places vs)
unfolding lines.source
parts_ascend text from ts s vs m =
    begin_ascend text from ts s (flat_map item_places vs) (at_parts lines.item item_places item_line (with_terminals text ts) vs m.0)

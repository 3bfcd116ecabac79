-- The parts of a text that are counted are no more than its tokens.
use Rattle.std.proofs.Common.{◌≡◌, ℕ, ◌+◌, ◌≤◌, ⊎_elim, List, [], ◌∷◌, ◌++◌, length, sum_by, refl, ap, subst, ◌∙◌, arith, length-append}
use Rattle.std.proofs.lemmas.List.Sums.{sum_by-cons}
use Rattle.swreq_lexicon.specs.swreq_grammar.declared.token.Token.{Token}
use Rattle.swreq_lexicon.specs.swreq_grammar.Grammar.{Limit, Matches, Parts, terminal, empty, mapped, sequence, alternative, repetition}
use Rattle.swreq_lexicon.specs.swreq_decl.declared.terminal.Terminal.{Terminal}
use Rattle.swreq_lexicon.specs.swreq_decl.declared.kind.Kind.{Kind}
use Rattle.swreq_lexicon.specs.swreq_decl.declared.skeleton.Entity.{Entity}
use Rattle.swreq_lexicon.specs.swreq_decl.declared.skeleton.StepDecl.{StepDecl}
use Rattle.swreq_lexicon.specs.swreq_decl.declared.skeleton.TypeDecl.{TypeDecl}
use Rattle.swreq_lexicon.specs.swreq_decl.declared.skeleton.ReqDecl.{ReqDecl}
use Rattle.swreq_lexicon.specs.swreq_decl.declared.skeleton.ReqDecl.TheVariants as requirements
use Rattle.swreq_lexicon.specs.swreq_decl.declared.skeleton.AssocDecl.{AssocDecl}
use Rattle.swreq_lexicon.specs.swreq_decl.declared.skeleton.ProtocolDecl.{ProtocolDecl}
use Rattle.swreq_lexicon.specs.swreq_decl.declared.skeleton.ParamDecl.{ParamDecl}
use Rattle.swreq_lexicon.specs.swreq_decl.declared.skeleton.FunctionDecl.{FunctionDecl}
use Rattle.swreq_lexicon.specs.swreq_decl.declared.skeleton.StructDecl.{StructDecl}
use Rattle.swreq_lexicon.specs.swreq_decl.declared.skeleton.Ask.{Ask}
use Rattle.swreq_lexicon.specs.swreq_decl.declared.skeleton.Ask.TheVariants as asks
use Rattle.swreq_lexicon.specs.swreq_decl.declared.skeleton.QueryDecl.{QueryDecl}
use Rattle.swreq_lexicon.specs.swreq_decl.declared.skeleton.Item.{Item}
use Rattle.swreq_lexicon.specs.swreq_decl.declared.skeleton.Item.TheVariants as items
use Rattle.swreq_lexicon.specs.swreq_decl.Terminals.{number}
use Rattle.swreq_lexicon.specs.swreq_decl.Source as lines
use Rattle.swreq_lexicon.specs.swreq_decl.Source.{Line, mark, after, before, or_else, skipped, separated, in_angles, continued, plain_step}

-- ---- how much is counted

abbrev pub type_size : TypeDecl → ℕ
type_size t = 1 + sum_by (λ s. 1) t.steps

abbrev pub entity_size : Entity → ℕ
entity_size e = 1 + sum_by type_size e.args

abbrev pub bounds_size : List Entity → ℕ
bounds_size es = sum_by entity_size es

abbrev pub requirement_size : ReqDecl → ℕ
requirement_size (requirements.Bound t bounds) = type_size t + bounds_size bounds
requirement_size (requirements.Same t u) = type_size t + type_size u

abbrev pub clause_size : List ReqDecl → ℕ
clause_size rs = sum_by requirement_size rs

abbrev pub member_size : AssocDecl → ℕ
member_size m = 1 + (bounds_size m.inherits + clause_size m.clause)

abbrev pub protocol_size : ProtocolDecl → ℕ
protocol_size p = 1 + (bounds_size p.inherits + (clause_size p.clause + sum_by member_size p.members))

abbrev pub param_size : ParamDecl → ℕ
param_size g = 1 + bounds_size g.bounds

abbrev pub function_size : FunctionDecl → ℕ
function_size f = 1 + (sum_by param_size f.params + clause_size f.clause)

abbrev pub struct_size : StructDecl → ℕ
struct_size s = 1 + (sum_by param_size s.params + (clause_size s.clause + sum_by function_size s.functions))

abbrev pub ask_size : Ask → ℕ
ask_size asks.Signature = 0
ask_size (asks.Reduced t) = type_size t
ask_size (asks.Is t bound) = type_size t + entity_size bound
ask_size (asks.Same t u) = type_size t + type_size u

abbrev pub query_size : QueryDecl → ℕ
query_size q = 1 + ask_size q.ask

abbrev pub item_size : Item → ℕ
item_size (items.Protocol p) = protocol_size p
item_size (items.Struct s) = struct_size s
item_size (items.Function f) = function_size f
item_size (items.Query q) = query_size q

-- ---- lines

abbrev Tokens : Type 0
Tokens = List (Token Terminal)

-- What a text of the line stands for counts no more than its tokens.
record Bounds {A : Type 0} (g : Line A) (size : A → ℕ) : Type 0 where
  bound : (ts : Tokens) (v : A) → Matches number g ts v → size v ≤ length ts

-- Of a line that makes a value from a value: what it makes counts no more than the value and the tokens together.
record BoundsOf {A B : Type 0} (h : Line (A → B)) (m : A → ℕ) (size : B → ℕ) : Type 0 where
  bound : (ts : Tokens) (f : A → B) → Matches number h ts f → (v : A) → size (f v) ≤ m v + length ts

split : (ts a b : Tokens) → ts ≡ a ++ b → length ts ≡ length a + length b
split ts a b e = ap length e ∙ length-append a b

none : {A : Type 0} {g : Line A} → Bounds g (λ v. 0)
none = record { bound = λ ts v m. omega arith }

at_sequence : {A B : Type 0} {g : Line A} {h : Line B} {m : A → ℕ} {n : B → ℕ} {size : A × B → ℕ} → Bounds g m → Bounds h n
    → ((p : A × B) → size p ≤ m p.0 + n p.1) → Bounds (sequence g h) size
at_sequence p q l = record {
  bound =
      λ ts v x. let i = p.bound x.0 v.0 x.3 in let j = q.bound x.1 v.1 x.4 in let k = split ts x.0 x.1 x.2 in let o = l v in omega arith;
}

at_both : {A B : Type 0} {g : Line A} {h : Line B} {m : A → ℕ} {n : B → ℕ} → Bounds g m → Bounds h n
    → Bounds (sequence g h) (λ p. m p.0 + n p.1)
at_both p q = at_sequence p q (λ x. omega arith)

at_mapped : {A B : Type 0} {f : A → B} {g : Line A} {size : B → ℕ} → Bounds g (λ v. size (f v)) → Bounds (mapped f g) size
at_mapped {size} p = record { bound = λ ts w m. subst (λ x. size x ≤ length ts) m.2 (p.bound ts m.0 m.1) }

at_alternative : {A : Type 0} {g h : Line A} {size : A → ℕ} → Bounds g size → Bounds h size → Bounds (alternative g h) size
at_alternative p q = record { bound = λ ts v m. ⊎_elim (p.bound ts v) (q.bound ts v) m }

at_parts : {A : Type 0} (g : Line A) (size : A → ℕ) → Bounds g size → (ts : Tokens) (vs : List A) → Parts (Matches number g) ts vs
    → sum_by size vs ≤ length ts
at_parts g size p ts [] e = omega arith
at_parts g size p ts (v ∷ vs) (a, b, s, m, ms) =
    let i = p.bound a v m in let j = at_parts g size p b vs ms in let k = split ts a b s in let c = sum_by-cons size v vs in omega arith

at_repetition : {A : Type 0} {limit : Limit Kind} {g : Line A} {size : A → ℕ} → Bounds g size → Bounds (repetition limit g) (sum_by size)
at_repetition {A} {limit} {g} {size} p = record { bound = λ ts vs m. at_parts g size p ts vs m.0 }

at_after : {A B : Type 0} {g : Line A} {h : Line B} {size : B → ℕ} → Bounds h size → Bounds (after g h) size
at_after p = at_mapped (at_sequence none p (λ x. omega arith))

at_before : {A B : Type 0} {g : Line A} {h : Line B} {size : A → ℕ} → Bounds g size → Bounds (before g h) size
at_before p = at_mapped (at_sequence p none (λ x. omega arith))

at_or_else : {A : Type 0} {default : A} {g : Line A} {size : A → ℕ} → size default ≡ 0 → Bounds g size → Bounds (or_else default g) size
at_or_else {size} z p = at_alternative p (record { bound = λ ts v m. let e = ap size m.1 in omega arith })

at_separated : {A : Type 0} {ss : List Terminal} {g : Line A} {size : A → ℕ} → Bounds g size → Bounds (separated ss g) (sum_by size)
at_separated {A} {ss} {g} {size} p =
    at_mapped (at_sequence p (at_repetition {size = size} (at_after p)) (λ x. let c = sum_by-cons size x.0 x.1 in omega arith))

at_in_angles : {A : Type 0} {g : Line A} {size : A → ℕ} → Bounds g size → Bounds (in_angles g) (sum_by size)
at_in_angles p = at_after (at_before (at_separated p))

at_continued : {A B : Type 0} {g : Line A} {h : Line (A → B)} {m : A → ℕ} {size : B → ℕ} → Bounds g m → BoundsOf h m size
    → Bounds (continued g h) size
at_continued p q = at_mapped (record {
  bound = λ ts v x. let i = p.bound x.0 v.0 x.3 in let j = q.bound x.1 v.1 x.4 v.0 in let k = split ts x.0 x.1 x.2 in omega arith;
})

of_mapped : {A B C : Type 0} {f : C → A → B} {g : Line C} {m : A → ℕ} {n : C → ℕ} {size : B → ℕ} → Bounds g n
    → ((c : C) (v : A) → size (f c v) ≤ m v + n c) → BoundsOf (mapped f g) m size
of_mapped {f} {m} {n} {size} p l = record {
  bound = λ ts h x v. subst (λ k. size (k v) ≤ m v + length ts) x.2 (let i = p.bound ts x.0 x.1 in let j = l x.0 v in omega arith);
}

of_alternative : {A B : Type 0} {g h : Line (A → B)} {m : A → ℕ} {size : B → ℕ} → BoundsOf g m size → BoundsOf h m size
    → BoundsOf (alternative g h) m size
of_alternative p q = record { bound = λ ts f x. ⊎_elim (p.bound ts f) (q.bound ts f) x }

of_empty : {A B : Type 0} {f : A → B} {m : A → ℕ} {size : B → ℕ} → ((v : A) → size (f v) ≤ m v) → BoundsOf (empty f) m size
of_empty {m} {size} l = record { bound = λ ts f x v. subst (λ k. size (k v) ≤ m v + length ts) x.1 (let i = l v in omega arith) }

-- ---- the lines of the source

token_bound : {ts : List Terminal} → Bounds (terminal ts) (λ t. 1)
token_bound = record { bound = λ ts t m. let k = ap length m.0 in omega arith }

at_after_token : {B : Type 0} {ts : List Terminal} {h : Line B} {size : B → ℕ} → Bounds h size
    → Bounds (after (terminal ts) h) (λ v. 1 + size v)
at_after_token p = at_mapped (at_sequence token_bound p (λ x. omega arith))

name_bound : Bounds lines.name (λ s. 1)
unfolding lines.name
name_bound = at_mapped token_bound

head_bound : Bounds lines.head (λ s. 1)
unfolding lines.head
head_bound = at_mapped token_bound

plain_bound : Bounds (mapped plain_step lines.name) (λ s. 1)
plain_bound = at_mapped name_bound

type_bound : Bounds lines.written_type type_size
unfolding lines.written_type
type_bound = at_mapped (at_sequence head_bound (at_repetition {size = λ (s : StepDecl). 1} (at_after plain_bound)) (λ p. omega arith))

args_bound : Bounds lines.args (sum_by type_size)
unfolding lines.args
args_bound = at_in_angles type_bound

arguments_bound : Bounds lines.arguments (sum_by type_size)
unfolding lines.arguments
arguments_bound = at_or_else refl args_bound

entity_bound : Bounds lines.entity entity_size
unfolding lines.entity
entity_bound = at_alternative (at_mapped (at_sequence name_bound arguments_bound (λ p. omega arith))) (at_mapped token_bound)

qentity_bound : Bounds lines.qentity entity_size
unfolding lines.qentity
qentity_bound = at_alternative (at_mapped name_bound) (at_mapped token_bound)

bounds_bound : Bounds lines.bounds bounds_size
unfolding lines.bounds
bounds_bound = at_separated entity_bound

inherit_bound : Bounds lines.inherit bounds_size
unfolding lines.inherit
inherit_bound = at_after (at_separated entity_bound)

requirement_bound : Bounds lines.requirement requirement_size
unfolding lines.requirement
requirement_bound = at_continued type_bound
    (of_alternative (of_mapped (at_after bounds_bound) (λ c v. omega arith)) (of_mapped (at_after type_bound) (λ c v. omega arith)))

where_bound : Bounds lines.where_clause clause_size
unfolding lines.where_clause
where_bound = at_after (at_separated requirement_bound)

inherits_bound : Bounds lines.inherits bounds_size
unfolding lines.inherits
inherits_bound = at_or_else refl inherit_bound

conditions_bound : Bounds lines.conditions clause_size
unfolding lines.conditions
conditions_bound = at_or_else refl where_bound

member_bound : Bounds lines.member member_size
unfolding lines.member
member_bound = at_mapped (at_after (at_sequence name_bound (at_both inherits_bound (at_before conditions_bound)) (λ p. omega arith)))

primaries_bound : Bounds lines.primary_names (λ names. 0)
primaries_bound = none

protocol_bound : Bounds lines.protocol protocol_size
unfolding lines.protocol
protocol_bound =
    at_mapped (at_after (at_sequence name_bound (at_both primaries_bound
    (at_both inherits_bound (at_both conditions_bound (at_after (at_before (at_repetition {size = member_size} member_bound))))))
    (λ p. omega arith)))

param_bound : Bounds lines.param param_size
unfolding lines.param
param_bound = at_mapped (at_sequence name_bound (at_or_else refl (at_after bounds_bound)) (λ p. omega arith))

generics_bound : Bounds lines.generics (sum_by param_size)
unfolding lines.generics
generics_bound = at_in_angles param_bound

params_bound : Bounds lines.params (sum_by param_size)
unfolding lines.params
params_bound = at_or_else refl generics_bound

function_bound : Bounds lines.function function_size
unfolding lines.function
function_bound = at_mapped
    (at_after (at_sequence name_bound (at_both params_bound (at_after (at_after (at_before conditions_bound)))) (λ p. omega arith)))

inner_bound : Bounds lines.inner_function function_size
unfolding lines.inner_function
inner_bound = at_before (at_after function_bound)

structure_bound : Bounds lines.structure struct_size
unfolding lines.structure
structure_bound =
    at_mapped (at_after (at_sequence name_bound (at_both params_bound
    (at_both conditions_bound (at_after (at_before (at_repetition {size = function_size} inner_bound))))) (λ p. omega arith)))

bound_step_bound : Bounds lines.bound_step (λ s. 1)
unfolding lines.bound_step
bound_step_bound = at_mapped (at_after (at_sequence name_bound none (λ p. omega arith)))

qstep_bound : Bounds lines.qstep (λ s. 1)
unfolding lines.qstep
qstep_bound = at_after (at_alternative bound_step_bound plain_bound)

qtype_bound : Bounds lines.qtype type_size
unfolding lines.qtype
qtype_bound = at_mapped (at_sequence name_bound (at_repetition {size = λ (s : StepDecl). 1} qstep_bound) (λ p. omega arith))

ask_bound : Bounds lines.ask ask_size
unfolding lines.ask
ask_bound =
    at_continued qtype_bound (of_alternative (of_mapped (at_after qentity_bound) (λ c v. omega arith))
    (of_alternative (of_mapped (at_after qtype_bound) (λ c v. omega arith)) (of_empty (λ v. omega arith))))

asked_bound : Bounds lines.asked ask_size
unfolding lines.asked
asked_bound = at_or_else refl ask_bound

query_bound : Bounds lines.query query_size
unfolding lines.query
query_bound = at_mapped (at_after_token {size = λ p. ask_size p.1} (at_sequence none (at_after (at_before asked_bound)) (λ p. omega arith)))

declaration_bound : Bounds lines.declaration item_size
unfolding lines.declaration
declaration_bound = at_alternative (at_mapped protocol_bound) (at_alternative (at_mapped function_bound) (at_mapped structure_bound))

bare_item_bound : Bounds lines.bare_item item_size
unfolding lines.bare_item
bare_item_bound = at_alternative (at_after declaration_bound) (at_alternative declaration_bound (at_mapped query_bound))

item_bound : Bounds lines.item item_size
unfolding lines.item
item_bound = at_before bare_item_bound

-- The parts of a text count no more than its tokens.
pub parts_bound : (ts : Tokens) (parts : List Item) → Matches number lines.source ts parts → sum_by item_size parts ≤ length ts
unfolding lines.source
parts_bound ts parts m = at_parts lines.item item_size item_bound ts parts m.0

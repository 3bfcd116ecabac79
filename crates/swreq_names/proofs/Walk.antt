-- The names in the parts of a text are names among its tokens.
use Rattle.std.proofs.Common.{◌≡◌, ◌++◌, ◌∷◌, ⊎_elim, ℕ, List, [], IsTrue, flat_map, subst}
use Rattle.std.specs.List.{AllByRecursion}
use Rattle.swreq_rank.proofs.swreq_lemmas.Members.{each_append}
use Rattle.swreq_lex.specs.declared.token.TokenKind.TheVariants as kinds
use Rattle.swreq_lex.specs.Slices.{IsSpelled}
use Rattle.swreq_decl.specs.swreq_grammar.declared.token.Token.{Token}
use Rattle.swreq_decl.specs.swreq_grammar.Grammar.{Limit, Matches, Parts, has, empty, mapped, sequence, alternative, repetition}
use Rattle.swreq_decl.specs.declared.terminal.Terminal.{Terminal}
use Rattle.swreq_decl.specs.declared.terminal.Terminal.TheVariants.{Name, Query}
use Rattle.swreq_decl.specs.declared.kind.Kind.{Kind}
use Rattle.swreq_decl.specs.declared.skeleton.Item.{Item}
use Rattle.swreq_decl.specs.declared.skeleton.Item.TheVariants as items
use Rattle.swreq_decl.specs.declared.skeleton.ProtocolDecl.{ProtocolDecl}
use Rattle.swreq_decl.specs.Terminals.{number}
use Rattle.swreq_decl.specs.Source as lines
use Rattle.swreq_decl.specs.Source.{Line, after, before, or_else, separated, in_angles, continued, plain_step, span}
use Rattle.swreq_names.specs.Walk as names
use Rattle.swreq_names.specs.Spaces.{word}

-- ---- names

abbrev pub AreNames : List (List ℕ) → Type 0
AreNames ws = AllByRecursion (IsSpelled kinds.Name) ws

-- If the token is a name for the grammar, it is spelled as one.
abbrev pub IsNamed : List ℕ → Token Terminal → Type 0
IsNamed text t = IsTrue (has number (Name ∷ Query ∷ []) t.terminal) → AreNames (word text (span t) ∷ [])

abbrev Tokens : Type 0
Tokens = List (Token Terminal)

abbrev pub AreNamed : List ℕ → List (Token Terminal) → Type 0
AreNamed text ts = AllByRecursion (IsNamed text) ts

all_parts : {X : Type 0} (P : X → Type 0) (xs ys : List X) → AllByRecursion P (xs ++ ys) → AllByRecursion P xs × AllByRecursion P ys
all_parts P [] ys a = (tt, a)
all_parts P (x ∷ xs) ys a = let more = all_parts P xs ys a.1 in ((a.0, more.0), more.1)

pub join : (vs ws : List (List ℕ)) → AreNames vs → AreNames ws → AreNames (vs ++ ws)
join vs ws a b = each_append (IsSpelled kinds.Name) vs ws a b

pub join_all : {A : Type 0} (f : A → List (List ℕ)) (xs : List A) → AllByRecursion (λ x. AreNames (f x)) xs → AreNames (flat_map f xs)
join_all f [] a = tt
join_all f (x ∷ xs) a = join (f x) (flat_map f xs) a.0 (join_all f xs a.1)

-- ---- lines

-- What a text of the line stands for has the property, if the text's tokens are named.
record Names {A : Type 0} (text : List ℕ) (g : Line A) (Is : A → Type 0) : Type 0 where
  holds : (ts : Tokens) (v : A) → AreNamed text ts → Matches number g ts v → Is v

-- The same of what a text of the line makes of a value that has a property.
record NamesOf {A B : Type 0} (text : List ℕ) (h : Line (A → B)) (Is : A → Type 0) (Js : B → Type 0) : Type 0 where
  holds : (ts : Tokens) (f : A → B) → AreNamed text ts → Matches number h ts f → (v : A) → Is v → Js (f v)

split : (text : List ℕ) (ts a b : Tokens) → ts ≡ a ++ b → AreNamed text ts → AreNamed text a × AreNamed text b
split text ts a b e n = all_parts (IsNamed text) a b (subst (AreNamed text) e n)

module _ {text : List ℕ} where
  none : {A : Type 0} {g : Line A} → Names text g (λ v. Unit {0})
  none = record { holds = λ ts v n m. tt }

  at_sequence : {A B : Type 0} {g : Line A} {h : Line B} {Is : A → Type 0} {Js : B → Type 0} {Ks : A × B → Type 0}
      → Names text g Is → Names text h Js → ((p : A × B) → Is p.0 → Js p.1 → Ks p) → Names text (sequence g h) Ks
  at_sequence p q l = record {
    holds = λ ts v n x. let k = split text ts x.0 x.1 x.2 n in l v (p.holds x.0 v.0 k.0 x.3) (q.holds x.1 v.1 k.1 x.4);
  }

  at_both : {A B : Type 0} {g : Line A} {h : Line B} {Is : A → Type 0} {Js : B → Type 0}
      → Names text g Is → Names text h Js → Names text (sequence g h) (λ p. Is p.0 × Js p.1)
  at_both p q = at_sequence p q (λ x i j. (i, j))

  at_mapped : {A B : Type 0} {f : A → B} {g : Line A} {Is : B → Type 0} → Names text g (λ v. Is (f v)) → Names text (mapped f g) Is
  at_mapped {Is} p = record { holds = λ ts w n m. subst Is m.2 (p.holds ts m.0 n m.1) }

  at_weaker : {A : Type 0} {g : Line A} {Is Js : A → Type 0} → ((v : A) → Is v → Js v) → Names text g Is → Names text g Js
  at_weaker l p = record { holds = λ ts v n m. l v (p.holds ts v n m) }

  at_alternative : {A : Type 0} {g h : Line A} {Is : A → Type 0} → Names text g Is → Names text h Is → Names text (alternative g h) Is
  at_alternative p q = record { holds = λ ts v n m. ⊎_elim (p.holds ts v n) (q.holds ts v n) m }

  at_parts : {A : Type 0} (g : Line A) (Is : A → Type 0) → Names text g Is → (ts : Tokens) (vs : List A) → AreNamed text ts
      → Parts (Matches number g) ts vs → AllByRecursion Is vs
  at_parts g Is p ts [] n e = tt
  at_parts g Is p ts (v ∷ vs) n (a, b, s, m, ms) = let k = split text ts a b s n in (p.holds a v k.0 m, at_parts g Is p b vs k.1 ms)

  at_repetition : {A : Type 0} {limit : Limit Kind} {g : Line A} {Is : A → Type 0}
      → Names text g Is → Names text (repetition limit g) (AllByRecursion Is)
  at_repetition {A} {limit} {g} {Is} p = record { holds = λ ts vs n m. at_parts g Is p ts vs n m.0 }

  at_after : {A B : Type 0} {g : Line A} {h : Line B} {Is : B → Type 0} → Names text h Is → Names text (after g h) Is
  at_after p = at_mapped (at_sequence none p (λ x i j. j))

  at_before : {A B : Type 0} {g : Line A} {h : Line B} {Is : A → Type 0} → Names text g Is → Names text (before g h) Is
  at_before p = at_mapped (at_sequence p none (λ x i j. i))

  at_or_else : {A : Type 0} {default : A} {g : Line A} {Is : A → Type 0} → Is default → Names text g Is → Names text (or_else default g) Is
  at_or_else {Is} d p = at_alternative p (record { holds = λ ts v n m. subst Is m.1 d })

  at_separated : {A : Type 0} {ss : List Terminal} {g : Line A} {Is : A → Type 0}
      → Names text g Is → Names text (separated ss g) (AllByRecursion Is)
  at_separated {A} {ss} {g} {Is} p = at_mapped (at_sequence p (at_repetition {Is = Is} (at_after p)) (λ x i j. (i, j)))

  at_in_angles : {A : Type 0} {g : Line A} {Is : A → Type 0} → Names text g Is → Names text (in_angles g) (AllByRecursion Is)
  at_in_angles p = at_after (at_before (at_separated p))

  at_continued : {A B : Type 0} {g : Line A} {h : Line (A → B)} {Is : A → Type 0} {Js : B → Type 0}
      → Names text g Is → NamesOf text h Is Js → Names text (continued g h) Js
  at_continued p q = at_mapped (record {
    holds = λ ts v n x. let k = split text ts x.0 x.1 x.2 n in q.holds x.1 v.1 k.1 x.4 v.0 (p.holds x.0 v.0 k.0 x.3);
  })

  of_mapped : {A B C : Type 0} {f : C → A → B} {g : Line C} {Is : A → Type 0} {Ks : C → Type 0} {Js : B → Type 0}
      → Names text g Ks → ((c : C) (v : A) → Is v → Ks c → Js (f c v)) → NamesOf text (mapped f g) Is Js
  of_mapped {Js} p l = record { holds = λ ts h n x v i. subst (λ k. Js (k v)) x.2 (l x.0 v i (p.holds ts x.0 n x.1)) }

  of_alternative : {A B : Type 0} {g h : Line (A → B)} {Is : A → Type 0} {Js : B → Type 0}
      → NamesOf text g Is Js → NamesOf text h Is Js → NamesOf text (alternative g h) Is Js
  of_alternative p q = record { holds = λ ts f n x. ⊎_elim (p.holds ts f n) (q.holds ts f n) x }

  of_empty : {A B : Type 0} {f : A → B} {Is : A → Type 0} {Js : B → Type 0} → ((v : A) → Is v → Js (f v)) → NamesOf text (empty f) Is Js
  of_empty {Js} l = record { holds = λ ts f n x v i. subst (λ k. Js (k v)) x.1 (l v i) }

-- ---- the lines of the source

module _ (text : List ℕ) where
  name_named : Names text lines.name (λ s. AreNames (word text s ∷ []))
  unfolding lines.name
  name_named = at_mapped (record { holds = λ ts t n m. (subst (AreNamed text) m.0 n).0 m.1 })

  plain_named : Names text (mapped plain_step lines.name) (λ s. AreNames (names.in_step text s))
  plain_named = at_mapped name_named

  type_named : Names text lines.written_type (λ t. AreNames (names.in_type text t))
  unfolding lines.written_type
  type_named = at_mapped (at_sequence none (at_repetition (at_after plain_named)) (λ p i j. join_all (names.in_step text) p.1 j))

  args_named : Names text lines.args (AllByRecursion (λ t. AreNames (names.in_type text t)))
  unfolding lines.args
  args_named = at_in_angles type_named

  arguments_named : Names text lines.arguments (AllByRecursion (λ t. AreNames (names.in_type text t)))
  unfolding lines.arguments
  arguments_named = at_or_else tt args_named

  entity_named : Names text lines.entity (λ e. AreNames (names.in_entity text e))
  unfolding lines.entity
  entity_named =
      at_alternative (at_mapped (at_sequence none arguments_named (λ p i j. join_all (names.in_type text) p.1 j))) (at_mapped none)

  qentity_named : Names text lines.qentity (λ e. AreNames (names.in_entity text e))
  unfolding lines.qentity
  qentity_named = at_alternative (at_mapped none) (at_mapped none)

  bounds_named : Names text lines.bounds (λ es. AreNames (names.in_bounds text es))
  unfolding lines.bounds
  bounds_named = at_weaker (join_all (names.in_entity text)) (at_separated entity_named)

  inherit_named : Names text lines.inherit (λ es. AreNames (names.in_bounds text es))
  unfolding lines.inherit
  inherit_named = at_after (at_weaker (join_all (names.in_entity text)) (at_separated entity_named))

  requirement_named : Names text lines.requirement (λ r. AreNames (names.in_requirement text r))
  unfolding lines.requirement
  requirement_named = at_continued type_named (of_alternative
      (of_mapped (at_after bounds_named) (λ c v i j. join (names.in_type text v) (names.in_bounds text c) i j))
      (of_mapped (at_after type_named) (λ c v i j. join (names.in_type text v) (names.in_type text c) i j)))

  where_named : Names text lines.where_clause (λ rs. AreNames (names.in_clause text rs))
  unfolding lines.where_clause
  where_named = at_after (at_weaker (join_all (names.in_requirement text)) (at_separated requirement_named))

  inherits_named : Names text lines.inherits (λ es. AreNames (names.in_bounds text es))
  unfolding lines.inherits
  inherits_named = at_or_else tt inherit_named

  conditions_named : Names text lines.conditions (λ rs. AreNames (names.in_clause text rs))
  unfolding lines.conditions
  conditions_named = at_or_else tt where_named

  member_named : Names text lines.member (λ m. AreNames (names.in_member text m))
  unfolding lines.member
  member_named = at_mapped (at_after (at_sequence name_named (at_both inherits_named (at_before conditions_named))
      (λ p i j. join (word text p.0 ∷ []) (names.in_bounds text p.1.0 ++ names.in_clause text p.1.1) i
      (join (names.in_bounds text p.1.0) (names.in_clause text p.1.1) j.0 j.1))))

  -- The names in a protocol are names, and so is its own name.
  abbrev pub IsProtocolNamed : ProtocolDecl → Type 0
  IsProtocolNamed p = AreNames (word text p.name ∷ names.in_protocol text p)

  protocol_named : Names text lines.protocol IsProtocolNamed
  unfolding lines.protocol
  protocol_named = at_mapped (at_after (at_sequence name_named (at_both none (at_both inherits_named (at_both conditions_named
      (at_after (at_before (at_weaker (join_all (names.in_member text)) (at_repetition member_named)))))))
      (λ p i j. join (word text p.0 ∷ [])
      (names.in_bounds text p.1.1.0 ++ (names.in_clause text p.1.1.1.0 ++ flat_map (names.in_member text) p.1.1.1.1)) i
      (join (names.in_bounds text p.1.1.0) (names.in_clause text p.1.1.1.0 ++ flat_map (names.in_member text) p.1.1.1.1) j.1.0
      (join (names.in_clause text p.1.1.1.0) (flat_map (names.in_member text) p.1.1.1.1) j.1.1.0 j.1.1.1)))))

  param_named : Names text lines.param (λ g. AreNames (names.in_param text g))
  unfolding lines.param
  param_named = at_mapped (at_sequence none (at_or_else tt (at_after bounds_named)) (λ p i j. j))

  generics_named : Names text lines.generics (λ gs. AreNames (flat_map (names.in_param text) gs))
  unfolding lines.generics
  generics_named = at_weaker (join_all (names.in_param text)) (at_in_angles param_named)

  params_named : Names text lines.params (λ gs. AreNames (flat_map (names.in_param text) gs))
  unfolding lines.params
  params_named = at_or_else tt generics_named

  function_named : Names text lines.function (λ f. AreNames (names.in_function text f))
  unfolding lines.function
  function_named = at_mapped (at_after (at_sequence none (at_both params_named (at_after (at_after (at_before conditions_named))))
      (λ p i j. join (flat_map (names.in_param text) p.1.0) (names.in_clause text p.1.1) j.0 j.1)))

  inner_named : Names text lines.inner_function (λ f. AreNames (names.in_function text f))
  unfolding lines.inner_function
  inner_named = at_before (at_after function_named)

  structure_named : Names text lines.structure (λ s. AreNames (names.in_struct text s))
  unfolding lines.structure
  structure_named = at_mapped (at_after (at_sequence none (at_both params_named (at_both conditions_named
      (at_after (at_before (at_weaker (join_all (names.in_function text)) (at_repetition inner_named))))))
      (λ p i j. join (flat_map (names.in_param text) p.1.0) (names.in_clause text p.1.1.0 ++ flat_map (names.in_function text) p.1.1.1) j.0
      (join (names.in_clause text p.1.1.0) (flat_map (names.in_function text) p.1.1.1) j.1.0 j.1.1))))

  bound_step_named : Names text lines.bound_step (λ s. AreNames (names.in_step text s))
  unfolding lines.bound_step
  bound_step_named = at_mapped (at_after (at_sequence none (at_after name_named) (λ p i j. j)))

  qstep_named : Names text lines.qstep (λ s. AreNames (names.in_step text s))
  unfolding lines.qstep
  qstep_named = at_after (at_alternative bound_step_named plain_named)

  qtype_named : Names text lines.qtype (λ t. AreNames (names.in_type text t))
  unfolding lines.qtype
  qtype_named = at_mapped (at_sequence none (at_repetition qstep_named) (λ p i j. join_all (names.in_step text) p.1 j))

  ask_named : Names text lines.ask (λ a. AreNames (names.in_ask text a))
  unfolding lines.ask
  ask_named = at_continued qtype_named (of_alternative
      (of_mapped (at_after qentity_named) (λ c v i j. join (names.in_type text v) (names.in_entity text c) i j))
      (of_alternative (of_mapped (at_after qtype_named) (λ c v i j. join (names.in_type text v) (names.in_type text c) i j))
      (of_empty (λ v i. i))))

  asked_named : Names text lines.asked (λ a. AreNames (names.in_ask text a))
  unfolding lines.asked
  asked_named = at_or_else tt ask_named

  query_named : Names text lines.query (λ q. AreNames (names.in_query text q))
  unfolding lines.query
  query_named = at_mapped (at_after (at_sequence none (at_after (at_before asked_named)) (λ p i j. j)))

  abbrev pub IsItemNamed : Item → Type 0
  IsItemNamed (items.Protocol p) = IsProtocolNamed p
  IsItemNamed (items.Struct s) = AreNames (names.in_struct text s)
  IsItemNamed (items.Function f) = AreNames (names.in_function text f)
  IsItemNamed (items.Query q) = AreNames (names.in_query text q)

  declaration_named : Names text lines.declaration IsItemNamed
  unfolding lines.declaration
  declaration_named = at_alternative (at_mapped protocol_named) (at_alternative (at_mapped function_named) (at_mapped structure_named))

  bare_item_named : Names text lines.bare_item IsItemNamed
  unfolding lines.bare_item
  bare_item_named = at_alternative (at_after declaration_named) (at_alternative declaration_named (at_mapped query_named))

  item_named : Names text lines.item IsItemNamed
  unfolding lines.item
  item_named = at_before bare_item_named

  -- The names in the parts of named tokens are names.
  pub parts_named : (ts : List (Token Terminal)) (parts : List Item) → AreNamed text ts → Matches number lines.source ts parts
      → AllByRecursion IsItemNamed parts
  unfolding lines.source
  parts_named ts parts n m = at_parts lines.item IsItemNamed item_named ts parts n m.0

-- The signatures of a skeleton are those of the parts of the text, in their order.
use Rattle.std.proofs.Common.{◌≡◌, ℕ, suc, ◌≤◌, ◌<◌, ◌⊎◌, inl, inr, true, false, not, List, [], ◌∷◌, ◌++◌, filter, refl, sym, ap, subst, ◌∙◌, arith, nat_lt}
use Rattle.std.proofs.lemmas.Bool.Decides.{nat_tests}
use Rattle.std.proofs.lemmas.List.Concat.{flat_map-cons}
use Rattle.std.specs.List.{filter_map, flat_map}
use Rattle.swreq_lex.specs.declared.token.Token as lexed
use Rattle.swreq_lex.specs.Slices.{AreSlices, next}
use Rattle.swreq_grammar.specs.Grammar.{Matches, Parts, mapped, sequence, repetition, unlimited, labelled}
use Rattle.swreq_decl.specs.declared.terminal.Terminal.{Terminal}
use Rattle.swreq_decl.specs.declared.terminal.Terminal.TheVariants.{Func, Protocol, Struct, OpenBrace, CloseBrace, OpenParenthesis, CloseParenthesis}
use Rattle.swreq_decl.specs.declared.kind.Kind.TheVariants.{Parameters}
use Rattle.swreq_decl.specs.declared.skeleton.Span.{Span}
use Rattle.swreq_decl.specs.declared.skeleton.FunctionDecl.{FunctionDecl}
use Rattle.swreq_decl.specs.declared.skeleton.ProtocolDecl.{ProtocolDecl}
use Rattle.swreq_decl.specs.declared.skeleton.StructDecl.{StructDecl}
use Rattle.swreq_decl.specs.declared.skeleton.Item.{Item}
use Rattle.swreq_decl.specs.declared.skeleton.Item.TheVariants as items
use Rattle.swreq_decl.specs.Terminals.{number, with_terminals}
use Rattle.swreq_decl.specs.Source as lines
use Rattle.swreq_decl.specs.Source.{Line, mark, after, before}
use Rattle.swreq_decl.specs.Skeletons.{struct_of, function_of, skeleton_of}
use Rattle.swreq_decl.specs.Signatures.{SignatureDecl, of_function, with_functions, stands_before, merged, signature_decls, item_signatures}
use Rattle.swreq_decl.proofs.SameTexts.{Tokens}

-- ---- tokens in order

-- the tokens start there or later
abbrev Above : ℕ → Tokens → Type 0
Above from [] = Unit {0}
Above from (t ∷ ts) = (from ≤ t.start) × Above from ts

-- each token starts before those after it
abbrev pub AreOrdered : Tokens → Type 0
AreOrdered [] = Unit {0}
AreOrdered (t ∷ ts) = Above (suc t.start) ts × AreOrdered ts

above_less : (from to : ℕ) → from ≤ to → (ts : Tokens) → Above to ts → Above from ts
above_less from to l [] a = tt
above_less from to l (t ∷ ts) a = (let k = a.0 in omega arith, above_less from to l ts a.1)

slices_ordered : (text : List ℕ) (from : ℕ) (ts : List lexed.Token) → AreSlices text from ts
    → Above from (with_terminals text ts) × AreOrdered (with_terminals text ts)
slices_ordered text from [] s = (tt, tt)
slices_ordered text from (t ∷ ts) (next a b c d e s) =
    let r = slices_ordered text t.end ts s in (
      (a, above_less from t.end (omega arith) (with_terminals text ts) r.0),
      (above_less (suc t.start) t.end (omega arith) (with_terminals text ts) r.0, r.1),
    )

-- a token starts there
abbrev pub Starts : ℕ → Tokens → Type 0
Starts n [] = ⊥
Starts n (t ∷ ts) = (n ≡ t.start) ⊎ Starts n ts

pub starts_left : (n : ℕ) (xs ys : Tokens) → Starts n xs → Starts n (xs ++ ys)
starts_left n [] ys h = absurd h
starts_left n (t ∷ xs) ys (inl e) = inl e
starts_left n (t ∷ xs) ys (inr h) = inr (starts_left n xs ys h)

pub starts_right : (n : ℕ) (xs ys : Tokens) → Starts n ys → Starts n (xs ++ ys)
starts_right n [] ys h = h
starts_right n (t ∷ xs) ys h = inr (starts_right n xs ys h)

above_starts : (from n : ℕ) (ts : Tokens) → Above from ts → Starts n ts → from ≤ n
above_starts from n [] a h = absurd h
above_starts from n (t ∷ ts) a (inl e) = let k = a.0 in omega arith
above_starts from n (t ∷ ts) a (inr h) = above_starts from n ts a.1 h

ordered_back : (xs ys : Tokens) → AreOrdered (xs ++ ys) → AreOrdered ys
ordered_back [] ys o = o
ordered_back (t ∷ xs) ys o = ordered_back xs ys o.1

ordered_apart : (xs ys : Tokens) → AreOrdered (xs ++ ys) → (n m : ℕ) → Starts n xs → Starts m ys → n < m
ordered_apart [] ys o n m h k = absurd h
ordered_apart (t ∷ xs) ys o n m (inl e) k = let l = above_starts (suc t.start) m (xs ++ ys) o.0 (starts_right m xs ys k) in omega arith
ordered_apart (t ∷ xs) ys o n m (inr h) k = ordered_apart xs ys o.1 n m h k

-- ---- the name of a part is one of its tokens

pub name_starts : (ts : Tokens) (s : Span) → Matches number lines.name ts s → Starts s.start ts
unfolding lines.name
name_starts ts s (t, (e, h), k) = subst (λ (us : Tokens). Starts s.start us) (sym e) (inl (sym (ap (λ (x : Span). x.start) k)))

named_starts : {A B : Type 0} (t : Terminal) (h : Line B) (f : Span × B → A) (name : A → Span) → ((p : Span × B) → name (f p) ≡ p.0) →
    (ts : Tokens) (v : A) → Matches number (mapped f (after (mark t) (sequence lines.name h))) ts v → Starts (name v).start ts
named_starts {A} {B} t h f name same ts v (p, (q, (a, b, s, m, (c, d, r, n, l)), e), k) =
    let here : Starts q.1.0.start (a ++ (c ++ d)) =
    starts_right q.1.0.start a (c ++ d) (starts_left q.1.0.start c d (name_starts c q.1.0 n)) in
    let whole : a ++ (c ++ d) ≡ ts = sym (s ∙ ap (λ (us : Tokens). a ++ us) r) in
    let is : q.1.0 ≡ name v = ap (λ (x : Span × B). x.0) e ∙ sym (same p) ∙ ap name k in
    subst (λ (us : Tokens). Starts (name v).start us) whole (subst (λ (x : Span). Starts x.start (a ++ (c ++ d))) is here)

function_starts : (ts : Tokens) (f : FunctionDecl) → Matches number lines.function ts f → Starts f.name.start ts
unfolding lines.function
function_starts ts f m =
    named_starts Func (sequence lines.params
    (after (mark OpenParenthesis) (after (labelled Parameters (mark CloseParenthesis)) (before lines.conditions lines.no_body))))
    (λ p. record { name = p.0; params = p.1.0; clause = p.1.1 }) (λ (g : FunctionDecl). g.name) (λ p. refl) ts f m

structure_starts : (ts : Tokens) (s : StructDecl) → Matches number lines.structure ts s → Starts s.name.start ts
unfolding lines.structure
structure_starts ts s m =
    named_starts Struct (sequence lines.params
    (sequence lines.conditions (after (mark OpenBrace) (before (repetition unlimited lines.inner_function) (mark CloseBrace)))))
    (λ p. record { name = p.0; params = p.1.0; clause = p.1.1.0; functions = p.1.1.1 }) (λ (r : StructDecl). r.name) (λ p. refl) ts s m

protocol_starts : (ts : Tokens) (p : ProtocolDecl) → Matches number lines.protocol ts p → Starts p.name.start ts
unfolding lines.protocol
protocol_starts ts p m =
    named_starts Protocol
    (sequence lines.primary_names
    (sequence lines.inherits
    (sequence lines.conditions (after (mark OpenBrace) (before (repetition unlimited lines.member) (mark CloseBrace))))))
    (λ p. record { name = p.0; primaries = p.1.0; inherits = p.1.1.0; clause = p.1.1.1.0; members = p.1.1.1.1 })
    (λ (q : ProtocolDecl). q.name) (λ p. refl) ts p m

-- the name of a protocol, or of a struct or function at the top, is one of the tokens
abbrev pub Stands : Item → Tokens → Type 0
Stands (items.Struct s) ts = Starts s.name.start ts
Stands (items.Function f) ts = Starts f.name.start ts
Stands (items.Protocol p) ts = Starts p.name.start ts
Stands (items.Query q) ts = Unit {0}

stands_left : (v : Item) (xs ys : Tokens) → Stands v xs → Stands v (xs ++ ys)
stands_left (items.Struct s) xs ys h = starts_left s.name.start xs ys h
stands_left (items.Function f) xs ys h = starts_left f.name.start xs ys h
stands_left (items.Protocol p) xs ys h = starts_left p.name.start xs ys h
stands_left (items.Query q) xs ys h = tt

stands_right : (v : Item) (xs ys : Tokens) → Stands v ys → Stands v (xs ++ ys)
stands_right (items.Struct s) xs ys h = starts_right s.name.start xs ys h
stands_right (items.Function f) xs ys h = starts_right f.name.start xs ys h
stands_right (items.Protocol p) xs ys h = starts_right p.name.start xs ys h
stands_right (items.Query q) xs ys h = tt

declaration_stands : (ts : Tokens) (v : Item) → Matches number lines.declaration ts v → Stands v ts
unfolding lines.declaration
declaration_stands ts v (inl (p, m, e)) = subst (λ x. Stands x ts) e (protocol_starts ts p m)
declaration_stands ts v (inr (inl (f, m, e))) = subst (λ x. Stands x ts) e (function_starts ts f m)
declaration_stands ts v (inr (inr (s, m, e))) = subst (λ x. Stands x ts) e (structure_starts ts s m)

bare_item_stands : (ts : Tokens) (v : Item) → Matches number lines.bare_item ts v → Stands v ts
unfolding lines.bare_item
bare_item_stands ts v (inl (w, (a, b, s, m, n), e)) =
    subst (λ x. Stands x ts) e (subst (λ us. Stands w.1 us) (sym s) (stands_right w.1 a b (declaration_stands b w.1 n)))
bare_item_stands ts v (inr (inl m)) = declaration_stands ts v m
bare_item_stands ts v (inr (inr (q, m, e))) = subst (λ x. Stands x ts) e tt

pub item_stands : (ts : Tokens) (v : Item) → Matches number lines.item ts v → Stands v ts
unfolding lines.item
item_stands ts v (w, (a, b, s, m, n), e) =
    subst (λ x. Stands x ts) e (subst (λ us. Stands w.0 us) (sym s) (stands_left w.0 a b (bare_item_stands a w.0 m)))

-- ---- parts in order

-- the name of a struct or function at the top stands after the place
abbrev Later : ℕ → Item → Type 0
Later n (items.Struct s) = n < s.name.start
Later n (items.Function f) = n < f.name.start
Later n (items.Protocol p) = Unit {0}
Later n (items.Query q) = Unit {0}

abbrev AllLater : ℕ → List Item → Type 0
AllLater n [] = Unit {0}
AllLater n (v ∷ vs) = Later n v × AllLater n vs

abbrev Precedes : Item → List Item → Type 0
Precedes (items.Struct s) vs = AllLater s.name.start vs
Precedes (items.Function f) vs = AllLater f.name.start vs
Precedes (items.Protocol p) vs = Unit {0}
Precedes (items.Query q) vs = Unit {0}

abbrev InOrder : List Item → Type 0
InOrder [] = Unit {0}
InOrder (v ∷ vs) = Precedes v vs × InOrder vs

later_one : (n : ℕ) (v : Item) (ts : Tokens) → Stands v ts → ((m : ℕ) → Starts m ts → n < m) → Later n v
later_one n (items.Struct s) ts h k = k s.name.start h
later_one n (items.Function f) ts h k = k f.name.start h
later_one n (items.Protocol p) ts h k = tt
later_one n (items.Query q) ts h k = tt

all_later : (n : ℕ) (vs : List Item) (ts : Tokens) → Parts (Matches number lines.item) ts vs
    → ((m : ℕ) → Starts m ts → n < m) → AllLater n vs
all_later n [] ts e k = tt
all_later n (v ∷ vs) ts (a, b, s, m, ms) k = (
  later_one n v a (item_stands a v m) (λ x h. k x (subst (λ us. Starts x us) (sym s) (starts_left x a b h))),
  all_later n vs b ms (λ x h. k x (subst (λ us. Starts x us) (sym s) (starts_right x a b h))),
)

precedes : (v : Item) (vs : List Item) (ts : Tokens) → Stands v ts → ((n : ℕ) → Starts n ts → AllLater n vs) → Precedes v vs
precedes (items.Struct s) vs ts h k = k s.name.start h
precedes (items.Function f) vs ts h k = k f.name.start h
precedes (items.Protocol p) vs ts h k = tt
precedes (items.Query q) vs ts h k = tt

parts_in_order : (vs : List Item) (ts : Tokens) → Parts (Matches number lines.item) ts vs → AreOrdered ts → InOrder vs
parts_in_order [] ts e o = tt
parts_in_order (v ∷ vs) ts (a, b, s, m, ms) o =
    let all : AreOrdered (a ++ b) = subst (λ us. AreOrdered us) s o in (
      precedes v vs a (item_stands a v m) (λ n h. all_later n vs b ms (λ x k. ordered_apart a b all n x h k)),
      parts_in_order vs b ms (ordered_back a b all),
    )

-- ---- their signatures

abbrev FunctionsLater : ℕ → List FunctionDecl → Type 0
FunctionsLater n [] = Unit {0}
FunctionsLater n (f ∷ fs) = (n < f.name.start) × FunctionsLater n fs

abbrev StructsLater : ℕ → List StructDecl → Type 0
StructsLater n [] = Unit {0}
StructsLater n (s ∷ ss) = (n < s.name.start) × StructsLater n ss

functions_later : (n : ℕ) (vs : List Item) → AllLater n vs → FunctionsLater n (filter_map function_of vs)
functions_later n [] h = tt
functions_later n (items.Function f ∷ vs) h = (h.0, functions_later n vs h.1)
functions_later n (items.Struct s ∷ vs) h = functions_later n vs h.1
functions_later n (items.Protocol p ∷ vs) h = functions_later n vs h.1
functions_later n (items.Query q ∷ vs) h = functions_later n vs h.1

structs_later : (n : ℕ) (vs : List Item) → AllLater n vs → StructsLater n (filter_map struct_of vs)
structs_later n [] h = tt
structs_later n (items.Struct s ∷ vs) h = (h.0, structs_later n vs h.1)
structs_later n (items.Function f ∷ vs) h = structs_later n vs h.1
structs_later n (items.Protocol p ∷ vs) h = structs_later n vs h.1
structs_later n (items.Query q ∷ vs) h = structs_later n vs h.1

not_less : (a b : ℕ) → a < b → nat_lt b a ≡ false
not_less a b l = grind (arith, nat_tests)

less : (a b : ℕ) → a < b → nat_lt a b ≡ true
less a b l = grind (arith, nat_tests)

none_before : (s : StructDecl) (fs : List FunctionDecl) → FunctionsLater s.name.start fs → filter (stands_before s) fs ≡ []
none_before s [] h = refl
none_before s (f ∷ fs) h = rw (not_less s.name.start f.name.start h.0) (none_before s fs h.1)

all_after : (s : StructDecl) (fs : List FunctionDecl) → FunctionsLater s.name.start fs → filter (λ f. not (stands_before s f)) fs ≡ fs
all_after s [] h = refl
all_after s (f ∷ fs) h = rw (not_less s.name.start f.name.start h.0) (ap (λ (gs : List FunctionDecl). f ∷ gs) (all_after s fs h.1))

function_first : (f : FunctionDecl) (ss : List StructDecl) (fs : List FunctionDecl) → StructsLater f.name.start ss
    → merged ss (f ∷ fs) ≡ of_function f ∷ merged ss fs
function_first f [] fs h = refl
function_first f (s ∷ ss) fs h = rw (less f.name.start s.name.start h.0) refl

struct_first : (s : StructDecl) (ss : List StructDecl) (fs : List FunctionDecl) → FunctionsLater s.name.start fs
    → merged (s ∷ ss) fs ≡ with_functions s ++ merged ss fs
struct_first s ss fs h = rw (none_before s fs h, all_after s fs h) refl

in_order : (vs : List Item) → InOrder vs → signature_decls (skeleton_of vs) ≡ flat_map item_signatures vs
in_order [] h = refl
in_order (items.Struct s ∷ vs) h =
    struct_first s (filter_map struct_of vs) (filter_map function_of vs) (functions_later s.name.start vs h.0)
    ∙ ap (λ (us : List SignatureDecl). with_functions s ++ us) (in_order vs h.1)
    ∙ sym (flat_map-cons item_signatures (items.Struct s) vs)
in_order (items.Function f ∷ vs) h =
    function_first f (filter_map struct_of vs) (filter_map function_of vs) (structs_later f.name.start vs h.0)
    ∙ ap (λ (us : List SignatureDecl). of_function f ∷ us) (in_order vs h.1)
    ∙ sym (flat_map-cons item_signatures (items.Function f) vs)
in_order (items.Protocol p ∷ vs) h = in_order vs h.1 ∙ sym (flat_map-cons item_signatures (items.Protocol p) vs)
in_order (items.Query q ∷ vs) h = in_order vs h.1 ∙ sym (flat_map-cons item_signatures (items.Query q) vs)

pub signatures_in_order : (text : List ℕ) (from : ℕ) (ts : List lexed.Token) → AreSlices text from ts → (parts : List Item)
    → Matches number lines.source (with_terminals text ts) parts → signature_decls (skeleton_of parts) ≡ flat_map item_signatures parts
unfolding lines.source
signatures_in_order text from ts s parts m =
    in_order parts (parts_in_order parts (with_terminals text ts) m.0 (slices_ordered text from ts s).1)

-- Requirements stand at words of their constraints, and in the order of their last words.
use Rattle.std.proofs.Common.{◌≡◌, ℕ, zero, suc, ◌<◌, ◌⊎◌, inl, inr, List, [], ◌∷◌, ◌++◌, Some, slice_get, refl, sym, subst, ap, ◌∙◌, arith, append_assoc}
use Rattle.std.proofs.lemmas.Grind.{flat_map-append}
use Rattle.std.proofs.lemmas.List.Elements.{All-head, All-tail, All-contains, All-contains_itself}
use Rattle.std.proofs.lemmas.List.Folds.{flat_map-map}
use Rattle.std.proofs.lemmas.List.Kept.{AllPairs-cons}
use Rattle.std.specs.List.{All, AllPairs, Contains, filter_map, flat_map}
use Rattle.std.specs.Str.{chars}
use Rattle.swreq_lex.specs.declared.token.Token as lexed
use Rattle.swreq_lex.specs.Slices.{AreSlices}
use Rattle.swreq_lex.specs.Tokens.{HasTokens, first_offset}
use Rattle.swreq_lexicon.specs.swreq_decl.declared.skeleton.Span.{Span}
use Rattle.swreq_lexicon.specs.swreq_decl.declared.skeleton.Entity.{Entity}
use Rattle.swreq_lexicon.specs.swreq_decl.declared.skeleton.TypeDecl.{TypeDecl}
use Rattle.swreq_lexicon.specs.swreq_decl.declared.skeleton.ReqDecl.{ReqDecl}
use Rattle.swreq_lexicon.specs.swreq_decl.declared.skeleton.ParamDecl.{ParamDecl}
use Rattle.swreq_lexicon.specs.swreq_decl.declared.skeleton.ProtocolDecl.{ProtocolDecl}
use Rattle.swreq_lexicon.specs.swreq_decl.declared.skeleton.FunctionDecl.{FunctionDecl}
use Rattle.swreq_lexicon.specs.swreq_decl.declared.skeleton.StructDecl.{StructDecl}
use Rattle.swreq_lexicon.specs.swreq_decl.declared.skeleton.Skeleton.{Skeleton}
use Rattle.swreq_lexicon.specs.swreq_decl.declared.skeleton.Item.{Item}
use Rattle.swreq_lexicon.specs.swreq_decl.declared.skeleton.Item.TheVariants as items
use Rattle.swreq_lexicon.specs.swreq_decl.Skeletons.{StandsFor, protocol_of, struct_of, function_of}
use Rattle.swreq_lexicon.specs.swreq_names.declared.signature.Signature.{Signature}
use Rattle.swreq_lexicon.specs.swreq_names.declared.signature.Signature.TheVariants.{Struct, Function, Nested}
use Rattle.swreq_lexicon.specs.swreq_names.Parts as parts
use Rattle.swreq_lexicon.specs.swreq_names.Parts.{Subject, Constraint}
use Rattle.swreq_lexicon.specs.swreq_names.Parts.Subject.{self_of, associated, parameter, written}
use Rattle.swreq_lexicon.specs.swreq_names.Parts.Constraint.{bound, same}
use Rattle.swreq_lowering.specs.declared.context.Context.{Context}
use Rattle.swreq_lowering.specs.declared.context.Context.TheVariants as contexts
use Rattle.swreq_lowering.specs.Requirements.{PlacedRequirement, of_one_side, equality, bound_of, subject_at, subject_of, argument, arguments, in_bound, in_bounds, of_constraint, in_protocol, in_signature, in_struct, in_function, in_nested}
use Rattle.swreq_lowering.specs.Standing.{first_word, IsArgumentOf, of_bound, of_argument, of_equality, EndsAt, StandsInOne, InOrder, read_in, of_protocol, of_signature, of_struct, of_function, of_nested}
use Rattle.swreq_lowering.specs.Types.{type_in}
use Rattle.swreq_lowering.specs.Words.{WordsView, primaries_named}
use Rattle.swreq_lowering.proofs.Over.{all_append, all_cons, all_none}
use Rattle.swreq_lowering.proofs.Ascending.{Above, Ascend, type_places, bounds_places, entity_places, places, all_places, protocol_places, signature_places, function_places, struct_places, item_places, parts_ascend}

-- ---- places that ascend

abbrev Has : ℕ → List ℕ → Type 0
Has n [] = ⊥
Has n (m ∷ ms) = (n ≡ m) ⊎ Has n ms

has_left : (n : ℕ) (ns ms : List ℕ) → Has n ns → Has n (ns ++ ms)
has_left n [] ms h = absurd h
has_left n (m ∷ ns) ms (inl e) = inl e
has_left n (m ∷ ns) ms (inr h) = inr (has_left n ns ms h)

has_right : (n : ℕ) (ns ms : List ℕ) → Has n ms → Has n (ns ++ ms)
has_right n [] ms h = h
has_right n (m ∷ ns) ms h = inr (has_right n ns ms h)

above_has : (n m : ℕ) (ms : List ℕ) → Above n ms → Has m ms → n < m
above_has n m [] a h = absurd h
above_has n m (k ∷ ms) a (inl e) = let l = a.0 in omega arith
above_has n m (k ∷ ms) a (inr h) = above_has n m ms a.1 h

above_front : (n : ℕ) (ns ms : List ℕ) → Above n (ns ++ ms) → Above n ns
above_front n [] ms a = tt
above_front n (k ∷ ns) ms a = (a.0, above_front n ns ms a.1)

above_skip : (n : ℕ) (ns ms ks : List ℕ) → Above n (ns ++ (ms ++ ks)) → Above n (ns ++ ks)
above_skip n [] [] ks a = a
above_skip n [] (m ∷ ms) ks a = above_skip n [] ms ks a.1
above_skip n (m ∷ ns) ms ks a = (a.0, above_skip n ns ms ks a.1)

ascend_front : (ns ms : List ℕ) → Ascend (ns ++ ms) → Ascend ns
ascend_front [] ms a = tt
ascend_front (n ∷ ns) ms a = (above_front n ns ms a.0, ascend_front ns ms a.1)

ascend_back : (ns ms : List ℕ) → Ascend (ns ++ ms) → Ascend ms
ascend_back [] ms a = a
ascend_back (n ∷ ns) ms a = ascend_back ns ms a.1

ascend_skip : (ns ms ks : List ℕ) → Ascend (ns ++ (ms ++ ks)) → Ascend (ns ++ ks)
ascend_skip [] ms ks a = ascend_back ms ks a
ascend_skip (n ∷ ns) ms ks a = (above_skip n ns ms ks a.0, ascend_skip ns ms ks a.1)

ascend_apart : (ns ms : List ℕ) → Ascend (ns ++ ms) → (n m : ℕ) → Has n ns → Has m ms → n < m
ascend_apart [] ms a n m h k = absurd h
ascend_apart (i ∷ ns) ms a n m (inl e) k = let l = above_has i m (ns ++ ms) a.0 (has_right m ns ms k) in omega arith
ascend_apart (i ∷ ns) ms a n m (inr h) k = ascend_apart ns ms a.1 n m h k

pairs_none : {A : Type 0} (R : A → A → Type 0) → AllPairs R []
pairs_none R i j d l m = absurd (omega arith)

pairs_append : {A : Type 0} (R : A → A → Type 0) (xs ys : List A) → AllPairs R xs → AllPairs R ys
    → All (λ x. All (R x) ys) xs → AllPairs R (xs ++ ys)
pairs_append R [] ys h k a = k
pairs_append R (x ∷ xs) ys h k a =
    AllPairs-cons R x (xs ++ ys) (all_append (R x) xs ys (λ j d m. h zero (suc j) d (omega arith) (omega arith)) (a zero x (omega arith)))
    (pairs_append R xs ys (λ i j d l m. h (suc i) (suc j) d (omega arith) (omega arith)) k (λ j d m. a (suc j) d (omega arith)))

at_first_word : (s : Subject) → subject_at s ≡ (first_word s).start
at_first_word (self_of p) = refl
at_first_word (associated a) = refl
at_first_word (parameter k g) = refl
at_first_word (written t) = refl

-- what constraints require
abbrev required : WordsView → List (Context × Constraint) → List PlacedRequirement
required w cs = flat_map (λ c. of_constraint w c.0 c.1) cs

-- the places of their words
abbrev scoped_places : List (Context × Constraint) → List ℕ
scoped_places cs = flat_map (λ c. places c.1) cs

module _ (w : WordsView) (whole : List (Context × Constraint)) where
  -- The last words of the requirements are at some of these places, and where the places ascend they are in order.
  record Goes (ns : List ℕ) (rs : List PlacedRequirement) : Type 0 where
    stand : All (λ r. (n : ℕ) × Has n ns × EndsAt w whole r n) rs
    order : Ascend ns → AllPairs (InOrder w whole) rs

  goes_none : (ns : List ℕ) → Goes ns []
  goes_none ns = record { stand = all_none (λ r. (n : ℕ) × Has n ns × EndsAt w whole r n); order = λ a. pairs_none (InOrder w whole) }

  goes_append : (ns ms : List ℕ) (rs qs : List PlacedRequirement) → Goes ns rs → Goes ms qs → Goes (ns ++ ms) (rs ++ qs)
  goes_append ns ms rs qs g h = record {
    stand = all_append (λ r. (n : ℕ) × Has n (ns ++ ms) × EndsAt w whole r n) rs qs
        (λ k d l. let r = g.stand k d l in (r.0, has_left r.0 ns ms r.1, r.2))
        (λ k d l. let r = h.stand k d l in (r.0, has_right r.0 ns ms r.1, r.2));
    order = λ a. pairs_append (InOrder w whole) rs qs (g.order (ascend_front ns ms a)) (h.order (ascend_back ns ms a))
        (λ k d l j e m. let r = g.stand k d l in let q = h.stand j e m in (r.0, q.0, r.2, q.2, ascend_apart ns ms a r.0 q.0 r.1 q.1));
  }

  -- one requirement and more, whose places are after its own
  goes_cons : (n : ℕ) (ns : List ℕ) (r : PlacedRequirement) (rs : List PlacedRequirement) → EndsAt w whole r n → Goes ns rs
      → Goes (n ∷ ns) (r ∷ rs)
  goes_cons n ns r rs h g = goes_append (n ∷ []) ns (r ∷ []) rs one g
    where
      one : Goes (n ∷ []) (r ∷ [])
      one = record {
        stand = all_cons (λ q. (m : ℕ) × Has m (n ∷ []) × EndsAt w whole q m) r [] (n, inl refl, h)
            (all_none (λ q. (m : ℕ) × Has m (n ∷ []) × EndsAt w whole q m));
        order = λ a. AllPairs-cons (InOrder w whole) r [] (all_none (InOrder w whole r)) (pairs_none (InOrder w whole));
      }

  -- a place at which no requirement is written out
  goes_behind : (n : ℕ) (ns : List ℕ) (rs : List PlacedRequirement) → Goes ns rs → Goes (n ∷ ns) rs
  goes_behind n ns rs g = goes_append (n ∷ []) ns [] rs (goes_none (n ∷ [])) g

  -- ---- what one constraint requires

  module _ (context : Context) (subject : Subject) (bounds : List Entity) (there : Contains whole (context, bound subject bounds)) where
    bound_ends : (e : Entity) → Contains bounds e
        → EndsAt w whole (of_one_side (bound_of w (subject_of w context subject) e) (subject_at subject)) e.span.start
    bound_ends e h = (
      (context, bound subject bounds),
      there,
      record {
        left = first_word subject;
        right = first_word subject;
        last = e.span;
        written = of_bound h;
        left_at = at_first_word subject;
        right_at = at_first_word subject;
        last_at = refl;
      },
    )

    argument_ends : (e : Entity) (a : Span) (u : TypeDecl) → Contains bounds e → IsArgumentOf w e a u
        → EndsAt w whole (argument w context (subject_of w context subject) e.span.start a u) u.head.start
    argument_ends e a u h n = (
      (context, bound subject bounds),
      there,
      record { left = e.span; right = u.head; last = u.head; written = of_argument h n; left_at = refl; right_at = refl; last_at = refl },
    )

    arguments_go : (e : Entity) → Contains bounds e → (ns : List Span) (us : List TypeDecl)
        → ((k : ℕ) (a : Span) (u : TypeDecl) → slice_get ns k ≡ Some a → slice_get us k ≡ Some u → IsArgumentOf w e a u)
        → Goes (flat_map type_places us) (arguments w context (subject_of w context subject) e.span.start ns us)
    arguments_go e h [] us n = goes_none (flat_map type_places us)
    arguments_go e h (a ∷ ns) [] n = goes_none []
    arguments_go e h (a ∷ ns) (u ∷ us) n =
        goes_cons u.head.start (flat_map type_places us) (argument w context (subject_of w context subject) e.span.start a u)
        (arguments w context (subject_of w context subject) e.span.start ns us)
        (argument_ends e a u h (n zero a u refl refl)) (arguments_go e h ns us (λ k. n (suc k)))

    entity_goes : (e : Entity) → Contains bounds e
        → Goes (entity_places e) (in_bound w context (subject_of w context subject) (subject_at subject) e)
    entity_goes e h =
        goes_cons e.span.start (flat_map type_places e.args)
        (of_one_side (bound_of w (subject_of w context subject) e) (subject_at subject))
        (arguments w context (subject_of w context subject) e.span.start (primaries_named w e.span) e.args) (bound_ends e h)
        (arguments_go e h (primaries_named w e.span) e.args (λ k a u n m. (k, n, m)))

    bounds_go : (es : List Entity) → All (Contains bounds) es
        → Goes (bounds_places es) (in_bounds w context (subject_of w context subject) (subject_at subject) es)
    bounds_go [] h = goes_none []
    bounds_go (e ∷ es) h =
        goes_append (entity_places e) (bounds_places es) (in_bound w context (subject_of w context subject) (subject_at subject) e)
        (in_bounds w context (subject_of w context subject) (subject_at subject) es) (entity_goes e (All-head (Contains bounds) e es h))
        (bounds_go es (All-tail (Contains bounds) e es h))

  constraint_goes : (context : Context) (c : Constraint) → Contains whole (context, c) → Goes (places c) (of_constraint w context c)
  constraint_goes context (bound subject bounds) h =
      goes_behind (first_word subject).start (bounds_places bounds)
      (in_bounds w context (subject_of w context subject) (subject_at subject) bounds)
      (bounds_go context subject bounds h bounds (All-contains_itself bounds))
  constraint_goes context (same t u) h =
      goes_behind t.head.start (u.head.start ∷ []) (equality (type_in w context t) t.head.start (type_in w context u) u.head.start ∷ [])
      (goes_cons u.head.start [] (equality (type_in w context t) t.head.start (type_in w context u) u.head.start) [] (
        (context, same t u),
        h,
        record { left = t.head; right = u.head; last = u.head; written = of_equality; left_at = refl; right_at = refl; last_at = refl },
      ) (goes_none []))

  some_go : (cs : List (Context × Constraint)) → All (Contains whole) cs → Goes (scoped_places cs) (required w cs)
  some_go [] h = goes_none []
  some_go (c ∷ cs) h =
      goes_append (places c.1) (scoped_places cs) (of_constraint w c.0 c.1) (required w cs)
      (constraint_goes c.0 c.1 (All-head (Contains whole) c cs h)) (some_go cs (All-tail (Contains whole) c cs h))

-- ---- what the constraints of a protocol or a signature require

module _ (w : WordsView) where
  all_go : (cs : List (Context × Constraint)) (rs : List PlacedRequirement) → rs ≡ required w cs → Goes w cs (scoped_places cs) rs
  all_go cs rs e = subst (Goes w cs (scoped_places cs)) (sym e) (some_go w cs cs (All-contains_itself cs))

  read_required : (context : Context) (cs : List Constraint) → flat_map (of_constraint w context) cs ≡ required w (read_in context cs)
  read_required context cs = sym (flat_map-map (λ (c : Context × Constraint). of_constraint w c.0 c.1) (λ c. (context, c)) cs)

  protocol_goes : (p : ProtocolDecl) → Goes w (of_protocol p) (scoped_places (of_protocol p)) (in_protocol w p)
  protocol_goes p = all_go (of_protocol p) (in_protocol w p) (read_required contexts.Protocol (parts.of_protocol p))

  signature_required : (g : Signature) (params : List ParamDecl) (clause : List ReqDecl)
      → in_signature w g params clause ≡ required w (of_signature g params clause)
  signature_required g params clause = read_required (contexts.Signature g) (parts.of_signature params clause)

  signature_goes : (g : Signature) (params : List ParamDecl) (clause : List ReqDecl)
      → Goes w (of_signature g params clause) (scoped_places (of_signature g params clause)) (in_signature w g params clause)
  signature_goes g params clause =
      all_go (of_signature g params clause) (in_signature w g params clause) (signature_required g params clause)

  nested_goes : (i : ℕ) (s : StructDecl) (j : ℕ) (f : FunctionDecl)
      → Goes w (of_nested i s j f) (scoped_places (of_nested i s j f)) (in_nested w i s j f)
  nested_goes i s j f =
      all_go (of_nested i s j f) (in_nested w i s j f)
      ((λ n. signature_required (Struct i) s.params s.clause n ++ signature_required (Nested i j) f.params f.clause n)
      ∙ sym (flat_map-append (λ (c : Context × Constraint). of_constraint w c.0 c.1) (of_struct i s)
      (of_signature (Nested i j) f.params f.clause)))

  stand : (cs : List (Context × Constraint)) (ns : List ℕ) (rs : List PlacedRequirement) → Goes w cs ns rs → All (StandsInOne w cs) rs
  stand cs ns rs g k d l = let r = g.stand k d l in (r.0, r.2)

  pub protocol_stands : (p : ProtocolDecl) → All (StandsInOne w (of_protocol p)) (in_protocol w p)
  protocol_stands p = stand (of_protocol p) (scoped_places (of_protocol p)) (in_protocol w p) (protocol_goes p)

  pub signature_stands : (g : Signature) (params : List ParamDecl) (clause : List ReqDecl)
      → All (StandsInOne w (of_signature g params clause)) (in_signature w g params clause)
  signature_stands g params clause = stand (of_signature g params clause) (scoped_places (of_signature g params clause))
      (in_signature w g params clause) (signature_goes g params clause)

  pub nested_stands : (i : ℕ) (s : StructDecl) (j : ℕ) (f : FunctionDecl) → All (StandsInOne w (of_nested i s j f)) (in_nested w i s j f)
  nested_stands i s j f = stand (of_nested i s j f) (scoped_places (of_nested i s j f)) (in_nested w i s j f) (nested_goes i s j f)

  read_places : (context : Context) (cs : List Constraint) → all_places cs ≡ scoped_places (read_in context cs)
  read_places context cs = sym (flat_map-map (λ (c : Context × Constraint). places c.1) (λ c. (context, c)) cs)

  protocol_in_order : (p : ProtocolDecl) → Ascend (protocol_places p) → AllPairs (InOrder w (of_protocol p)) (in_protocol w p)
  protocol_in_order p a = (protocol_goes p).order (subst Ascend (read_places contexts.Protocol (parts.of_protocol p)) a)

  signature_in_order : (g : Signature) (params : List ParamDecl) (clause : List ReqDecl) → Ascend (signature_places params clause)
      → AllPairs (InOrder w (of_signature g params clause)) (in_signature w g params clause)
  signature_in_order g params clause a =
      (signature_goes g params clause).order (subst Ascend (read_places (contexts.Signature g) (parts.of_signature params clause)) a)

  nested_in_order : (i : ℕ) (s : StructDecl) (j : ℕ) (f : FunctionDecl) → Ascend (signature_places s.params s.clause ++ function_places f)
      → AllPairs (InOrder w (of_nested i s j f)) (in_nested w i s j f)
  nested_in_order i s j f a =
      (nested_goes i s j f).order
      (subst Ascend
      ((λ n. read_places (contexts.Signature (Struct i)) (parts.of_signature s.params s.clause) n
      ++ read_places (contexts.Signature (Nested i j)) (parts.of_signature f.params f.clause) n)
      ∙ sym (flat_map-append (λ (c : Context × Constraint). places c.1) (of_struct i s) (of_signature (Nested i j) f.params f.clause))) a)

-- ---- the parts of a text

protocols_ascend : (vs : List Item) → Ascend (flat_map item_places vs) → All (λ p. Ascend (protocol_places p)) (filter_map protocol_of vs)
protocols_ascend [] a = all_none (λ p. Ascend (protocol_places p))
protocols_ascend (items.Protocol p ∷ vs) a =
    all_cons (λ q. Ascend (protocol_places q)) p (filter_map protocol_of vs) (ascend_front (protocol_places p) (flat_map item_places vs) a)
    (protocols_ascend vs (ascend_back (protocol_places p) (flat_map item_places vs) a))
protocols_ascend (items.Struct s ∷ vs) a = protocols_ascend vs (ascend_back (struct_places s) (flat_map item_places vs) a)
protocols_ascend (items.Function f ∷ vs) a = protocols_ascend vs (ascend_back (function_places f) (flat_map item_places vs) a)
protocols_ascend (items.Query q ∷ vs) a = protocols_ascend vs a

structs_ascend : (vs : List Item) → Ascend (flat_map item_places vs) → All (λ s. Ascend (struct_places s)) (filter_map struct_of vs)
structs_ascend [] a = all_none (λ s. Ascend (struct_places s))
structs_ascend (items.Protocol p ∷ vs) a = structs_ascend vs (ascend_back (protocol_places p) (flat_map item_places vs) a)
structs_ascend (items.Struct s ∷ vs) a =
    all_cons (λ r. Ascend (struct_places r)) s (filter_map struct_of vs) (ascend_front (struct_places s) (flat_map item_places vs) a)
    (structs_ascend vs (ascend_back (struct_places s) (flat_map item_places vs) a))
structs_ascend (items.Function f ∷ vs) a = structs_ascend vs (ascend_back (function_places f) (flat_map item_places vs) a)
structs_ascend (items.Query q ∷ vs) a = structs_ascend vs a

functions_ascend : (vs : List Item) → Ascend (flat_map item_places vs) → All (λ f. Ascend (function_places f)) (filter_map function_of vs)
functions_ascend [] a = all_none (λ f. Ascend (function_places f))
functions_ascend (items.Protocol p ∷ vs) a = functions_ascend vs (ascend_back (protocol_places p) (flat_map item_places vs) a)
functions_ascend (items.Struct s ∷ vs) a = functions_ascend vs (ascend_back (struct_places s) (flat_map item_places vs) a)
functions_ascend (items.Function f ∷ vs) a =
    all_cons (λ g. Ascend (function_places g)) f (filter_map function_of vs) (ascend_front (function_places f) (flat_map item_places vs) a)
    (functions_ascend vs (ascend_back (function_places f) (flat_map item_places vs) a))
functions_ascend (items.Query q ∷ vs) a = functions_ascend vs a

nested_ascend : (ns : List ℕ) (fs : List FunctionDecl) → Ascend (ns ++ flat_map function_places fs)
    → All (λ f. Ascend (ns ++ function_places f)) fs
nested_ascend ns [] a = all_none (λ f. Ascend (ns ++ function_places f))
nested_ascend ns (f ∷ fs) a =
    all_cons (λ g. Ascend (ns ++ function_places g)) f fs
    (ascend_front (ns ++ function_places f) (flat_map function_places fs)
    (subst Ascend (sym (append_assoc ns (function_places f) (flat_map function_places fs))) a))
    (nested_ascend ns fs (ascend_skip ns (function_places f) (flat_map function_places fs) a))

module _ (text : List ℕ) (slices : (ts : List lexed.Token) → HasTokens text ts → AreSlices text (first_offset (chars text)) ts)
    (w : WordsView) (stands : StandsFor text w.skeleton) where
  abbrev found : List Item
  found = stands.2.0

  ascend : Ascend (flat_map item_places found)
  ascend = parts_ascend text (first_offset (chars text)) stands.0 (slices stands.0 stands.1) found stands.2.1

  struct_ascends : (s : StructDecl) → Contains w.skeleton.structs s → Ascend (struct_places s)
  struct_ascends s h =
      All-contains (λ r. Ascend (struct_places r)) (filter_map struct_of found) s (structs_ascend found ascend)
      (subst (λ ss. Contains ss s) (ap (λ (k : Skeleton). k.structs) stands.2.2) h)

  pub protocols_in_order : (p : ProtocolDecl) → Contains w.skeleton.protocols p → AllPairs (InOrder w (of_protocol p)) (in_protocol w p)
  protocols_in_order p h =
      protocol_in_order w p
      (All-contains (λ q. Ascend (protocol_places q)) (filter_map protocol_of found) p (protocols_ascend found ascend)
      (subst (λ ps. Contains ps p) (ap (λ (k : Skeleton). k.protocols) stands.2.2) h))

  pub structs_in_order : (i : ℕ) (s : StructDecl) → Contains w.skeleton.structs s → AllPairs (InOrder w (of_struct i s)) (in_struct w i s)
  structs_in_order i s h = signature_in_order w (Struct i) s.params s.clause
      (ascend_front (signature_places s.params s.clause) (flat_map function_places s.functions) (struct_ascends s h))

  pub functions_in_order : (i : ℕ) (f : FunctionDecl) → Contains w.skeleton.functions f
      → AllPairs (InOrder w (of_function i f)) (in_function w i f)
  functions_in_order i f h =
      signature_in_order w (Function i) f.params f.clause
      (All-contains (λ g. Ascend (function_places g)) (filter_map function_of found) f (functions_ascend found ascend)
      (subst (λ fs. Contains fs f) (ap (λ (k : Skeleton). k.functions) stands.2.2) h))

  pub all_nested_in_order : (i : ℕ) (s : StructDecl) (j : ℕ) (f : FunctionDecl) → Contains w.skeleton.structs s → Contains s.functions f
      → AllPairs (InOrder w (of_nested i s j f)) (in_nested w i s j f)
  all_nested_in_order i s j f h k =
      nested_in_order w i s j f
      (All-contains (λ g. Ascend (signature_places s.params s.clause ++ function_places g)) s.functions f
      (nested_ascend (signature_places s.params s.clause) s.functions (struct_ascends s h)) k)

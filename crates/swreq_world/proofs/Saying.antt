-- The ids of a text whose names resolve say the words that are written.
use Rattle.std.proofs.Common.{◌≡◌, ⊎_elim, ℕ, Bool, true, false, cond, List, [], ◌∷◌, map, unwrap_or, Option, Some, None, slice_get, Contains, refl, sym, ap, subst, ◌∙◌, true≢false}
use Rattle.std.proofs.lemmas.Bool.{or_cases}
use Rattle.std.proofs.lemmas.List.Elements.{Contains-append_left, Contains-append_right}
use Rattle.std.proofs.lemmas.Slice.Eq.{bytes_eq-Decides}
use Rattle.std.specs.List.{All, flat_map}
use Rattle.std.specs.Option.{option_map}
use Rattle.std.specs.Str.{bytes_eq}
use Rattle.swreq_param.proofs.swreq_lemmas.Elements.{contains_get, get_contains}
use Rattle.swreq_param.proofs.swreq_lemmas.Members.{contains_map, first_member, later_member}
use Rattle.swreq_lexicon.specs.swreq_decl.declared.skeleton.AssocDecl.{AssocDecl}
use Rattle.swreq_lexicon.specs.swreq_decl.declared.skeleton.Entity.{Entity}
use Rattle.swreq_lexicon.specs.swreq_decl.declared.skeleton.ProtocolDecl.{ProtocolDecl}
use Rattle.swreq_lexicon.specs.swreq_decl.declared.skeleton.QueryDecl.{QueryDecl}
use Rattle.swreq_lexicon.specs.swreq_decl.declared.skeleton.Skeleton.{Skeleton}
use Rattle.swreq_lexicon.specs.swreq_decl.declared.skeleton.Span.{Span}
use Rattle.swreq_lexicon.specs.swreq_decl.declared.skeleton.StepDecl.{StepDecl}
use Rattle.swreq_lexicon.specs.swreq_decl.declared.skeleton.StepDecl.TheVariants as decls
use Rattle.swreq_lexicon.specs.swreq_decl.declared.skeleton.TypeDecl.{TypeDecl}
use Rattle.swreq_lexicon.specs.swreq_names.declared.signature.Param.TheVariants.{Own}
use Rattle.swreq_lexicon.specs.swreq_names.declared.signature.Signature.{Signature}
use Rattle.swreq_lexicon.specs.swreq_names.Mentioned as names
use Rattle.swreq_lexicon.specs.swreq_names.Mentioned.{mentioned, member_of}
use Rattle.swreq_lexicon.specs.swreq_names.Parts as parts
use Rattle.swreq_lexicon.specs.swreq_names.Parts.{Subject, self_of, associated, parameter, written, Constraint, bound, same, in_protocol, in_signature, in_query, numbered, constraints, entities, types}
use Rattle.swreq_lexicon.specs.swreq_names.Spaces.{Spaces, spaces, word, self_bytes, protocol_of, signature_of, nested_of, declares, has_member, param_of}
use Rattle.swreq_lexicon.proofs.swreq_names.Firsts.{same_true}
use Rattle.swreq_lexicon.proofs.swreq_names.Pieces.{in_pieces}
use Rattle.swreq_param.specs.declared.ids.ParamId.{ParamId}
use Rattle.swreq_param.specs.declared.ids.Step.TheVariants as steps
use Rattle.swreq_param.specs.Terms.{self, self_param, with_steps}
use Rattle.swreq_param.specs.Terms.Term.{Generic}
use Rattle.swreq_resolve.specs.declared.refusal.Fault.TheVariants.{NoSuchMember, NotAProtocol}
use Rattle.swreq_resolve.specs.Refusals.{begins_in_protocol, begins_in_signature, of_bound, of_step}
use Rattle.swreq_resolve.specs.Resolving.{HasNames}
use Rattle.swreq_resolve.proofs.Gathered.{begins_at, signature_asked}
use Rattle.swreq_lexicon.specs.swreq_rank.Ranks.{Bytes, rank}
use Rattle.swreq_lexicon.specs.Lexicons.{pair}
use Rattle.swreq_lexicon.specs.Texts.{IsLexiconOf, protocol_names}
use Rattle.swreq_lexicon.specs.Views.{LexiconView}
use Rattle.swreq_lexicon.proofs.RankLaws.{rank_is}
use Rattle.swreq_lowering.specs.declared.context.Context.{Context}
use Rattle.swreq_lowering.specs.declared.context.Context.TheVariants as contexts
use Rattle.swreq_lowering.specs.Queries.{asked_signature, signature_in_query}
use Rattle.swreq_lowering.specs.Requirements.{subject_of}
use Rattle.swreq_lowering.specs.Signatures.{outer_param_decls, own_depth, own_param_decls}
use Rattle.swreq_lowering.specs.Types.{member_named, param_id, param_named, step_of, type_in}
use Rattle.swreq_lowering.specs.Words.{WordsView, proto_of, name_of, primaries_of, primaries_at, primaries_named}
use Rattle.swreq_world.specs.ReadBack.{ArePrimaries, IsReadIn, IsSaid, SayNames, SaySteps, SaysConstraint, SaysName, SaysProtocol, SaysStep, SaysSubject, SaysType, of_member, of_parameter, of_self}
use Rattle.swreq_world.proofs.ParamNames.{at_own, meant, param_says}
use Rattle.swreq_world.proofs.Resolving.{Never, associated_stands, declared_member, declared_somewhere, passes, protocol_named, refused, some_of}
use Rattle.swreq_world.proofs.Subjects.{IsDeclaredIn, stands_in}
use Rattle.swreq_world.proofs.Unrefused.{asks, begins_asked, begins_so, is_protocol, none_of_step, primary_is_member}

module _ (text : Bytes) (s : Skeleton) (x : LexiconView) (is : IsLexiconOf text s x) where
  abbrev words : WordsView
  words = record { text = text; skeleton = s; lexicon = x }

  -- ---- words

  name_says : (a : Bytes) → Contains (mentioned text s) a → slice_get x.names (rank x.names a) ≡ Some a
  name_says a c = rank_is (Contains (mentioned text s)) x.names is.names a c

  pub protocol_says : (k : ℕ) (p : ProtocolDecl) → slice_get s.protocols k ≡ Some p → SaysProtocol text x (proto_of words p.name) p.name
  protocol_says k p at =
      rank_is (Contains (protocol_names text s.protocols)) x.protocols is.protocols (word text p.name)
      (contains_map (λ (q : ProtocolDecl). word text q.name) s.protocols p (get_contains s.protocols k p at))

  -- a name that means a protocol
  reference_says : (p : Span) (k : ℕ) → protocol_of (spaces text s) (word text p) ≡ Some k → SaysProtocol text x (proto_of words p) p
  reference_says p k e =
      let (q, at, called) = protocol_named text s x is (word text p) k
      (subst (λ (d : Spaces). protocol_of d (word text p) ≡ Some k) (sym is.resolved.declared) e) in
      subst (λ n. slice_get x.protocols (rank x.protocols n) ≡ Some n) called (protocol_says k q at)

  -- the names that protocols declare
  member_says : (p : ProtocolDecl) (m : AssocDecl) → Contains s.protocols p → Contains p.members m
      → SaysName text x (name_of words m.name) m.name
  member_says p m c d =
      let a = word text m.name in
      name_says a
      (Contains-append_left (flat_map (names.declared_by text) s.protocols) (flat_map (λ t. names.members_in text t.1) (types s)) a
      (in_pieces (names.declared_by text) s.protocols p a c (contains_map (λ (n : AssocDecl). word text n.name) p.members m d)))

  member_name_says : (inherits : ℕ → ℕ → Bool) (k : ℕ) (a : Bytes) → has_member (spaces text s) inherits k a ≡ true
      → slice_get x.names (rank x.names a) ≡ Some a
  member_name_says inherits k a e =
      let (j, h) = declared_somewhere (spaces text s) inherits k a e in
      let (p, m, at, c, called) =
      declared_member text s x is j a (subst (λ (d : Spaces). declares d j a ≡ true) (sym is.resolved.declared) h) in
      subst (λ n. slice_get x.names (rank x.names n) ≡ Some n) called (member_says p m (get_contains s.protocols j p at) c)

  -- ---- steps

  module _ (scope : parts.Scope) (t : TypeDecl) (c : Contains (types s) (scope, t)) where
    step_name_says : (y : StepDecl) → Contains t.steps y → SaysName text x (name_of words (member_of y)) (member_of y)
    step_name_says y k =
        let a = word text (member_of y) in
        name_says a
        (Contains-append_right (flat_map (names.declared_by text) s.protocols) (flat_map (λ t. names.members_in text t.1) (types s)) a
        (in_pieces (λ (u : parts.Scope × TypeDecl). names.members_in text u.1) (types s) (scope, t) a c
        (contains_map (λ z. word text (member_of z)) t.steps y k)))

    bound_says : (p a : Span) → Contains t.steps (decls.Bound p a) → (o : Option ℕ) → protocol_of (spaces text s) (word text p) ≡ o
        → All Never (of_bound text (spaces text s) p a o)
        → SaysStep text x (step_of words (decls.Bound p a)) (decls.Bound p a)
    bound_says p a k None e h = absurd (refused NotAProtocol p.start h)
    bound_says p a k (Some i) e h =
        let back = sym is.resolved.declared in
        let declares_it = passes (declares (spaces text s) i (word text a)) NoSuchMember a.start h in
        record {
          pair = pair (proto_of words p) (name_of words a);
          there = associated_stands text s x is (word text p) (word text a) i
              (subst (λ (d : Spaces). protocol_of d (word text p) ≡ Some i) back e)
              (subst (λ (d : Spaces). declares d i (word text a) ≡ true) back declares_it);
          protocol = reference_says p i e;
          name = step_name_says (decls.Bound p a) k;
        }

    step_says : (y : StepDecl) → Contains t.steps y → All Never (of_step text (spaces text s) y) → SaysStep text x (step_of words y) y
    step_says (decls.Plain a) k h = step_name_says (decls.Plain a) k
    step_says (decls.Bound p a) k h = bound_says p a k (protocol_of (spaces text s) (word text p)) refl h

  steps_say : (ds : List StepDecl) → ((y : StepDecl) → Contains ds y → SaysStep text x (step_of words y) y)
      → SaySteps text x (map (step_of words) ds) ds
  steps_say [] f = tt
  steps_say (y ∷ ds) f = (f y (first_member y ds), steps_say ds (λ z c. f z (later_member y z ds c)))

  -- ---- where no name is refused

  module _ (no_refusal : HasNames text s) where
    abbrev d : Spaces
    d = spaces text s

    -- the names that a protocol declares
    pub names_say : (p : ProtocolDecl) → Contains s.protocols p → SayNames words p
    names_say p c =
        let (k, at) = contains_get s.protocols p c in
        record {
          protocol = protocol_says k p at;
          members = λ m h. member_says p m c h;
          primaries = λ a h. member_name_says no_refusal.inherits k (word text a) (primary_is_member text s no_refusal k p at a h);
        }

    pub entity_says : (scope : parts.Scope) (e : Entity) → Contains (entities s) (scope, e) → e.layout ≡ false
        → SaysProtocol text x (proto_of words e.span) e.span
    entity_says scope e c no_layout = let (k, h) = is_protocol text s no_refusal scope e c no_layout in reference_says e.span k h

    -- the primary names of what stands on the right of a colon
    primaries_say : (scope : parts.Scope) (e : Entity) → Contains (entities s) (scope, e) → e.layout ≡ false → (read : Context)
        → ArePrimaries words read (word text e.span) (primaries_named words e.span)
    primaries_say scope e c no_layout read =
        let (k, h) = is_protocol text s no_refusal scope e c no_layout in
        let means = subst (λ (d : Spaces). protocol_of d (word text e.span) ≡ Some k) (sym is.resolved.declared) h in
        let (p, at, called) = protocol_named text s x is (word text e.span) k means in
        (p, get_contains s.protocols k p at, called, ap (primaries_at s.protocols) means ∙ ap primaries_of at)

    -- ---- types

    module _ (scope : parts.Scope) (t : TypeDecl) (c : Contains (types s) (scope, t)) (begins : Bytes → Bool)
        (starts : begins_at text s no_refusal.inherits scope ≡ Some begins) where
      all_steps_say : SaySteps text x (map (step_of words) t.steps) t.steps
      all_steps_say = steps_say t.steps (λ y k. step_says scope t c y k (none_of_step text s no_refusal scope t c begins starts y k))

      first_word : begins (word text t.head) ≡ true
      first_word = begins_so text s no_refusal scope t c begins starts

    in_protocol_says : (i : ℕ) (t : TypeDecl) → Contains (types s) (in_protocol i, t)
        → SaysType text s x contexts.Protocol (type_in words contexts.Protocol t) t
    in_protocol_says i t c = by (bytes_eq self_bytes name) refl
      where
        name : Bytes
        name = word text t.head

        begins : Bytes → Bool
        begins = begins_in_protocol d no_refusal.inherits i

        all_say : SaySteps text x (map (step_of words) t.steps) t.steps
        all_say = all_steps_say (in_protocol i) t c begins refl

        by : (b : Bool) → bytes_eq self_bytes name ≡ b → SaysType text s x contexts.Protocol
            (with_steps (cond b self (member_named words self t.head)) (map (step_of words) t.steps)) t
        by true h = of_self (sym ((bytes_eq-Decides self_bytes name).0 h))
            (record { steps = map (step_of words) t.steps; is = refl; say = all_say })
        by false h =
            let is_member : has_member d no_refusal.inherits i name ≡ true
            = ⊎_elim (λ e. absurd (true≢false (sym e ∙ h))) (λ e. e)
            (or_cases (bytes_eq self_bytes name) (has_member d no_refusal.inherits i name) (first_word (in_protocol i) t c begins refl)) in
            of_member (λ e. true≢false (sym (same_true self_bytes name (sym e)) ∙ h)) (record {
              steps = steps.Name (name_of words t.head) ∷ map (step_of words) t.steps;
              is = refl;
              say = (member_name_says no_refusal.inherits i name is_member, all_say);
            })

    in_signature_says : (scope : parts.Scope) (g : Signature) (t : TypeDecl) → Contains (types s) (scope, t)
        → begins_at text s no_refusal.inherits scope ≡ Some (begins_in_signature d g)
        → SaysType text s x (contexts.Signature g) (type_in words (contexts.Signature g) t) t
    in_signature_says scope g t c starts = by (param_named words g (word text t.head)) refl
      where
        begins : Bytes → Bool
        begins = begins_in_signature d g

        named : param_named words g (word text t.head) ≡ meant text s g (word text t.head)
        named = ap (λ (e : Spaces). option_map (param_id (own_depth s g)) (param_of e g (word text t.head))) is.resolved.declared

        is_one : (p : ParamId) × (meant text s g (word text t.head) ≡ Some p)
        is_one =
            let k = some_of (param_of d g (word text t.head)) (first_word scope t c begins starts) in
            (param_id (own_depth s g) k.0, ap (option_map (param_id (own_depth s g))) k.1)

        by : (o : Option ParamId) → param_named words g (word text t.head) ≡ o
            → SaysType text s x (contexts.Signature g) (with_steps (Generic (unwrap_or o self_param)) (map (step_of words) t.steps)) t
        by None e = let no = sym e ∙ named ∙ is_one.1 in absurd cc
        by (Some p) e =
            of_parameter (param_says text s g (word text t.head) p (sym named ∙ e))
            (record { steps = map (step_of words) t.steps; is = refl; say = all_steps_say scope t c begins starts })

    -- ---- queries

    asked_same : (outer : Option Span) (f : Span) → signature_in_query words outer f ≡ signature_asked text s outer f
    asked_same None f = ap (λ (e : Spaces). signature_of e (word text f)) is.resolved.declared
    asked_same (Some o) f = ap (λ (e : Spaces). nested_of e (word text o) (word text f)) is.resolved.declared

    -- The signature that a query asks is the one that is named in it.
    pub asks_named : (q : QueryDecl) → Contains s.queries q
        → signature_in_query words q.outer q.function ≡ Some (asked_signature (signature_in_query words q.outer q.function))
    asks_named q c =
        let (g, e) = asks text s no_refusal q c in
        let named = asked_same q.outer q.function ∙ e in
        named ∙ sym (ap (λ o. Some (asked_signature o)) named)

    pub query_type_says : (k : ℕ) (q : QueryDecl) → slice_get s.queries k ≡ Some q → (t : TypeDecl) → Contains (types s) (in_query k, t)
        → SaysType text s x (contexts.Signature (asked_signature (signature_in_query words q.outer q.function)))
        (type_in words (contexts.Signature (asked_signature (signature_in_query words q.outer q.function))) t) t
    query_type_says k q at t c =
        let g = asked_signature (signature_in_query words q.outer q.function) in
        let asked = sym (asked_same q.outer q.function) ∙ asks_named q (get_contains s.queries k q at) in
        in_signature_says (in_query k) g t c (begins_asked text s no_refusal k q g at asked)

    pub type_says : (part : parts.Scope) (t : TypeDecl) → Contains (types s) (part, t) → (context : Context) → IsReadIn words part context
        → SaysType text s x context (type_in words context t) t
    type_says (in_protocol i) t c context e = subst (λ r. SaysType text s x r (type_in words r t) t) (sym e) (in_protocol_says i t c)
    type_says (in_signature g) t c context e =
        subst (λ r. SaysType text s x r (type_in words r t) t) (sym e) (in_signature_says (in_signature g) g t c refl)
    type_says (in_query k) t c context (q, at, e) =
        subst (λ r. SaysType text s x r (type_in words r t) t) (sym e) (query_type_says k q at t c)

    -- ---- constraints

    module _ (part : parts.Scope) (c : Constraint) (there : Contains (constraints s) (part, c)) (context : Context)
        (reads : IsReadIn words part context) where
      said : (t : TypeDecl) → Contains (parts.types_of c) t → IsSaid words context t
      said t k =
          type_says part t
          (Contains-append_left (flat_map parts.types_at (constraints s)) (flat_map parts.asked_at (numbered 0 s.queries)) (part, t)
          (in_pieces parts.types_at (constraints s) (part, c) (part, t) there (contains_map (λ u. (part, u)) (parts.types_of c) t k)))
          context reads

      stands : (e : Entity) → Contains (parts.entities_of c) e → Contains (entities s) (part, e)
      stands e k =
          Contains-append_left (flat_map parts.entities_at (constraints s))
          (flat_map parts.asked_entities_at (numbered 0 s.queries)) (part, e)
          (in_pieces parts.entities_at (constraints s) (part, c) (part, e) there (contains_map (λ i. (part, i)) (parts.entities_of c) e k))

    subject_says : (part : parts.Scope) (context : Context) → IsReadIn words part context → (y : Subject) → IsDeclaredIn s part y
        → ((t : TypeDecl) → Contains (parts.types_of_subject y) t → IsSaid words context t)
        → SaysSubject text s x context (subject_of words context y) y
    subject_says part context reads (self_of p) h f = refl
    subject_says (in_protocol i) context reads (associated a) (p, m, c, n, called) f =
        record {
          steps = steps.Name (name_of words a) ∷ [];
          is = refl;
          say = (subst (λ b. SaysName text x (name_of words b) b) called (member_says p m c n), tt);
        }
    subject_says (in_signature g) context reads (associated a) h f = absurd h
    subject_says (in_query k) context reads (associated a) h f = absurd h
    subject_says (in_protocol i) context reads (parameter k p) h f = absurd h
    subject_says (in_signature g) context reads (parameter k p) (q, at, called) f =
        subst (λ r. SaysSubject text s x r (subject_of words r (parameter k p)) (parameter k p)) (sym reads) (
          param_id (own_depth s g) (Own k),
          refl,
          (q, at_own text (outer_param_decls s g) (own_param_decls s g) k q (outer_param_decls s g) at, ap (word text) called),
        )
    subject_says (in_query j) context reads (parameter k p) h f = absurd h
    subject_says part context reads (written t) h f = f t (first_member t [])

    pub constraint_says : (part : parts.Scope) (c : Constraint) → Contains (constraints s) (part, c) → (context : Context)
        → IsReadIn words part context → SaysConstraint words context c
    constraint_says part (same t u) there context reads =
        let say = said part (same t u) there context reads in
        (say t (first_member t (u ∷ [])), say u (later_member t u (u ∷ []) (first_member u [])))
    constraint_says part (bound subject bounds) there context reads = (
      subject_says part context reads subject (stands_in s part (bound subject bounds) there)
          (λ t k. say t (Contains-append_left (parts.types_of_subject subject) of_bounds t k)),
      λ e k. record {
        protocol = entity_says part e (stands part (bound subject bounds) there context reads e k);
        primaries = λ n. primaries_say part e (stands part (bound subject bounds) there context reads e k) n context;
        arguments = λ u l.
            say u (Contains-append_right (parts.types_of_subject subject) of_bounds u (in_pieces parts.types_of_entity bounds e u k l));
      },
    )
      where
        of_bounds : List TypeDecl
        of_bounds = flat_map parts.types_of_entity bounds

        say : (t : TypeDecl) → Contains (parts.types_of (bound subject bounds)) t → IsSaid words context t
        say = said part (bound subject bounds) there context reads

-- The list of the refusals of calls has exactly the refused names.
use Rattle.std.proofs.Common.{◌≡◌, ◌≢◌, ◌↔◌, ℕ, Bool, true, false, not, List, [], ◌++◌, inl, inr, length, Contains, Option, Some, None, refl, sym, ap, subst, ◌∙◌, true≢false}
use Rattle.std.specs.Prelude.{nat_eq}
use Rattle.std.specs.Option.{option_map}
use Rattle.std.proofs.lemmas.Bool.{eqb-true, eq-eqb}
use Rattle.std.proofs.lemmas.List.Elements.{Contains-append_left, Contains-append_right, Contains-append_cases}
use Rattle.swreq_print.proofs.swreq_lemmas.Members.{first_member, no_member, only_member}
use Rattle.swreq_resolve.specs.swreq_decl.declared.skeleton.CallDecl.{CallDecl}
use Rattle.swreq_resolve.specs.swreq_decl.declared.skeleton.Span.{Span}
use Rattle.swreq_resolve.specs.swreq_decl.declared.skeleton.TypeDecl.{TypeDecl}
use Rattle.swreq_resolve.specs.swreq_names.declared.signature.Signature.{Signature}
use Rattle.swreq_resolve.specs.swreq_names.declared.signature.Signature.TheVariants.{Struct, Function}
use Rattle.swreq_resolve.specs.swreq_names.Spaces.{function_of, nested_in, signature_of, struct_of, word}
use Rattle.swreq_resolve.proofs.swreq_names.Pieces.{in_pieces, from_pieces}
use Rattle.swreq_resolve.specs.swreq_rank.Ranks.{Bytes}
use Rattle.swreq_resolve.specs.declared.refusal.Fault.{Fault}
use Rattle.swreq_resolve.specs.declared.refusal.Fault.TheVariants.{UnknownSignature, WrongArity}
use Rattle.swreq_resolve.specs.declared.refusal.Refusal.{Refusal}
use Rattle.swreq_resolve.specs.First.{when}
use Rattle.swreq_resolve.specs.Refused.{refused}
use Rattle.swreq_resolve.specs.RefusedTypes.{of_type_on}
use Rattle.swreq_resolve.specs.Refusals.{of_asked, of_nested_query}
use Rattle.swreq_machine.specs.swreq_lowering.declared.ids.FuncId.{FuncId}
use Rattle.swreq_machine.specs.swreq_lowering.Signatures.{func_id}
use Rattle.swreq_machine.specs.swreq_world.Lookups.{is_struct, order_of}
use Rattle.swreq_machine.specs.swreq_world.Worlds.{IdWorld, signature_at}
use Rattle.swreq_subst.specs.Arguments.{param_count}
use Rattle.swreq_subst.specs.Refusals.{declared, func_called, of_call, of_count, of_name, of_types, query_on, refusals, signature_called}
use Rattle.swreq_subst.specs.Refused.{IsCalled, IsRefused, IsStructCalled, Names, no_function, no_signature, no_struct, of_type, wrong_count}
use Rattle.swreq_subst.specs.Saying.{HaveIds}

-- a fault that is there, or not
noted : (fault : Fault) (at : ℕ) (r : Refusal) → Contains (when true fault at) r → r ≡ refused fault at
noted fault at r c = only_member (refused fault at) r c

there : (fault : Fault) (at : ℕ) → Contains (when true fault at) (refused fault at)
there fault at = first_member (refused fault at) []

module _ (w : IdWorld) (text : Bytes) (ids : HaveIds w) where
  -- ---- signatures by name

  found : (outer : Option Span) (name : Span) (g : Signature) → signature_called w text outer name ≡ Some g
      → (f : FuncId) × IsCalled w text outer name f × ((signature_at w f).signature ≡ g)
  found outer name g e =
      let f = func_id (order_of w) g in
      let at : func_called w text outer name ≡ Some f = ap (option_map (func_id (order_of w))) e in (
        f,
        (ids.signatures (option_map (word text) outer) (word text name) f).0 at,
        ids.referred (option_map (word text) outer) (word text name) g f e at,
      )

  called : (outer : Option Span) (name : Span) (f : FuncId) → IsCalled w text outer name f
      → (g : Signature) × (signature_called w text outer name ≡ Some g)
  called outer name f is = by (signature_called w text outer name) refl
    where
      at : func_called w text outer name ≡ Some f
      at = (ids.signatures (option_map (word text) outer) (word text name) f).1 is

      by : (o : Option Signature) → signature_called w text outer name ≡ o → (g : Signature) × (signature_called w text outer name ≡ Some g)
      by (Some g) e = (g, e)
      by None e = let no = sym (ap (option_map (func_id (order_of w))) e) ∙ at in absurd cc

  -- the signature of a caller, by its id
  called_at : (outer : Option Span) (name : Span) (f : FuncId) (g : Signature) → IsCalled w text outer name f
      → signature_called w text outer name ≡ Some g → (signature_at w f).signature ≡ g
  called_at outer name f g is e =
      ids.referred (option_map (word text) outer) (word text name) g f e
      ((ids.signatures (option_map (word text) outer) (word text name) f).1 is)

  none_called : (outer : Option Span) (name : Span) → signature_called w text outer name ≡ None → (f : FuncId)
      → IsCalled w text outer name f → ⊥
  none_called outer name e f is = let (g, h) = called outer name f is in let no = sym e ∙ h in absurd cc

  struct_found : (s : Span) (i : ℕ) → struct_of (declared w) (word text s) ≡ Some i → (f : FuncId) × IsStructCalled w text s f
  struct_found s i e =
      let named : signature_called w text None s ≡ Some (Struct i)
      = ap (λ o. elim o
      as (λ _. Option Signature) [ None ↦ option_map Function (function_of (declared w) (word text s)) | Some i ↦ Some (Struct i) ]) e in
      let (f, is, same) = found None s (Struct i) named in
      (f, (is, ap is_struct same))

  struct_called : (s : Span) (f : FuncId) → IsStructCalled w text s f → (i : ℕ) × (struct_of (declared w) (word text s) ≡ Some i)
  struct_called s f (is, struct_is) = by (struct_of (declared w) (word text s)) (function_of (declared w) (word text s)) refl refl
    where
      by : (o p : Option ℕ) → struct_of (declared w) (word text s) ≡ o → function_of (declared w) (word text s) ≡ p
          → (i : ℕ) × (struct_of (declared w) (word text s) ≡ Some i)
      by (Some i) p e h = (i, e)
      by None p e h =
          let named : signature_called w text None s ≡ option_map Function p
          = ap (λ o. elim o
          as (λ _. Option Signature) [ None ↦ option_map Function (function_of (declared w) (word text s)) | Some i ↦ Some (Struct i) ]) e
          ∙ ap (option_map Function) h in
          absurd (no_struct_here p named)
        where
          no_struct_here : (q : Option ℕ) → signature_called w text None s ≡ option_map Function q → ⊥
          no_struct_here None n = none_called None s n f is
          no_struct_here (Some k) n = true≢false (sym struct_is ∙ ap is_struct (called_at None s f (Function k) is n))

  nested_by : (s name : Span) (i : ℕ) → struct_of (declared w) (word text s) ≡ Some i
      → signature_called w text (Some s) name ≡ nested_in (declared w) i (word text name)
  nested_by s name i e = ap (λ o. elim o as (λ _. Option Signature) [ None ↦ None | Some i ↦ nested_in (declared w) i (word text name) ]) e

  module _ (c : CallDecl) where
    abbrev Refused : Refusal → Type 0
    Refused r = IsRefused w text c r

    -- ---- names

    asked_to : (outer : Option Span) (name : Span) (o : Option Signature) (r : Refusal)
        → Contains (of_asked text (declared w) (query_on outer name) o) r
        → (o ≡ None) × (r ≡ refused UnknownSignature name.start)
    asked_to outer name None r h = (refl, noted UnknownSignature name.start r h)
    asked_to outer name (Some g) r h = no_member r h

    name_to : (outer : Option Span) (name : Span) → Names c outer name → (r : Refusal) → Contains (of_name w text outer name) r → Refused r
    name_to None name names r h =
        let (e, is) = asked_to None name (signature_of (declared w) (word text name)) r h in
        subst Refused (sym is) (no_signature names (none_called None name e))
    name_to (Some s) name names r h = by (struct_of (declared w) (word text s)) refl h
      where
        by : (o : Option ℕ) → struct_of (declared w) (word text s) ≡ o
            → Contains (of_nested_query text (declared w) (query_on (Some s) name) s o) r → Refused r
        by None e k = subst Refused (sym (noted UnknownSignature s.start r k))
            (no_struct names (λ f is. let (i, so) = struct_called s f is in let no = sym e ∙ so in absurd cc))
        by (Some i) e k =
            let (n, is) = asked_to (Some s) name (nested_in (declared w) i (word text name)) r k in
            let (f, struct) = struct_found s i e in
            subst Refused (sym is) (no_function names struct (none_called (Some s) name (nested_by s name i e ∙ n)))

    asked_from : (outer : Option Span) (name : Span) (o : Option Signature) → o ≡ None
        → Contains (of_asked text (declared w) (query_on outer name) o) (refused UnknownSignature name.start)
    asked_from outer name None e = there UnknownSignature name.start
    asked_from outer name (Some g) e = absurd cc

    nobody : (outer : Option Span) (name : Span) → ((f : FuncId) → IsCalled w text outer name f → ⊥)
        → signature_called w text outer name ≡ None
    nobody outer name none = by (signature_called w text outer name) refl
      where
        by : (o : Option Signature) → signature_called w text outer name ≡ o → signature_called w text outer name ≡ None
        by None e = e
        by (Some g) e = let (f, is, same) = found outer name g e in absurd (none f is)

    top_from : (name : Span) → ((f : FuncId) → IsCalled w text None name f → ⊥)
        → Contains (of_name w text None name) (refused UnknownSignature name.start)
    top_from name none = asked_from None name (signature_of (declared w) (word text name)) (nobody None name none)

    struct_from : (s name : Span) → ((f : FuncId) → IsStructCalled w text s f → ⊥)
        → Contains (of_name w text (Some s) name) (refused UnknownSignature s.start)
    struct_from s name none = by (struct_of (declared w) (word text s)) refl
      where
        by : (o : Option ℕ) → struct_of (declared w) (word text s) ≡ o
            → Contains (of_nested_query text (declared w) (query_on (Some s) name) s o) (refused UnknownSignature s.start)
        by None e = there UnknownSignature s.start
        by (Some i) e = let (f, is) = struct_found s i e in absurd (none f is)

    function_from : (s name : Span) (e : FuncId) → IsStructCalled w text s e → ((f : FuncId) → IsCalled w text (Some s) name f → ⊥)
        → Contains (of_name w text (Some s) name) (refused UnknownSignature name.start)
    function_from s name e struct none =
        let (i, so) = struct_called s e struct in
        let nothing = sym (nested_by s name i so) ∙ nobody (Some s) name none in
        subst (λ o. Contains (of_nested_query text (declared w) (query_on (Some s) name) s o) (refused UnknownSignature name.start))
        (sym so)
        (asked_from (Some s) name (nested_in (declared w) i (word text name)) nothing)

    -- ---- the number of types

    differs : (m n : ℕ) → Contains (when (not (nat_eq m n)) WrongArity c.callee.start) (refused WrongArity c.callee.start) ↔ (m ≢ n)
    differs m n = by (nat_eq m n) refl
      where
        by : (b : Bool) → nat_eq m n ≡ b → Contains (when (not b) WrongArity c.callee.start) (refused WrongArity c.callee.start) ↔ (m ≢ n)
        by true e = (λ h. no_member (refused WrongArity c.callee.start) h, λ differ. absurd (differ (eqb-true m n e)))
        by false e = (λ h same. true≢false (sym (eq-eqb m n same) ∙ e), λ differ. there WrongArity c.callee.start)

    wrong : (m n : ℕ) (r : Refusal) → Contains (when (not (nat_eq m n)) WrongArity c.callee.start) r
        → (m ≢ n) × (r ≡ refused WrongArity c.callee.start)
    wrong m n r h = by (nat_eq m n) refl h
      where
        by : (b : Bool) → nat_eq m n ≡ b → Contains (when (not b) WrongArity c.callee.start) r
            → (m ≢ n) × (r ≡ refused WrongArity c.callee.start)
        by true e k = no_member r k
        by false e k = (λ same. true≢false (sym (eq-eqb m n same) ∙ e), noted WrongArity c.callee.start r k)

    count_to : (o : Option FuncId) (r : Refusal) → func_called w text c.callee_outer c.callee ≡ o
        → Contains (of_count w text o c) r → Refused r
    count_to None r e h = no_member r h
    count_to (Some g) r e h =
        let (differ, is) = wrong (length c.args) (param_count (signature_at w g).params) r h in
        subst Refused (sym is) (wrong_count ((ids.signatures (option_map (word text) c.callee_outer) (word text c.callee) g).0 e) differ)

    count_from : (g : FuncId) → IsCalled w text c.callee_outer c.callee g → length c.args ≢ param_count (signature_at w g).params
        → Contains (of_count w text (func_called w text c.callee_outer c.callee) c) (refused WrongArity c.callee.start)
    count_from g is differ =
        subst (λ o. Contains (of_count w text o c) (refused WrongArity c.callee.start))
        (sym ((ids.signatures (option_map (word text) c.callee_outer) (word text c.callee) g).1 is))
        ((differs (length c.args) (param_count (signature_at w g).params)).1 differ)

    -- ---- the types

    types_to : (o : Option Signature) (r : Refusal) → signature_called w text c.caller_outer c.caller ≡ o
        → Contains (of_types w text o c.args) r → Refused r
    types_to None r e h = no_member r h
    types_to (Some g) r e h =
        let (t, at, k) = from_pieces (of_type_on (declared w) g text) c.args r h in
        let (f, is, same) = found c.caller_outer c.caller g e in
        of_type is at (subst (λ (i : Signature). Contains (of_type_on (declared w) i text t) r) (sym same) k)

    types_from : (f : FuncId) (t : TypeDecl) (r : Refusal) → IsCalled w text c.caller_outer c.caller f → Contains c.args t
        → Contains (of_type_on (declared w) (signature_at w f).signature text t) r
        → Contains (of_types w text (signature_called w text c.caller_outer c.caller) c.args) r
    types_from f t r is at h =
        let (g, e) = called c.caller_outer c.caller f is in
        let same = called_at c.caller_outer c.caller f g is e in
        subst (λ o. Contains (of_types w text o c.args) r) (sym e)
        (in_pieces (of_type_on (declared w) g text) c.args t r at
        (subst (λ (i : Signature). Contains (of_type_on (declared w) i text t) r) same h))

    -- ---- a call

    abbrev callers : List Refusal
    callers = of_name w text c.caller_outer c.caller

    abbrev callees : List Refusal
    callees = of_name w text c.callee_outer c.callee

    abbrev counts : List Refusal
    counts = of_count w text (func_called w text c.callee_outer c.callee) c

    abbrev types : List Refusal
    types = of_types w text (signature_called w text c.caller_outer c.caller) c.args

    call_to : (r : Refusal) → Contains (of_call w text c) r → Refused r
    call_to r h = elim (Contains-append_cases callers (callees ++ (counts ++ types)) r h) [
      | inl k ↦ name_to c.caller_outer c.caller (inl (refl, refl)) r k
      | inr k ↦ elim (Contains-append_cases callees (counts ++ types) r k) [
        | inl m ↦ name_to c.callee_outer c.callee (inr (refl, refl)) r m
        | inr m ↦ elim (Contains-append_cases counts types r m) [
          | inl n ↦ count_to (func_called w text c.callee_outer c.callee) r refl n
          | inr n ↦ types_to (signature_called w text c.caller_outer c.caller) r refl n
        ]
      ]
    ]

    named : (outer : Option Span) (name : Span) (r : Refusal) → Names c outer name → Contains (of_name w text outer name) r
        → Contains (of_call w text c) r
    named outer name r (inl (e, h)) k =
        Contains-append_left callers (callees ++ (counts ++ types)) r
        (subst (λ n. Contains (of_name w text c.caller_outer n) r) h (subst (λ o. Contains (of_name w text o name) r) e k))
    named outer name r (inr (e, h)) k =
        Contains-append_right callers (callees ++ (counts ++ types)) r
        (Contains-append_left callees (counts ++ types) r
        (subst (λ n. Contains (of_name w text c.callee_outer n) r) h (subst (λ o. Contains (of_name w text o name) r) e k)))

    behind : (r : Refusal) → Contains (counts ++ types) r → Contains (of_call w text c) r
    behind r h = Contains-append_right callers (callees ++ (counts ++ types)) r (Contains-append_right callees (counts ++ types) r h)

    call_from : (r : Refusal) → Refused r → Contains (of_call w text c) r
    call_from r (no_signature {name = name} names none) = named None name r names (top_from name none)
    call_from r (no_struct {outer = s} {name = name} names none) = named (Some s) name r names (struct_from s name none)
    call_from r (no_function {outer = s} {name = name} {s = e} names struct none) =
        named (Some s) name r names (function_from s name e struct none)
    call_from r (wrong_count {g = g} is differ) = behind r (Contains-append_left counts types r (count_from g is differ))
    call_from r (of_type {f = f} {t = t} is at h) = behind r (Contains-append_right counts types r (types_from f t r is at h))

  pub all_refused : (calls : List CallDecl) (r : Refusal)
      → Contains (refusals w text calls) r ↔ ((c : CallDecl) × Contains calls c × IsRefused w text c r)
  all_refused calls r = (
    λ h. let (c, at, k) = from_pieces (of_call w text) calls r h in (c, at, call_to c r k),
    λ h. in_pieces (of_call w text) calls h.0 r h.1 (call_from h.0 r h.2),
  )

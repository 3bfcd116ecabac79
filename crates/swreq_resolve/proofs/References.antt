-- What names refer to.
use Rattle.std.proofs.Common.{◌≡◌, ⊎_elim, ℕ, zero, suc, ◌+◌, ◌≤◌, Bool, true, false, cond, List, [], ◌∷◌, ◌++◌, get_or, slice_get, Option, None, Some, nat_lt, refl, sym, ap, subst, ◌∙◌, arith, true≢false}
use Rattle.std.specs.Option.{option_map}
use Rattle.std.proofs.lemmas.Bool.{ltb-true, cases_lt, cases_order, false_from_ne_true}
use Rattle.std.proofs.lemmas.Option.{same_Some}
use Rattle.std.proofs.lemmas.List.Elements.{Contains-append_left, Contains-append_right}
use Rattle.swreq_names.proofs.swreq_lemmas.Elements.{get_contains}
use Rattle.swreq_decl.specs.declared.skeleton.Span.{Span}
use Rattle.swreq_decl.specs.declared.skeleton.Skeleton.{Skeleton}
use Rattle.swreq_names.specs.declared.directory.Declaration.{Declaration}
use Rattle.swreq_names.specs.declared.signature.Signature.{Signature}
use Rattle.swreq_names.specs.declared.signature.Signature.TheVariants.{Struct, Function, Nested}
use Rattle.swreq_names.specs.Spaces.{word, place, offset_of, is_declared_before, refers_to, protocol_of, struct_of, function_of, nested_in, Spaces, spaces}
use Rattle.swreq_resolve.specs.Refused.{HasEarlier, MeansProtocol, Means, NamesProtocol, NamesStruct, NamesFunction, NamesInner, NamesSignature}
use Rattle.swreq_resolve.proofs.Meaning.{AreInOrder, IsInOrder, placed_at, offset_at, first_at, earlier_to, earlier_from, earlier_left, earlier_right, earlier_cases}
use Rattle.swreq_resolve.proofs.Gathered.{signature_asked}

-- The answer is what has the property, where there is such a thing.
pub record Answers {X : Type 0} (o : Option X) (P : X → Type 0) : Type 0 where
  pub to : (x : X) → o ≡ Some x → P x
  pub from : (x : X) → P x → o ≡ Some x

pub none_to : {X : Type 0} (o : Option X) (P : X → Type 0) → Answers o P → o ≡ None → (x : X) → P x → ⊥
none_to o P a e x p = let f = sym e ∙ a.from x p in absurd cc

pub none_from : {X : Type 0} (o : Option X) (P : X → Type 0) → Answers o P → ((x : X) → P x → ⊥) → o ≡ None
none_from None P a n = refl
none_from (Some x) P a n = absurd (n x (a.to x refl))

-- ---- the first of a name

one_place : (ds : List Declaration) → AreInOrder ds → (i j : ℕ) (x y : Declaration) → slice_get ds i ≡ Some x
    → slice_get ds j ≡ Some y → x.at ≡ y.at
    → i ≡ j
one_place [] o i j x y e f s = absurd cc
one_place (d ∷ ds) o zero zero x y e f s = refl
one_place (d ∷ ds) o zero (suc j) x y e f s =
    let l = o.0 y (get_contains ds j y f) in let t = ap (λ (z : Declaration). z.at) (same_Some d x e) in absurd (omega (arith, l, t, s))
one_place (d ∷ ds) o (suc i) zero x y e f s =
    let l = o.0 x (get_contains ds i x e) in let t = ap (λ (z : Declaration). z.at) (same_Some d y f) in absurd (omega (arith, l, t, s))
one_place (d ∷ ds) o (suc i) (suc j) x y e f s = ap suc (one_place ds o.1 i j x y e f s)

module _ (ds : List Declaration) (o : AreInOrder ds) (name : List ℕ) where
  -- What stands at the place of a name is the first that has it.
  no_earlier : (k : ℕ) → place ds name ≡ Some k → (d : Declaration) → slice_get ds k ≡ Some d → HasEarlier ds name d.at → ⊥
  no_earlier k p d e h =
      let is : nat_lt d.at d.at ≡ true
      =
      ap (λ n. nat_lt n d.at) (sym (offset_at ds k d e)) ∙ ap (λ q. elim q [ None ↦ false | Some k ↦ nat_lt (offset_of ds k) d.at ]) (sym p)
      ∙ earlier_from ds name d.at o h in
      let l = ltb-true d.at d.at is in
      omega (arith, l)

  -- The first that has a name stands at the place of it.
  earliest : (i : ℕ) (d : Declaration) → slice_get ds i ≡ Some d → d.name ≡ name → (HasEarlier ds name d.at → ⊥) → place ds name ≡ Some i
  earliest i d e same first =
      let r = first_at ds name 0 d (get_contains ds i d e) same o in
      let z : 0 + r.0 ≡ r.0 = omega arith in
      let p : place ds name ≡ Some r.0 = r.2 ∙ ap Some z in
      let q = placed_at ds name r.0 p in
      p ∙ ap Some (by r.0 r.1 r.3 r.4 (same_Some r.1 q.0 (sym r.3 ∙ q.1)) q.2)
    where
      by : (j : ℕ) (x : Declaration) → slice_get ds j ≡ Some x → x.at ≤ d.at → {y : Declaration} → x ≡ y → y.name ≡ name → j ≡ i
      by j x f l s n =
          ⊎_elim
          (λ h. absurd
          (first (record { earlier = x; declared = get_contains ds j x f; same = ap (λ (z : Declaration). z.name) s ∙ n; before = h })))
          (λ h. one_place ds o j i x d f e (omega arith)) (cases_lt x.at d.at)

  pub placed : Answers (place ds name) (Means ds ds name)
  placed = record {
    to = λ k e. let r = placed_at ds name k e in record { declaration = r.0; place = r.1; named = r.2; first = no_earlier k e r.0 r.1 };
    from = λ i m. earliest i m.declaration m.place m.named m.first;
  }

module _ (ds others : List Declaration) (o : AreInOrder ds) (p : AreInOrder others) (name : List ℕ) where
  means_at : (k i : ℕ) → place ds name ≡ Some k → (b : Bool) → is_declared_before others name (offset_of ds k) ≡ b
      → cond b None (Some k) ≡ Some i
      → Means ds (ds ++ others) name i
  means_at k i e true h f = absurd cc
  means_at k i e false h f =
      let r = placed_at ds name k e in
      let s : k ≡ i = same_Some k i f in
      record {
        declaration = r.0;
        place = subst (λ n. slice_get ds n ≡ Some r.0) s r.1;
        named = r.2;
        first = λ a. ⊎_elim (no_earlier ds o name k e r.0 r.1)
            (λ c.
            true≢false (sym (earlier_from others name r.0.at p c) ∙ ap (is_declared_before others name) (sym (offset_at ds k r.0 r.1)) ∙ h))
            (earlier_cases ds others name r.0.at a);
      }

  refers_to_means : (q : Option ℕ) → place ds name ≡ q → (i : ℕ)
      → elim q as (λ _. Option ℕ) [ None ↦ None | Some k ↦ cond (is_declared_before others name (offset_of ds k)) None (Some k) ] ≡ Some i
      → Means ds (ds ++ others) name i
  refers_to_means None e i f = absurd cc
  refers_to_means (Some k) e i f = means_at k i e (is_declared_before others name (offset_of ds k)) refl f

  refers_from_means : (i : ℕ) → Means ds (ds ++ others) name i → refers_to ds others name ≡ Some i
  refers_from_means i m =
      let e : place ds name ≡ Some i
      = earliest ds o name i m.declaration m.place m.named (λ h. m.first (earlier_left ds others name m.declaration.at h)) in
      let not_before : is_declared_before others name (offset_of ds i) ≡ false
      = false_from_ne_true (is_declared_before others name (offset_of ds i))
      (λ h. m.first (earlier_right ds others name m.declaration.at
      (subst (HasEarlier others name) (offset_at ds i m.declaration m.place) (earlier_to others name (offset_of ds i) h)))) in
      ap (λ q. elim q as (λ _. Option ℕ) [ None ↦ None | Some k ↦ cond (is_declared_before others name (offset_of ds k)) None (Some k) ]) e
      ∙ ap (λ b. cond b None (Some i)) not_before

  pub referred : Answers (refers_to ds others name) (Means ds (ds ++ others) name)
  referred = record { to = refers_to_means (place ds name) refl; from = refers_from_means }

earlier_swapped : (ds es : List Declaration) (name : List ℕ) (at : ℕ) → HasEarlier (ds ++ es) name at → HasEarlier (es ++ ds) name at
earlier_swapped ds es name at h = ⊎_elim (earlier_right es ds name at) (earlier_left es ds name at) (earlier_cases ds es name at h)

means_swapped : (ds es fs : List Declaration) (name : List ℕ) (i : ℕ) → Means fs (ds ++ es) name i → Means fs (es ++ ds) name i
means_swapped ds es fs name i m =
    record {
      declaration = m.declaration;
      place = m.place;
      named = m.named;
      first = λ h. m.first (earlier_swapped es ds name m.declaration.at h);
    }

-- ---- the names of a text

module _ (text : List ℕ) (s : Skeleton) (order : IsInOrder (spaces text s)) where
  abbrev d : Spaces
  d = spaces text s

  pub protocol_named : (name : List ℕ) → Answers (protocol_of d name) (MeansProtocol text s name)
  protocol_named name = referred d.protocols d.structs order.protocols order.structs name

  pub protocol : (p : Span) → Answers (protocol_of d (word text p)) (NamesProtocol text s p)
  protocol p = protocol_named (word text p)

  pub struct : (p : Span) → Answers (struct_of d (word text p)) (NamesStruct text s p)
  struct p = referred d.structs d.functions order.structs order.functions (word text p)

  pub function : (p : Span) → Answers (function_of d (word text p)) (NamesFunction text s p)
  function p =
      let a = referred d.functions d.structs order.functions order.structs (word text p) in
      record {
        to = λ i e. means_swapped d.functions d.structs d.functions (word text p) i (a.to i e);
        from = λ i m. a.from i (means_swapped d.structs d.functions d.functions (word text p) i m);
      }

  pub inner : (i : ℕ) (p : Span) → Answers (place (get_or d.nested i []) (word text p)) (NamesInner text s i p)
  inner i p = placed (get_or d.nested i []) (order.nested i) (word text p)

  -- A name does not mean a struct and a function.
  pub not_both : (p : Span) (i j : ℕ) → NamesStruct text s p i → NamesFunction text s p j → ⊥
  not_both p i j m n =
      let x = get_contains d.structs i m.declaration m.place in
      let y = get_contains d.functions j n.declaration n.place in
      ⊎_elim (order.apart m.declaration n.declaration x y)
      (λ l. ⊎_elim
      (λ h. n.first (record {
        earlier = m.declaration;
        declared = Contains-append_left d.structs d.functions m.declaration x;
        same = m.named;
        before = h;
      }))
      (λ h. m.first (record {
        earlier = n.declaration;
        declared = Contains-append_right d.structs d.functions n.declaration y;
        same = n.named;
        before = h;
      })) l)
      (cases_order m.declaration.at n.declaration.at)

  -- ---- signatures

  at_top : (p : Span) (a b : Option ℕ) → struct_of d (word text p) ≡ a → function_of d (word text p) ≡ b → (g : Signature)
      → elim a as (λ _. Option Signature) [ None ↦ option_map Function b | Some i ↦ Some (Struct i) ] ≡ Some g
      → NamesSignature text s None p g
  at_top p (Some i) b e f g h = subst (NamesSignature text s None p) (same_Some (Struct i) g h) ((struct p).to i e)
  at_top p None (Some i) e f g h = subst (NamesSignature text s None p) (same_Some (Function i) g h) ((function p).to i f)
  at_top p None None e f g h = absurd cc

  in_struct : (outer p : Span) (a : Option ℕ) → struct_of d (word text outer) ≡ a → (g : Signature)
      → elim a as (λ _. Option Signature) [ None ↦ None | Some i ↦ nested_in d i (word text p) ] ≡ Some g
      → NamesSignature text s (Some outer) p g
  in_struct outer p None e g h = absurd cc
  in_struct outer p (Some i) e g h = by (place (get_or d.nested i []) (word text p)) refl h
    where
      by : (b : Option ℕ) → place (get_or d.nested i []) (word text p) ≡ b → option_map (Nested i) b ≡ Some g
          → NamesSignature text s (Some outer) p g
      by None f k = absurd cc
      by (Some j) f k =
          subst (NamesSignature text s (Some outer) p) (same_Some (Nested i j) g k) ((struct outer).to i e, (inner i p).to j f)

  names_to : (o : Option Span) (p : Span) (g : Signature) → signature_asked text s o p ≡ Some g → NamesSignature text s o p g
  names_to None p g e = at_top p (struct_of d (word text p)) (function_of d (word text p)) refl refl g e
  names_to (Some outer) p g e = in_struct outer p (struct_of d (word text outer)) refl g e

  names_from : (o : Option Span) (p : Span) (g : Signature) → NamesSignature text s o p g → signature_asked text s o p ≡ Some g
  names_from None p (Struct i) m =
      ap (λ a. elim a as (λ _. Option Signature) [ None ↦ option_map Function (function_of d (word text p)) | Some i ↦ Some (Struct i) ])
      ((struct p).from i m)
  names_from None p (Function i) m =
      let no : struct_of d (word text p) ≡ None
      = none_from (struct_of d (word text p)) (NamesStruct text s p) (struct p) (λ j n. not_both p j i n m) in
      ap (λ a. elim a as (λ _. Option Signature) [ None ↦ option_map Function (function_of d (word text p)) | Some i ↦ Some (Struct i) ]) no
      ∙ ap (option_map Function) ((function p).from i m)
  names_from None p (Nested i j) m = absurd m
  names_from (Some outer) p (Struct i) m = absurd m
  names_from (Some outer) p (Function i) m = absurd m
  names_from (Some outer) p (Nested i j) m =
      ap (λ a. elim a as (λ _. Option Signature) [ None ↦ None | Some i ↦ nested_in d i (word text p) ]) ((struct outer).from i m.0)
      ∙ ap (option_map (Nested i)) ((inner i p).from j m.1)

  pub signature : (o : Option Span) (p : Span) → Answers (signature_asked text s o p) (NamesSignature text s o p)
  signature o p = record { to = names_to o p; from = names_from o p }

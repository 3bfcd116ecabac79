-- The text of a signature says which generic parameters and which list it is of.
use Rattle.std.proofs.Common.{◌≡◌, ◌∙◌, ◌++◌, ◌∷◌, [], ap, ap₂, refl, sym, List, codes, arith}
use Rattle.std.specs.List.{AllByRecursion}
use Rattle.std.proofs.lemmas.List.{append_assoc}
use Rattle.swreq_lexicon.specs.swreq_param.declared.ids.ParamId.{ParamId}
use Rattle.swreq_lexicon.specs.swreq_param.declared.ids.ProtoId.{ProtoId}
use Rattle.swreq_lexicon.specs.swreq_param.Terms.{Term}
use Rattle.swreq_lexicon.specs.swreq_derive.Derivation.{TermRequirement}
use Rattle.swreq_lexicon.specs.swreq_derive.Derivation.TermRequirement.{Conforms, IsAnyObject, Equals}
use Rattle.swreq_lexicon.specs.Views.{LexiconView, IsProtocol}
use Rattle.swreq_print.specs.Names.{Text, protocol_name}
use Rattle.swreq_print.specs.Types.{param_text, type_text}
use Rattle.swreq_print.specs.Signatures.{requirement_text, where_text, signature_text}
use Rattle.swreq_print.specs.Reading.{in_name, TellsApart, HasNumbers, IsReadableType, IsReadableRequirement, IsReadableSignature}
use Rattle.swreq_print.proofs.Cutting.{Stops, NoComma, cut, rest_of, numbers_apart, some_read}
use Rattle.swreq_print.proofs.Digits.{in_number}
use Rattle.swreq_print.proofs.ReadTypes.{EndsType, stops_name, param_read, protocol_read, type_read}

module _ (x : LexiconView) (names : TellsApart x) where
  -- the subject, and what follows it
  subject : (t u : Term) (a b v w : Text) → IsReadableType x t → IsReadableType x u
      → (type_text x t ++ (32 ∷ a)) ++ v ≡ (type_text x u ++ (32 ∷ b)) ++ w
      → (t ≡ u) × (a ++ v ≡ b ++ w)
  unfolding rest_of
  subject t u a b v w ot ou e =
      let k = type_read x names t u (32 ∷ (a ++ v)) (32 ∷ (b ++ w)) ot ou (refl, refl) (refl, refl)
      (sym (append_assoc (type_text x t) (32 ∷ a) v) ∙ (e ∙ append_assoc (type_text x u) (32 ∷ b) w)) in
      (k.0, ap rest_of k.1)

  colon_not_equals : (v w : Text) → 58 ∷ v ≡ 61 ∷ w → ⊥
  colon_not_equals v w e = numbers_apart 58 61 (λ i. omega arith) v w e

  not_any_object : (p : ProtoId) (v w : Text) → IsProtocol x p → EndsType v → EndsType w
      → protocol_name x p ++ v ≡ codes "AnyObject" ++ w → ⊥
  not_any_object p v w op sv sw e =
      names.no_any_object p op
      (cut in_name (protocol_name x p) (codes "AnyObject") v w (names.protocols p op).bytes refl (stops_name v sv.0)
      (stops_name w sw.0) e).0

  pub requirement_read : (r q : TermRequirement) (v w : Text) → IsReadableRequirement x r → IsReadableRequirement x q
      → EndsType v → EndsType w
      → requirement_text x r ++ v ≡ requirement_text x q ++ w → (r ≡ q) × (v ≡ w)
  unfolding rest_of
  requirement_read (Conforms t p) (Conforms u q) v w (ot, op) (ou, oq) sv sw e =
      let k = subject t u (58 ∷ 32 ∷ protocol_name x p) (58 ∷ 32 ∷ protocol_name x q) v w ot ou e in
      let j = protocol_read x names p q v w op oq (stops_name v sv.0) (stops_name w sw.0) (ap (λ z. rest_of (rest_of z)) k.1) in
      (ap₂ Conforms k.0 j.0, j.1)
  requirement_read (Conforms t p) (IsAnyObject u) v w (ot, op) ou sv sw e =
      let k = subject t u (58 ∷ 32 ∷ protocol_name x p) (58 ∷ 32 ∷ codes "AnyObject") v w ot ou e in
      absurd (not_any_object p v w op sv sw (ap (λ z. rest_of (rest_of z)) k.1))
  requirement_read (Conforms t p) (Equals u q) v w (ot, op) (ou, oq) sv sw e =
      absurd (colon_not_equals _ _ (subject t u (58 ∷ 32 ∷ protocol_name x p) (61 ∷ 61 ∷ 32 ∷ type_text x q) v w ot ou e).1)
  requirement_read (IsAnyObject t) (Conforms u q) v w ot (ou, oq) sv sw e =
      let k = subject t u (58 ∷ 32 ∷ codes "AnyObject") (58 ∷ 32 ∷ protocol_name x q) v w ot ou e in
      absurd (not_any_object q w v oq sw sv (sym (ap (λ z. rest_of (rest_of z)) k.1)))
  requirement_read (IsAnyObject t) (IsAnyObject u) v w ot ou sv sw e =
      let k = subject t u (58 ∷ 32 ∷ codes "AnyObject") (58 ∷ 32 ∷ codes "AnyObject") v w ot ou e in (
        ap IsAnyObject k.0,
        (cut in_name (codes "AnyObject") (codes "AnyObject") v w refl refl (stops_name v sv.0) (stops_name w sw.0)
            (ap (λ z. rest_of (rest_of z)) k.1)).1,
      )
  requirement_read (IsAnyObject t) (Equals u q) v w ot (ou, oq) sv sw e =
      absurd (colon_not_equals _ _ (subject t u (58 ∷ 32 ∷ codes "AnyObject") (61 ∷ 61 ∷ 32 ∷ type_text x q) v w ot ou e).1)
  requirement_read (Equals t p) (Conforms u q) v w (ot, op) (ou, oq) sv sw e =
      absurd (colon_not_equals _ _ (sym (subject t u (61 ∷ 61 ∷ 32 ∷ type_text x p) (58 ∷ 32 ∷ protocol_name x q) v w ot ou e).1))
  requirement_read (Equals t p) (IsAnyObject u) v w (ot, op) ou sv sw e =
      absurd (colon_not_equals _ _ (sym (subject t u (61 ∷ 61 ∷ 32 ∷ type_text x p) (58 ∷ 32 ∷ codes "AnyObject") v w ot ou e).1))
  requirement_read (Equals t p) (Equals u q) v w (ot, op) (ou, oq) sv sw e =
      let k = subject t u (61 ∷ 61 ∷ 32 ∷ type_text x p) (61 ∷ 61 ∷ 32 ∷ type_text x q) v w ot ou e in
      let j = type_read x names p q v w op oq sv sw (ap (λ z. rest_of (rest_of (rest_of z))) k.1) in
      (ap₂ Equals k.0 j.0, j.1)

  where_read : (rs qs : List TermRequirement) → AllByRecursion (IsReadableRequirement x) rs → AllByRecursion (IsReadableRequirement x) qs
      → where_text x rs ++ (62 ∷ []) ≡ where_text x qs ++ (62 ∷ []) → rs ≡ qs
  unfolding rest_of
  where_read [] [] o k e = refl
  where_read [] (q ∷ qs) o k e = absurd (numbers_apart 62 32 (λ i. omega arith) _ _ e)
  where_read (r ∷ rs) [] o k e = absurd (numbers_apart 32 62 (λ i. omega arith) _ _ e)
  where_read (r ∷ rs) (q ∷ qs) o k e =
      (some_read (requirement_text x) (IsReadableRequirement x) EndsType requirement_read
      (λ t. (refl, refl)) r q rs qs (62 ∷ []) (62 ∷ []) o k
      (refl, refl) (refl, refl) (λ i. omega arith) (λ i. omega arith)
      (ap (λ z. rest_of (rest_of (rest_of (rest_of (rest_of (rest_of (rest_of z))))))) e)).0

  ends : (rs : List TermRequirement) → Stops in_number (where_text x rs ++ (62 ∷ []))
  ends [] = refl
  ends (r ∷ rs) = refl

  no_comma : (rs : List TermRequirement) → NoComma (where_text x rs ++ (62 ∷ []))
  no_comma [] = λ i. omega arith
  no_comma (r ∷ rs) = λ i. omega arith

  no_param : (rs : List TermRequirement) (g : ParamId) (v w : Text) → where_text x rs ++ (62 ∷ []) ≡ (param_text g ++ v) ++ w → ⊥
  no_param [] g v w e = numbers_apart 62 207 (λ i. omega arith) _ _ e
  no_param (r ∷ rs) g v w e = numbers_apart 32 207 (λ i. omega arith) _ _ e

  pub signature_read : (params others : List ParamId) (rs qs : List TermRequirement) → IsReadableSignature x params rs
      → IsReadableSignature x others qs
      → signature_text x params rs ≡ signature_text x others qs → (params ≡ others) × (rs ≡ qs)
  unfolding rest_of
  signature_read [] [] rs qs o k e = (refl, where_read rs qs o.requirements k.requirements (ap rest_of e))
  signature_read [] (h ∷ others) rs qs o k e = absurd (no_param rs h _ _ (ap rest_of e))
  signature_read (g ∷ params) [] rs qs o k e = absurd (no_param qs g _ _ (sym (ap rest_of e)))
  signature_read (g ∷ params) (h ∷ others) rs qs o k e =
      let m = some_read param_text HasNumbers (Stops in_number) (λ a b v w oa ob sv sw i. param_read a b v w oa ob sv sw i)
      (λ t. refl) g h params others
      (where_text x rs ++ (62 ∷ [])) (where_text x qs ++ (62 ∷ [])) o.numbers k.numbers (ends rs) (ends qs) (no_comma rs)
      (no_comma qs) (ap rest_of e) in
      (m.0, where_read rs qs o.requirements k.requirements m.1)

-- Requirements by their numbers, as they are printed.
use Rattle.std.proofs.Common.{◌≡◌, ◌∙◌, inl, inr, refl, sym, ap, ap₂, subst, ℕ, zero, suc, ◌+◌, ◌-◌, ◌<◌, ◌≤◌, arith, List, [], ◌∷◌, ◌++◌, length, map, take, drop, get_or, slice_get, Some, Contains, append_assoc, codes}
use Rattle.std.specs.List.{All}
use Rattle.std.proofs.lemmas.List.{append-nil, drop-map, drop_all, map-append, take-map}
use Rattle.std.proofs.lemmas.List.Elements.{Contains-append_cases, Contains-get_or}
use Rattle.std.proofs.lemmas.Simd.{map-map}
use Rattle.swreq_text.specs.Joined.{joined}
use Rattle.swreq_print.proofs.swreq_lemmas.Members.{contains_of_map, first_member, later_member, no_member, only_member}
use Rattle.swreq_valid.specs.swreq_param.declared.ids.ProtoId.{ProtoId}
use Rattle.swreq_valid.specs.swreq_param.Terms.{Term}
use Rattle.swreq_valid.specs.swreq_derive.Derivation.{TermRequirement}
use Rattle.swreq_valid.specs.swreq_derive.declared.requirements.Requirement.{Requirement}
use Rattle.swreq_valid.specs.swreq_derive.Facts.{requirement_of}
use Rattle.swreq_valid.specs.swreq_lexicon.Views.{LexiconView}
use Rattle.swreq_valid.specs.swreq_lowering.ByTable.{HasIdsOf}
use Rattle.swreq_valid.specs.swreq_lowering.declared.ids.Written.{Written}
use Rattle.swreq_print.specs.Names.{Text}
use Rattle.swreq_print.specs.Signatures.{self_text}
use Rattle.swreq_valid.specs.swreq_symbols.Known.{IsTextOver}
use Rattle.swreq_valid.proofs.swreq_symbols.OfText.{own_requirements, protocol_written}
use Rattle.swreq_valid.specs.swreq_world.ByTable.{world_by}
use Rattle.swreq_valid.specs.swreq_world.Worlds.{IdWorld, TextWorld, requirements_of}
use Rattle.swreq_valid.specs.Plans.{bare}
use Rattle.swreq_print.proofs.swreq_lemmas.Elements.{drop_from}
use Rattle.swreq_reqsig.specs.Families.{numbered}
use Rattle.swreq_reqsig.specs.Texts.{kept_of, protocol_line, protocol_lines, where_text}

-- ---- those with some numbers

drop_in : {A : Type 0} (xs : List A) (n : ℕ) (x : A) → Contains (drop n xs) x → Contains xs x
drop_in [] zero x c = c
drop_in [] (suc n) x c = c
drop_in (y ∷ xs) zero x c = c
drop_in (y ∷ xs) (suc n) x c = later_member y x xs (drop_in xs n x c)

one_in : {A : Type 0} (xs : List A) (x : A) → Contains (take 1 xs) x → Contains xs x
one_in [] x c = c
one_in (y ∷ xs) x c = subst (Contains (y ∷ xs)) (sym (only_member y x c)) (first_member y xs)

numbered_in : {A : Type 0} (xs : List A) (ns : List ℕ) (x : A) → Contains (numbered xs ns) x → Contains xs x
numbered_in xs [] x c = no_member x c
numbered_in xs (n ∷ ns) x c = elim (Contains-append_cases (take 1 (drop (n - 1) xs)) (numbered xs ns) x c) [
  | inl k ↦ drop_in xs (n - 1) x (one_in (drop (n - 1) xs) x k)
  | inr k ↦ numbered_in xs ns x k
]

map-numbered : {A B : Type 0} (f : A → B) (xs : List A) (ns : List ℕ) → map f (numbered xs ns) ≡ numbered (map f xs) ns
map-numbered f xs [] = refl
map-numbered f xs (n ∷ ns) =
    map-append f (take 1 (drop (n - 1) xs)) (numbered xs ns)
    ∙ ap₂ (λ a b. a ++ b) (sym (take-map f 1 (drop (n - 1) xs)) ∙ ap (take 1) (sym (drop-map f (n - 1) xs))) (map-numbered f xs ns)

-- ---- the requirements of one protocol that have some numbers

module _ (w : IdWorld) (terms : List Term) (p : ProtoId) (list printed : List Requirement) (ns : List ℕ)
    (e : list ≡ bare (requirements_of w p))
    (f : printed ≡ numbered list ns) where
  -- their ids are of the table
  pub numbered_known : IsTextOver terms w → All (HasIdsOf terms) printed
  numbered_known text k d l =
      let r = get_or printed k d in
      let c : Contains (numbered list ns) r = subst (λ z. Contains z r) f (Contains-get_or printed k d l) in
      let q =
      contains_of_map (λ (z : Written). z.requirement) (requirements_of w p) r (subst (λ z. Contains z r) e (numbered_in list ns r c)) in
      subst (HasIdsOf terms) (sym q.2) (protocol_written w terms text p q.0 q.1).0

  -- over type parameters they are those with these numbers
  pub numbered_are : map (requirement_of terms) printed ≡ kept_of (world_by terms w) p ns
  numbered_are =
      ap (map (requirement_of terms)) f
      ∙ map-numbered (requirement_of terms) list ns
      ∙ ap (λ (rs : List Requirement). numbered (map (requirement_of terms) rs) ns) e
      ∙ ap (λ (rs : List TermRequirement). numbered rs ns) (sym (own_requirements w terms p))

-- ---- line by line

pub one_line : (w : TextWorld) (ps : List ProtoId) (kept : List (List ℕ)) (k : ℕ) (p : ProtoId) (ns : List ℕ) (old new whole : Text)
    → slice_get ps k ≡ Some p → slice_get kept k ≡ Some ns → new ≡ old ++ protocol_line w.lexicon p (kept_of w p ns)
    → old ++ protocol_lines w (drop k ps) (drop k kept) ≡ whole → new ++ protocol_lines w (drop (k + 1) ps) (drop (k + 1) kept) ≡ whole
one_line w ps kept k p ns old new whole e f g h =
    let rest = protocol_lines w (drop (k + 1) ps) (drop (k + 1) kept) in
    ap (λ z. z ++ rest) g
    ∙ append_assoc old (protocol_line w.lexicon p (kept_of w p ns)) rest
    ∙ ap (λ z. old ++ z) (sym (ap₂ (protocol_lines w) (drop_from ps k p e) (drop_from kept k ns f)))
    ∙ h

pub lines_done : (w : TextWorld) (ps : List ProtoId) (kept : List (List ℕ)) (k : ℕ) (all whole : Text) → length ps ≤ k
    → all ++ protocol_lines w (drop k ps) (drop k kept) ≡ whole → all ≡ whole
lines_done w ps kept k all whole l h = sym (append-nil all) ∙ ap (λ z. all ++ protocol_lines w z (drop k kept)) (sym (drop_all k ps l)) ∙ h

-- ---- where there are requirements

-- the text of a requirement over the table
abbrev pub text_over : LexiconView → List Term → Requirement → Text
text_over x terms r = self_text x (requirement_of terms r)

-- they are printed
pub where_of_some : (x : LexiconView) (terms : List Term) (rs : List Requirement) → 0 < length rs
    → where_text x (map (requirement_of terms) rs) ≡ codes " where " ++ joined (codes ", ") (map (text_over x terms) rs)
where_of_some x terms [] some = absurd (omega (arith, some))
where_of_some x terms (r ∷ rs) some =
    ap (λ ts. codes " where " ++ joined (codes ", ") ts) (map-map (self_text x) (requirement_of terms) (r ∷ rs))

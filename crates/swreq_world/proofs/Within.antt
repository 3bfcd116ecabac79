-- Places are within their lists.
use Rattle.std.proofs.Common.{◌≡◌, ℕ, ◌≤◌, ◌<◌, List, [], Option, Some, None, length, get_or, unwrap_or, refl, subst, arith}
use Rattle.std.specs.Option.{option_map}
use Rattle.swreq_lexicon.specs.swreq_decl.declared.skeleton.Span.{Span}
use Rattle.swreq_lexicon.specs.swreq_names.declared.signature.Signature.{Signature}
use Rattle.swreq_lexicon.specs.swreq_names.declared.signature.Signature.TheVariants.{Struct, Function, Nested}
use Rattle.swreq_lexicon.specs.swreq_names.Spaces.{Spaces, place, word, struct_of, function_of, nested_in, nested_of}
use Rattle.swreq_lowering.specs.Queries.{asked_signature, signature_in_query}
use Rattle.swreq_lowering.specs.Signatures.{is_signature, place_in}
use Rattle.swreq_lowering.specs.Words.{WordsView, declared}
use Rattle.swreq_lexicon.proofs.swreq_names.Heirs.{placed_below}
use Rattle.swreq_lowering.proofs.Referring.{from_below}
use Rattle.swreq_world.specs.Places.{IsSmall}

found_within : (o : Option ℕ) (n : ℕ) → ((k : ℕ) → o ≡ Some k → k < n) → unwrap_or o 0 ≤ n
found_within None n h = omega arith
found_within (Some k) n h = let l = h k refl in omega arith

pub place_within : (order : List Signature) (g : Signature) (n : ℕ) → length order ≤ n → unwrap_or (place_in order g) 0 ≤ n
place_within order g n h = let i =
    found_within (place_in order g) (length order) (λ k e. let l = from_below (is_signature g) 0 order k e in omega arith) in omega arith

-- ---- functions within their structs

Short : Spaces → Type 0
Short d = (i : ℕ) → length (get_or d.nested i []) ≤ 1048576

IsSmallIf : Option Signature → Type 0
IsSmallIf None = Unit {0}
IsSmallIf (Some g) = IsSmall g

nested_small : (o : Option ℕ) (i n : ℕ) → ((k : ℕ) → o ≡ Some k → k < n) → n ≤ 1048576 → IsSmallIf (option_map (Nested i) o)
unfolding IsSmallIf
nested_small None i n h l = tt
nested_small (Some k) i n h l = let m = h k refl in omega arith

in_struct_small : (d : Spaces) → Short d → (i : ℕ) (name : List ℕ) → IsSmallIf (nested_in d i name)
unfolding Short
in_struct_small d short i name =
    nested_small (place (get_or d.nested i []) name) i (length (get_or d.nested i [])) (placed_below (get_or d.nested i []) name) (short i)

of_struct_small : (d : Spaces) → Short d → (o : Option ℕ) (name : List ℕ)
    → IsSmallIf (elim o as (λ _. Option Signature) [ None ↦ None | Some i ↦ nested_in d i name ])
unfolding IsSmallIf
of_struct_small d short None name = tt
of_struct_small d short (Some i) name = in_struct_small d short i name

top_small : (o p : Option ℕ) → IsSmallIf (elim o as (λ _. Option Signature) [ None ↦ option_map Function p | Some i ↦ Some (Struct i) ])
unfolding IsSmallIf
top_small None None = tt
top_small None (Some k) = tt
top_small (Some i) p = tt

named_small : (w : WordsView) → Short (declared w) → (outer : Option Span) (f : Span) → IsSmallIf (signature_in_query w outer f)
named_small w short None f = top_small (struct_of (declared w) (word w.text f)) (function_of (declared w) (word w.text f))
named_small w short (Some s) f = of_struct_small (declared w) short (struct_of (declared w) (word w.text s)) (word w.text f)

asked_by : (o : Option Signature) → IsSmallIf o → IsSmall (asked_signature o)
unfolding IsSmallIf
asked_by None h = tt
asked_by (Some g) h = h

pub asked_small : (w : WordsView) → ((i : ℕ) → length (get_or (declared w).nested i []) ≤ 1048576) → (outer : Option Span) (f : Span)
    → IsSmall (asked_signature (signature_in_query w outer f))
unfolding Short
asked_small w short outer f = asked_by (signature_in_query w outer f) (named_small w short outer f)

pub found_small : (d : Spaces) → ((i : ℕ) → length (get_or d.nested i []) ≤ 1048576) → (outer name : List ℕ) (g : Signature)
    → nested_of d outer name ≡ Some g → IsSmall g
unfolding Short IsSmallIf
found_small d short outer name g e = subst IsSmallIf e (of_struct_small d short (struct_of d outer) name)

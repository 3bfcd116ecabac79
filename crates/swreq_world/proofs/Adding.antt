-- Functions of structs in which nothing of their own is written, by what is kept of them.
use Rattle.std.proofs.Common.{◌≡◌, ◌∙◌, refl, sym, ap, arith, List, [], ◌∷◌, ◌++◌, Some, None, length, get_or, map, slice_get, append-nil, length-append}
use Rattle.swreq_lowering.specs.declared.ids.FuncId.{FuncId}
use Rattle.swreq_lowering.specs.declared.ids.Written.{Written}
use Rattle.swreq_world.specs.Additions.{AddsNothing}
use Rattle.swreq_world.specs.Entries.{around, entry_view}
use Rattle.swreq_world.specs.Worlds.{SignatureOver, no_signature}
use Rattle.swreq_world.specs.declared.entry.Entry.{Entry}
use Rattle.swreq_world.proofs.Everywhere.{at_mapped}

-- what adds nothing at the end of a list is empty
adds_none : {A : Type 0} (xs ys : List A) → xs ++ ys ≡ xs → ys ≡ []
adds_none xs [] e = refl
adds_none xs (y ∷ ys) e = let n = sym (length-append xs (y ∷ ys)) ∙ ap length e in absurd (omega (arith, n))

-- the struct and the function, as they are kept at their places
module _ (es : List Entry) (outer f : FuncId) (s e : Entry) (struct_at : slice_get es outer.place ≡ Some s)
    (function_at : slice_get es f.place ≡ Some e) where
  abbrev signatures : List (SignatureOver Written)
  signatures = map (entry_view es) es

  struct_is : get_or signatures outer.place no_signature ≡ entry_view es s
  struct_is = at_mapped (entry_view es) es outer.place s no_signature struct_at

  function_is : get_or signatures f.place no_signature ≡ entry_view es e
  function_is = at_mapped (entry_view es) es f.place e no_signature function_at

  -- what is around the function is what is written in the struct
  around_is : e.outer ≡ Some outer → around es e.outer ≡ s.own
  around_is inside = ap (around es) inside ∙ at_mapped (λ (x : Entry). x.own) es outer.place s [] struct_at

  list_of_struct : s.outer ≡ None → around es s.outer ++ s.own ≡ s.own
  list_of_struct top = ap (λ o. around es o ++ s.own) top

  pub adds : s.outer ≡ None → e.outer ≡ Some outer → e.params ≡ s.params → e.own ≡ [] → AddsNothing signatures outer f
  adds top inside params none = record {
    inside = ap (λ (g : SignatureOver Written). g.outer) function_is ∙ inside;
    at_top = ap (λ (g : SignatureOver Written). g.outer) struct_is ∙ top;
    params =
        ap (λ (g : SignatureOver Written). g.params) function_is ∙ params ∙ sym (ap (λ (g : SignatureOver Written). g.params) struct_is);
    requirements =
        ap (λ (g : SignatureOver Written). g.requirements) function_is
        ∙ ap (λ (rs : List Written). around es e.outer ++ rs) none ∙ append-nil (around es e.outer) ∙ around_is inside
        ∙ sym (list_of_struct top) ∙ sym (ap (λ (g : SignatureOver Written). g.requirements) struct_is);
  }

  module _ (h : AddsNothing signatures outer f) where
    pub at_top : s.outer ≡ None
    at_top = sym (ap (λ (g : SignatureOver Written). g.outer) struct_is) ∙ h.at_top

    pub inside : e.outer ≡ Some outer
    inside = sym (ap (λ (g : SignatureOver Written). g.outer) function_is) ∙ h.inside

    pub same_params : e.params ≡ s.params
    same_params =
        sym (ap (λ (g : SignatureOver Written). g.params) function_is) ∙ h.params ∙ ap (λ (g : SignatureOver Written). g.params) struct_is

    lists : around es e.outer ++ e.own ≡ around es s.outer ++ s.own
    lists =
        sym (ap (λ (g : SignatureOver Written). g.requirements) function_is) ∙ h.requirements
        ∙ ap (λ (g : SignatureOver Written). g.requirements) struct_is

    pub none_own : e.own ≡ []
    none_own = adds_none s.own e.own (ap (λ (rs : List Written). rs ++ e.own) (sym (around_is inside)) ∙ lists ∙ list_of_struct at_top)

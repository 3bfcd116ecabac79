-- A signature of a world over ids, and the same over type parameters.
use Rattle.std.proofs.Common.{◌≡◌, ◌∙◌, refl, sym, ap, append_assoc, subst, ℕ, List, [], ◌++◌, Option, Some, None}
use Rattle.std.specs.Option.{option_map_or}
use Rattle.std.specs.Prelude.{codes}
use Rattle.swreq_print.specs.swreq_param.Terms.{Term}
use Rattle.swreq_text.specs.Joined.{GrewByPart}
use Rattle.swreq_print.specs.swreq_lowering.declared.ids.FuncId.{FuncId}
use Rattle.swreq_machine.proofs.swreq_world.Finding.{outer_by}
use Rattle.swreq_machine.specs.swreq_world.ByTable.{signature_by, world_by}
use Rattle.swreq_machine.specs.swreq_world.Lookups.{outer_name}
use Rattle.swreq_machine.specs.swreq_world.Worlds.{IdWorld, signature_at}
use Rattle.swreq_machine.proofs.swreq_symbols.OfText.{signature_is}
use Rattle.swreq_query.specs.Signatures.{full_name}

module _ (terms : List Term) (w : IdWorld) where
  pub params_are : (f : FuncId) → (signature_at (world_by terms w) f).params ≡ (signature_at w f).params
  params_are f = ap (λ g. g.params) (signature_is w terms f)

  name_is : (f : FuncId) → (signature_at (world_by terms w) f).name ≡ (signature_at w f).name
  name_is f = ap (λ g. g.name) (signature_is w terms f)

  outer_is : (f : FuncId) → outer_name (world_by terms w) (signature_at (world_by terms w) f).outer ≡ outer_name w (signature_at w f).outer
  outer_is f = ap (λ g. outer_name (world_by terms w) g.outer) (signature_is w terms f) ∙ outer_by terms w (signature_at w f).outer

  -- its name, by what the code reads
  full_name_is : (f : FuncId) → full_name (world_by terms w) (signature_at (world_by terms w) f)
      ≡ option_map_or (λ outer. outer ++ codes ".") (outer_name w (signature_at w f).outer) [] ++ (signature_at w f).name
  full_name_is f = λ i. option_map_or (λ outer. outer ++ codes ".") (outer_is f i) [] ++ name_is f i

  -- a part of what the code reads is a part of its name
  pub name_grew : (f : FuncId) (out new : List ℕ)
      → GrewByPart out
      (option_map_or (λ outer. outer ++ codes ".") (outer_name w (signature_at w f).outer) [] ++ (signature_at w f).name) new
      → GrewByPart out (full_name (world_by terms w) (signature_at (world_by terms w) f)) new
  name_grew f out new part = subst (λ (name : List ℕ). GrewByPart out name new) (sym (full_name_is f)) part

  pub name_appended : (f : FuncId) (out mid new name : List ℕ)
      → mid ≡ out ++ option_map_or (λ outer. outer ++ codes ".") (outer_name w (signature_at w f).outer) []
      → name ≡ (signature_at w f).name → new ≡ mid ++ name → new ≡ out ++ full_name (world_by terms w) (signature_at (world_by terms w) f)
  name_appended f out mid new name m n e =
      e ∙ (λ i. m i ++ n i)
      ∙ append_assoc out (option_map_or (λ outer. outer ++ codes ".") (outer_name w (signature_at w f).outer) []) (signature_at w f).name
      ∙ ap (λ z. out ++ z) (sym (full_name_is f))

use Rattle.std.proofs.Common.{◌≡◌, ◌∙◌, ap, sym, Some, slice_get}
use Rattle.std.proofs.lemmas.Option.{slice_get-get_or}
use Rattle.swreq_world.proofs.Adding.{adds, none_own, same_params}
use Rattle.swreq_world.proofs.entry.adds_nothing.Goals as goal

pub returns-then-is_inside : goal.returns-then-is_inside
returns-then-is_inside c =
    let es = c.args.entries.now in
    let outer = c.args.outer in
    let f = c.args.function in
    let s = c.index-entries-outer.result in
    let e = c.index-entries-function.result in
    let struct_at : slice_get es outer.place ≡ Some s =
    slice_get-get_or es outer.place s c.requires.outer ∙ ap Some (sym c.index-entries-outer.is) in
    let function_at : slice_get es f.place ≡ Some e = slice_get-get_or es f.place e c.requires.f
    ∙ ap Some (sym c.index-entries-function.is) in (
      λ t. (let own = c.has_no_own.ensures.0 t in
          adds es outer f s e struct_at function_at c.in-None.is (c.is_inside.ensures.0 c.if-is_inside.true) own.0 own.1),
      λ h. c.has_no_own.ensures.1 (same_params es outer f s e struct_at function_at h, none_own es outer f s e struct_at function_at h),
    )

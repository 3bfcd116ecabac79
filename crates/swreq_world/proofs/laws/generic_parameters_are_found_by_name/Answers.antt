use Rattle.std.specs.Str.{chars}
use Rattle.swreq_lex.specs.Tokens.{first_offset}
use Rattle.swreq_world.proofs.AsDeclared.{all_declared}
use Rattle.swreq_world.proofs.Finding.{param_found}
use Rattle.swreq_world.proofs.Offsets.{functions_rising}
use Rattle.swreq_world.proofs.ParamsApart.{function_params_in_order, struct_params_in_order}
use Rattle.swreq_world.proofs.laws.generic_parameters_are_found_by_name.Goals as goal

pub returns : goal.returns
returns c = λ terms s w stands is resolve.
    let text = c.args.text.now in
    let slices = c.tokens_are_slices.ensures in
    param_found terms w text s is resolve.names (struct_params_in_order text s slices stands)
    (function_params_in_order text s slices stands)
    (all_declared s (first_offset (chars text)) (functions_rising text s slices stands))

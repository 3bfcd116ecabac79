use Rattle.std.specs.Str.{chars}
use Rattle.swreq_lexicon.specs.swreq_decl.declared.skeleton.Skeleton.{Skeleton}
use Rattle.swreq_lexicon.specs.swreq_decl.Skeletons.{StandsFor}
use Rattle.swreq_lex.specs.Tokens.{first_offset}
use Rattle.swreq_world.proofs.Apart.{functions_in_order, structs_apart}
use Rattle.swreq_world.proofs.AsDeclared.{all_declared}
use Rattle.swreq_world.proofs.Finding.{found_in_text, signature_found}
use Rattle.swreq_world.proofs.Offsets.{functions_rising, structs_rising}
use Rattle.swreq_world.proofs.OneNamed.{StandApart}
use Rattle.swreq_world.specs.ByTable.{world_by}
use Rattle.swreq_world.specs.WorldOf.{words_of}
use Rattle.swreq_world.specs.Worlds.{TextWorld}
use Rattle.swreq_world.proofs.laws.signatures_are_found_by_name.Goals as goal

apart : (c : goal.After-tokens_are_slices) (s : Skeleton) (w : TextWorld) → StandsFor c.args.text.now s
    → StandApart (words_of c.args.text.now s w)
apart c s w stands =
    let text = c.args.text.now in
    let slices = c.tokens_are_slices.ensures in record {
      from = first_offset (chars text);
      structs = structs_rising text s slices stands;
      functions = functions_rising text s slices stands;
      inner = functions_in_order text s slices stands;
      apart = structs_apart text s slices stands;
    }

pub returns : goal.returns
returns c = record {
  in_text = λ s w stands is resolve.
      let text = c.args.text.now in
      let all = all_declared s (first_offset (chars text)) (functions_rising text s c.tokens_are_slices.ensures stands) in
      found_in_text text s w is resolve.names (apart c s w stands) all;
  by_table = λ terms s w stands is resolve.
      let text = c.args.text.now in
      let all = all_declared s (first_offset (chars text)) (functions_rising text s c.tokens_are_slices.ensures stands) in
      signature_found terms w text s is resolve.names (apart c s (world_by terms w) stands) all;
}

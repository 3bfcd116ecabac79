use Rattle.std.proofs.Common.{◌≡◌, ◌∙◌, sym, ap, List, ℕ, map}
use Rattle.swreq_lexicon.specs.swreq_decl.declared.skeleton.Skeleton.{Skeleton}
use Rattle.swreq_lexicon.specs.Views.{LexiconView}
use Rattle.swreq_lowering.specs.Queries.{query_of}
use Rattle.swreq_lowering.specs.Signatures.{in_order}
use Rattle.swreq_lowering.specs.Words.{WordsView}
use Rattle.swreq_world.specs.Text.{requirements_named, signatures}
use Rattle.swreq_world.specs.WorldOf.{IsWorldOf}
use Rattle.swreq_world.specs.Worlds.{TextWorld}
use Rattle.swreq_world.proofs.laws.world_is_one.Goals as goal

module _ (text : List ℕ) (s : Skeleton) where
  abbrev words : LexiconView → WordsView
  words x = record { text = text; skeleton = s; lexicon = x }

  -- all of a world but its lexicon is said of its lexicon
  abbrev of_lexicon : LexiconView → TextWorld
  of_lexicon x = record {
    lexicon = x;
    requirements = map (requirements_named (words x)) x.protocols;
    signatures = signatures (words x);
    queries = map (query_of (words x) (in_order s)) s.queries;
  }

  is_of_lexicon : (w : TextWorld) → IsWorldOf text s w → w ≡ of_lexicon w.lexicon
  is_of_lexicon w of_w =
      λ i. record { lexicon = w.lexicon; requirements = of_w.requirements i; signatures = of_w.signatures i; queries = of_w.queries i }

pub returns : goal.returns
returns c = λ s w v h k.
    let text = c.args.text.now in
    is_of_lexicon text s w h ∙ ap (of_lexicon text s) (c.lexicon_is_one.ensures s w.lexicon v.lexicon h.lexicon k.lexicon)
    ∙ sym (is_of_lexicon text s v k)

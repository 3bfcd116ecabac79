-- The world of a skeleton.
use Rattle.std.specs.Prelude.{◌≡◌, ℕ, List, map}
use Rattle.swreq_lexicon.specs.swreq_decl.declared.skeleton.Skeleton.{Skeleton}
use Rattle.swreq_lexicon.specs.Texts.{IsLexiconOf}
use Rattle.swreq_lowering.specs.Queries.{query_of}
use Rattle.swreq_lowering.specs.Signatures.{in_order}
use Rattle.swreq_lowering.specs.Words.{WordsView}
use Rattle.swreq_world.specs.Worlds.{TextWorld}
use Rattle.swreq_world.specs.Text.{requirements_named, signatures}

-- what the words of the text stand for in this world
abbrev pub words_of : List ℕ → Skeleton → TextWorld → WordsView
words_of text s w = record { text = text; skeleton = s; lexicon = w.lexicon }

-- This is the world of the text.
pub record IsWorldOf (text : List ℕ) (s : Skeleton) (w : TextWorld) : Type 0 where
  pub lexicon : IsLexiconOf text s w.lexicon
  pub requirements : w.requirements ≡ map (requirements_named (words_of text s w)) w.lexicon.protocols
  pub signatures : w.signatures ≡ signatures (words_of text s w)
  pub queries : w.queries ≡ map (query_of (words_of text s w) (in_order s)) s.queries

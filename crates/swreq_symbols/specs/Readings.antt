-- What rules show of a type parameter with its word.
use Rattle.swreq_correspondence.specs.swreq_param.Terms.{Term}
use Rattle.swreq_correspondence.specs.Shown.{ShowsValid}
use Rattle.swreq_correspondence.specs.Symbols.{Word, word_of}
use Rattle.swreq_symbols.specs.declared.reading.Reading.{Reading}
use Rattle.swreq_symbols.specs.Meaning.{facts_of, symbols_of}
use Rattle.swreq_symbols.specs.Overs.{source_over}
use Rattle.swreq_symbols.specs.Texts.{world_of}
use Rattle.swreq_symbols.specs.Vanishing.{IsLeastBy, Links}

-- The rules show the type parameter valid, and the word is the least one of its class.
pub record IsReadAs (r : Reading) (t : Term) (word : Word) : Type 0 where
  pub valid : ShowsValid (symbols_of r.text.world.now.lexicon) (facts_of (world_of r.text))
      (source_over r.over) (Links r.rules.now) t
  pub linked : Links r.rules.now (word_of (symbols_of r.text.world.now.lexicon) (source_over r.over) t) word
  pub least : IsLeastBy r.rules.now word

-- The steps that rules show.
use Rattle.std.specs.Prelude.{◌≡◌, ℕ, List, [], ◌∷◌, ◌++◌, Some, slice_get}
use Rattle.swreq_param.specs.declared.ids.Step.{Step}
use Rattle.swreq_correspondence.specs.swreq_word.declared.symbols.Symbol.{Symbol, TheVariants.{Proto}}
use Rattle.swreq_complete.specs.{swreq_rule.declared.rules.Rule.{Rule}, swreq_path.Paths.{HasTarget}, Alike.{ReduceAlike}}
use Rattle.swreq_readings.specs.{declared.alphabet.Alphabet.{Alphabet}, swreq_lexicon.declared.pair.ProtocolName.{ProtocolName}}
use Rattle.swreq_readings.specs.{Alphabets.{lexicon}, Readable.{IsOfStep}}
use Rattle.swreq_births.specs.declared.types.Shown.{Shown}

-- The step names the associated type with this rank. The word, and the word with the symbol of its protocol after it, reduce to one word.
abbrev pub IsShownAt : Alphabet → List Rule → List Symbol → Step → ℕ → ProtocolName → Type 0
IsShownAt g rules w x k n =
    (slice_get (lexicon g).associated k ≡ Some n) × IsOfStep x k n × ReduceAlike rules w (w ++ Proto n.proto.rank ∷ [])

abbrev pub IsStepShown : Alphabet → List Rule → List Symbol → Step → Type 0
IsStepShown g rules w x = (k : ℕ) × (n : ProtocolName) × IsShownAt g rules w x k n

-- The step names the associated type. The path leads over the rules from the word to the word with the symbol of its protocol after it.
pub record HasPath (g : Alphabet) (rules : List Rule) (w : List Symbol) (x : Step) (found : Shown) : Type 0 where
  pub rank : ℕ
  pub there : slice_get (lexicon g).associated rank ≡ Some found.named
  pub of_step : IsOfStep x rank found.named
  pub start : found.path.start ≡ w
  pub target : HasTarget rules found.path (w ++ Proto found.named.proto.rank ∷ [])

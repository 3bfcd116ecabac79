-- What makes a world of a lexicon and lists.
use Rattle.std.specs.Prelude.{◌≡◌, ℕ, ◌≤◌, [], length, map, slice_index_or}
use Rattle.swreq_lexicon.specs.swreq_derive.Facts.{AreOneToOne}
use Rattle.swreq_lexicon.specs.Lexicons.{associated_types}
use Rattle.swreq_lexicon.specs.Views.{LexiconView}
use Rattle.swreq_lowering.specs.Small.{HasFewParams}
use Rattle.swreq_world.specs.declared.made.WorldLists.{WorldLists}

-- Each protocol has its list, the signatures stand in their order, and places fit 32 bits. Each declared pair is one associated type.
pub record IsReady (lexicon : LexiconView) (made : WorldLists) : Type 0 where
  pub requirements : length made.requirements.items ≡ length lexicon.protocols
  pub order : made.order.value ≡ map (λ e. e.signature) made.signatures.items
  pub few : length made.signatures.items ≤ 1048576
  pub params : HasFewParams lexicon.resolved.declared
  pub functions_of : (i : ℕ) → length (slice_index_or lexicon.resolved.declared.nested i []) ≤ 1048576
  pub one_to_one : AreOneToOne (associated_types lexicon.associated)

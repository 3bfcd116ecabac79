-- What the fields of a World show.
use Rattle.std.specs.Prelude.{◌≡◌, ℕ, ◌≤◌, [], length, map, slice_index_or}
use Rattle.swreq_lexicon.specs.swreq_derive.Facts.{AreOneToOne}
use Rattle.swreq_lexicon.specs.Lexicons.{associated_types}
use Rattle.swreq_lowering.specs.Small.{HasFewParams}
use Rattle.swreq_world.specs.declared.world.World.TheInside.{Inside}
use Rattle.swreq_world.specs.Entries.{entry_view}
use Rattle.swreq_world.specs.Worlds.{IdWorld}

abbrev pub view_of : Inside → IdWorld
view_of w = record {
  lexicon = w.lexicon.value;
  requirements = w.requirements;
  signatures = map (entry_view w.signatures) w.signatures;
  queries = w.queries;
}

-- Each protocol has its list, the signatures stand in their order, and places fit 32 bits. Each declared pair is one associated type.
pub record IsWhole (w : Inside) : Type 0 where
  pub requirements : length w.requirements ≡ length w.lexicon.value.protocols
  pub order : w.order.value ≡ map (λ e. e.signature) w.signatures
  pub few : length w.signatures ≤ 1048576
  pub params : HasFewParams w.lexicon.value.resolved.declared
  pub functions_of : (i : ℕ) → length (slice_index_or w.lexicon.value.resolved.declared.nested i []) ≤ 1048576
  pub one_to_one : AreOneToOne (associated_types w.lexicon.value.associated)

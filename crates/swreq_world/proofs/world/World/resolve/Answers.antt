use Rattle.std.proofs.Common.{⊎_elim, inl, inr, refl}
use Rattle.std.proofs.lemmas.Result.{err_from_is_err_and}
use Rattle.swreq_world.specs.ByTable.{world_by}
use Rattle.swreq_world.proofs.world.World.resolve.Goals as goal

pub with_names-requires : goal.with_names-requires
with_names-requires c = record { limit = c.requires.limit; stands = c.requires.stands; declared = c.in_ok-names.ensures.names }

pub returns-in_err-names-clause-refuses : goal.returns-in_err-names-clause-refuses
returns-in_err-names-clause-refuses c e h =
    let p = err_from_is_err_and c.from_residual.result c.from_residual.ensures.1 in
    rw (p.1, p.2) (⊎_elim (λ q. inl cc) (λ q. inr cc) (c.in_err-names.ensures.refuses e h))

pub returns-clause-text : goal.returns-clause-text
returns-clause-text c = record {
  table = c.in_ok-with_names.ensures.over;
  closed = c.worlds_are_closed.ensures.closed c.args.skeleton.now
      (world_by c.with_names.new.table c.in_ok-with_names.field-0) c.requires.stands
      c.in_ok-with_names.ensures.world (c.in_ok-names.ensures.ok refl);
  short = c.worlds_are_short.ensures.by_table c.requires.limit c.with_names.new.table c.args.skeleton.now c.in_ok-with_names.field-0
      c.requires.stands c.in_ok-with_names.ensures.world;
}

pub returns-clause-refuses : goal.returns-clause-refuses
returns-clause-refuses c e h = ⊎_elim (λ p. cc) (λ p. cc) (c.in_ok-names.ensures.refuses e h)

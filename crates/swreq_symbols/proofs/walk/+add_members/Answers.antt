use Rattle.std.proofs.Common.{◌≡◌, ◌-◌, ◌/◌, ◌∙◌, ap, subst, sym, arith}
use Rattle.swreq_correspondence.specs.swreq_param.Tables.{term_at}
use Rattle.swreq_correspondence.specs.swreq_param.Terms.{member_count}
use Rattle.swreq_correspondence.specs.Shown.{ShowsValid}
use Rattle.swreq_correspondence.specs.Symbols.{word_of}
use Rattle.swreq_symbols.specs.Texts.{world_of}
use Rattle.swreq_world.specs.Closed.{IsTermOf}
use Rattle.swreq_symbols.specs.Fronts.{without}
use Rattle.swreq_symbols.specs.Known.{IsTypeIn}
use Rattle.swreq_symbols.specs.Meaning.{facts_of, symbols_of}
use Rattle.swreq_symbols.specs.Overs.{source_over}
use Rattle.swreq_symbols.specs.Vanishing.{Links}
use Rattle.swreq_symbols.proofs.Fronts.{count_without, of_text_without, without_both}
use Rattle.swreq_symbols.proofs.Walking.{valid_without}
use Rattle.swreq_symbols.proofs.walk.+add_members.Goals as goal

pub add_members-requires : goal.add_members-requires
add_members-requires t c =
    let by = c.args.reading.now in
    let whole = term_at by.text.table.now c.args.t in
    let front = term_at by.text.table.now c.without-front.result in
    let half = c.args.count / 2 in
    let rest = c.args.count - half in
    let same : without rest front ≡ without c.args.count whole
    = ap (without rest) c.without-front.ensures.front ∙ without_both rest half c.args.count whole (omega arith) in
    let size : member_count front ≡ member_count whole - half = ap member_count c.without-front.ensures.front ∙ count_without half whole in
    let front_in : IsTypeIn by.text.table.now by.text.world.now.lexicon c.without-front.result
    = (
      c.without-front.ensures.there,
      subst (IsTermOf by.text.world.now.lexicon) (sym c.without-front.ensures.front)
          (of_text_without by.text.world.now.lexicon half whole c.requires.t.1),
    ) in
    let base = subst (ShowsValid (symbols_of by.text.world.now.lexicon) (facts_of (world_of by.text)) (source_over by.over)
    (Links by.rules.now)) (sym same) c.requires.base.valid in
    let linked = subst (λ z. Links by.rules.now (word_of (symbols_of by.text.world.now.lexicon)
    (source_over by.over) z) c.args.word.now.items)
    (sym same) c.requires.base.linked in (
      omega (arith, c.decreases, c.if-count-eq0.false),
      (
        front_in,
        (
          omega (arith, size, c.requires.count),
          (
            record { valid = base; linked = linked; least = c.requires.base.least },
            (omega (arith, c.requires.fits.0), omega (arith, c.requires.fits.1)),
          ),
        ),
      ),
    )

pub returns-then-not-add_members-clause-valid : goal.returns-then-not-add_members-clause-valid
returns-then-not-add_members-clause-valid t c =
    let by = c.args.reading.now in
    let whole = term_at by.text.table.now c.args.t in (
      (λ h. cc),
      (λ h. c.if-not-add_members.ensures.valid.1
          (subst (ShowsValid (symbols_of by.text.world.now.lexicon) (facts_of (world_of by.text))
          (source_over by.over) (Links by.rules.now))
          (sym c.without-front.ensures.front)
          (valid_without (world_of by.text) (source_over by.over) by.rules.now (c.args.count / 2) whole h))),
    )

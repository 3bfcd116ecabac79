use Rattle.std.proofs.Common.{◌≡◌, ◌∙◌, sym, subst}
use Rattle.std.specs.Str.{chars}
use Rattle.swreq_lex.specs.Tokens.{first_offset}
use Rattle.swreq_lexicon.specs.Views.{LexiconView}
use Rattle.swreq_lexicon.specs.swreq_names.Names.{HasDeclared}
use Rattle.swreq_lowering.specs.Short.{HasShortLists}
use Rattle.swreq_lowering.specs.Words.{WordsView, words_by}
use Rattle.swreq_world.specs.ByTable.{world_by, IsOverTable}
use Rattle.swreq_world.specs.WorldOf.{IsWorldOf}
use Rattle.swreq_world.specs.Worlds.{IdWorld}
use Rattle.swreq_world.proofs.AsDeclared.{all_declared}
use Rattle.swreq_world.proofs.Assembling.{ready, world_is, over_is}
use Rattle.swreq_world.proofs.Offsets.{functions_rising}
use Rattle.swreq_world.proofs.assemble.assemble.Goals as goal

pub words_of-words-requires : goal.words_of-words-requires
words_of-words-requires c = record {
  limit = c.requires.limit;
  stands = c.requires.stands;
  declared = subst (λ (l : LexiconView). HasDeclared c.args.text.now c.args.skeleton.now l.resolved) (sym c.deref.ensures)
      c.requires.lexicon.resolved;
}

pub lists_of-requires-clause-short : goal.lists_of-requires-clause-short
lists_of-requires-clause-short c =
    subst (λ (w : WordsView). HasShortLists w.text w.skeleton) (sym c.words_of-words.ensures) c.requires.short

pub lists_of-requires-clause-declared : goal.lists_of-requires-clause-declared
lists_of-requires-clause-declared c =
    let words : words_by c.words_of-words.result
    ≡ record { text = c.args.text.now; skeleton = c.args.skeleton.now; lexicon = c.args.lexicon.value } =
    c.words_of-words.ensures ∙ (λ i. record { text = c.args.text.now; skeleton = c.args.skeleton.now; lexicon = c.deref.ensures i }) in
    subst (λ (w : WordsView). HasDeclared w.text w.skeleton w.lexicon.resolved) (sym words) c.requires.lexicon.resolved

pub of-requires : goal.of-requires
of-requires c =
    let words : words_by c.words_of-words.result
    ≡ record { text = c.args.text.now; skeleton = c.args.skeleton.now; lexicon = c.args.lexicon.value } =
    c.words_of-words.ensures ∙ (λ i. record { text = c.args.text.now; skeleton = c.args.skeleton.now; lexicon = c.deref.ensures i }) in
    ready c.args.text.now c.args.skeleton.now c.args.lexicon.value c.args.table.now c.lists_of.new.table
    (words_by c.words_of-words.result) c.in_ok-made.made words c.requires.short c.requires.lexicon
    c.in_ok-made.ensures.lists

pub returns : goal.returns
returns c =
    let words : words_by c.words_of-words.result
    ≡ record { text = c.args.text.now; skeleton = c.args.skeleton.now; lexicon = c.args.lexicon.value } =
    c.words_of-words.ensures ∙ (λ i. record { text = c.args.text.now; skeleton = c.args.skeleton.now; lexicon = c.deref.ensures i }) in
    record {
      world = subst (λ (w : IdWorld). IsWorldOf c.args.text.now c.args.skeleton.now (world_by c.lists_of.new.table w)) (sym c.of.ensures)
          (world_is c.args.text.now c.args.skeleton.now c.args.lexicon.value c.args.table.now c.lists_of.new.table
          (words_by c.words_of-words.result) c.in_ok-made.made words c.requires.lexicon
          (all_declared c.args.skeleton.now (first_offset (chars c.args.text.now))
          (functions_rising c.args.text.now c.args.skeleton.now c.tokens_are_slices.ensures c.requires.stands)) c.in_ok-made.ensures.lists);
      over = subst (IsOverTable c.lists_of.new.table) (sym c.of.ensures)
          (over_is c.args.text.now c.args.skeleton.now c.args.lexicon.value c.args.table.now c.lists_of.new.table
          (words_by c.words_of-words.result) c.in_ok-made.made c.in_ok-made.ensures.lists);
      extends = c.in_ok-made.ensures.extends;
    }

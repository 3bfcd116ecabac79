use Rattle.std.proofs.Common.{sym, subst}
use Rattle.swreq_lexicon.specs.Texts.{IsLexiconOf}
use Rattle.swreq_world.proofs.assemble.with_names.Goals as goal

pub of-requires : goal.of-requires
of-requires c =
    record {
      declared = c.requires.declared;
      small = (c.lists_are_short.ensures c.requires.limit c.args.skeleton.now c.requires.stands).lexicon;
    }

pub assemble-requires : goal.assemble-requires
assemble-requires c = record {
  limit = c.requires.limit;
  stands = c.requires.stands;
  short = c.lists_are_short.ensures c.requires.limit c.args.skeleton.now c.requires.stands;
  lexicon = subst (IsLexiconOf c.args.text.now c.args.skeleton.now) (sym c.in_ok-lexicon.ensures.ok) c.in_ok-of.ensures;
}

pub returns : goal.returns
returns c = c.assemble.ensures

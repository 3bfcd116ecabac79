use Rattle.std.proofs.Common.{◌≡◌, ◌<◌, ℕ, length, slice_get, Some}
use Rattle.std.specs.declared.cmp.Ordering.TheVariants.{Less}
use Rattle.swreq_decl.specs.declared.skeleton.Skeleton.{Skeleton}
use Rattle.swreq_rank.proofs.swreq_lemmas.Elements.{get_contains}
use Rattle.swreq_derive.specs.swreq_param.declared.ids.NameId.{NameId}
use Rattle.swreq_derive.specs.swreq_param.declared.ids.ProtoId.{ProtoId}
use Rattle.swreq_lexicon.specs.Lexicons.{pair}
use Rattle.swreq_lexicon.specs.Texts.{IsLexiconOf}
use Rattle.swreq_lexicon.specs.Views.{LexiconView, inherits, symbol_cmp}
use Rattle.swreq_lexicon.proofs.Depths.{inherits_more}
use Rattle.swreq_lexicon.proofs.Orders.{lesser_first, symbol_total, deeper_first, symbol_lesser_protocol}
use Rattle.swreq_lexicon.proofs.laws.heirs_come_first.Goals as goal
use Rattle.swreq_rank.specs.Ranks.{Bytes}

module _ (text : Bytes) (s : Skeleton) (x : LexiconView) (is : IsLexiconOf text s x) (i j : ℕ) (p q : ProtoId) (a : NameId)
    (f : slice_get x.symbols i ≡ Some (pair p a)) (g : slice_get x.symbols j ≡ Some (pair q a)) where
  first : symbol_cmp x (pair p a) (pair q a) ≡ Less → i < j
  first h = lesser_first (symbol_cmp x) (symbol_total (inherits x) (length x.protocols)) x.symbols is.symbols.sorted i j
      (pair p a) (pair q a) f g h

pub returns-clause-heirs : goal.returns-clause-heirs
returns-clause-heirs c s x is i j p q a f g h once =
    let within = ((is.symbols.same (pair q a)).0 (get_contains x.symbols j (pair q a) g)).0 in
    first c.args.text.now s x is i j p q a f g
    (deeper_first (inherits x) (length x.protocols) p q a (inherits_more c.args.text.now s x is p q within h once))

pub returns-clause-depths : goal.returns-clause-depths
returns-clause-depths c s x is i j p q a f g h =
    first c.args.text.now s x is i j p q a f g (deeper_first (inherits x) (length x.protocols) p q a h)

pub returns-clause-protocols : goal.returns-clause-protocols
returns-clause-protocols c s x is i j p q a f g e h =
    first c.args.text.now s x is i j p q a f g (symbol_lesser_protocol (inherits x) (length x.protocols) p q a e h)

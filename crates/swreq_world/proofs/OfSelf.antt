-- Requirements of protocols are over `Self` alone.
use Rattle.std.proofs.Common.{ℕ, zero, suc, List, [], ◌∷◌, Option, Some, None, map, slice_get, sym, subst, arith}
use Rattle.std.specs.List.{All}
use Rattle.swreq_lexicon.specs.swreq_decl.declared.skeleton.ProtocolDecl.{ProtocolDecl}
use Rattle.swreq_lexicon.specs.swreq_decl.declared.skeleton.Skeleton.{Skeleton}
use Rattle.swreq_lexicon.specs.swreq_names.Spaces.{protocol_of}
use Rattle.swreq_lowering.specs.Heads.{IsOverSelf}
use Rattle.swreq_lowering.specs.Requirements.{PlacedRequirement}
use Rattle.swreq_lowering.specs.Words.{WordsView, declared}
use Rattle.swreq_lowering.proofs.Over.{protocol_over, all_none}
use Rattle.swreq_world.specs.Text.{of_protocol, of_place, requirements_named}
use Rattle.swreq_world.specs.WorldOf.{IsWorldOf, words_of}
use Rattle.swreq_world.specs.Worlds.{TextWorld}

abbrev Over : PlacedRequirement → Type 0
Over r = IsOverSelf r.requirement

protocol_is : (w : WordsView) (p : Option ProtocolDecl) → All Over (of_protocol w p)
protocol_is w None = all_none Over
protocol_is w (Some p) = protocol_over w p

place_is : (w : WordsView) (i : Option ℕ) → All Over (of_place w i)
place_is w None = all_none Over
place_is w (Some i) = protocol_is w (slice_get w.skeleton.protocols i)

all_named : (w : WordsView) (names : List (List ℕ)) → All (All Over) (map (requirements_named w) names)
all_named w [] k d l = absurd (omega arith)
all_named w (n ∷ ns) zero d l = place_is w (protocol_of (declared w) n)
all_named w (n ∷ ns) (suc k) d l = all_named w ns k d (omega arith)

pub over_self : (text : List ℕ) (s : Skeleton) (w : TextWorld) → IsWorldOf text s w → All (All Over) w.requirements
over_self text s w is = subst (All (All Over)) (sym is.requirements) (all_named (words_of text s w) w.lexicon.protocols)

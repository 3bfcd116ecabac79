use Rattle.swreq_correspondence.proofs.Orders.{type_order, word_order}
use Rattle.swreq_correspondence.proofs.OneType.{one_type}
use Rattle.swreq_correspondence.proofs.laws.types_go_by_words.Goals as goal

pub returns-clause-order : goal.returns-clause-order
returns-clause-order c m f gs rs fit ranges n ranked t w u v h k l l' =
    (word_order m f gs rs fit ranges n ranked t w u v h k l l', type_order m f gs rs fit ranges n ranked t w u v h k l l')

pub returns-clause-one : goal.returns-clause-one
returns-clause-one c m f s t w u = one_type m f s t w u

use Rattle.swreq_correspondence.proofs.Orders.{some_type, type_is_reduced}
use Rattle.swreq_correspondence.proofs.laws.types_are_reduced.Goals as goal

pub returns-clause-some : goal.returns-clause-some
returns-clause-some c m f gs rs fit ranges n ranked firsts t u v k l = some_type m f gs rs fit ranges n ranked firsts t u v k l

pub returns-clause-reduced : goal.returns-clause-reduced
returns-clause-reduced c m f gs rs fit ranges n ranked t r u v k l h = type_is_reduced m f gs rs fit ranges n ranked t r u v k l h

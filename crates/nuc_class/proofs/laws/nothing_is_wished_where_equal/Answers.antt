use Rattle.nuc_class.proofs.Rows.{nothing_where_equal}
use Rattle.nuc_class.proofs.laws.nothing_is_wished_where_equal.Goals as goal

pub returns : goal.returns
returns c = nothing_where_equal

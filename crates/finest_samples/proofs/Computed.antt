-- Each small program has its finest cut: by computation.
use mathlib.Core.Path.{refl}
use Rattle.rules.specs.Words.{tabulate_from, first_from, some_below, bit}
use Rattle.graph.specs.Sets.{those, meets, lowest}
use Rattle.graph.specs.Near.{grown, near, joined, distance, way_from, path}
use Rattle.chop.specs.Judgement.{siblings_of, conflicts_of, links_of, others, closing, turning, circle_at, verdict_at, verdict_by, judgement}
use Rattle.finest.specs.Operations.{may_undo, one_block, conflicting}
use Rattle.finest.specs.Finest.{linked_for, links_for, all, piece_at, finest_cut}
use Rattle.finest.specs.Choppings.{together, leads, passing, leaders, touched, touches, piece_by, pieces_under}
use Rattle.finest.specs.Rows.{operations_in, some_unknown, some_malformed, rows_cut}
use Rattle.finest_samples.specs.Rows.{apart, row_samples, AllRowsAsSaid, none as none_rows, also as also_rows}
use Rattle.finest_samples.specs.Programs.{samples, AllAsSaid, none, also}

pub samples_as_said : AllAsSaid samples
unfolding samples tabulate_from first_from some_below bit those meets lowest grown near joined distance way_from path siblings_of conflicts_of links_of others closing turning circle_at verdict_at verdict_by judgement may_undo one_block conflicting linked_for links_for all piece_at finest_cut together leads passing leaders touched touches piece_by pieces_under
samples_as_said = also refl refl (also refl refl (also refl refl (also refl refl (also refl refl (also refl refl (also refl refl (also refl refl (also refl refl (also refl refl (also refl refl (also refl refl (also refl refl (also refl refl (also refl refl none))))))))))))))

pub row_samples_as_said : AllRowsAsSaid row_samples
unfolding row_samples apart operations_in some_unknown some_malformed rows_cut tabulate_from first_from some_below bit those meets lowest grown near joined may_undo one_block conflicting linked_for links_for all piece_at finest_cut
row_samples_as_said = also_rows refl (also_rows refl (also_rows refl (also_rows refl (also_rows refl (also_rows refl (also_rows refl (also_rows refl (also_rows refl (also_rows refl (also_rows refl (also_rows refl (also_rows refl (also_rows refl (also_rows refl none_rows))))))))))))))

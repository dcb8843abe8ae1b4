-- Each small chopping has its verdict: by computation.
use mathlib.Core.Path.{refl}
use Rattle.rules.specs.Words.{tabulate_from, first_from, some_below, bit}
use Rattle.graph.specs.Sets.{those, meets, lowest}
use Rattle.graph.specs.Near.{grown, near, joined, distance, way_from, path}
use Rattle.chop.specs.Judgement.{siblings_of, conflicts_of, links_of, others, closing, turning, circle_at, verdict_at, verdict_by, judgement}
use Rattle.chop_rows.specs.RowPieces.{place_in, noted_at, with_row, noted_by, row_pieces, some_unknown, some_malformed, rows_judgement}
use Rattle.chop_samples.specs.Pieces.{set_of, piece, ring, idle, samples, AllAsSaid, none, also}
use Rattle.chop_samples.specs.Rows.{apart, row_samples, AllRowsAsSaid, none as none_rows, also as also_rows}

pub samples_as_said : AllAsSaid samples
unfolding samples set_of piece ring idle tabulate_from first_from bit those meets lowest grown near joined distance way_from path siblings_of conflicts_of links_of others closing turning circle_at verdict_at verdict_by judgement
samples_as_said =
    also refl (also refl (also refl (also refl (also refl (also refl (also refl (also refl (also refl (also refl (also refl (also refl (also refl (also refl (also refl (also refl (also refl (also refl (also refl (also refl (also refl (also refl none)))))))))))))))))))))

pub row_samples_as_said : AllRowsAsSaid row_samples
unfolding row_samples apart place_in noted_at with_row noted_by row_pieces some_unknown some_malformed rows_judgement tabulate_from first_from some_below bit those meets lowest grown near joined distance way_from path siblings_of conflicts_of links_of others closing turning circle_at verdict_at verdict_by judgement
row_samples_as_said =
    also_rows refl (also_rows refl (also_rows refl (also_rows refl (also_rows refl (also_rows refl (also_rows refl (also_rows refl (also_rows refl (also_rows refl (also_rows refl (also_rows refl (also_rows refl (also_rows refl (also_rows refl (also_rows refl (also_rows refl (also_rows refl (also_rows refl (also_rows refl (also_rows refl (also_rows refl (also_rows refl none_rows))))))))))))))))))))))

-- Every trial of the table holds, by computation.
use mathlib.Core.List.{flatten, flat_map}
use lib.Dec.{T}
use Rattle.octets.specs.Boxes.{boxes}
use Rattle.heif.specs.Mdat.{tiff_header_offset}
use Rattle.heif.specs.File.{file}
use Rattle.heif.specs.Refusal.{refusal_in}
use Rattle.heif.specs.Answer.{write_answer}
use Rattle.heif_trials.specs.Trials.{all_hold}
use Rattle.heif_trials.specs.Table.{table}

pub trials : T (all_hold table)
unfolding boxes flatten flat_map tiff_header_offset file refusal_in write_answer
trials = tt

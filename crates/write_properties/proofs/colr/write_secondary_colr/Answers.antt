-- A profile beside code points, or nothing.
use mathlib.Core.Path.{sym, ◌∙◌}
use mathlib.Core.List.{List}
use Prim.Native.Nat.{ℕ}
use Rattle.std.proofs.Common.{Option, None, Some, option_copied, Bor}
use Rattle.std.specs.Option.{option_and}
use Rattle.octets.specs.Boxes.{optional}
use Rattle.octets.specs.Stores.{Boxed}
use Rattle.octets.specs.declared.Output.{Output}
use Rattle.octets.proofs.Stores.{no_boxes}
use Rattle.panel.specs.declared.color.Cicp.{Cicp}
use Rattle.heif.specs.Colr.{profile, second_colr, profile_size, second_colr_size}
use Rattle.write_properties.proofs.colr.write_secondary_colr.Goals as goal

-- the second colr is a profile that stands beside code points
beside : {l o : Output} (c : Option Cicp) (i : Option (Bor (List ℕ))) → let both = option_copied (option_and c i) in
    Boxed l (profile_size both) (optional "colr" (profile both)) o → Boxed l (second_colr_size c (option_copied i)) (optional "colr" (second_colr c (option_copied i))) o
beside (Some c) i b = b
beside None i b = b

pub returns-in-Some : goal.returns-in-Some
returns-in-Some c =
    let color = c.args.color.now in
    beside color.cicp color.icc (rw (sym c.and.ensures ∙ c.in-Some.is) c.write_colr_icc.ensures)

pub returns-in_default : goal.returns-in_default
returns-in_default c =
    let color = c.args.color.now in
    beside color.cicp color.icc (rw (sym c.and.ensures ∙ c.in_default.is) no_boxes)

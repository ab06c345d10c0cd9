-- The head of a box, the version, and the lower three bytes of the flags.
use mathlib.Core.Path.{◌≡◌, refl, ap, ◌∙◌}
use Prim.Native.Nat.{◌/◌}
use native.Mathlib.Omega.{arith}
use lib.ListN.{drop}
use Rattle.octets.specs.Numbers.{be}
use Rattle.octets.proofs.Numbers.{lower}
use Rattle.octets.proofs.Stores.{◌▹◌, told}
use Rattle.octets.proofs.Output.write_fullbox.Goals as goal

pub returns : goal.returns
returns c =
    let low : c.args.flags / 1 ≡ c.args.flags = omega arith in
    let whole : c.to_be_bytes.result ≡ be 4 c.args.flags = rw (c.to_be_bytes.ensures, low) refl in
    let flags : drop 1 c.to_be_bytes.result ≡ be 3 c.args.flags = ap (drop 1) whole ∙ lower 1 3 c.args.flags in
    told (c.write_box.ensures ▹ c.w8.ensures ▹ c.put.ensures) (rw flags refl) (omega arith)

-- A file in the wide form is as long as in the ordinary form, and what widening adds.
use mathlib.Core.Path.{◌≡◌}
use Prim.Native.Nat.{◌+◌}
use native.Mathlib.Omega.{arith}
use lib.ListN.{length}
use Rattle.panel.specs.Panel.{Panel}
use Rattle.panel.specs.Form.{ordinary, wide}
use Rattle.heif.specs.Items.{Even}
use Rattle.heif.specs.File.{file, size}
use Rattle.heif.specs.Refusal.{refusal}
use Rattle.heif.proofs.Refusal.{accepted, even-accepted}
use Rattle.heif.proofs.File.{length-file}
use Rattle.heif_length.specs.Widened.{widened}

wider : (p : Panel) → size wide p ≡ size ordinary p + widened p
wider p = grind arith

pub wide_length : (p : Panel) → Even p → length (file wide p) ≡ length (file ordinary p) + widened p
wide_length p h = omega (arith, length-file wide p h, length-file ordinary p h, wider p)

pub accepted-wide_length : (p : Panel) → refusal wide p ≡ 0 → length (file wide p) ≡ length (file ordinary p) + widened p
accepted-wide_length p r = wide_length p (even-accepted wide p (accepted wide p r))

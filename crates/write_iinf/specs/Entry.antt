-- The box of an entry.
use Rattle.std.specs.Prelude.{cond, List, ℕ, ◌+◌}
use Rattle.octets.specs.Numbers.{◌‖◌, be}
use Rattle.octets.specs.Boxes.{Box, full}
use Rattle.panel.specs.Form.{Form}
use Rattle.write_iinf.specs.declared.infe.Entry.{Entry}

abbrev pub infe_of : Form → Entry → Box
infe_of f e =
    full "infe" (2 + f.step) (cond e.hidden 1 0) (be f.id e.id.0 ‖ be 2 0 ‖ e.kind.now ‖ be 1 0 ‖ e.content_type.now)

-- that of an item of this type which is not hidden and has no content type
abbrev pub shown : Form → List ℕ → ℕ → Box
shown f kind id = full "infe" (2 + f.step) 0 (be f.id id ‖ be 2 0 ‖ kind ‖ be 1 0)

-- The length of a file in the wide form, by what is wider in it than in the ordinary form: each id of an item, and two counts.
use Rattle.std.specs.Prelude.{cond, ℕ, ◌+◌, ◌*◌}
use Rattle.panel.specs.Panel.{Panel}
use Rattle.panel.specs.declared.Shape.{Shape}
use Rattle.heif.specs.Items.{shape, last_id}
use Rattle.heif.specs.Ipma.{associated_items}

-- how many ids stand in iref, from which and to which references lead: of each grid and its tiles, of the alpha grid again, of the Exif, of
-- the gain image and its XMP, of the tone map
abbrev pub reference_ids : Shape → ℕ
reference_ids s = 2 * (1 + s.tiles) + 2 + cond s.exif 2 0 + cond s.gain 4 0 + cond s.tone 3 0

-- how many ids take as many bytes as the form says: pitm's, one for each entry of iloc, of iinf and of ipma, and those of iref. A group's
-- are not among them: they have 32 bits in each form
abbrev pub ids : Shape → ℕ
ids s = 1 + last_id s + last_id s + reference_ids s + associated_items s

-- two bytes for each id, and for each of the counts of iloc and iinf
abbrev pub widened : Panel → ℕ
widened p = 2 * (ids (shape p) + 2)

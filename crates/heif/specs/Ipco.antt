-- 23008-12, 9.3.1: item property container box, with the properties in their order.
use Rattle.std.specs.Prelude.{cond, List, [], ◌∷◌, ℕ, max, ◌+◌, Option, None, Some, is_some}
use Rattle.octets.specs.Numbers.{◌‖◌}
use Rattle.octets.specs.Boxes.{Box, box, optional, boxes}
use Rattle.panel.specs.Types.{bits, irot_steps, imir_axis}
use Rattle.panel.specs.Panel.{Colour, Gain, Panel}
use Rattle.panel.specs.declared.GridDims.{GridDims}
use Rattle.panel.specs.declared.VisibleSize.{VisibleSize}
use Rattle.panel.specs.declared.fmt.BitDepth.{BitDepth}
use Rattle.panel.specs.declared.color.Cicp.{Cicp}
use Rattle.panel.specs.declared.metadata.ContentLightLevel.{ContentLightLevel}
use Rattle.panel.specs.declared.metadata.Orientation.{Orientation}
use Rattle.heif.specs.Hvcc.{hvcC, hvcC_size}
use Rattle.heif.specs.Irot.{irot_payload, irot_size}
use Rattle.heif.specs.Imir.{imir_payload, imir_size}
use Rattle.heif.specs.Colr.{nclx_payload, first_colr, second_colr, alternates}
use Rattle.heif.specs.Colr.{nclx_size, first_colr_size, second_colr_size, alternates_count, alternates_size}
use Rattle.heif.specs.Ispe.{ispe, tone_ispe, ispe_size}
use Rattle.heif.specs.Pixi.{pixi, pixi_size}
use Rattle.heif.specs.Auxc.{auxC, auxC_size}
use Rattle.heif.specs.Clli.{clli_payload, clli_size}
use Rattle.heif.specs.Clap.{clap_payload, clap_size}

-- ---- the properties in their order: a role, and the boxes that the panel has in it, which are one, or none, or two alternate colours

pub data Role : Type 0 where
  hvcC_colour ispe_tile ispe_whole colr_first pixi_colour hvcC_alpha pixi_alpha auxC_alpha colr_second irot imir clli clap : Role
  hvcC_gain ispe_gain pixi_gain auxC_gain colr_gain ispe_tone pixi_tone colr_tone : Role
  deriving Discrete as Role-discrete

-- the colour picture's
abbrev pub colour_slots : GridDims → BitDepth → List ℕ → Colour → List (Role × List Box)
colour_slots d depth hvcc c =
    (hvcC_colour, hvcC hvcc ∷ [])
    ∷ (ispe_tile, ispe d.tile_w d.tile_h ∷ [])
    ∷ (ispe_whole, ispe d.full_w d.full_h ∷ [])
    ∷ (colr_first, box "colr" (first_colr c.cicp c.icc) ∷ [])
    ∷ (pixi_colour, pixi 3 (bits depth) ∷ [])
    ∷ []

-- the alpha picture's
abbrev pub alpha_slots : BitDepth → List ℕ → List (Role × List Box)
alpha_slots depth hvcc = (hvcC_alpha, hvcC hvcc ∷ []) ∷ (pixi_alpha, pixi 1 (bits depth) ∷ []) ∷ (auxC_alpha, auxC "urn:mpeg:hevc:2015:auxid:1" ∷ []) ∷ []

-- those that may be absent
abbrev pub option_slots : GridDims → Option VisibleSize → Colour → Orientation → Option ContentLightLevel → List (Role × List Box)
option_slots d visible c o light =
    (colr_second, optional "colr" (second_colr c.cicp c.icc))
    ∷ (irot, optional "irot" (irot_payload (irot_steps o)))
    ∷ (imir, optional "imir" (imir_payload (imir_axis o)))
    ∷ (clli, optional "clli" (clli_payload light))
    ∷ (clap, optional "clap" (clap_payload d visible))
    ∷ []

-- the gain image's
abbrev pub image_slots : List ℕ → ℕ → ℕ → BitDepth → Cicp → List (Role × List Box)
image_slots hvcc w h depth cicp =
    (hvcC_gain, hvcC hvcc ∷ [])
    ∷ (ispe_gain, ispe w h ∷ [])
    ∷ (pixi_gain, pixi 1 (bits depth) ∷ [])
    ∷ (auxC_gain, auxC "urn:com:apple:photo:2020:aux:hdrgainmap" ∷ [])
    ∷ (colr_gain, box "colr" (nclx_payload cicp) ∷ [])
    ∷ []

-- the tone map's, where there is one, with its size and its depth
abbrev pub tone_slots : Box → Box → Option (List ℕ) → Option Colour → List (Role × List Box)
tone_slots size depth None alternate = []
tone_slots size depth (Some t) alternate = (ispe_tone, size ∷ []) ∷ (pixi_tone, depth ∷ []) ∷ (colr_tone, alternates alternate) ∷ []

-- those of both, where there is a gain map
abbrev pub gain_slots : Box → Box → Option Gain → List (Role × List Box)
gain_slots size depth None = []
gain_slots size depth (Some g) =
    image_slots g.hvcc g.width g.height g.depth g.cicp ‖ tone_slots size depth g.tone g.alternate

abbrev pub slots : Panel → List (Role × List Box)
slots p =
    colour_slots p.dims p.depth p.tiles.hvcc p.colour
    ‖ alpha_slots p.alpha_depth p.alpha.hvcc
    ‖ option_slots p.dims p.visible p.colour p.metadata.orientation p.metadata.light
    ‖ gain_slots (tone_ispe p.dims p.metadata.orientation) (pixi 3 (max (bits p.depth) 10)) p.gain

-- the boxes of these slots
abbrev pub held : List (Role × List Box) → List Box
held [] = []
held (s ∷ l) = s.1 ‖ held l

abbrev pub properties : Panel → List Box
properties p = held (slots p)

abbrev pub ipco : Panel → Box
ipco p = box "ipco" (boxes (properties p))

-- ---- how many bytes its body has, picture by picture

-- hvcC, ispe, pixi, auxC and colr of the gain image
abbrev pub image_properties_size : List ℕ → ℕ
image_properties_size hvcc = hvcC_size hvcc + ispe_size + pixi_size 1 + auxC_size 39 + nclx_size

-- ispe, pixi and the alternate colours of the tone map, where there is one
abbrev pub tone_properties_size : Option (List ℕ) → Option Colour → ℕ
tone_properties_size tone alternate = cond (is_some tone) (ispe_size + pixi_size 3 + alternates_size alternate) 0

abbrev pub gain_properties_size : Option Gain → ℕ
gain_properties_size None = 0
gain_properties_size (Some g) = image_properties_size g.hvcc + tone_properties_size g.tone g.alternate

-- how many properties the gain map has
abbrev pub gain_property_count : Option Gain → ℕ
gain_property_count None = 0
gain_property_count (Some g) = 5 + cond (is_some g.tone) (2 + alternates_count g.alternate) 0

-- hvcC, two ispe, colr and pixi of the colour picture
abbrev pub colour_properties_size : List ℕ → Colour → ℕ
colour_properties_size hvcc c = hvcC_size hvcc + (ispe_size + (ispe_size + (first_colr_size c.cicp c.icc + pixi_size 3)))

-- hvcC, pixi and auxC of the alpha picture
abbrev pub alpha_properties_size : List ℕ → ℕ
alpha_properties_size hvcc = hvcC_size hvcc + (pixi_size 1 + auxC_size 26)

-- what is present of the second colr, irot, imir, clli and clap
abbrev pub optional_properties_size : Option VisibleSize → Colour → Orientation → Option ContentLightLevel → ℕ
optional_properties_size visible c o light =
    second_colr_size c.cicp c.icc + (irot_size (irot_steps o) + (imir_size (imir_axis o) + (clli_size light + clap_size visible)))

abbrev pub ipco_size : Panel → ℕ
ipco_size p =
    colour_properties_size p.tiles.hvcc p.colour
    + (alpha_properties_size p.alpha.hvcc
    + (optional_properties_size p.visible p.colour p.metadata.orientation p.metadata.light + gain_properties_size p.gain))

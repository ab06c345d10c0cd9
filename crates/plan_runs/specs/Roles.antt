-- The positions of each role, as the code's places have them.
use Rattle.std.specs.Prelude.{List, ℕ}
use Rattle.heif.specs.Ipco
use Rattle.plan_runs.specs.Runs.{places}
use Rattle.plan_runs.specs.declared.Places.{Places}

unfoldable pub its_of : Places → Ipco.Role → List ℕ
its_of y Ipco.hvcC_colour = places y.color.hvcc
its_of y Ipco.ispe_tile = places y.color.ispe_tile
its_of y Ipco.ispe_whole = places y.color.ispe_full
its_of y Ipco.colr_first = places y.color.colr
its_of y Ipco.pixi_colour = places y.color.pixi
its_of y Ipco.hvcC_alpha = places y.alpha.hvcc
its_of y Ipco.pixi_alpha = places y.alpha.pixi
its_of y Ipco.auxC_alpha = places y.alpha.auxc
its_of y Ipco.colr_second = places y.options.colr
its_of y Ipco.irot = places y.options.irot
its_of y Ipco.imir = places y.options.imir
its_of y Ipco.clli = places y.options.clli
its_of y Ipco.clap = places y.options.clap
its_of y Ipco.hvcC_gain = places y.image.hvcc
its_of y Ipco.ispe_gain = places y.image.ispe
its_of y Ipco.pixi_gain = places y.image.pixi
its_of y Ipco.auxC_gain = places y.image.auxc
its_of y Ipco.colr_gain = places y.image.colr
its_of y Ipco.ispe_tone = places y.tone.ispe
its_of y Ipco.pixi_tone = places y.tone.pixi
its_of y Ipco.colr_tone = places y.tone.colr

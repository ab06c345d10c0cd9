-- The lengths of a descriptor and of idat.
use mathlib.Core.Path.{◌≡◌, refl}
use mathlib.Core.Bool.{Bool, true, false, cond}
use native.Mathlib.Omega.{arith}
use lib.ListN.{length, length-append}
use Rattle.panel.specs.declared.GridDims.{GridDims}
use Rattle.heif.specs.Idat.{descriptor_of, large, descriptor, idat, descriptor_size, idat_size}

pub length-descriptor : (d : GridDims) → length (descriptor d) ≡ descriptor_size d
length-descriptor d = either (large d)
  where
    either : (large : Bool) → length (descriptor_of large d) ≡ cond large 12 8
    either true = refl
    either false = refl

pub length-idat : (d : GridDims) → length (idat d).body ≡ idat_size d
length-idat d = omega (arith, length-append (descriptor d) (descriptor d), length-descriptor d)

-- A signed number and its bits: what a proof reads is `to_z w (of_z w x)`, and these laws give x back. Assumes nothing.
use mathlib.Core.Path.{◌≡◌, ap, ◌∙◌}
use Prim.Native.Nat.{◌^◌, ◌<◌}
use lib.IntN.{ℤ}
use lib.Signed.{mag}
use mir.Facts.{to_z-of_z, sfits_widen}
use mir.Syntax.{w32, w64}
use mir.Val.{SFits, to_z, of_z}

pub back64 : {z : ℤ} → mag z < 2 ^ 63 → to_z w64 (of_z w64 z) ≡ z
back64 h = to_z-of_z {w = w64} (record { sfits = h })

pub wide_back : {x : ℤ} → SFits w32 x → to_z w64 (of_z w64 (to_z w32 (of_z w32 x))) ≡ x
wide_back f = ap (λ (y : ℤ). to_z w64 (of_z w64 y)) (to_z-of_z f) ∙ to_z-of_z {w = w64} (sfits_widen tt f)

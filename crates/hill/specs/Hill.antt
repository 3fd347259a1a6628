-- Hill network H of document 01, as the bytes of its two files.
use Rattle.std.specs.Prelude.{List, [], ◌∷◌, ℕ, pos}
use Rattle.battery.specs.declared.Battery.{Battery}
use Rattle.promises.specs.declared.PlanQuestion.{PlanQuestion}

-- potentials −200, −500, 0, 0
abbrev pub nodes : List ℕ
nodes =
    56 ∷ 255 ∷ 255 ∷ 255 ∷
    12 ∷ 254 ∷ 255 ∷ 255 ∷
    0 ∷ 0 ∷ 0 ∷ 0 ∷
    0 ∷ 0 ∷ 0 ∷ 0 ∷ []

-- 0: 0 to 1, 300. 1: 1 to 2, −500. 2: 0 to 2, 100. 3: 2 to 3, 900
abbrev pub roads : List ℕ
roads =
    0 ∷ 0 ∷ 1 ∷ 0 ∷ 44 ∷ 1 ∷ 0 ∷ 0 ∷
    1 ∷ 0 ∷ 2 ∷ 0 ∷ 12 ∷ 254 ∷ 255 ∷ 255 ∷
    0 ∷ 0 ∷ 2 ∷ 0 ∷ 100 ∷ 0 ∷ 0 ∷ 0 ∷
    2 ∷ 0 ∷ 3 ∷ 0 ∷ 132 ∷ 3 ∷ 0 ∷ 0 ∷ []

-- a battery of this size
abbrev pub sized : ℕ → Battery
sized m = record { size = m }

-- battery size, start charge, source, target
abbrev pub asks : ℕ → ℕ → ℕ → ℕ → PlanQuestion
asks m b s t = record { battery = pos m; start = pos b; source = s; target = t }

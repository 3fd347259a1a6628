-- The parameters of each export, as the question of its entry.
use Rattle.std.specs.Prelude.{ℕ, ℤ}
use Rattle.promises.specs.declared.SetOffQuestion.{SetOffQuestion}
use Rattle.promises.specs.declared.DriveQuestion.{DriveQuestion}
use Rattle.promises.specs.declared.PlanQuestion.{PlanQuestion}
use Rattle.promises.specs.declared.ProfileQuestion.{ProfileQuestion}

abbrev pub plan_question : ℤ → ℤ → ℕ → ℕ → PlanQuestion
plan_question m b u v = record { battery = m; start = b; source = u; target = v }

abbrev pub drive_question : ℤ → ℤ → ℕ → DriveQuestion
drive_question m b u = record { battery = m; start = b; source = u }

abbrev pub profile_question : ℤ → ℕ → ProfileQuestion
profile_question m u = record { battery = m; source = u }

abbrev pub set_off_question : ℤ → ℕ → SetOffQuestion
set_off_question m d = record { battery = m; depot = d }

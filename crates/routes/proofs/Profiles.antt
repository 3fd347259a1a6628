-- What a route followed by the profile with its battery tells of the profile alone. Assumes nothing.
use Rattle.std.specs.Prelude.{None, Option, Some, Ok, Err, option_map}
use mathlib.Core.Path.{◌≡◌, refl, sym, ◌∙◌}
use mathlib.Core.List.{List}
use Prim.Native.Nat.{ℕ}
use Rattle.battery.specs.Profile.{profile_of}
use Rattle.battery.specs.declared.Battery.{Battery}
use Rattle.battery.specs.declared.Profile.{Profile}
use Rattle.refusals.specs.declared.Refusal.{Refusal}
use Rattle.refusals.specs.declared.Refusal.TheVariants as refusal
use Rattle.routes.specs.Gauges.{Follows, with_battery, profile_along}
use Rattle.routes.specs.Laws.{mapped}
use Rattle.routes.specs.Places.{stopped, up_to, route_fault, profile_faults}
use Rattle.routes.specs.Steps.{ProfileKeeps}
use Rattle.routes.specs.declared.Profiler.{Profiler}

same_stop : (B : Battery) (q : Refusal) (x : Option Profile) → stopped q (option_map (with_battery B) x) ≡ stopped q x
same_stop B q (Some p) = refl
same_stop B q None = refl

module _ (rs : List ℕ) (source : ℕ) (es : List ℕ) (B : Battery) (p : Profile) where
  same_faults : route_fault rs source es (λ i. stopped (refusal.Impassable i) (profile_along (with_battery B p) (up_to rs es i)))
      ≡ profile_faults rs source es B
  same_faults = λ k. route_fault rs source es (λ i. same_stop B (refusal.Impassable i) (profile_of B (up_to rs es i)) k)

  pub known : {t : Profiler} → Follows profile_along refusal.Impassable rs source es (with_battery B p) (Ok t)
      → ProfileKeeps rs es source B (Ok t.profile)
  known f = (sym same_faults ∙ f.0, (mapped _ f.1).1)

  pub not_known : {q : Refusal} → Follows profile_along refusal.Impassable rs source es (with_battery B p) (Err q)
      → ProfileKeeps rs es source B (Err q)
  not_known f = sym same_faults ∙ f

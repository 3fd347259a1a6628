-- That the two gauges keep the laws. No promise cites this file.
use Rattle.std.specs.Prelude.{Some, None, Option, option_map}
use mathlib.Core.Path.{◌≡◌, refl, ap, sym, ◌∙◌, subst}
use Prim.Native.Nat.{ℕ, ◌+◌}
use native.Mathlib.Omega.{arith}
use Rattle.battery.proofs.Drive.{Went, went, drive_all_snoc}
use Rattle.battery.specs.Drive.{drive, drive_all}
use Rattle.battery.specs.Ready.{Ranged}
use Rattle.battery.specs.declared.Battery.{Battery}
use Rattle.battery.specs.declared.Road.{Road}
use Rattle.battery.specs.declared.Van.{Van}
use Rattle.routes.specs.Gauges.{GaugeLaws, with_battery, profile_passes, profile_along, ProfileBegins, ProfileFits}
use Rattle.routes.specs.Steps.{Bounded, Gathered}
use mathlib.Core.List.{List, [], ◌∷◌, ◌++◌}
use Rattle.numbers.proofs.Diff.{draw_add, gain_add}
use Rattle.numbers.specs.Signed.{draw, gain}
use Rattle.battery.proofs.Compose.{compose_one}
use Rattle.battery.proofs.Join.{none_kept, extended_kept}
use Rattle.battery.proofs.Next.{next_sum}
use Rattle.battery.specs.Profile.{followed_by, one_road, profile_of}
use Rattle.battery.specs.declared.Profile.{Profile}
use Rattle.routes.specs.declared.Profiler.{Profiler}

-- ---- the van of a drive

-- one road more
bounded_on : (i : ℕ) (v w : Van) (r : Road) → Ranged r → Went v r w → Bounded i v → Bounded (i + 1) w
bounded_on i v w r g t b =
    let m = ap (λ (B : Battery). B.size) t.battery_is in
    record {
      battery_le = omega arith;
      charge_le = omega arith;
      drawn_le = omega arith;
      recovered_le = omega arith;
      spilled_le = omega arith;
    }

pub drive_laws : GaugeLaws (Bounded 0) Bounded drive drive_all
unfolding drive_all
drive_laws =
    record {
      starts = λ v b. refl;
      fits = λ v b. b;
      goes_on = λ v w rs r b e. drive_all_snoc v rs r e;
      keeps = λ i v w r g b e. bounded_on i v w r g (went v r e) b;
    }

-- ---- the profile, with its battery

gathers : {B : Battery} {i : ℕ} {p q : Profile} {r : Road} → Ranged r → Gathered B i p → followed_by (Some p) (one_road B r) ≡ Some q
    → Gathered B (i + 1) q
gathers {B} {i} {p} {q} {r} g b e =
    let s = next_sum B p r b.kept.top_le e in
    let d : draw q.sum ≡ _ = ap draw s ∙ draw_add p.sum r.consumption in
    let n : gain q.sum ≡ _ = ap gain s ∙ gain_add p.sum r.consumption in
    record { battery_le = b.battery_le; kept = extended_kept B p r b.kept e; draw_le = omega arith; gain_le = omega arith }

-- what a mapped passage tells of the passage
pub mapped : {B : Battery} (x : Option Profile) {t : Profiler} → option_map (with_battery B) x ≡ Some t → (t.battery ≡ B) × (x ≡ Some t.profile)
mapped (Some p) e = let f : with_battery _ p ≡ _ = cc in (sym (ap (λ (k : Profiler). k.battery) f), ap (λ (k : Profiler). Some k.profile) f)
mapped None e = let z : ◌≡◌ {A = ℕ} 0 1 = cc in absurd (omega arith)

begins_known : (s : Profiler) → ProfileBegins s → profile_along s [] ≡ Some s
unfolding profile_of
begins_known s b = ap (λ (p : Profile). Some (with_battery s.battery p)) (sym b.no_road)

goes_on : (s t : Profiler) (rs : List Road) (r : Road) → profile_along s rs ≡ Some t → profile_along s (rs ++ (r ∷ [])) ≡ profile_passes t r
goes_on s t rs r e =
    let m = mapped (profile_of s.battery rs) e in
    ap (option_map (with_battery s.battery)) (compose_one s.battery rs r)
    ∙ (λ i. option_map (with_battery (sym m.0 i)) (followed_by (m.1 i) (one_road (sym m.0 i) r)))

keeps : (i : ℕ) (t u : Profiler) (r : Road) → Ranged r → ProfileFits i t → profile_passes t r ≡ Some u → ProfileFits (i + 1) u
keeps i t u r g b e =
    let m = mapped (followed_by (Some t.profile) (one_road t.battery r)) e in
    subst (λ (B : Battery). Gathered B (i + 1) u.profile) (sym m.0) (gathers g b m.1)

pub profile_laws : GaugeLaws ProfileBegins ProfileFits profile_passes profile_along
profile_laws =
    record {
      starts = begins_known;
      fits = λ s b. subst (Gathered s.battery 0) (sym b.no_road) (record { battery_le = b.battery_le; kept = none_kept s.battery; draw_le = omega arith; gain_le = omega arith });
      goes_on = λ s t rs r b e. goes_on s t rs r e;
      keeps = keeps;
    }

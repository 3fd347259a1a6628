-- Best route is refused for no route exactly below a junction's number, or always where that is −1. Assumes nothing.
use Rattle.std.specs.Prelude.{Ok}
use mathlib.Core.Path.{◌≡◌, refl, sym, ap, ◌∙◌, subst}
use mathlib.Core.Bool.{true}
use mathlib.Core.List.{List}
use mathlib.Core.Logic.{◌⊎◌, inl, inr}
use Prim.Native.Nat.{ℕ, ◌-◌, ◌≤◌}
use native.Mathlib.Omega.{arith}
use borrow.Author.Tests.{lt-ltb, ltb-true}
use lib.Dec.{leb}
use lib.IntN.{ℤ, pos, negsuc}
use lib.ListN.{length}
use Rattle.numbers.specs.Signed.{draw}
use Rattle.refusals.proofs.Early.{number_pos}
use Rattle.journeys.proofs.Reasons.{enough_joined}
use Rattle.journeys.proofs.SetOff.{one_number}
use Rattle.network.specs.Files.{junctions, is_junction}
use Rattle.journeys.specs.SetOff.{SetOff, least, never}
use Rattle.promises.proofs.NoRoutes.{no_route_exactly, reason_exactly, arrives_enough, above_start, in_range}
use Rattle.promises.specs.Claims.{Exactly, WhichReason}
use Rattle.promises.specs.Order.{battery_of, is_battery, is_start, plan_fault}
use Rattle.promises.specs.Promises.{NoWalk, SetsOff}
use Rattle.promises.specs.declared.PlanNumbers.{PlanNumbers}
use Rattle.promises.specs.declared.PlanQuestion.{PlanQuestion}
use Rattle.promises.specs.ClaimsSetOff.{Short, NoRouteBelow, NoRouteExactlyBelow}
use Rattle.promises.specs.declared.SetOffQuestion.{SetOffQuestion}
use Rattle.promises.proofs.Passed.{set_off_passed}
use Rattle.promises.specs.Passed.{SetOffPassed}

-- ---- no walk exactly where the start is short

module _ (rs : List ℕ) (q : PlanQuestion) (in_range : draw q.start ≤ draw q.battery) where
  no_walk_short : {z : ℤ} → SetOff (battery_of q.battery) rs q.source q.target z → NoWalk rs q
      → Short (pos (draw q.start)) z
  no_walk_short (never n) none = inr refl
  no_walk_short (least b e m) none = inl (lt-ltb _ _ (above_start rs q in_range b e none))

  short_no_walk : {z : ℤ} → SetOff (battery_of q.battery) rs q.source q.target z → Short (pos (draw q.start)) z
      → NoWalk rs q
  short_no_walk (never n) s ks v a = n _ (arrives_enough rs q in_range ks a)
  short_no_walk (least b e m) (inl s) ks v a =
      omega (arith, m _ (arrives_enough rs q in_range ks a), ltb-true (draw q.start) b s)
  short_no_walk (least b e m) (inr s) ks v a = let z : ◌≡◌ {A = ℕ} 0 1 = cc in omega arith

-- ---- the number that each reason tells

module _ (ns rs : List ℕ) (q : PlanQuestion) (list : List ℕ) (b : PlanNumbers) (w : WhichReason ns rs q list b) where
  ten_number : b.number ≡ 10 → SetOff (battery_of q.battery) rs q.source q.target (pos b.place)
  ten_number n = let l = w.ten_means n in least b.place l.would_do l.least

  never_number : (b.number ≡ 16) ⊎ (b.number ≡ 17) → SetOff (battery_of q.battery) rs q.source q.target (negsuc 0)
  never_number (inl n) = never (w.sixteen_means n).never
  never_number (inr n) = never (λ c e. (w.seventeen_means n).none (enough_joined e))

-- ---- the tests

start_is : (m b : ℤ) → is_start m b ≡ true → b ≡ pos (draw b)
start_is m (pos n) e = refl
start_is m (negsuc n) e = let z : ◌≡◌ {A = ℕ} 0 1 = cc in absurd (omega arith)

module _ (ns rs : List ℕ) (p : SetOffQuestion) (list : List ℤ) (q : PlanQuestion) (route : List ℕ) (c : SetOffPassed ns rs p (length list))
    (battery_is : q.battery ≡ p.battery) (target_is : q.target ≡ p.depot) (start_ok : is_start q.battery q.start ≡ true)
    (source_ok : is_junction ns q.source ≡ true) (room_ok : leb (junctions ns - 1) (length route) ≡ true) where
  battery_ok : is_battery q.battery ≡ true
  battery_ok = ap is_battery battery_is ∙ c.battery_ok

  -- best route's tests pass too
  passed : plan_fault ns rs q (length route) ≡ Ok tt
  unfolding plan_fault
  passed =
      let t : is_junction ns q.target ≡ true = ap (is_junction ns) target_is ∙ c.depot_ok in
      simp (c.files.nodes_ok, c.files.roads_ok, battery_ok, start_ok, source_ok, t, room_ok, c.files.records_ok)

  below : {z : ℤ} {b : PlanNumbers} → SetOff (battery_of p.battery) rs q.source p.depot z → Exactly ns rs q route b
      → WhichReason ns rs q route b → NoRouteBelow q.start z b
  below {z} {b} s t w =
      let s' : SetOff (battery_of q.battery) rs q.source q.target z =
      subst (λ (m : ℤ). SetOff (battery_of m) rs q.source q.target z) (sym battery_is)
      (subst (λ (w : ℕ). SetOff (battery_of p.battery) rs q.source w z) (sym target_is) s) in
      let e = start_is q.battery q.start start_ok in
      let r = in_range ns rs q route passed in
      record {
        only = λ n. subst (λ (c : ℤ). Short c z) (sym e) (no_walk_short rs q r s' (t.means n).1);
        given = λ short. t.given passed (short_no_walk rs q r s' (subst (λ (c : ℤ). Short c z) e short));
        ten = λ n. one_number _ rs _ _ _ _ s' (ten_number ns rs q route b w n);
        never = λ n. one_number _ rs _ _ _ _ s' (never_number ns rs q route b w n);
      }

pub no_route_exactly_below : NoRouteExactlyBelow
no_route_exactly_below ns rs p list a xs q route b ys (SetsOff.refused r e) z plans eb et s j room =
    let n = number_pos r in absurd (omega arith)
no_route_exactly_below ns rs p list a xs q route b ys (SetsOff.known e n) z plans eb et s j room =
    below ns rs p list q route (set_off_passed ns rs p (length list) e) eb et s j room (n.numbers q.source (ltb-true _ _ j))
    (no_route_exactly ns rs q route b ys plans) (reason_exactly ns rs q route b ys plans)

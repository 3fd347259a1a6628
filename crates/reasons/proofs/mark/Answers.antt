-- The road in hand is one of the file, it is left at a junction, and a junction not yet marked has a place in the list.
use Rattle.std.proofs.Common.{◌≡◌, ℕ, suc, ◌<◌, List, arith, ap}
use Rattle.reading.specs.Reading.{net}
use Rattle.reading.specs.declared.Reading.{Reading}
use Rattle.reading.proofs.Net.{count_is}
use Rattle.search.specs.Sizes.{most_places}
use Rattle.search.specs.declared.Lists.{Lists}
use Rattle.reasons.specs.Marks.{MarkAsks}
use Rattle.reasons.proofs.Marking.{is_road, next_is, mark_passed, room, mark_new, MarkLoop}
use Rattle.reasons.proofs.mark.Goals as goal
use Rattle.reasons.proofs.mark.Goals.{then-lists-v-eq0, else-lists-v-eq0}

module _ (rd : Reading) (rs : List ℕ) {u last : ℕ} {l : Lists} (a : MarkAsks (net rd rs).roads u last l) {k last₁ : ℕ} {l₁ : Lists}
    (i : MarkLoop (net rd rs).roads u (suc k) last l last₁ l₁) where
  placed : {v : ℕ} → v ≡ (net rd rs).roads.head k → v < most_places
  placed e = omega (arith, a.tracked.within k (is_road a i))

pub left-v-requires : goal.left-v-requires
left-v-requires c =
    omega (arith, is_road c.requires (rw c.in-Some.is at c.loop-road.invariant), count_is c.args.map.reading c.args.map.roads.now)

pub bounds-lists-v : goal.bounds-lists-v
bounds-lists-v c =
    placed c.args.map.reading _ c.requires (rw c.in-Some.is at c.loop-road.invariant) c.left-v.ensures

pub bounds-lists-v-then-lists-v-eq0 : goal.bounds-lists-v-then-lists-v-eq0
bounds-lists-v-then-lists-v-eq0 c =
    placed c.args.map.reading _ c.requires (rw c.in-Some.is at c.loop-road.invariant) c.left-v.ensures

pub bounds-lists-end : goal.bounds-lists-end
bounds-lists-end c =
    let i = rw c.in-Some.is at c.loop-road.invariant in
    omega (arith, room c.requires i _ c.left-v.ensures c.if-lists-v-eq0.true, i.long_ways)

pub loop-road-preserved : goal.loop-road-preserved
loop-road-preserved c =
    let i = rw c.in-Some.is at c.loop-road.invariant in
    let e = c.left-v.ensures in
    elim c.if-lists-v-eq0.branch [
      | then-lists-v-eq0 w ↦
          rw (next_is c.requires i (ap (λ (l : Lists). l.chains) w.lists-is) c.previous-road.ensures, w.lists-is, w.end-is)
          (mark_new c.requires i _ e w.if-lists-v-eq0.true)
      | else-lists-v-eq0 w ↦
          rw (next_is c.requires i (ap (λ (l : Lists). l.chains) w.lists-is) c.previous-road.ensures, w.lists-is, w.end-is)
          (mark_passed c.requires i _ e w.if-lists-v-eq0.false)
    ]

-- The queue after a change of one key. Assumes nothing.
use mathlib.Core.Path.{◌≡◌, refl, ap, ◌∙◌}
use mathlib.Core.List.{List}
use mathlib.Core.Logic.{◌≢◌}
use Prim.Native.Nat.{ℕ, ◌+◌, ◌*◌, ◌/◌, ◌%◌, ◌<◌, max}
use native.Mathlib.Decide.{ℕ_discrete, dec_lt}
use native.Mathlib.Omega.{arith}
use lib.ListN.{length, set, length-set}
use lib.Seq.{get_or-set_same, set-set, set-get_or}
use Rattle.lists.proofs.Stores.{set_put}
use Rattle.lists.specs.Lists.{entry, Put}
use Rattle.frontier.specs.Frontier.{places, keys_from, key_at, Small, Frontier, Raises, Removes, Now}
use Rattle.frontier.specs.Groups.{Run, Regrouped, Lifted}
use Rattle.frontier.proofs.Level.{above₁, above₂, above₃, Levels, Due, run_group, greatest_raise, due_key, due_next, due_raise, due_top}
use Rattle.frontier.proofs.Top.{top_of, top_raise}

-- the greatest of a group, from that of the group without x
pub regrouped : (queue : List ℕ) (a x : ℕ) {m r : ℕ} → a < length queue
    → Run (entry (set queue a 0)) (a / 8 * 8) (a / 8 * 8 + 8) m → r ≡ max m x → Regrouped queue a x (set (set queue a 0) a x) r
regrouped queue a x l g e = record {
  is = set-set queue a 0 x;
  greatest = rw e (greatest_raise x (run_group (a / 8) g) (set_put (set queue a 0) (simp length-set l) (ap (set (set queue a 0) a) larger)));
}
  where
    larger : x ≡ max (entry (set queue a 0) a) x
    larger = omega (arith, get_or-set_same queue a 0 0 l)

-- ---- a change of one key

-- the key and the three entries above it are put, one after the other
record Puts (queue one two three queue' : List ℕ) (v key x y z : ℕ) : Type 0 where
  long : length queue' ≡ length queue
  first : Put (entry queue) (entry one) (keys_from + v) key
  second : Put (entry one) (entry two) (above₁ v) x
  third : Put (entry two) (entry three) (above₂ v) y
  fourth : Put (entry three) (entry queue') (above₃ v) z

puts_of : (queue one two three : List ℕ) {queue' : List ℕ} {v key x y z : ℕ} → keys_from + v < length queue
    → one ≡ set queue (keys_from + v) key → two ≡ set one (above₁ v) x → three ≡ set two (above₂ v) y → queue' ≡ set three (above₃ v) z
    → Puts queue one two three queue' v key x y z
puts_of queue one two three {queue'} {v} {key} {x} {y} {z} w e₁ e₂ e₃ e₄ =
    let l₁ : length one ≡ length queue = ap length e₁ ∙ length-set queue (keys_from + v) key in
    let l₂ : length two ≡ length queue = ap length e₂ ∙ length-set one (above₁ v) x ∙ l₁ in
    let l₃ : length three ≡ length queue = ap length e₃ ∙ length-set two (above₂ v) y ∙ l₂ in
    record {
      long = ap length e₄ ∙ length-set three (above₃ v) z ∙ l₃;
      first = set_put queue w e₁;
      second = set_put one (omega arith) e₂;
      third = set_put two (omega arith) e₃;
      fourth = set_put three (omega arith) e₄;
    }

module _ {queue one two three queue' : List ℕ} {v key x y z : ℕ} where
  -- but for the entries above v, all stand as they did once the key was put
  puts_rest : Puts queue one two three queue' v key x y z → (i : ℕ) → i ≢ above₁ v → i ≢ above₂ v → i ≢ above₃ v
      → entry queue' i ≡ entry one i
  puts_rest p i n₁ n₂ n₃ = p.fourth.rest i n₃ ∙ p.third.rest i n₂ ∙ p.second.rest i n₁

  -- the other keys stay, where v is a place
  puts_key : Puts queue one two three queue' v key x y z → v < places → Put (key_at queue) (key_at queue') v key
  puts_key p b = record {
    here = below v ∙ p.first.here;
    rest = λ u ne. below u ∙ p.first.rest (keys_from + u) (λ s. ne (omega arith));
  }
    where
      below : (u : ℕ) → key_at queue' u ≡ key_at one u
      below u = puts_rest p (keys_from + u) (λ s. omega arith) (λ s. omega arith) (λ s. omega arith)

  puts_frontier : Puts queue one two three queue' v key x y z → Frontier queue → v < places
      → (0 < key → key % places ≡ v) → Small queue' → Levels (entry queue') → Frontier queue'
  puts_frontier p f b k s l = record {
    long = omega (arith, p.long, f.long);
    whole = ap (λ (n : ℕ). n % 8) p.long ∙ f.whole;
    small = s;
    tells = λ u h. tells u h (ℕ_discrete u v);
    unused = λ i t.
        puts_rest p i (λ s. omega arith) (λ s. omega arith) (λ s. omega arith) ∙ p.first.rest i (λ s. omega arith) ∙ f.unused i t;
    level = l;
  }
    where
      put : Put (key_at queue) (key_at queue') v key
      put = puts_key p b

      tells : (u : ℕ) → 0 < key_at queue' u → Dec (u ≡ v) → key_at queue' u % places ≡ u
      tells u h (yes e) = let s : key_at queue' u ≡ key = ap (key_at queue') e ∙ put.here in omega (arith, k (omega arith))
      tells u h (no e) = let s : key_at queue' u ≡ key_at queue u = put.rest u e in omega (arith, f.tells u (omega arith))

-- ---- the two changes

pub removed : {queue one two three queue' : List ℕ} {v x y z r : ℕ} → Removes queue v → Regrouped queue (keys_from + v) 0 one x
    → Regrouped one (above₁ v) x two y → Regrouped two (above₂ v) y three z → Regrouped three (above₃ v) z queue' r
    → Small queue' → Now queue v 0 queue' r
removed {queue} {one} {two} {three} {queue'} {v} {x} {y} {z} {r} m g₁ g₂ g₃ g₄ s =
    let f : Frontier queue = m.frontier in
    let b : v < places = m.placed in
    let p : Puts queue one two three queue' v 0 x y z = puts_of queue one two three m.within g₁.is g₂.is g₃.is g₄.is in
    let d₁ : Due (entry one) (above₁ v) x = due_next (due_key f.level (omega arith)) p.first g₁.greatest (omega arith) in
    let d₂ : Due (entry two) (above₂ v) y = due_next d₁ p.second g₂.greatest (omega arith) in
    let d₃ : Due (entry three) (above₃ v) z = due_next d₂ p.third g₃.greatest (omega arith) in
    let f' : Frontier queue' = puts_frontier p f b (λ h. absurd (omega arith)) s (due_top d₃ p.fourth (omega arith)) in
    let h : above₃ v / 8 ≡ 0 = omega arith in
    record { put = puts_key p b; long = p.long; frontier = f'; best = top_of f' (rw h at g₄.greatest) }

-- the larger of entry i and key is due at i
abbrev Rising : List ℕ → ℕ → ℕ → Type 0
Rising queue i key = Due (entry queue) i (max (entry queue i) key)

-- no entry rises to 0
lifted_none : (queue : List ℕ) {queue' : List ℕ} (i key : ℕ) → key ≡ 0 → Lifted queue i key queue' → queue' ≡ queue
lifted_none queue i key z e = let s : max (entry queue i) key ≡ entry queue i = omega arith in e ∙ ap (set queue i) s ∙ set-get_or queue i 0

pub raised : {queue one two three queue' : List ℕ} {top v key r : ℕ} → Raises queue top v key → Lifted queue (keys_from + v) key one
    → Lifted one (above₁ v) key two → Lifted two (above₂ v) key three → Lifted three (above₃ v) key queue'
    → Small queue' → r ≡ max top key → Now queue v (max (key_at queue v) key) queue' r
raised {queue} {one} {two} {three} {queue'} {top} {v} {key} {r} m e₁ e₂ e₃ e₄ s e = go (ℕ_discrete key 0)
  where
    f : Frontier queue
    f = m.frontier

    same : key ≡ 0 → queue' ≡ queue
    same n = lifted_none three _ key n e₄ ∙ lifted_none two _ key n e₃ ∙ lifted_none one _ key n e₂ ∙ lifted_none queue _ key n e₁

    go : Dec (key ≡ 0) → Now queue v (max (key_at queue v) key) queue' r
    go (yes n) =
        let put : Put (key_at queue) (key_at queue) v (max (key_at queue v) key) = record { here = omega arith; rest = λ i _. refl } in
        rw (same n, e) (record { put = put; long = refl; frontier = f; best = top_raise key m.best put m.tells })
    go (no n) =
        let b : v < places = omega (arith, m.tells (omega arith)) in
        let p = puts_of queue one two three m.within e₁ e₂ e₃ e₄ in
        let d₁ : Rising one (above₁ v) key = due_raise key (due_key f.level (omega arith)) p.first (omega arith) (omega arith) (omega arith) in
        let d₂ : Rising two (above₂ v) key = due_raise key d₁ p.second (omega arith) (omega arith) (omega arith) in
        let d₃ : Rising three (above₃ v) key = due_raise key d₂ p.third (omega arith) (omega arith) (omega arith) in
        let put : Put (key_at queue) (key_at queue') v (max (key_at queue v) key) = puts_key p b in
        record {
          put = put;
          long = p.long;
          frontier = puts_frontier p f b tells s (due_top d₃ p.fourth (omega arith));
          best = rw e (top_raise key m.best put m.tells);
        }
      where
        tells : 0 < max (key_at queue v) key → max (key_at queue v) key % places ≡ v
        tells _ = larger (dec_lt (key_at queue v) key)
          where
            larger : Dec (key_at queue v < key) → max (key_at queue v) key % places ≡ v
            larger (yes l) = let s : max (key_at queue v) key ≡ key = omega arith in omega (arith, m.tells (omega arith))
            larger (no l) = let s : max (key_at queue v) key ≡ key_at queue v = omega arith in omega (arith, f.tells v (omega arith))

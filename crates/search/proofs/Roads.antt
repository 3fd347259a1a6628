-- One road relaxed: what its parts ask, and what they come to. Assumes nothing.
use mathlib.Core.Path.{◌≡◌, ap, ◌∙◌, subst}
use mathlib.Core.List.{List}
use Prim.Native.Nat.{ℕ, ◌+◌, ◌%◌, ◌^◌, ◌≤◌, ◌<◌}
use native.Mathlib.Decide.{ℕ_discrete}
use native.Mathlib.Omega.{arith}
use Rattle.lists.specs.Lists.{entry}
use Rattle.frontier.specs.Frontier.{places, key_at}
use Rattle.reading.proofs.Laws.{step_le}
use Rattle.reading.proofs.Net.{heads_in}
use Rattle.reading.specs.Reading.{most_label, psi, net}
use Rattle.reading.specs.declared.Reading.{Reading}
use Rattle.search.specs.Steps.{waiting, packed, KeyAsks, Changes, passed, taken, OfferAsks, Offered, RelaxAsks, Relaxed, RelaxKeeps}
use Rattle.search.specs.declared.Lists.{Lists}
use Rattle.search.proofs.Sizes.{junctions_fit, keys_fit}
use Rattle.search.proofs.Packing.{packed_tells}

module _ {rd : Reading} {ns rs : List ℕ} {k label : ℕ} {l : Lists} (a : RelaxAsks rd ns rs k label l)
    {v : ℕ} (v_is : v ≡ (net rd rs).roads.head k) where
  pub key_asks : KeyAsks ns v
  key_asks = record { within = omega (arith, heads_in rd ns rs a.readable k a.road); few = omega (arith, a.readable.few, junctions_fit) }

  module _ {x key : ℕ} (x_is : x ≡ (net rd rs).step k label) (key_is : key ≡ packed (x + psi rd ns v) v) where
    pub offer_asks : key < 2 ^ 63 → OfferAsks l v (record { road = k; label = x; key = key })
    offer_asks small =
        record {
          queued = a.underway.queued;
          within = omega (arith, key_asks.within, key_asks.few);
          key_small = small;
          tells =
              ap (λ (n : ℕ). n % places) key_is
              ∙ packed_tells (x + psi rd ns v) v (omega (arith, key_asks.within, key_asks.few, keys_fit));
        }

    module _ {l' : Lists} (o : Offered l v (record { road = k; label = x; key = key }) l') where
      bounded : (u : ℕ) → Changes l v x k key l' → Dec (u ≡ v) → entry l'.labels u ≤ most_label rd.battery
      bounded u (passed h same ways_same keys_same) d = omega (arith, same u, a.underway.bounded u)
      bounded u (taken h put ways_put keys_put) (yes e) =
          omega (arith, ap (entry l'.labels) e, put.here, step_le rd rs k label)
      bounded u (taken h put ways_put keys_put) (no e) = omega (arith, put.rest u e, a.underway.bounded u)

      real : (u : ℕ) → Changes l v x k key l' → Dec (u ≡ v) → 0 < key_at l'.queue.entries u → 0 < waiting l'.queue u
      real u (passed h same ways_same keys_same) d p =
          omega (arith, keys_same u, a.underway.real u (omega (arith, keys_same u)))
      real u (taken h put ways_put keys_put) (yes e) p = omega (arith, ap (key_at l'.queue.entries) e, keys_put.here, key_is)
      real u (taken h put ways_put keys_put) (no e) p =
          omega (arith, keys_put.rest u e, a.underway.real u (omega (arith, keys_put.rest u e)))

      -- the offer's numbers are those of the network
      relaxed : Relaxed (net rd rs) (psi rd ns) k label l l'
      relaxed =
          subst
          (λ (y : ℕ). Changes l ((net rd rs).roads.head k) y k (packed (y + psi rd ns ((net rd rs).roads.head k)) ((net rd rs).roads.head k)) l')
          x_is
          (subst (λ (u : ℕ). Changes l u x k (packed (x + psi rd ns u) u) l') v_is
          (subst (λ (y : ℕ). Changes l v x k y l') key_is o.change))

      pub relax_keeps : RelaxKeeps rd ns rs k label l l'
      relax_keeps =
          record {
            chains = o.chains;
            underway =
                record {
                  queued = o.queued;
                  bounded = λ u. bounded u o.change (ℕ_discrete u v);
                  real = λ u. real u o.change (ℕ_discrete u v);
                };
            relaxed = relaxed;
          }

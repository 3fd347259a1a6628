-- The route that the ways give, read backward from its end. No promise cites this file.
use Rattle.std.specs.Prelude.{◌≡◌, List, [], ◌∷◌, ◌≢◌, ℕ, ◌<◌, length}
use Rattle.walks.specs.Walk.{Roads, Walk, Once}
use Rattle.walks.specs.Label.{Net, after}

-- back along the ways W from junction v, with the roads es behind it, to the source s: the whole is ks. Junctions are below n
pub data Trail (R : Roads) (W : ℕ → ℕ) (n s : ℕ) : ℕ → List ℕ → List ℕ → Type 0 where
  here : {ks : List ℕ} → Trail R W n s s ks ks
  back : {v : ℕ} {es ks : List ℕ} → v ≢ s → v < n → W v < R.count → Trail R W n s (R.tail (W v)) (W v ∷ es) ks
      → Trail R W n s v es ks

-- the ways lead from t back to s: a route that visits no junction twice and brings the label x
pub record Route (N : Net) (W : ℕ → ℕ) (n s l t x : ℕ) : Type 0 where
  pub by : List ℕ
  pub trail : Trail N.roads W n s t [] by
  pub few : length by < n
  pub walk : Walk N.roads s by t
  pub once : Once N.roads s by
  pub brings : after N by l ≡ x

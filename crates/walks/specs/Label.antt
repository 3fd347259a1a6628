-- Labels: a label is an amount plus one, and 0 is none. A road's step takes the label at its tail to that at its head. No
-- entry's promise cites this file.
use Rattle.std.specs.Prelude.{◌≡◌, List, [], ◌∷◌, ℕ, ◌+◌, ◌≤◌, ◌<◌}
use Rattle.walks.specs.Walk.{Roads, Walk}

pub record Net : Type 0 where
  pub roads : Roads
  pub step : ℕ → ℕ → ℕ

-- the three laws of a step; psi is a number for each junction
pub record Laws (N : Net) (psi : ℕ → ℕ) : Type 0 where
  pub none : (k : ℕ) → N.step k 0 ≡ 0
  pub mono : (k l l' : ℕ) → l ≤ l' → N.step k l ≤ N.step k l'
  pub no_gain : (k l : ℕ) → k < N.roads.count → 0 < N.step k l
      → N.step k l + psi (N.roads.head k) ≤ l + psi (N.roads.tail k)

-- the label after the roads ks, from the label l
abbrev pub after : Net → List ℕ → ℕ → ℕ
after N [] l = l
after N (k ∷ ks) l = after N ks (N.step k l)

-- some walk from v with the label l comes to w with the label x
pub record Reached (N : Net) (v l w x : ℕ) : Type 0 where
  pub by : List ℕ
  pub walk : Walk N.roads v by w
  pub brings : after N by l ≡ x

-- x is the best label at w of all walks from v with the label l, of any length; 0 where none comes there
pub record Best (N : Net) (v l w x : ℕ) : Type 0 where
  pub reached : 0 < x → Reached N v l w x
  pub most : (ks : List ℕ) → Walk N.roads v ks w → after N ks l ≤ x

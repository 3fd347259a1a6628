-- What is proved of walks and labels. The proofs are in proofs/.
use Rattle.std.specs.Prelude.{◌≡◌, List, ◌++◌, ℕ, ◌+◌, ◌≤◌, ◌<◌}
use Rattle.walks.specs.Walk.{Walk}
use Rattle.walks.specs.Label.{Net, Laws, after, Best}

-- there is one best label
abbrev pub OneBest : Type 0
OneBest = (N : Net) (v l w x y : ℕ) → Best N v l w x → Best N v l w y → x ≡ y

-- labels that every road keeps bound every walk
abbrev pub ClosedBounds : Type 0
ClosedBounds =
    (N : Net) (psi : ℕ → ℕ) (L : ℕ → ℕ) → Laws N psi
    → ((k : ℕ) → k < N.roads.count → N.step k (L (N.roads.tail k)) ≤ L (N.roads.head k))
    → (v l w : ℕ) (ks : List ℕ) → l ≤ L v → Walk N.roads v ks w → after N ks l ≤ L w

-- the labels L where t is the next to settle and S holds of the settled junctions: every road out of a settled one is kept,
-- and no other junction has a greater key (label + psi) than t
pub record Front (N : Net) (psi : ℕ → ℕ) (S : ℕ → Type 0) (L : ℕ → ℕ) (t : ℕ) : Type 0 where
  pub decided : (v : ℕ) → Dec (S v)
  pub relaxed : (k : ℕ) → k < N.roads.count → S (N.roads.tail k) → N.step k (L (N.roads.tail k)) ≤ L (N.roads.head k)
  pub below : (v : ℕ) → ¬ S v → 0 < L v → L v + psi v ≤ L t + psi t
  pub open_t : ¬ S t

-- so t need not wait for the rest: no walk brings it more
abbrev pub EarlyStop : Type 1
EarlyStop =
    (N : Net) (psi : ℕ → ℕ) (S : ℕ → Type 0) (L : ℕ → ℕ) (t : ℕ) → Laws N psi → Front N psi S L t
    → (v l : ℕ) (ks : List ℕ) → l ≤ L v → Walk N.roads v ks t → after N ks l ≤ L t

-- a walk that returns to a junction never brings more than the walk without the loop
abbrev pub LoopNoMore : Type 0
LoopNoMore =
    (N : Net) (psi : ℕ → ℕ) → Laws N psi → (v l : ℕ) (to loop on : List ℕ)
    → Walk N.roads v loop v → after N (to ++ (loop ++ on)) l ≤ after N (to ++ on) l

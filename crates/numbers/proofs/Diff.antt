-- From ℤ to ℕ, where omega works. `Diff z a b` says that z is a − b. Each law takes differences to a difference, and the
-- last ones turn an order or an equation of ℤ into one of ℕ. Assumes nothing.
use mathlib.Core.Path.{◌≡◌, refl, sym, ap}
use mathlib.Core.Bool.{Bool, true, false, cond}
use Prim.Native.Nat.{ℕ, zero, suc, ◌+◌, ◌-◌, ◌<◌, ◌≤◌}
use native.Mathlib.Omega.{arith}
use lib.Dec.{T, leb, ltb, leb→le, le→leb}
use lib.IntN.{ℤ, pos, negsuc, neg_ℤ, sub_ℕ, ◌+ℤ◌, ◌-ℤ◌}
use lib.Signed.{mag, le_z}
use borrow.Author.Tests.{ltb-true, ltb-false, leb-true, le-leb, lt-leb}
use Rattle.numbers.specs.Signed.{draw, gain}

abbrev pub IsDiff : ℤ → ℕ → ℕ → Type 0
IsDiff (pos n) a b = n + b ≡ a
IsDiff (negsuc n) a b = suc n + a ≡ b

pub record Diff (z : ℤ) (a b : ℕ) : Type 0 where
  pub is : IsDiff z a b

pub diff_self : (z : ℤ) → Diff z (draw z) (gain z)
diff_self (pos n) = record { is = omega arith }
diff_self (negsuc n) = record { is = omega arith }

pub diff_pos : (n : ℕ) → Diff (pos n) n 0
diff_pos n = record { is = omega arith }

by_test : (t : Bool) (m n a b : ℕ) → (t ≡ true → m < n) → (t ≡ false → n ≤ m) → m + b ≡ n + a
    → Diff (cond t (negsuc (n - suc m)) (pos (m - n))) a b
by_test true m n a b y k e = let h : m < n = y refl in record { is = omega arith }
by_test false m n a b y k e = let h : n ≤ m = k refl in record { is = omega arith }

diff_sub : (m n a b : ℕ) → m + b ≡ n + a → Diff (sub_ℕ m n) a b
diff_sub m n a b e = by_test (ltb m n) m n a b (ltb-true m n) (ltb-false m n) e

pub diff_add : {x y : ℤ} {a b c d : ℕ} → Diff x a b → Diff y c d → Diff (x +ℤ y) (a + c) (b + d)
diff_add {x = pos m} {y = pos n} h k = record { is = omega arith }
diff_add {x = pos m} {y = negsuc n} {a} {b} {c} {d} h k = diff_sub m (suc n) (a + c) (b + d) (omega arith)
diff_add {x = negsuc m} {y = pos n} {a} {b} {c} {d} h k = diff_sub n (suc m) (a + c) (b + d) (omega arith)
diff_add {x = negsuc m} {y = negsuc n} h k = record { is = omega arith }

diff_neg : {x : ℤ} {a b : ℕ} → Diff x a b → Diff (neg_ℤ x) b a
diff_neg {x = pos zero} h = record { is = omega arith }
diff_neg {x = pos (suc n)} h = record { is = omega arith }
diff_neg {x = negsuc n} h = record { is = omega arith }

pub diff_minus : {x y : ℤ} {a b c d : ℕ} → Diff x a b → Diff y c d → Diff (x -ℤ y) (a + d) (b + c)
diff_minus h k = diff_add h (diff_neg k)

-- ---- back to naturals

pub draw_of : {z : ℤ} {a b : ℕ} → Diff z a b → draw z ≡ a - b
draw_of {z = pos n} d = omega arith
draw_of {z = negsuc n} d = omega arith

pub gain_of : {z : ℤ} {a b : ℕ} → Diff z a b → gain z ≡ b - a
gain_of {z = pos n} d = omega arith
gain_of {z = negsuc n} d = omega arith

pub draw_add : (x y : ℤ) → draw (x +ℤ y) ≡ draw x + draw y - (gain x + gain y)
draw_add x y = draw_of (diff_add (diff_self x) (diff_self y))

pub gain_add : (x y : ℤ) → gain (x +ℤ y) ≡ gain x + gain y - (draw x + draw y)
gain_add x y = gain_of (diff_add (diff_self x) (diff_self y))

-- ---- equations and orders

pub diff_same : {x y : ℤ} {a b c d : ℕ} → Diff x a b → Diff y c d → a + d ≡ c + b → x ≡ y
diff_same {x = pos m} {y = pos n} h k e = ap pos (omega arith)
diff_same {x = pos m} {y = negsuc n} h k e = absurd (omega arith)
diff_same {x = negsuc m} {y = pos n} h k e = absurd (omega arith)
diff_same {x = negsuc m} {y = negsuc n} h k e = ap negsuc (omega arith)

both : (t u : Bool) → (T t → T u) → (T u → T t) → t ≡ u
both true true f g = refl
both true false f g = absurd (f tt)
both false true f g = absurd (g tt)
both false false f g = refl

pub leb_same : (m n p q : ℕ) → (m ≤ n → p ≤ q) → (p ≤ q → m ≤ n) → leb m n ≡ leb p q
leb_same m n p q f g =
    both (leb m n) (leb p q) (λ t. le→leb p q (f (leb→le m n t))) (λ t. le→leb m n (g (leb→le p q t)))

pub diff_le_z : {x y : ℤ} {a b c d : ℕ} → Diff x a b → Diff y c d → le_z x y ≡ leb (a + d) (c + b)
diff_le_z {x = pos m} {y = pos n} {a} {b} {c} {d} h k =
    leb_same m n (a + d) (c + b) (λ p. omega arith) (λ p. omega arith)
diff_le_z {x = pos m} {y = negsuc n} {a} {b} {c} {d} h k = sym (lt-leb (a + d) (c + b) (omega arith))
diff_le_z {x = negsuc m} {y = pos n} {a} {b} {c} {d} h k = sym (le-leb (a + d) (c + b) (omega arith))
diff_le_z {x = negsuc m} {y = negsuc n} {a} {b} {c} {d} h k =
    leb_same n m (a + d) (c + b) (λ p. omega arith) (λ p. omega arith)

pub draw_mono : (x y : ℤ) → le_z x y ≡ true → draw x ≤ draw y
draw_mono (pos m) (pos n) e = leb-true m n e
draw_mono (pos m) (negsuc n) e = let z : ◌≡◌ {A = ℕ} 0 1 = cc in absurd (omega arith)
draw_mono (negsuc m) y e = omega arith

pub gain_mono : (x y : ℤ) → le_z x y ≡ true → gain y ≤ gain x
gain_mono x (pos n) e = omega arith
gain_mono (pos m) (negsuc n) e = let z : ◌≡◌ {A = ℕ} 0 1 = cc in absurd (omega arith)
gain_mono (negsuc m) (negsuc n) e = let h = leb-true n m e in omega arith

-- ---- sizes: `mag` is what a signed width bounds

diff_mag : {x : ℤ} {a b : ℕ} (m : ℕ) → Diff x a b → a ≤ b + m → b ≤ suc (a + m) → mag x ≤ m
diff_mag {x = pos n} m h p q = omega arith
diff_mag {x = negsuc n} m h p q = omega arith

pub draw_lt : (x : ℤ) (h : ℕ) → mag x < h → draw x < h
draw_lt (pos n) h p = p
draw_lt (negsuc n) h p = omega arith

pub gain_le : (x : ℤ) (h : ℕ) → mag x < h → gain x ≤ h
gain_le (pos n) h p = omega arith
gain_le (negsuc n) h p = omega arith

-- from bounds on both parts
pub mag_le : (x : ℤ) (h : ℕ) → draw x ≤ h → gain x ≤ h → mag x ≤ h
mag_le (pos n) h p q = p
mag_le (negsuc n) h p q = omega arith

pub mag_minus : (h : ℕ) (x y : ℤ) → mag x < h → mag y < h → mag (x -ℤ y) ≤ h + h
mag_minus h x y p q =
    let a = draw_lt x h p in
    let b = gain_le x h p in
    let a' = draw_lt y h q in
    let b' = gain_le y h q in
    diff_mag (h + h) (diff_minus (diff_self x) (diff_self y)) (omega arith) (omega arith)

pub mag_plus : (g h : ℕ) (x y : ℤ) → mag x < g → mag y < h → mag (x +ℤ y) ≤ g + h
mag_plus g h x y p q =
    let a = draw_lt x g p in
    let b = gain_le x g p in
    let a' = draw_lt y h q in
    let b' = gain_le y h q in
    diff_mag (g + h) (diff_add (diff_self x) (diff_self y)) (omega arith) (omega arith)

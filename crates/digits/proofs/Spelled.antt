-- Laws of digits: one more at the end, how large their number is, where they end. Assumes nothing.
use mathlib.Core.Path.{◌≡◌, refl, sym, ◌∙◌}
use mathlib.Core.List.{List, [], ◌∷◌, ◌++◌, append-nil}
use Prim.Native.Nat.{ℕ, suc, ◌+◌, ◌-◌, ◌*◌, ◌^◌, ◌≤◌, ◌<◌}
use native.Mathlib.Nat.{pow-succ', pow-le-pow_right}
use native.Mathlib.Omega.{arith}
use lib.Dec.{lit<}
use lib.ListN.{length}
use Rattle.digits.specs.Digits.{AllDigits, none, more, spelled}
use Rattle.digits.specs.Taking.{NoDigit}

pub digits_snoc : {t : List ℕ} {x : ℕ} → AllDigits t → 48 ≤ x → x ≤ 57 → AllDigits (t ++ (x ∷ []))
digits_snoc none lo hi = more lo hi none
digits_snoc (more l h d) lo hi = more l h (digits_snoc d lo hi)

pub spelled_snoc : (n : ℕ) (t : List ℕ) (x : ℕ) → spelled n (t ++ (x ∷ [])) ≡ spelled n t * 10 + (x - 48)
spelled_snoc n [] x = refl
spelled_snoc n (y ∷ t) x = spelled_snoc (n * 10 + (y - 48)) t x

-- k digits spell a number below 10^k
spelled_lt : {t : List ℕ} (n j k : ℕ) → AllDigits t → n < 10 ^ j → j + length t ≤ k → spelled n t < 10 ^ k
spelled_lt n j k none h l = let p = pow-le-pow_right {n = 10} (lit< tt) {i = j} {j = k} (omega arith) in omega arith
spelled_lt n j k (more {x} {t} lo hi d) h l =
    let p : 10 ^ suc j ≡ 10 * 10 ^ j = pow-succ' 10 j in
    spelled_lt (n * 10 + (x - 48)) (suc j) k d (omega arith) (omega arith)

-- what ten digits at most spell
pub ten_digits : {t : List ℕ} → AllDigits t → length t ≤ 10 → spelled 0 t < 10 ^ 10
ten_digits d h = spelled_lt 0 0 10 d (lit< tt) (omega arith)

-- two texts begin alike, t of digits, u of digits that a byte ends which is none: then u goes on from t
pub record Past (t u rest after : List ℕ) : Type 0 where
  pub more_digits : List ℕ
  pub digits : AllDigits more_digits
  pub whole : u ≡ t ++ more_digits
  pub left : rest ≡ more_digits ++ after

pub past : {t u : List ℕ} (rest x : List ℕ) (e : ℕ) → AllDigits t → AllDigits u → NoDigit e → t ++ rest ≡ u ++ (e ∷ x)
    → Past t u rest (e ∷ x)
past {u} rest x e none d f q = record { more_digits = u; digits = d; whole = refl; left = q }
past rest x e (more {x = a} lo hi d) none f q = let p : a ≡ e = cc in absurd (f (omega arith) (omega arith))
past rest x e (more {x = a} {t} lo hi d) (more {x = b} {t = u} lo2 hi2 d2) f q =
    let p : b ≡ a = cc in
    let r : t ++ rest ≡ u ++ (e ∷ x) = cc in
    let s = past rest x e d d2 f r in
    record { more_digits = s.more_digits; digits = s.digits; whole = λ i. p i ∷ s.whole i; left = s.left }

-- both ended: the same digits, the same byte, the same rest
pub record Cut (t u : List ℕ) (e f : ℕ) (x y : List ℕ) : Type 0 where
  pub front : t ≡ u
  pub ends : e ≡ f
  pub rest : x ≡ y

pub cut : {t u : List ℕ} (e f : ℕ) (x y : List ℕ) → AllDigits t → AllDigits u → NoDigit e → NoDigit f → t ++ (e ∷ x) ≡ u ++ (f ∷ y)
    → Cut t u e f x y
cut {t} {u} e f x y d d2 p q h =
    let s = past (e ∷ x) y f d d2 q h in
    go s.more_digits s.digits s.whole s.left
  where
    go : (m : List ℕ) → AllDigits m → u ≡ t ++ m → e ∷ x ≡ m ++ (f ∷ y) → Cut t u e f x y
    go m none w l = record { front = sym (w ∙ append-nil t); ends = cc; rest = cc }
    go m (more {x = a} lo hi k) w l = let z : e ≡ a = cc in absurd (p (omega arith) (omega arith))
